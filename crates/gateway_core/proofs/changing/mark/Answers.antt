use Rattle.std.proofs.Common.{◌-◌}
use Rattle.gateway_core.proofs.ChangingLemmas.{unset_by}
use Rattle.gateway_core.proofs.changing.mark.Goals as goal

pub returns-in-Phone-clause-found : goal.returns-in-Phone-clause-found
returns-in-Phone-clause-found c = λ line off.
    c.mark_changed.ensures.found (line - 1) (unset_by c.mark_changed.new.marks.items _ c.in-Phone.line line c.mark_line.ensures off).1

pub returns-in-Phone-clause-act : goal.returns-in-Phone-clause-act
returns-in-Phone-clause-act c = λ line off.
    rw (c.in-Phone.is) (unset_by c.mark_changed.new.marks.items _ c.in-Phone.line line c.mark_line.ensures off).0
