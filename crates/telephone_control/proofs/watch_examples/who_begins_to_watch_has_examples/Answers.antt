use Rattle.std.proofs.Common.{◌≡◌, true, refl, sym, ap, subst, []}
use Rattle.line_changes.specs.Telling.{Told}
use Rattle.telephone_control.specs.declared.watch.Watch.{Watch}
use Rattle.line_changes.specs.Watching.{is_watched}
use Rattle.plain_machine.specs.declared.setup.Setup.{Setup}
use Rattle.plain_machine.specs.Lists.{plain}
use Rattle.telephone_control.proofs.Computing.{on_examples}
use Rattle.telephone_control.proofs.watch_examples.who_begins_to_watch_has_examples.Goals as goal

pub returns-clause-begun : goal.returns-clause-begun
unfolding on_examples
returns-clause-begun c = λ was is none begins. begins.anew (rw none refl)

pub returns-clause-goes_on : goal.returns-clause-goes_on
unfolding on_examples
returns-clause-goes_on c = λ was is places begins. (begins.kept (rw places refl), ap (λ (w : Watch). w.told) begins.rest)

pub returns-clause-first : goal.returns-clause-first
unfolding on_examples
returns-clause-first c = λ watch first.
    (ap (λ (t : Told). t.number) first.2, ap (λ (t : Told). t.text) first.2, first.1, first.0)

pub returns-clause-unasked : goal.returns-clause-unasked
unfolding on_examples
returns-clause-unasked c = λ gateway was is only. (ap (λ (w : Watch). w.told) only.rest, ap (λ (w : Watch). w.watchers) only.rest)

pub returns-clause-goes_on_unasked : goal.returns-clause-goes_on_unasked
unfolding on_examples
returns-clause-goes_on_unasked c = λ gateway was is setup stands places only. only.kept [] stands
    (subst (λ (s : Setup). is_watched (plain s []).now was.watchers.places ≡ true) (sym setup) (rw places refl))
