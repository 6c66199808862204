use Rattle.std.proofs.Common.{ap, ◌∙◌, ◌+◌, ◌*◌, replicate, None}
use Rattle.timers.specs.Table.{Table, DueState}
use Rattle.timers.specs.Order.{kind_count}
use Rattle.timers.specs.Leaves.{set_in}
use Rattle.timers.proofs.LeavesLemmas.{kept_none, set_in-none}
use Rattle.timers.proofs.due.Due.new.Goals as goal

pub invariant_of-result : goal.invariant_of-result
invariant_of-result c =
    kept_none c.args.lines c.in_ok-winners.winners
    (c.in_ok-winners.ensures ∙ ap (λ lines. replicate ((lines + 1) * kind_count) None) c.from.ensures)

pub returns : goal.returns
returns c =
    ap (λ (table : Table). let state : DueState = record { lines = c.args.lines; table = table } in state)
    (ap set_in c.in_ok-winners.ensures ∙ set_in-none ((c.from.result + 1) * kind_count))
