use Rattle.std.proofs.Common.{ap, ◌∙◌, sym, subst, None, arith}
use Rattle.timers.specs.Table.{DueState, without}
use Rattle.timers.specs.Leaves.{set_in, IsKept}
use Rattle.timers.proofs.LeavesLemmas.{set_in-cleared, kept_still}
use Rattle.timers.proofs.due.Due.clear.Goals as goal

pub invariant_of-self : goal.invariant_of-self
invariant_of-self c =
    subst (IsKept c.self.inside.lines) (sym c.put.ensures)
    (kept_still c.self.inside.lines c.leaf_of.result c.self.inside.winners None tt c.self.invariant)

pub returns-clause-table : goal.returns-clause-table
returns-clause-table c =
    ap set_in c.put.ensures
    ∙ set_in-cleared 0 c.leaf_of.result c.self.inside.winners c.args.line c.args.kind
    (omega (arith, c.leaf_of.ensures.value)) c.self.invariant.placed
    ∙ ap (λ (state : DueState). without state.table c.args.line c.args.kind) c.self.view_is
