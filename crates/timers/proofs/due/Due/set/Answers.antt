use Rattle.std.proofs.Common.{ap, ◌∙◌, ◌≤◌, sym, subst, Some, slice_set}
use Rattle.timers.specs.Table.{DueState, due, with_moment}
use Rattle.timers.specs.Leaves.{set_in, IsKept}
use Rattle.timers.proofs.LeavesLemmas.{set_in-set, kept_still, leaf_within}
use Rattle.timers.proofs.due.Due.set.Goals as goal

pub invariant_of-self : goal.invariant_of-self
invariant_of-self c =
    subst (IsKept c.self.inside.lines) (sym c.put.ensures)
    (kept_still c.self.inside.lines c.leaf_of.result c.self.inside.winners
    (Some (due c.args.moment c.args.line c.args.kind))
    c.leaf_of.ensures.value c.self.invariant)

pub returns-clause-table : goal.returns-clause-table
returns-clause-table c =
    let leaves = c.self.inside.winners in
    let item = due c.args.moment c.args.line c.args.kind in
    ap set_in c.put.ensures
    ∙ ap (λ leaf. set_in (slice_set leaves leaf (Some item))) c.leaf_of.ensures.value
    ∙ set_in-set leaves item c.self.invariant.placed
    (leaf_within c.self.inside.lines c.args.line c.args.kind leaves
    (subst (λ (state : DueState). c.args.line ≤ state.lines) (sym c.self.view_is) c.requires)
    c.self.invariant)
    ∙ ap (λ (state : DueState). with_moment state.table c.args.line c.args.kind c.args.moment) c.self.view_is
