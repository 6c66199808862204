use Rattle.std.proofs.Common.{ap, ◌∙◌, ◌≤◌, sym, subst, Option}
use Rattle.std.specs.Prelude.{IfSome}
use Rattle.timers.specs.declared.due_item.DueItem.{DueItem}
use Rattle.timers.specs.Table.{DueState, least_of, IsLeast}
use Rattle.timers.specs.Leaves.{set_in}
use Rattle.timers.proofs.LeavesLemmas.{first_is_least, least_is_least, least_within}
use Rattle.timers.proofs.due.Due.least.Goals as goal

pub returns-clause-least : goal.returns-clause-least
returns-clause-least c =
    c.first.ensures
    ∙ first_is_least c.self.inside.winners
    ∙ ap (λ (state : DueState). least_of state.table) c.self.view_is

pub returns-clause-first : goal.returns-clause-first
returns-clause-first c =
    subst (λ (state : DueState). IfSome c.first.result (IsLeast state.table)) c.self.view_is
    (subst (λ (first : Option DueItem). IfSome first (IsLeast (set_in c.self.inside.winners)))
    (sym (c.first.ensures ∙ first_is_least c.self.inside.winners))
    (least_is_least c.self.inside.winners c.self.invariant.placed))

pub returns-clause-place : goal.returns-clause-place
returns-clause-place c =
    subst (λ (state : DueState). IfSome c.first.result (λ item. item.line ≤ state.lines))
    c.self.view_is
    (subst (λ (first : Option DueItem). IfSome first (λ item. item.line ≤ c.self.inside.lines))
    (sym (c.first.ensures ∙ first_is_least c.self.inside.winners))
    (least_within c.self.inside.lines c.self.inside.winners c.self.invariant))
