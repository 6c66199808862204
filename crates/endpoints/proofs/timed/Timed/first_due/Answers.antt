use Rattle.std.proofs.Common.{ap, ◌∙◌, subst, Option}
use Rattle.std.specs.Prelude.{IfSome}
use Rattle.timers.specs.declared.due_item.DueItem.{DueItem}
use Rattle.timers.specs.Table.{IsLeast}
use Rattle.plain_machine.specs.Falling.{first_due}
use Rattle.endpoints.specs.Saving.{endpoints_of}
use Rattle.endpoints.proofs.DueLemmas.{first_is_least}
use Rattle.endpoints.proofs.timed.Timed.first_due.Goals as goal

pub returns : goal.returns
returns c =
    c.least.ensures.least
    ∙ first_is_least (endpoints_of c.self.inside.list.items c.self.inside.own) c.self.inside.due c.self.invariant.due
    (subst (λ (first : Option DueItem). IfSome first (IsLeast c.self.inside.due.table)) c.least.ensures.least c.least.ensures.first)
    ∙ ap first_due c.self.view_is
