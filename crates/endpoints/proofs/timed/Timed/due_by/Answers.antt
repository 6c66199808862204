use Rattle.std.proofs.Common.{ap, ◌∙◌}
use Rattle.plain_machine.specs.Falling.{if_by, first_due, due_by}
use Rattle.endpoints.specs.Saving.{endpoints_of}
use Rattle.endpoints.proofs.DueLemmas.{first_is_least}
use Rattle.endpoints.proofs.timed.Timed.due_by.Goals as goal

pub returns : goal.returns
unfolding due_by
returns c =
    c.due_by.ensures.due
    ∙ ap (if_by c.args.moment) (first_is_least (endpoints_of c.self.inside.list.items c.self.inside.own) c.self.inside.due c.self.invariant.due
    c.due_by.ensures.first ∙ ap first_due c.self.view_is)
