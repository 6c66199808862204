use Rattle.std.proofs.Common.{◌≡◌, ◌∙◌, true, ap, inl, inr, subst, Option}
use Rattle.call_processing.specs.declared.command.Command.{Command}
use Rattle.call_processing.specs.declared.command.Outcome.{Outcome}
use Rattle.line_control.specs.Responses.{is_creation, outcome_by}
use Rattle.line_control.specs.Turns.{Routes}
use Rattle.line_control.proofs.office.answer.Goals as goal

pub returns-in-Ok : goal.returns-in-Ok
returns-in-Ok c =
    inl (subst (λ (outcome : Outcome). Routes outcome c.args.line c.args.moment c.args.exchange.now c.args.cares.now.items c.route_answered.new.exchange c.route_answered.new.cares.items)
    (c.in-Ok.ensures.outcome ∙ ap (λ (flight : Option Command). outcome_by c.args.code flight c.args.text.now) c.flight_at.ensures) c.route_answered.ensures)

pub returns-in-Err : goal.returns-in-Err
returns-in-Err c =
    inr (
      subst (λ (flight : Option Command). is_creation c.args.code flight ≡ true) c.flight_at.ensures c.in-Err.ensures.memory,
      c.route_answered-in-Err.ensures,
    )
