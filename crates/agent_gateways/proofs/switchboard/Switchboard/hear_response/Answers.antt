use Rattle.std.proofs.Common.{◌≡◌, ℕ, Option, Some, None, refl, sym, subst, rules}
use Rattle.std.specs.Prelude.{slice_get}
use Rattle.agent_gateways.specs.GivingUp.{ended_in}
use Rattle.agent_gateways.specs.Hearing.{AnswersFor}
use Rattle.agent_gateways.proofs.HearingLemmas.{heard_response}
use Rattle.agent_gateways.proofs.switchboard.Switchboard.hear_response.Goals as goal

pub returns-in_default-clause-hears : goal.returns-in_default-clause-hears
returns-in_default-clause-hears c =
    let none : ended_in (Some (c.args.id, c.args.code)) (slice_get c.args.self.now.gateways.items c.args.place) ≡ None = search rules in
    heard_response c.args.place c.args.id c.args.code c.args.text.now c.args.self.now c.ended.new.self c.ended.new.self None (sym none)
    c.ended.ensures.gateway refl

pub returns-clause-hears : goal.returns-clause-hears
returns-clause-hears c =
    heard_response c.args.place c.args.id c.args.code c.args.text.now c.args.self.now c.ended.new.self c.answer.new.self
    (Some c.in-Some.flight) c.in-Some.ensures.ended c.in-Some.ensures.gateway
    (subst (λ (line : Option ℕ). AnswersFor c.args.place line c.args.code c.args.text.now c.ended.new.self c.answer.new.self)
    (sym c.in-Some-line.is) c.answer.ensures)

pub returns-in_default-line-clause-hears : goal.returns-in_default-line-clause-hears
returns-in_default-line-clause-hears c =
    let typed : c.in-Some.flight.line ≡ None = search rules in
    heard_response c.args.place c.args.id c.args.code c.args.text.now c.args.self.now c.ended.new.self c.ended.new.self
    (Some c.in-Some.flight) c.in-Some.ensures.ended c.in-Some.ensures.gateway
    (subst (λ (line : Option ℕ). AnswersFor c.args.place line c.args.code c.args.text.now c.ended.new.self c.ended.new.self) (sym typed) refl)
