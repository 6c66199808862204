use Rattle.std.proofs.Common.{◌≡◌, ℕ, Option, Some, None, refl, sym, subst, rules}
use Rattle.std.specs.Prelude.{slice_get}
use Rattle.agent_gateways.specs.GivingUp.{ended_in, ForgetsFor}
use Rattle.agent_gateways.proofs.GivingUpLemmas.{gave_up}
use Rattle.agent_gateways.proofs.switchboard.Switchboard.give_up.Goals as goal

pub returns-in_default-clause-gives_up : goal.returns-in_default-clause-gives_up
returns-in_default-clause-gives_up c =
    let none : ended_in None (slice_get c.args.self.now.gateways.items c.args.place) ≡ None = search rules in
    gave_up c.args.place c.args.self.now c.ended.new.self c.ended.new.self None (sym none) c.ended.ensures.gateway refl refl

pub returns-clause-gives_up : goal.returns-clause-gives_up
returns-clause-gives_up c =
    gave_up c.args.place c.args.self.now c.ended.new.self (record c.ended.new.self { office = c.forget.new.office }) (Some c.in-Some.flight) c.in-Some.ensures.ended
    c.in-Some.ensures.gateway
    (subst (λ (line : Option ℕ). ForgetsFor line c.ended.new.self.office c.forget.new.office) (sym c.in-Some-line.is)
    (c.forget.ensures.office, c.forget.ensures.touches))
    refl

pub returns-in_default-line-clause-gives_up : goal.returns-in_default-line-clause-gives_up
returns-in_default-line-clause-gives_up c =
    let typed : c.in-Some.flight.line ≡ None = search rules in
    gave_up c.args.place c.args.self.now c.ended.new.self c.ended.new.self (Some c.in-Some.flight) c.in-Some.ensures.ended
    c.in-Some.ensures.gateway
    (subst (λ (line : Option ℕ). ForgetsFor line c.ended.new.self.office c.ended.new.self.office) (sym typed) refl) refl
