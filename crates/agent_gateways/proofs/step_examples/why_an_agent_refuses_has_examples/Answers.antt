use Rattle.std.proofs.Common.{◌≡◌, ℕ, [], ◌∷◌, Some, None, if◌then◌else◌, refl, sym, subst}
use Rattle.std.specs.Prelude.{is_none, nat_le}
use Rattle.machine_rules.specs.declared.refusal.Refusal.TheVariants.{OutOfMemory, TickTooFar, ClockBack}
use Rattle.plain_machine.specs.Refusing.{ends}
use Rattle.retransmission.specs.Flight.{InFlight}
use Rattle.call_agent.specs.Flying.{first_flight}
use Rattle.call_agent.specs.Hearing.{plain_agent}
use Rattle.agent_gateways.proofs.StepExampleLemmas.{agent_ended, agent_ends, EndsTick}
use Rattle.agent_gateways.proofs.step_examples.why_an_agent_refuses_has_examples.Goals as goal

-- what falls due of this by then takes memory
falls_due : (flight : InFlight) → flight.due ≡ 900 → EndsTick 700 1700 (flight ∷ []) (Some OutOfMemory)
unfolding first_flight
falls_due flight due =
    subst (λ (n : ℕ). ends None (is_none (if nat_le n 1700 then Some flight else None)) (Some OutOfMemory)) (sym due) refl

pub returns-clause-goes_back : goal.returns-clause-goes_back
unfolding first_flight
returns-clause-goes_back c = λ gateway has events stands.
    agent_ends (plain_agent gateway.agent.value.setup events) 700 600 [] (Some ClockBack) (has events stands).0 (has events stands).1 refl

pub returns-clause-too_far : goal.returns-clause-too_far
unfolding first_flight
returns-clause-too_far c = λ gateway has events stands.
    agent_ends (plain_agent gateway.agent.value.setup events) 700 1701 [] (Some TickTooFar) (has events stands).0 (has events stands).1 refl

pub returns-clause-goes_on : goal.returns-clause-goes_on
unfolding first_flight
returns-clause-goes_on c = λ gateway has events stands.
    agent_ends (plain_agent gateway.agent.value.setup events) 700 1700 [] None (has events stands).0 (has events stands).1 refl

pub returns-clause-without_memory : goal.returns-clause-without_memory
unfolding first_flight
returns-clause-without_memory c = λ gateway flight due has events stands.
    agent_ends (plain_agent gateway.agent.value.setup events) 700 1700 (flight ∷ []) (Some OutOfMemory) (has events stands).0
    (has events stands).1 (falls_due flight due)

pub returns-clause-without_reason : goal.returns-clause-without_reason
unfolding first_flight
returns-clause-without_reason c = λ gateway events stands has refuses.
    let none : Some TickTooFar ≡ None
    = agent_ended (plain_agent gateway.agent.value.setup events) 700 1700 [] (Some TickTooFar) (has events stands).0 (has events stands).1
    (refuses events stands) in
    absurd cc

pub returns-clause-nothing_falls_due : goal.returns-clause-nothing_falls_due
unfolding first_flight
returns-clause-nothing_falls_due c = λ gateway events stands has refuses.
    let none : Some OutOfMemory ≡ None
    = agent_ended (plain_agent gateway.agent.value.setup events) 700 1700 [] (Some OutOfMemory) (has events stands).0 (has events stands).1
    (refuses events stands) in
    absurd cc
