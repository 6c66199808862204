use Rattle.std.proofs.Common.{◌≡◌, ℕ, List, [], ◌∷◌, Option, subst}
use Rattle.std.specs.Prelude.{IfNone, Ok, slice_get}
use Rattle.std.specs.Result.{result_err}
use Rattle.call_agent.specs.Flying.{first_flight}
use Rattle.call_agent.specs.Hearing.{AgentEnds, plain_agent}
use Rattle.machine_rules.specs.declared.refusal.Refusal.{Refusal}
use Rattle.plain_machine.specs.Event.{tick}
use Rattle.agent_gateways.specs.declared.gateway.Gateway.{Gateway}
use Rattle.agent_gateways.specs.AgentClock.{tick_to}
use Rattle.agent_gateways.specs.Steps.{AtPlace, Refuses}
use Rattle.agent_gateways.proofs.StepExampleLemmas.{agent_ended}
use Rattle.live_agent.proofs.desk_examples.what_a_tick_does_has_examples.Goals as goal

-- so the first agent's clock is refused, or isn't
abbrev RefusesFirst : Option Refusal → List Gateway → List Gateway → Type 0
RefusesFirst given were are = AtPlace 0 (λ (was : Gateway) (is : Gateway). Refuses (tick (tick_to was.ticked 700)) given was) were are

pub returns-clause-goes_on : goal.returns-clause-goes_on
unfolding first_flight
returns-clause-goes_on c = λ gateway after events board now was is ticks before behind ticked stands has.
    let refuses : RefusesFirst (result_err ticks.outputs) (gateway ∷ []) (after ∷ [])
    = subst (λ (are : List Gateway). RefusesFirst (result_err ticks.outputs) (gateway ∷ []) are) behind
    (subst (λ (were : List Gateway). RefusesFirst (result_err ticks.outputs) were now.gateways.items) before ticks.ends) in
    agent_ended (plain_agent gateway.agent.value.setup events) 500 700 [] (result_err ticks.outputs) (has events stands).0 (has events stands).1
    (subst
    (λ (n : ℕ). AgentEnds (plain_agent gateway.agent.value.setup events) (tick (tick_to n 700)) (result_err ticks.outputs)) ticked
    (refuses events stands))

pub returns-clause-again : goal.returns-clause-again
returns-clause-again c = λ board now was is ticks. ticks.goes

pub returns-clause-counts : goal.returns-clause-counts
returns-clause-counts c = λ board now was is gives. gives.counts

pub returns-clause-counts_none : goal.returns-clause-counts_none
returns-clause-counts_none c = λ board now was is gives. gives.counts

pub returns-clause-nobody_ticks : goal.returns-clause-nobody_ticks
returns-clause-nobody_ticks c = λ board now was is ticks none.
    subst (λ (gateways : List Gateway). IfNone (slice_get gateways 0) (ticks.outputs ≡ Ok [])) none ticks.nobody
