use Rattle.std.proofs.Common.{◌≡◌, ◌⊎◌, ℕ, true, List, Option, inl, inr, ap, subst, ◌∙◌}
use Rattle.std.specs.Prelude.{is_some}
use Rattle.agent_config.specs.declared.config.AgentConfig.{AgentConfig}
use Rattle.live_system.specs.declared.ending.CommonEnding.{CommonEnding}
use Rattle.live_system.specs.declared.ending.CommonEnding.TheVariants.{OutOfMemory}
use Rattle.agent_gateways.specs.Opening.{BoardOf}
use Rattle.agent_gateways.specs.declared.switchboard.Switchboard.{Switchboard}
use Rattle.live_agent.specs.AnyAround.{ends_any, serves_any, serves_never, writes_any}
use Rattle.live_agent.specs.Clock.{milliseconds}
use Rattle.live_agent.specs.Serving.{ServesOver}
use Rattle.live_agent.specs.declared.wire.Wire.{Wire}
use Rattle.live_agent.proofs.desk_examples.how_a_desk_serves_has_examples.Goals as goal

pub returns-clause-one_turn : goal.returns-clause-one_turn
returns-clause-one_turn c = λ board now was is schedule next runs. runs.4

pub returns-clause-writes : goal.returns-clause-writes
returns-clause-writes c = λ was is writes. (writes.counts, ap (λ (wire : Wire ℕ). wire.lines) writes.rest)

pub returns-clause-writes_it : goal.returns-clause-writes_it
returns-clause-writes_it c = λ was is writes. writes.wrote

pub returns-clause-ends : goal.returns-clause-ends
returns-clause-ends c = λ board was is ending serves. ap (λ (wire : Wire ℕ). wire.lines) serves.rest

-- who never serves has no desk
no_desk : (config : AgentConfig) (was is : Wire ℕ) (ending : CommonEnding) → ServesOver config true serves_never writes_any ends_any was is 0 ending
    → is ≡ was
no_desk config was is ending (inl none) = none.1
no_desk config was is ending (inr some) = absurd some.2.does

pub returns-clause-no_desk : goal.returns-clause-no_desk
returns-clause-no_desk c = no_desk

begins : (config : AgentConfig) (was is : Wire ℕ) (ending : CommonEnding) → was.now.time ≡ 525600000999
    → ServesOver config true serves_any writes_any ends_any was is 0 ending
    → (ending ≡ OutOfMemory) ⊎ ((board : Switchboard) × BoardOf config true 525600000 board)
begins config was is ending told (inl none) = inl none.0
begins config was is ending told (inr some) =
    inr (some.0, subst (λ (time : ℕ). BoardOf config true (milliseconds time) some.0) told some.1)

pub returns-clause-begins : goal.returns-clause-begins
returns-clause-begins c = begins

pub returns-clause-its_gateways : goal.returns-clause-its_gateways
returns-clause-its_gateways c = λ config board of. of.0

pub returns-clause-unasked : goal.returns-clause-unasked
returns-clause-unasked c = λ config board of. of.1

pub returns-clause-unmapped : goal.returns-clause-unmapped
returns-clause-unmapped c = λ config board none of. of.1 ∙ ap (λ (digits : Option (List ℕ)). is_some digits) none

pub returns-clause-routed : goal.returns-clause-routed
returns-clause-routed c = λ config digits board some of. of.1 ∙ ap (λ (digits : Option (List ℕ)). is_some digits) some
