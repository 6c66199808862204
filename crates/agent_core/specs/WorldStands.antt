-- A world as contracts see it, and what it stands for: a list of steps, which it needn't store.
use Rattle.std.specs.Prelude.{◌≡◌, ◌⊎◌, ◌<◌, ℕ, Bool, true, false, List, [], ◌++◌, map, take, length, slice_get, Option, Some, None, IfSome, Result, Ok, Err}
use Rattle.plain_machine.specs.declared.setup.Setup.{Setup}
use Rattle.plain_machine.specs.declared.config.ConfigFault.{ConfigFault}
use Rattle.plain_machine.specs.declared.config.ConfigFault.TheVariants as config_faults
use Rattle.gateway_core.specs.GatewayState.{GatewayState}
use Rattle.gateway_core.specs.Stands.{Stands}
use Rattle.agent_core.specs.declared.packet.Posted.{Posted}
use Rattle.agent_core.specs.declared.step.Step.{Step}
use Rattle.agent_core.specs.declared.step.Step.TheVariants as steps
use Rattle.agent_core.specs.declared.step.StepRefusal.{StepRefusal}
use Rattle.agent_core.specs.declared.step.StepRefusal.TheVariants.{OutOfMemory, TickTooFar, ClockBack, NoSuchLine, PhoneState, NoMoreIds, BadCommand, NoSuchPacket, PacketTooOld}
use Rattle.agent_core.specs.declared.step.WorldStopped.{WorldStopped}
use Rattle.call_agent.specs.Issuing.{no_more_ids, bad_command}
use Rattle.call_agent.specs.Hearing.{as_event, as_issue}
use Rattle.agent_core.specs.World.{World, WorldStep, issuing, dialling, ticking, delivering, WorldRefusal, by_gateway, by_agent, no_such_packet, packet_too_old, agent_of, world_opening, plain_world, steps_are_taken, step_refusal}
use Rattle.agent_core.specs.StepRefusal.{of_event}
use Rattle.call_agent.specs.AgentStands.{AgentState, AgentStands}

-- both ends, all packets, and whether it is spent: memory was refused
pub record WorldState : Type 0 where
  pub gateway : GatewayState
  pub agent : AgentState
  pub posted : List Posted
  pub spent : Bool

-- a step as the code is given it
abbrev pub step_of : Step → WorldStep
step_of (steps.Issue verb name rest) = issuing verb.now name.now rest.now
step_of (steps.Dial line act) = dialling line act
step_of (steps.Tick moment) = ticking moment
step_of (steps.Deliver number) = delivering number

-- both ends stand for what those of a plain world took, and the packets are its
pub record Keeps (w : WorldState) (plain : World) : Type 0 where
  pub gateway : Stands w.gateway plain.gateway_took
  pub agent : AgentStands w.agent plain.agent_took
  pub posted : w.posted ≡ plain.posted
  pub who : w.agent.setup ≡ agent_of w.gateway.setup
  pub fresh : w.spent ≡ false

-- it took these steps, and is as the plain world is after them
pub record WorldStands (w : WorldState) (steps : List WorldStep) : Type 0 where
  pub taken : steps_are_taken w.gateway.setup world_opening steps ≡ true
  pub keeps : Keeps w (plain_world w.gateway.setup steps)

-- a world took these steps: whatever it stood for, it stands for that list and these
pub record WorldTook (w : WorldState) (steps : List WorldStep) (w' : WorldState) : Type 0 where
  pub setup : w'.gateway.setup ≡ w.gateway.setup
  pub stands : (before : List WorldStep) → WorldStands w before → WorldStands w' (before ++ steps)

-- a step is refused for its reason; what it takes to see that a command is bad may be refused too; else it is done, unless
-- memory is refused
abbrev pub StepEnds : Option WorldRefusal → Option StepRefusal → Type 0
StepEnds (Some (by_agent (as_issue bad_command))) given = (given ≡ Some BadCommand) ⊎ (given ≡ Some OutOfMemory)
StepEnds (Some (by_agent (as_issue no_more_ids))) given = given ≡ Some NoMoreIds
StepEnds (Some (by_agent (as_event refusal))) given = given ≡ Some (of_event refusal)
StepEnds (Some (by_gateway refusal)) given = given ≡ Some (of_event refusal)
StepEnds (Some no_such_packet) given = given ≡ Some NoSuchPacket
StepEnds (Some packet_too_old) given = given ≡ Some PacketTooOld
StepEnds None given = IfSome given (λ refusal. refusal ≡ OutOfMemory)

-- what a refused step leaves: all as it was; but for want of memory the world is spent
abbrev pub Leaves : StepRefusal → Type 0 → Type 0 → Type 0
Leaves OutOfMemory spent same = spent
Leaves TickTooFar spent same = same
Leaves ClockBack spent same = same
Leaves NoSuchLine spent same = same
Leaves PhoneState spent same = same
Leaves NoMoreIds spent same = same
Leaves BadCommand spent same = same
Leaves NoSuchPacket spent same = same
Leaves PacketTooOld spent same = same

-- the steps before a place
abbrev pub steps_before : List Step → ℕ → List WorldStep
steps_before steps place = map step_of (take place steps)

-- A run stopped at a step that is refused; none of those before it is. It took these, unless it is spent.
pub record WorldStoppedAt (w : WorldState) (steps : List Step) (w' : WorldState) (stopped : WorldStopped) : Type 0 where
  pub place : w.spent ≡ false → stopped.place < length steps
  pub before : (before : List WorldStep) → WorldStands w before → steps_are_taken w.gateway.setup
      (plain_world w.gateway.setup before) (steps_before steps stopped.place) ≡ true
  pub leaves : Leaves stopped.refusal (w'.spent ≡ true) (WorldTook w (steps_before steps stopped.place) w')
  pub cause : (before : List WorldStep) → WorldStands w before → IfSome (slice_get steps stopped.place) (λ step.
      StepEnds (step_refusal w.gateway.setup (plain_world w.gateway.setup (before ++ steps_before steps stopped.place)) (step_of step))
      (Some stopped.refusal))

-- a configuration opens a world that stands for no steps, unless memory is refused; or its fault is the answer
abbrev pub WorldOpens : Result Setup ConfigFault → Result WorldState ConfigFault → Type 0
WorldOpens (Ok setup) (Ok w) = (w.gateway.setup ≡ setup) × WorldStands w []
WorldOpens (Ok setup) (Err fault) = fault ≡ config_faults.OutOfMemory
WorldOpens (Err fault) result = result ≡ Err fault
