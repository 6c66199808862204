-- What a piece of work does to a world.
use Rattle.std.specs.Prelude.{◌≡◌, ◌⊎◌, ℕ, slice_get, Option, Some, None, IfSome}
use Rattle.machine_rules.specs.declared.refusal.Refusal.{Refusal}
use Rattle.agent_core.specs.declared.step.StepRefusal.{StepRefusal}
use Rattle.agent_core.specs.declared.step.StepRefusal.TheVariants.{OutOfMemory, NoMoreIds, BadCommand}
use Rattle.call_agent.specs.Issuing.{IssueRefusal, no_more_ids, bad_command}
use Rattle.agent_core.specs.declared.packet.End.{End}
use Rattle.agent_core.specs.declared.packet.Posted.{Posted}
use Rattle.agent_core.specs.World.{World, WorldStep, step_refusal, went, delivered_from}
use Rattle.agent_core.specs.StepRefusal.{of_event}
use Rattle.agent_core.specs.WorldStands.{WorldState, Keeps, StepEnds}

-- an end refuses an event for its reason; else it takes it, unless memory is refused
abbrev pub EndStops : Option Refusal → Option StepRefusal → Type 0
EndStops (Some refusal) given = given ≡ Some (of_event refusal)
EndStops None given = IfSome given (λ refusal. refusal ≡ OutOfMemory)

-- a command isn't issued for its reason; what it takes to see that it is bad may be refused too
abbrev pub IssueStops : Option IssueRefusal → Option StepRefusal → Type 0
IssueStops (Some no_more_ids) given = given ≡ Some NoMoreIds
IssueStops (Some bad_command) given = (given ≡ Some BadCommand) ⊎ (given ≡ Some OutOfMemory)
IssueStops None given = IfSome given (λ refusal. refusal ≡ OutOfMemory)

-- a step was done: each plain world that is kept goes on so
pub record Goes (w : WorldState) (step : WorldStep) (w' : WorldState) : Type 0 where
  pub setup : w'.gateway.setup ≡ w.gateway.setup
  pub keeps : (plain : World) → Keeps w plain
      → (step_refusal w.gateway.setup plain step ≡ None) × Keeps w' (went w.gateway.setup plain step)

-- nothing was done
pub record Remains (w w' : WorldState) : Type 0 where
  pub setup : w'.gateway.setup ≡ w.gateway.setup
  pub keeps : (plain : World) → Keeps w plain → Keeps w' plain

-- so a step ends, where its own refusal is this one of each plain world that is kept
abbrev pub Ends : WorldState → WorldStep → Option StepRefusal → Type 0
Ends w step given = (plain : World) → Keeps w plain → StepEnds (step_refusal w.gateway.setup plain step) given

-- the packet with this number came to the end that this one isn't
pub record HandsOver (w : WorldState) (number : ℕ) (end : End) (w' : WorldState) : Type 0 where
  pub setup : w'.gateway.setup ≡ w.gateway.setup
  pub keeps : (plain : World) (post : Posted) → Keeps w plain → slice_get w.posted number ≡ Some post
      → Keeps w' (delivered_from end w.gateway.setup plain post.packet)

-- nothing but want of memory refuses it
abbrev pub WantsMemory : WorldState → Option StepRefusal → Type 0
WantsMemory w given = (plain : World) → Keeps w plain → IfSome given (λ refusal. refusal ≡ OutOfMemory)
