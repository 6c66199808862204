-- The refusals of a world's steps, with their numbers and names.
use Rattle.std.specs.Prelude.{ℕ, List, codes}
use Rattle.machine_rules.specs.declared.refusal.Refusal.{Refusal}
use Rattle.machine_rules.specs.declared.refusal.Refusal.TheVariants as refusals
use Rattle.call_agent.specs.declared.issuing.IssueFault.{IssueFault}
use Rattle.call_agent.specs.declared.issuing.IssueFault.TheVariants as faults
use Rattle.agent_core.specs.declared.step.StepRefusal.{StepRefusal}
use Rattle.agent_core.specs.declared.step.StepRefusal.TheVariants.{OutOfMemory, TickTooFar, ClockBack, NoSuchLine, PhoneState, NoMoreIds, BadCommand, NoSuchPacket, PacketTooOld}

abbrev pub step_refusal_number : StepRefusal → ℕ
step_refusal_number OutOfMemory = 1
step_refusal_number TickTooFar = 2
step_refusal_number ClockBack = 3
step_refusal_number NoSuchLine = 4
step_refusal_number PhoneState = 5
step_refusal_number NoMoreIds = 6
step_refusal_number BadCommand = 7
step_refusal_number NoSuchPacket = 8
step_refusal_number PacketTooOld = 9

abbrev pub step_refusal_name : StepRefusal → List ℕ
step_refusal_name OutOfMemory = codes "OutOfMemory"
step_refusal_name TickTooFar = codes "TickTooFar"
step_refusal_name ClockBack = codes "ClockBack"
step_refusal_name NoSuchLine = codes "NoSuchLine"
step_refusal_name PhoneState = codes "PhoneState"
step_refusal_name NoMoreIds = codes "NoMoreIds"
step_refusal_name BadCommand = codes "BadCommand"
step_refusal_name NoSuchPacket = codes "NoSuchPacket"
step_refusal_name PacketTooOld = codes "PacketTooOld"

abbrev pub of_event : Refusal → StepRefusal
of_event refusals.OutOfMemory = OutOfMemory
of_event refusals.TickTooFar = TickTooFar
of_event refusals.ClockBack = ClockBack
of_event refusals.NoSuchLine = NoSuchLine
of_event refusals.PhoneState = PhoneState

abbrev pub of_issue : IssueFault → StepRefusal
of_issue faults.OutOfMemory = OutOfMemory
of_issue faults.NoMoreIds = NoMoreIds
of_issue faults.BadCommand = BadCommand
