-- The numbers and names of the reasons for which an event is refused.
use Rattle.std.specs.Prelude.{ℕ, codes, List}
use Rattle.machine_rules.specs.declared.refusal.Refusal.{Refusal}
use Rattle.machine_rules.specs.declared.refusal.Refusal.TheVariants.{OutOfMemory, TickTooFar, ClockBack, NoSuchLine, PhoneState}

abbrev pub refusal_number : Refusal → ℕ
refusal_number OutOfMemory = 1
refusal_number TickTooFar = 2
refusal_number ClockBack = 3
refusal_number NoSuchLine = 4
refusal_number PhoneState = 5

abbrev pub refusal_name : Refusal → List ℕ
refusal_name OutOfMemory = codes "OutOfMemory"
refusal_name TickTooFar = codes "TickTooFar"
refusal_name ClockBack = codes "ClockBack"
refusal_name NoSuchLine = codes "NoSuchLine"
refusal_name PhoneState = codes "PhoneState"
