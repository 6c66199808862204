-- Which turn of a gateway that is served is the last.
use Rattle.std.specs.Prelude.{Bool, true, false}
use Rattle.machine_rules.specs.declared.turning.TurnEnd.{TurnEnd}
use Rattle.machine_rules.specs.declared.turning.TurnEnd.TheVariants.{Took, Refused, Failed, Ended}

-- the turn at which the end comes is the last; no fault and no refusal ends it
abbrev pub is_last : TurnEnd → Bool
is_last (Took send_faults) = false
is_last Refused = false
is_last Failed = false
is_last Ended = true
