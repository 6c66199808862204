-- Rules of transmission over UDP (RFC 3435, 3.5).
use Rattle.std.specs.Prelude.{Bool, true, false}
use Rattle.small_rules.specs.declared.standing.Standing.{Standing}
use Rattle.small_rules.specs.declared.standing.Standing.TheVariants.{New, Repeat, Confirmed, Full}

-- a new command is executed, and no other (3.5.1)
abbrev pub is_executed : Standing → Bool
is_executed New = true
is_executed Repeat = false
is_executed Confirmed = false
is_executed Full = false
