-- Where the machine's time of day was set.
use Rattle.std.specs.Prelude.{ℕ, ◌-◌, ◌/◌, nat_lt, if◌then◌else◌, Option, Some, None}
use Rattle.log_format.specs.declared.note.Notice.{Notice}
use Rattle.log_format.specs.declared.note.Notice.TheVariants.{SetOn, SetBack}

-- by more than so much the time of day parts at once from the machine's clock where it is noted, in microseconds: a second
abbrev pub slack : ℕ
slack = 1000000

-- what is noted where it would be the first time of day, and is the second, both in microseconds
abbrev pub jump_from : ℕ → ℕ → Option Notice
jump_from expected time =
    if nat_lt slack (time - expected) then Some (SetOn ((time - expected) / 1000))
    else (if nat_lt slack (expected - time) then Some (SetBack ((expected - time) / 1000)) else None)
