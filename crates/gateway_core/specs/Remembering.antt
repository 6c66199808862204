-- How many transactions a machine remembers.
use Rattle.std.specs.Prelude.{ℕ, min, length}
use Rattle.transmission.specs.Memory.{most_firsts}
use Rattle.transmission.specs.Kept.{young_firsts}
use Rattle.plain_machine.specs.Machine.{Machine}

-- those that were executed less than `memory_time` before its clock, up to the most that there may be
abbrev pub remembered : Machine → ℕ
remembered m = min most_firsts (length (young_firsts m.now m.history))
