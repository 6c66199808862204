-- What counts.
use Rattle.std.specs.Prelude.{Bool, if◌then◌else◌}
use Rattle.agent_log.specs.declared.tally.Tally.{Tally}

-- something counts once, where it is so
abbrev pub counted_if : Bool → (Tally → Tally) → Tally → Tally
counted_if is_so count tally = if is_so then count tally else tally
