-- A trace in memory.
use Rattle.std.specs.Prelude.{ℕ, if◌then◌else◌, List, Option, Some, None}
use Rattle.live_play.specs.declared.trace_text.TraceText.{TraceText}

-- all that it was told, until memory was refused
abbrev pub kept_text : TraceText → Option (List ℕ)
kept_text trace = if trace.is_whole then Some trace.text.items else None
