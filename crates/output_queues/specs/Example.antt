-- What the worked examples speak of.
use Rattle.std.specs.Prelude.{ℕ, false, true, List}
use Rattle.output_queues.specs.declared.written.Written.{Written}
use Rattle.output_queues.specs.Backlog.{BacklogState}

-- this waits, and nothing was dropped
abbrev pub waits : List ℕ → BacklogState
waits waiting = record { waiting = waiting; is_full = false; is_over = false; unnoted = 0; dropped = 0 }

-- this waits, and so many lines were dropped since that was noted, and in all
abbrev pub full : List ℕ → ℕ → ℕ → BacklogState
full waiting unnoted dropped = record { waiting = waiting; is_full = true; is_over = false; unnoted = unnoted; dropped = dropped }

-- this waits, and nothing is kept any more
abbrev pub over : List ℕ → BacklogState
over waiting = record { waiting = waiting; is_full = false; is_over = true; unnoted = 0; dropped = 0 }

-- so many lines weren't kept, and so often it failed at standard output, standard error and a capture
abbrev pub lost : ℕ → ℕ → ℕ → ℕ → Written
lost dropped output error capture = record { dropped = dropped; output = output; error = error; capture = capture }
