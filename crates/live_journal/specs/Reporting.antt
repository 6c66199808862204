-- All that is told of what was counted, and of what couldn't be written.
use Rattle.std.specs.Prelude.{ℕ, List, ◌++◌}
use Rattle.output_queues.specs.Written.{written_line}
use Rattle.message_counts.specs.Reporting.{report_text}
use Rattle.message_counts.specs.declared.reporting.Faults.{Faults}
use Rattle.live_journal.specs.declared.journal.Journal.{Journal}

-- all that is told, where so many events of all lines were lost
abbrev pub counts_with : Journal → ℕ → Faults → List ℕ
counts_with journal lost faults = report_text journal.tally.value lost faults ++ written_line journal.written journal.capture.value.name
