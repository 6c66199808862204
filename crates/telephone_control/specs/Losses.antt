-- How many events of a gateway's lines were lost, and all that is told of what was counted.
use Rattle.std.specs.Prelude.{ℕ, zero, suc, List}
use Rattle.std.specs.Option.{unwrap_or}
use Rattle.plain_machine.specs.Lists.{lost_of}
use Rattle.plain_machine.specs.Machine.{Machine}
use Rattle.plain_machine.specs.declared.setup.Setup.{Setup}
use Rattle.output_queues.specs.Backlog.{sum_within}
use Rattle.live_journal.specs.declared.journal.Journal.{Journal}
use Rattle.message_counts.specs.declared.reporting.Faults.{Faults}
use Rattle.live_journal.specs.Reporting.{counts_with}

-- how many events of so many lines, from the first on, were lost
unfoldable pub lost_of_lines : Machine → ℕ → ℕ
lost_of_lines m zero = 0
lost_of_lines m (suc lines) = sum_within (lost_of_lines m lines) (unwrap_or (lost_of m (suc lines)) 0)

-- all that is told of a gateway that is this machine
abbrev pub counts_text : Journal → Faults → Setup → Machine → List ℕ
counts_text journal faults setup m = counts_with journal (lost_of_lines m setup.names.lines) faults
