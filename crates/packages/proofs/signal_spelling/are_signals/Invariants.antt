use Rattle.std.proofs.Common.{◌≡◌}
use Rattle.std.specs.List.{list_all}
use Rattle.packages.specs.Cuts.{entries}
use Rattle.packages.specs.SignalSpelling.{is_signal_entry}
use Rattle.packages.proofs.signal_spelling.are_signals.Given as goal

abbrev pub invariant-loop-entry : goal.invariant-loop-entry
invariant-loop-entry l = list_all is_signal_entry l.entry-iterator ≡ list_all is_signal_entry (entries l.value)
