-- The definitions opened, so that worked examples compute.
use Rattle.std.specs.Prelude.{⊤}
use Rattle.packages.proofs.PackageComputing.{on_examples as packages_examples}
use Rattle.packages.proofs.CutComputing.{on_examples as cut_examples}
use Rattle.packages.specs.SignalSpelling.{is_signal, is_signal_entry, are_signals}
use Rattle.packages.specs.Signals.{time_in, asked_by, setting_of, signal_called, signal_entry, signals_in, signals_of, signal_entry_text, signals_text, are_writable_signals}
use Rattle.packages.specs.Handling.{handling_of, handling_text}
use Rattle.packages.specs.Observed.{observed_entry, observed_of, observed_entry_text, observed_text, are_writable_observed}

unfoldable pub on_examples : ⊤
unfolding packages_examples cut_examples is_signal is_signal_entry are_signals time_in asked_by setting_of signal_called signal_entry signals_in signals_of signal_entry_text signals_text are_writable_signals handling_of handling_text observed_entry observed_of observed_entry_text observed_text are_writable_observed
on_examples = tt
