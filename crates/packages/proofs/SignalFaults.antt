-- S by the first fault of its entries.
use Rattle.std.proofs.Common.{◌≡◌, ℕ, ◌<◌, ◌≤◌, true, false, List, ◌∷◌, ◌++◌, length, map, ◌∙◌}
use Rattle.std.specs.Prelude.{Ok, Err, is_ok}
use Rattle.std.specs.List.{list_all}
use Rattle.packages.specs.declared.signals.SignalRequest.{SignalRequest}
use Rattle.packages.specs.Cuts.{entries}
use Rattle.packages.specs.Faults.{each_up_to}
use Rattle.packages.specs.SignalSpelling.{are_signals}
use Rattle.packages.specs.Signals.{most_signals, signal_entry, signals_in, signals_of}
use Rattle.packages.proofs.FaultLemmas.{misspelled, well_spelled, many_up_to, fault_up_to, whole_up_to}

signals_spelled : (value : List ℕ) → are_signals value ≡ true → signals_of value ≡ each_up_to most_signals signal_entry (entries value)
unfolding signals_of signals_in
signals_spelled value good = well_spelled (are_signals value) _ good

pub signals_misspelled : (value : List ℕ) → are_signals value ≡ false → signals_of value ≡ Err 510
unfolding signals_of signals_in
signals_misspelled value bad = misspelled (are_signals value) _ bad

pub signals_many : (value : List ℕ) → are_signals value ≡ true → most_signals < length (entries value) → signals_of value ≡ Err 502
signals_many value good many = signals_spelled value good ∙ many_up_to most_signals signal_entry (entries value) many

pub signals_fault : (value : List ℕ) (front rest : List (List ℕ)) (text : List ℕ) (code : ℕ) → are_signals value ≡ true
    → length (entries value) ≤ most_signals → entries value ≡ front ++ text ∷ rest
    → list_all (λ earlier. is_ok (signal_entry earlier)) front ≡ true → signal_entry text ≡ Err code → signals_of value ≡ Err code
signals_fault value front rest text code good few is before here =
    signals_spelled value good ∙ fault_up_to most_signals signal_entry (entries value) front rest text code few is before here

pub signals_all : (value : List ℕ) (requests : List SignalRequest) → are_signals value ≡ true → length requests ≤ most_signals
    → map signal_entry (entries value) ≡ map Ok requests → signals_of value ≡ Ok requests
signals_all value requests good few is =
    signals_spelled value good ∙ whole_up_to most_signals signal_entry (entries value) requests few is
