use Rattle.packages.proofs.SignalFaults.{signals_misspelled, signals_many, signals_fault, signals_all}
use Rattle.packages.proofs.value_laws.the_first_fault_counts.Goals as goal

pub returns : goal.returns
returns c = record { spelling = signals_misspelled; number = signals_many; entry = signals_fault; all = signals_all }
