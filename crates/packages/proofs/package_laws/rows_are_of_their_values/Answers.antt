use Rattle.packages.proofs.TableLaws.{package_of_row, signal_of_row, event_of_row}
use Rattle.packages.proofs.package_laws.rows_are_of_their_values.Goals as goal

pub returns : goal.returns
returns c = record { packages = package_of_row; signals = signal_of_row; events = event_of_row }
