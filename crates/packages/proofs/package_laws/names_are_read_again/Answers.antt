use Rattle.packages.proofs.TableLaws.{signal_again, event_again}
use Rattle.packages.proofs.package_laws.names_are_read_again.Goals as goal

pub returns : goal.returns
returns c = record { signals = signal_again; events = event_again }
