use Rattle.packages.proofs.SignalLaws.{signals_again}
use Rattle.packages.proofs.value_laws.signals_are_read_again.Goals as goal

pub returns : goal.returns
returns c = signals_again
