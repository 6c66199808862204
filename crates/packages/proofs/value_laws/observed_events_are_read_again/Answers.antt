use Rattle.packages.proofs.ObservedLaws.{observed_again}
use Rattle.packages.proofs.value_laws.observed_events_are_read_again.Goals as goal

pub returns : goal.returns
returns c = observed_again
