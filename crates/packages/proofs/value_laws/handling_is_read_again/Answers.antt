use Rattle.packages.proofs.HandlingLaws.{handling_again}
use Rattle.packages.proofs.value_laws.handling_is_read_again.Goals as goal

pub returns : goal.returns
returns c = handling_again
