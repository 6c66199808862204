use Rattle.connections.proofs.OrderLaws.{left_in_force}
use Rattle.connections.proofs.laws.what_both_have_is_in_force.Goals as goal

pub returns : goal.returns
returns c = left_in_force
