use Rattle.connections.proofs.LifeLaws.{other_port}
use Rattle.connections.proofs.laws.two_places_have_two_ports.Goals as goal

pub returns : goal.returns
returns c = other_port
