use Rattle.machine_laws.proofs.NumberLaws.{ports_apart}
use Rattle.machine_laws.proofs.connection_laws.two_connections_never_share_a_port.Goals as goal

pub returns : goal.returns
returns c = ports_apart
