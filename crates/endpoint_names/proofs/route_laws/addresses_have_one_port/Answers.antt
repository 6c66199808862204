use Rattle.endpoint_names.proofs.RouteLemmas.{one_port}
use Rattle.endpoint_names.proofs.route_laws.addresses_have_one_port.Goals as goal

pub returns : goal.returns
returns c = one_port
