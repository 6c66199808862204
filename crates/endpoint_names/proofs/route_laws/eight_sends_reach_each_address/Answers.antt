use Rattle.endpoint_names.proofs.RouteLemmas.{reached}
use Rattle.endpoint_names.proofs.route_laws.eight_sends_reach_each_address.Goals as goal

pub returns : goal.returns
returns c = reached
