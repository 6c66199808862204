use Rattle.endpoint_names.proofs.RouteLemmas.{within}
use Rattle.endpoint_names.proofs.route_laws.sends_go_to_addresses_of_their_route.Goals as goal

pub returns : goal.returns
returns c = within
