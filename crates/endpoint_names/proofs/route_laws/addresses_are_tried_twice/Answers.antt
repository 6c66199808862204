use Rattle.endpoint_names.proofs.RouteLemmas.{twice}
use Rattle.endpoint_names.proofs.route_laws.addresses_are_tried_twice.Goals as goal

pub returns : goal.returns
returns c = twice
