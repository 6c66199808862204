use Rattle.endpoint_names.proofs.RouteLemmas.{again, listed, none_of}
use Rattle.endpoint_names.proofs.route_laws.routes_are_lists_of_one_to_four.Goals as goal

pub returns-clause-again : goal.returns-clause-again
returns-clause-again c = again

pub returns-clause-all : goal.returns-clause-all
returns-clause-all c = listed

pub returns-clause-none : goal.returns-clause-none
returns-clause-none c = none_of
