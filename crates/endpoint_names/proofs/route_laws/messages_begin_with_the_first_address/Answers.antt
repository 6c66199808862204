use Rattle.endpoint_names.proofs.RouteLemmas.{begins, alone}
use Rattle.endpoint_names.proofs.route_laws.messages_begin_with_the_first_address.Goals as goal

pub returns-clause-begins : goal.returns-clause-begins
returns-clause-begins c = begins

pub returns-clause-alone : goal.returns-clause-alone
returns-clause-alone c = alone
