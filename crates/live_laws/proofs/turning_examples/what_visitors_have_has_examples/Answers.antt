use Rattle.live_laws.proofs.TurnExampleLemmas.{nobody_served}
use Rattle.live_laws.proofs.turning_examples.what_visitors_have_has_examples.Goals as goal

pub returns-clause-unserved : goal.returns-clause-unserved
returns-clause-unserved c = nobody_served
