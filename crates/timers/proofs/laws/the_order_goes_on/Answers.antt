use Rattle.timers.proofs.LeastLemmas.{before_further, not_before_back}
use Rattle.timers.proofs.laws.the_order_goes_on.Goals as goal

pub returns-clause-further : goal.returns-clause-further
returns-clause-further c = before_further

pub returns-clause-not_back : goal.returns-clause-not_back
returns-clause-not_back c = not_before_back
