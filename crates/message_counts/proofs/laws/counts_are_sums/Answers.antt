use Rattle.message_counts.proofs.CountLemmas.{commands_sum, responses_sum, others_sum, lost_sum}
use Rattle.message_counts.proofs.laws.counts_are_sums.Goals as goal

pub returns-clause-commands : goal.returns-clause-commands
returns-clause-commands c = commands_sum

pub returns-clause-responses : goal.returns-clause-responses
returns-clause-responses c = responses_sum

pub returns-clause-others : goal.returns-clause-others
returns-clause-others c = others_sum

pub returns-clause-lost : goal.returns-clause-lost
returns-clause-lost c = lost_sum
