use Rattle.message_counts.proofs.SentCountLemmas.{commands_sum, again_sum, answers_sum, given_sum, own_sum, line_sum}
use Rattle.message_counts.proofs.sent_laws.counts_are_sums.Goals as goal

pub returns-clause-commands : goal.returns-clause-commands
returns-clause-commands c = commands_sum

pub returns-clause-commands_again : goal.returns-clause-commands_again
returns-clause-commands_again c = again_sum

pub returns-clause-answers : goal.returns-clause-answers
returns-clause-answers c = answers_sum

pub returns-clause-again : goal.returns-clause-again
returns-clause-again c = given_sum

pub returns-clause-given_up_by_gateway : goal.returns-clause-given_up_by_gateway
returns-clause-given_up_by_gateway c = own_sum

pub returns-clause-given_up_by_lines : goal.returns-clause-given_up_by_lines
returns-clause-given_up_by_lines c = line_sum
