use Rattle.message_counts.proofs.WaitingLemmas.{owed_on, owed_last}
use Rattle.message_counts.proofs.place_laws.an_agent_owes_an_answer_since_the_first_command_from_its_last_response_on.Goals as goal

pub returns-clause-answered : goal.returns-clause-answered
returns-clause-answered c = owed_last

pub returns-clause-unanswered : goal.returns-clause-unanswered
returns-clause-unanswered c = owed_on
