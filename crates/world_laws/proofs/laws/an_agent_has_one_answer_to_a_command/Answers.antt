use Rattle.world_laws.proofs.AnswersOnce.{answered_once, landed_is, nothing_else, answers_stay}
use Rattle.world_laws.proofs.laws.an_agent_has_one_answer_to_a_command.Goals as goal

pub returns-clause-once : goal.returns-clause-once
returns-clause-once c = answered_once

pub returns-clause-landed : goal.returns-clause-landed
returns-clause-landed c = landed_is

pub returns-clause-nothing_else : goal.returns-clause-nothing_else
returns-clause-nothing_else c = nothing_else

pub returns-clause-stays : goal.returns-clause-stays
returns-clause-stays c = answers_stay
