use Rattle.world_laws.proofs.AnswersOnce.{answers_are_landings, answer_is_the_first}
use Rattle.world_laws.proofs.laws.an_answer_is_the_first_final_response_in_flight.Goals as goal

pub returns-clause-all : goal.returns-clause-all
returns-clause-all c = answers_are_landings

pub returns-clause-first : goal.returns-clause-first
returns-clause-first c = answer_is_the_first
