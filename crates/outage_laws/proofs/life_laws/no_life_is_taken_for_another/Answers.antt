use Rattle.outage_laws.proofs.ApartLaws.{gateways_have_begun, lines_have_begun, none_is_answered_for_another, none_is_taken_for_another}
use Rattle.outage_laws.proofs.life_laws.no_life_is_taken_for_another.Goals as goal

pub returns-clause-repeats : goal.returns-clause-repeats
returns-clause-repeats c = none_is_taken_for_another

pub returns-clause-answers : goal.returns-clause-answers
returns-clause-answers c = none_is_answered_for_another

pub returns-clause-in_flight : goal.returns-clause-in_flight
returns-clause-in_flight c = lines_have_begun

pub returns-clause-own_in_flight : goal.returns-clause-own_in_flight
returns-clause-own_in_flight c = gateways_have_begun
