use Rattle.machine_laws.proofs.LineDeeds.{chosen_place, chosen_least, none_chosen}
use Rattle.machine_laws.proofs.connection_laws.the_line_that_is_chosen_is_the_least_with_a_place.Goals as goal

pub returns-clause-place : goal.returns-clause-place
returns-clause-place c = chosen_place

pub returns-clause-least : goal.returns-clause-least
returns-clause-least c = chosen_least

pub returns-clause-none : goal.returns-clause-none
returns-clause-none c = none_chosen
