use Rattle.live_play.proofs.ExampleLemmas.{none_is_noted, lost_is_noted, second_is_noted, second_is_said, none_stays, none_is_far, none_is_told, one_is_marked}
use Rattle.live_play.proofs.examples.what_is_noted_is_what_an_outlet_said.Goals as goal

pub returns-clause-none : goal.returns-clause-none
returns-clause-none c = none_is_noted

pub returns-clause-lost : goal.returns-clause-lost
returns-clause-lost c = lost_is_noted

pub returns-clause-second : goal.returns-clause-second
returns-clause-second c = second_is_noted

pub returns-clause-said : goal.returns-clause-said
returns-clause-said c = second_is_said

pub returns-clause-stays : goal.returns-clause-stays
returns-clause-stays c = none_stays

pub returns-clause-far : goal.returns-clause-far
returns-clause-far c = none_is_far

pub returns-clause-told : goal.returns-clause-told
returns-clause-told c = none_is_told

pub returns-clause-marked : goal.returns-clause-marked
returns-clause-marked c = one_is_marked
