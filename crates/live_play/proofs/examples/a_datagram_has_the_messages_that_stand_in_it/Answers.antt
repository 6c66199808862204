use Rattle.live_play.proofs.ExampleLemmas.{each_has_one, one_has_both, second_is_behind}
use Rattle.live_play.proofs.examples.a_datagram_has_the_messages_that_stand_in_it.Goals as goal

pub returns-clause-apart : goal.returns-clause-apart
returns-clause-apart c = each_has_one

pub returns-clause-together : goal.returns-clause-together
returns-clause-together c = one_has_both

pub returns-clause-behind : goal.returns-clause-behind
returns-clause-behind c = second_is_behind
