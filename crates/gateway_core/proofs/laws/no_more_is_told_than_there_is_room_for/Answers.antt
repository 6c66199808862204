use Rattle.gateway_core.proofs.TextLemmas.{few_outcomes}
use Rattle.gateway_core.proofs.laws.no_more_is_told_than_there_is_room_for.Goals as goal

pub returns : goal.returns
returns c = few_outcomes
