use Rattle.digit_map.proofs.WordLaws.{words_computed}
use Rattle.digit_map.proofs.laws.words_are_computed.Goals as goal

pub returns : goal.returns
returns c = words_computed
