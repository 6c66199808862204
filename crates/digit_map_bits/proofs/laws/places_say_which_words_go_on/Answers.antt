use Rattle.digit_map_bits.proofs.MarkLaws.{words_go_on}
use Rattle.digit_map_bits.proofs.laws.places_say_which_words_go_on.Goals as goal

pub returns : goal.returns
returns c = words_go_on
