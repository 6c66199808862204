use Rattle.message_counts.proofs.PlaceLemmas.{sends_sum}
use Rattle.message_counts.proofs.place_laws.sends_by_place_are_sums.Goals as goal

pub returns : goal.returns
returns c = sends_sum
