use Rattle.message_counts.proofs.PlaceLemmas.{list_sends}
use Rattle.message_counts.proofs.place_laws.a_list_is_counted_by_place_as_all_that_it_sends.Goals as goal

pub returns : goal.returns
returns c = list_sends
