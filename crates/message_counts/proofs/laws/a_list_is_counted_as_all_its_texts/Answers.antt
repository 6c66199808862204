use Rattle.message_counts.proofs.CountLemmas.{list_counts}
use Rattle.message_counts.proofs.laws.a_list_is_counted_as_all_its_texts.Goals as goal

pub returns : goal.returns
returns c = list_counts
