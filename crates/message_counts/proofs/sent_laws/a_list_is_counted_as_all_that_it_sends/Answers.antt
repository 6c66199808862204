use Rattle.message_counts.proofs.SentCountLemmas.{list_counts}
use Rattle.message_counts.proofs.sent_laws.a_list_is_counted_as_all_that_it_sends.Goals as goal

pub returns : goal.returns
returns c = list_counts
