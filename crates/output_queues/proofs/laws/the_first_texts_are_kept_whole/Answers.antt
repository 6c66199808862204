use Rattle.output_queues.proofs.BacklogLaws.{kept, counted, few}
use Rattle.output_queues.proofs.laws.the_first_texts_are_kept_whole.Goals as goal

pub returns-clause-kept : goal.returns-clause-kept
returns-clause-kept c = kept

pub returns-clause-counted : goal.returns-clause-counted
returns-clause-counted c = counted

pub returns-clause-few : goal.returns-clause-few
returns-clause-few c = few
