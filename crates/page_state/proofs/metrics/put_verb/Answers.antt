use Rattle.page_state.specs.Metrics.{verb_sample}
use Rattle.page_state.proofs.metrics.put_verb.Goals as goal

pub returns : goal.returns
unfolding verb_sample
returns c = rw (← c.verb_word.ensures) (rw (← c.as_bytes-verb.ensures.value) c.put_labelled.ensures)
