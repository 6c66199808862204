use Rattle.page_state.specs.Metrics.{file_sample}
use Rattle.page_state.proofs.metrics.put_file.Goals as goal

pub returns : goal.returns
unfolding file_sample
returns c = rw (← c.as_slice.ensures.value) c.put_labelled.ensures
