use Rattle.page_state.specs.Metrics.{gauges_text}
use Rattle.page_state.proofs.metrics.put_gauges.Goals as goal

pub returns : goal.returns
unfolding gauges_text
returns c = rw (← c.number_if.ensures) c.put_singles.ensures
