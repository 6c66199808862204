-- The definitions opened, so that worked examples compute.
use Rattle.std.specs.Prelude.{⊤}
use Rattle.page_state.proofs.MetricsComputing.{on_examples as metric_examples}
use Rattle.page_state.specs.Keeping.{latest_said}

unfoldable pub on_examples : ⊤
unfolding metric_examples latest_said
on_examples = tt
