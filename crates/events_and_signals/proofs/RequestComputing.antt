-- The definitions opened, so that worked examples compute.
use Rattle.std.specs.Prelude.{⊤}
use Rattle.event_syntax.proofs.RequestComputing.{on_examples as syntax_examples}
use Rattle.events_and_signals.specs.Naming.{names}
use Rattle.events_and_signals.specs.Choice.{chosen, is_kept}
use Rattle.events_and_signals.specs.Maps.{lacks_map}

unfoldable pub on_examples : ⊤
unfolding syntax_examples names chosen is_kept lacks_map
on_examples = tt
