-- The definitions opened, so that worked examples compute.
use Rattle.std.specs.Prelude.{⊤}
use Rattle.packages.proofs.ValueComputing.{on_examples as syntax_examples}
use Rattle.events_and_signals.specs.Held.{holding}
use Rattle.events_and_signals.specs.Given.{held_after, given_back}

unfoldable pub on_examples : ⊤
unfolding syntax_examples holding held_after given_back
on_examples = tt
