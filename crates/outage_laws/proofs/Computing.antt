-- The definitions opened, so that worked examples compute.
use Rattle.std.specs.Prelude.{⊤}
use Rattle.world_laws.proofs.Computing.{on_examples as world_examples}
use Rattle.outage_laws.specs.Lives.{lived, lived_refusal, lives_after, lives_are_taken}
use Rattle.outage_laws.specs.Apart.{keeps_pace, taken_after}

unfoldable pub on_examples : ⊤
unfolding world_examples lived lived_refusal lives_after lives_are_taken keeps_pace taken_after
on_examples = tt
