-- The definitions opened, so that worked examples compute.
use Rattle.std.specs.Prelude.{⊤}
use Rattle.told_messages.proofs.Computing.{on_examples as told_examples}

unfoldable pub on_examples : ⊤
unfolding told_examples
on_examples = tt
