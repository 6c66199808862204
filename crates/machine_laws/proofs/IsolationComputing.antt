-- The definitions opened, so that worked examples compute.
use Rattle.std.specs.Prelude.{⊤}
use Rattle.plain_machine.proofs.Computing.{on_examples as machine_examples}
use Rattle.machine_laws.specs.Apart.{none_lost}

unfoldable pub on_examples : ⊤
unfolding machine_examples none_lost
on_examples = tt
