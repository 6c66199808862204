-- The definitions opened, so that worked examples compute.
use Rattle.std.specs.Prelude.{⊤}
use Rattle.mg_bytes.proofs.Computing.{on_examples as byte_examples}
use Rattle.log_format.specs.Grouping.{grouped}

unfoldable pub on_examples : ⊤
unfolding byte_examples grouped
on_examples = tt
