-- The definitions opened, so that worked examples compute.
use Rattle.std.specs.Prelude.{⊤}
use Rattle.mg_bytes.proofs.Computing.{on_examples as byte_examples}
use Rattle.traces.specs.Words.{first_in, spread_in}

unfoldable pub on_examples : ⊤
unfolding byte_examples first_in spread_in
on_examples = tt
