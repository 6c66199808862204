-- The definitions opened, so that worked examples compute.
use Rattle.std.specs.Prelude.{⊤}
use Rattle.mg_bytes.proofs.Computing.{on_examples as byte_examples}
use Rattle.mgcp_text.specs.Parts.{parts_of}
use Rattle.mgcp_text.specs.Packing.{packed_behind}

unfoldable pub on_examples : ⊤
unfolding byte_examples parts_of packed_behind
on_examples = tt
