-- The definitions opened, so that worked examples compute.
use Rattle.std.specs.Prelude.{⊤}
use Rattle.mg_bytes.proofs.Computing.{on_examples as byte_examples}
use Rattle.page_state.specs.Verbs.{verb_word}

unfoldable pub on_examples : ⊤
unfolding byte_examples verb_word
on_examples = tt
