-- The definitions opened, so that worked examples compute.
use Rattle.std.specs.Prelude.{⊤}
use Rattle.mgcp_text.proofs.Computing.{on_examples as text_examples}
use Rattle.transmission.proofs.HistoryComputing.{on_examples as history_examples}
use Rattle.transmission.specs.Texts.{texts_of}
use Rattle.transmission.specs.Packing.{packed_after}

unfoldable pub on_examples : ⊤
unfolding text_examples history_examples texts_of packed_after
on_examples = tt
