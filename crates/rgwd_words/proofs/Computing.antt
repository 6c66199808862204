-- The definitions opened, so that worked examples compute.
use Rattle.std.specs.Prelude.{⊤}
use Rattle.mg_bytes.proofs.Computing.{on_examples as byte_examples}
use Rattle.live_system.specs.Addresses.{local_port}
use Rattle.rgwd_words.specs.Texts.{ending_text}

unfoldable pub on_examples : ⊤
unfolding byte_examples local_port ending_text
on_examples = tt
