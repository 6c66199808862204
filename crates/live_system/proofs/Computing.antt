-- The definitions opened, so that worked examples compute.
use Rattle.std.specs.Prelude.{⊤}
use Rattle.mg_bytes.proofs.Computing.{on_examples as byte_examples}
use Rattle.log_format.specs.Escaping.{shown}
use Rattle.live_system.specs.AddressWords.{word_text}
use Rattle.live_system.specs.Addresses.{local_port}
use Rattle.live_system.specs.Ending.{ending_text}
use Rattle.live_system.specs.Looking.{may_have_more}
use Rattle.live_system.specs.NetworkFaults.{wanted_by}

unfoldable pub on_examples : ⊤
unfolding byte_examples shown ending_text may_have_more word_text local_port wanted_by
on_examples = tt
