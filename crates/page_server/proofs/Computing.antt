-- The definitions opened, so that worked examples compute.
use Rattle.std.specs.Prelude.{⊤}
use Rattle.mg_bytes.proofs.Computing.{on_examples as byte_examples}
use Rattle.live_system.specs.Looking.{may_have_more}
use Rattle.page_server.specs.Receiving.{noted_each}
use Rattle.page_server.specs.Waiting.{soonest_from, turn_from}

unfoldable pub on_examples : ⊤
unfolding byte_examples may_have_more soonest_from turn_from noted_each
on_examples = tt
