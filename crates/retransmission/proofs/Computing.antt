-- The definitions opened, so that worked examples compute.
use Rattle.std.specs.Prelude.{⊤}
use Rattle.endpoint_names.proofs.RouteComputing.{on_examples as route_examples}
use Rattle.retransmission.specs.Sends.{repeats_in, due_of}
use Rattle.retransmission.specs.Flight.{repeated, heard}
use Rattle.retransmission.specs.Life.{resent, resent_to, is_answered}
use Rattle.retransmission.specs.PendingExample.{told}

unfoldable pub on_examples : ⊤
unfolding route_examples repeats_in due_of repeated heard resent resent_to is_answered told
on_examples = tt
