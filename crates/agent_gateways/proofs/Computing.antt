-- The definitions opened, so that worked examples compute.
use Rattle.std.specs.Prelude.{⊤}
use Rattle.retransmission.proofs.Computing.{on_examples as send_examples}
use Rattle.line_control.proofs.Computing.{on_examples as office_examples}
use Rattle.agent_gateways.specs.Ended.{ended_of}
use Rattle.agent_gateways.specs.Flights.{falls}
use Rattle.agent_gateways.specs.Steps.{cares_announced, exchange_announced}
use Rattle.agent_gateways.specs.Typed.{typed_from}

unfoldable pub on_examples : ⊤
unfolding office_examples send_examples falls ended_of cares_announced exchange_announced typed_from
on_examples = tt
