-- The definitions opened, so that worked examples compute.
use Rattle.std.specs.Prelude.{⊤}
use Rattle.mg_bytes.proofs.Computing.{on_examples as byte_examples}
use Rattle.std.specs.Net.Addr.{ipv4_bits}
use Rattle.live_io.specs.Requests.{outcomes, counts, requests_from}
use Rattle.live_io.specs.Speaking.{bare_address_of, host_of, bits_of, network_of, networks_from, admitted_in}

unfoldable pub on_examples : ⊤
unfolding byte_examples outcomes counts requests_from ipv4_bits bare_address_of host_of bits_of network_of networks_from admitted_in
on_examples = tt
