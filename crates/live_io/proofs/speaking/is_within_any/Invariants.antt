use Rattle.std.proofs.Common.{◌≡◌, drop}
use Rattle.std.specs.List.{list_any}
use Rattle.live_io.specs.Speaking.{is_within}
use Rattle.live_io.proofs.speaking.is_within_any.Given as goal

abbrev pub invariant-loop-network : goal.invariant-loop-network
invariant-loop-network l = list_any (is_within l.host) (drop l.network-index l.networks) ≡ list_any (is_within l.host) l.networks
