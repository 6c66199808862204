use Rattle.std.proofs.Common.{◌≡◌, drop}
use Rattle.std.specs.List.{list_any}
use Rattle.live_io.specs.Requests.{is_from}
use Rattle.live_io.proofs.requests.is_from_any.Given as goal

abbrev pub invariant-loop-socket : goal.invariant-loop-socket
invariant-loop-socket l = list_any (is_from l.sender) (drop l.socket-index l.own) ≡ list_any (is_from l.sender) l.own
