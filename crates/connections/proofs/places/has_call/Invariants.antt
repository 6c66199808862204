use Rattle.std.proofs.Common.{◌≡◌, drop}
use Rattle.std.specs.List.{list_any}
use Rattle.connections.specs.Places.{holds_call}
use Rattle.connections.proofs.places.has_call.Given as goal

abbrev pub invariant-loop-held : goal.invariant-loop-held
invariant-loop-held l = list_any (holds_call l.call) (drop l.held-index l.places) ≡ list_any (holds_call l.call) l.places
