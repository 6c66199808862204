use Rattle.std.proofs.Common.{◌≡◌, drop}
use Rattle.connections.specs.Places.{holds_both, place_from, place_where}
use Rattle.connections.proofs.places.place_in.Given as goal

abbrev pub invariant-loop-place : goal.invariant-loop-place
invariant-loop-place l = place_from l.place (holds_both l.call l.id) (drop l.place l.places) ≡ place_where (holds_both l.call l.id) l.places
