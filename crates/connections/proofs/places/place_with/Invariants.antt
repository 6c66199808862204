use Rattle.std.proofs.Common.{◌≡◌, drop}
use Rattle.connections.specs.Places.{holds_id, place_from, place_where}
use Rattle.connections.proofs.places.place_with.Given as goal

abbrev pub invariant-loop-place : goal.invariant-loop-place
invariant-loop-place l = place_from l.place (holds_id l.id) (drop l.place l.places) ≡ place_where (holds_id l.id) l.places
