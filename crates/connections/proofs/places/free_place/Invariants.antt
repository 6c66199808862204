use Rattle.std.proofs.Common.{◌≡◌, drop}
use Rattle.connections.specs.Places.{is_free, place_from, place_where}
use Rattle.connections.proofs.places.free_place.Given as goal

abbrev pub invariant-loop-place : goal.invariant-loop-place
invariant-loop-place l = place_from l.place is_free (drop l.place l.places) ≡ place_where is_free l.places
