use Rattle.std.proofs.Common.{◌≡◌, drop}
use Rattle.page_http.specs.Places.{free_from}
use Rattle.page_http.proofs.places.free_place.Given as goal

abbrev pub invariant-loop-place : goal.invariant-loop-place
invariant-loop-place l = free_from l.place (drop l.place l.seats) ≡ free_from 0 l.seats
