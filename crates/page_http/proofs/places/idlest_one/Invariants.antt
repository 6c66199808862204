use Rattle.std.proofs.Common.{◌≡◌, drop}
use Rattle.std.specs.Prelude.{None}
use Rattle.page_http.specs.Places.{idlest_from}
use Rattle.page_http.proofs.places.idlest_one.Given as goal

abbrev pub invariant-loop-place : goal.invariant-loop-place
invariant-loop-place l = idlest_from l.place l.host l.found (drop l.place l.seats) ≡ idlest_from 0 l.host None l.seats
