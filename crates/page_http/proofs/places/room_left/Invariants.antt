use Rattle.std.proofs.Common.{◌≡◌, drop}
use Rattle.page_http.specs.declared.places.TheConstants.{MOST_OF_ONE_HOST}
use Rattle.page_http.specs.Places.{room_from}
use Rattle.page_http.proofs.places.room_left.Given as goal

abbrev pub invariant-loop-held : goal.invariant-loop-held
invariant-loop-held l = room_from l.room l.host (drop l.held-index l.seats) ≡ room_from MOST_OF_ONE_HOST l.host l.seats
