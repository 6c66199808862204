use Rattle.std.proofs.Common.{◌≡◌, ◌++◌, drop, map}
use Rattle.page_server.specs.Receiving.{seat_in}
use Rattle.page_server.proofs.site.Site.place_for.Given as goal

abbrev pub invariant-loop-place : goal.invariant-loop-place
invariant-loop-place l = l.seats.items ++ map seat_in (drop l.place-index l.place-items) ≡ map seat_in l.self.places.items
