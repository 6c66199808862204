use Rattle.std.proofs.Common.{◌≡◌, ◌++◌, take, drop, map}
use Rattle.page_server.specs.Waiting.{stays_at}
use Rattle.page_server.proofs.site.Site.close_late.Given as goal

abbrev pub invariant-loop-place : goal.invariant-loop-place
invariant-loop-place l =
    take l.place-index l.place-items ++ map (stays_at l.now) (drop l.place-index l.place-items) ≡ map (stays_at l.now) l.fn.self.places.items
