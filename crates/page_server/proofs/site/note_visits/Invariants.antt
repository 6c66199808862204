use Rattle.std.proofs.Common.{◌≡◌, ◌++◌, take, drop, map}
use Rattle.page_server.specs.Receiving.{visitor_in, noted_each}
use Rattle.page_server.proofs.site.note_visits.Given as goal

abbrev pub invariant-loop-place : goal.invariant-loop-place
invariant-loop-place l =
    map visitor_in (take l.place-index l.places) ++ noted_each (map visitor_in (drop l.place-index l.places)) l.left
    ≡ noted_each (map visitor_in l.fn.places) l.visits
