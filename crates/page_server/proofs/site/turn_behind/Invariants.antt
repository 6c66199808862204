use Rattle.std.proofs.Common.{◌≡◌, drop}
use Rattle.page_server.specs.Waiting.{turn_from}
use Rattle.page_server.proofs.site.turn_behind.Given as goal

abbrev pub invariant-loop-place : goal.invariant-loop-place
invariant-loop-place l = turn_from l.last l.place (drop l.place l.places) ≡ turn_from l.last 0 l.places
