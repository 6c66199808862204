use Rattle.std.proofs.Common.{◌≡◌, drop}
use Rattle.line_changes.specs.Watching.{is_free, place_where}
use Rattle.line_changes.proofs.watchers.free_place.Given as goal

abbrev pub invariant-loop-place : goal.invariant-loop-place
invariant-loop-place l = place_where (is_free l.now) l.place (drop l.place l.places) ≡ place_where (is_free l.now) 0 l.places
