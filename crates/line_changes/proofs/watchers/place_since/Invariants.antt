use Rattle.std.proofs.Common.{◌≡◌, drop}
use Rattle.line_changes.specs.Watching.{has_asked_by, place_where}
use Rattle.line_changes.proofs.watchers.place_since.Given as goal

abbrev pub invariant-loop-place : goal.invariant-loop-place
invariant-loop-place l = place_where (has_asked_by l.moment) l.place (drop l.place l.places) ≡ place_where (has_asked_by l.moment) 0 l.places
