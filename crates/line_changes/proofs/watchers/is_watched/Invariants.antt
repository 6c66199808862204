use Rattle.std.proofs.Common.{◌≡◌, drop}
use Rattle.line_changes.specs.Watching.{is_watched}
use Rattle.line_changes.proofs.watchers.is_watched.Given as goal

abbrev pub invariant-loop-held : goal.invariant-loop-held
invariant-loop-held l = is_watched l.now (drop l.held-index l.places) ≡ is_watched l.now l.places
