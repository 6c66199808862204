use Rattle.std.proofs.Common.{◌≡◌, drop}
use Rattle.line_changes.specs.Watching.{first_asked}
use Rattle.line_changes.proofs.watchers.first_asked.Given as goal

abbrev pub invariant-loop-held : goal.invariant-loop-held
invariant-loop-held l = first_asked l.first (drop l.held-index l.places) ≡ first_asked l.now l.places
