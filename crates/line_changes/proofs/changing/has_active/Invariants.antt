use Rattle.std.proofs.Common.{◌≡◌, drop}
use Rattle.line_changes.specs.Changes.{has_active}
use Rattle.line_changes.proofs.changing.has_active.Given as goal

abbrev pub invariant-loop-other : goal.invariant-loop-other
invariant-loop-other l = has_active (drop l.other-index l.list) l.active ≡ has_active l.list l.active
