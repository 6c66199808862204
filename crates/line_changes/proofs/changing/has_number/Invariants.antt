use Rattle.std.proofs.Common.{◌≡◌, drop}
use Rattle.line_changes.specs.Changes.{has_number}
use Rattle.line_changes.proofs.changing.has_number.Given as goal

abbrev pub invariant-loop-other : goal.invariant-loop-other
invariant-loop-other l = has_number (drop l.other-index l.list) l.number ≡ has_number l.list l.number
