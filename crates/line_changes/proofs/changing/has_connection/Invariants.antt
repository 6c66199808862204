use Rattle.std.proofs.Common.{◌≡◌, drop}
use Rattle.line_changes.specs.Changes.{has_connection}
use Rattle.line_changes.proofs.changing.has_connection.Given as goal

abbrev pub invariant-loop-other : goal.invariant-loop-other
invariant-loop-other l = has_connection (drop l.other-index l.list) l.connection ≡ has_connection l.list l.connection
