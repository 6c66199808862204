use Rattle.std.proofs.Common.{◌≡◌, drop}
use Rattle.line_changes.specs.Changes.{has_signal}
use Rattle.line_changes.proofs.changing.has_signal.Given as goal

abbrev pub invariant-loop-other : goal.invariant-loop-other
invariant-loop-other l = has_signal (drop l.other-index l.list) l.signal ≡ has_signal l.list l.signal
