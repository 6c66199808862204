use Rattle.std.proofs.Common.{◌≡◌, ◌+◌, length}
use Rattle.gateway_core.specs.Outgoing.{dot_line, count_within}
use Rattle.gateway_core.proofs.outgoing.count_own.Given as goal

-- those that were counted and those that are left have room are all that have it
abbrev pub invariant-loop-left : goal.invariant-loop-left
invariant-loop-left l = record {
  count : l.count + count_within l.room l.left ≡ count_within (l.bytes + dot_line) l.sent;
  most : l.count + length l.left ≡ length l.sent;
}

abbrev pub decreases-loop-left : goal.decreases-loop-left
decreases-loop-left l = length l.left
