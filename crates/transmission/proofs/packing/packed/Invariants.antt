use Rattle.std.proofs.Common.{◌≡◌, ◌++◌}
use Rattle.std.specs.Vec.Iter.{into_iter_items}
use Rattle.transmission.specs.Packing.{packed, packed_after}
use Rattle.transmission.proofs.packing.packed.Given as goal

abbrev pub invariant-loop-next : goal.invariant-loop-next
invariant-loop-next l = l.outputs.items ++ packed_after l.begun (into_iter_items l.next-iterator) ≡ packed l.fn.sent.items
