use Rattle.std.proofs.Common.{◌≡◌, take, map}
use Rattle.transmission.specs.Confirming.{span_of}
use Rattle.transmission.proofs.confirming.spans_of.Given as goal

abbrev pub invariant-loop-range : goal.invariant-loop-range
invariant-loop-range l = l.spans.items ≡ map span_of (take l.range-index l.range-items)
