use Rattle.std.proofs.Common.{◌≡◌, ◌++◌, map, take}
use Rattle.mg_bytes.specs.Letter.{all_letters, byte_of}
use Rattle.event_syntax.specs.Ranges.{chosen}
use Rattle.event_syntax.proofs.range.put_each.Given as goal

abbrev pub invariant-loop-place : goal.invariant-loop-place
invariant-loop-place l = l.out.items ≡ l.fn.out.items ++ map byte_of (chosen (take l.place l.set) (take l.place all_letters))
