use Rattle.std.proofs.Common.{◌≡◌, ◌++◌, drop}
use Rattle.call_processing.specs.Numbers.{digits_of}
use Rattle.call_processing.proofs.told.put_digits.Given as goal

abbrev pub invariant-loop-one : goal.invariant-loop-one
invariant-loop-one l = l.digits.items ++ digits_of (drop l.one-index l.observed) ≡ l.fn.digits.items ++ digits_of l.observed
