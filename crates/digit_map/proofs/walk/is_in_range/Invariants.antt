use Rattle.std.proofs.Common.{◌≡◌}
use Rattle.digit_map.specs.Cuts.{parts_of}
use Rattle.digit_map.specs.Words.{names}
use Rattle.std.specs.List.{list_any}
use Rattle.digit_map.proofs.walk.is_in_range.Given as goal

abbrev pub invariant-loop-part : goal.invariant-loop-part
invariant-loop-part l =
    list_any (λ part. names part l.letter) l.part-iterator ≡ list_any (λ part. names part l.letter) (parts_of l.range)
