use Rattle.std.proofs.Common.{◌≡◌}
use Rattle.std.specs.List.{list_all}
use Rattle.digit_map.specs.Cuts.{parts_of}
use Rattle.digit_map.specs.Spelling.{is_part}
use Rattle.digit_map.proofs.spelling.all_parts.Given as goal

abbrev pub invariant-loop-part : goal.invariant-loop-part
invariant-loop-part l = list_all is_part l.part-iterator ≡ list_all is_part (parts_of l.text)
