use Rattle.std.proofs.Common.{◌≡◌}
use Rattle.std.specs.List.{list_all}
use Rattle.digit_map.specs.Cuts.{positions_of}
use Rattle.digit_map.specs.Spelling.{is_position}
use Rattle.digit_map.proofs.spelling.all_positions.Given as goal

abbrev pub invariant-loop-position : goal.invariant-loop-position
invariant-loop-position l = list_all is_position l.position-iterator ≡ list_all is_position (positions_of l.text)
