use Rattle.std.proofs.Common.{◌≡◌}
use Rattle.std.specs.List.{list_all}
use Rattle.digit_map.specs.Cuts.{strings_of}
use Rattle.digit_map.specs.Spelling.{is_string}
use Rattle.digit_map.proofs.spelling.is_map.Given as goal

abbrev pub invariant-loop-string : goal.invariant-loop-string
invariant-loop-string l = list_all is_string l.string-iterator ≡ list_all is_string (strings_of l.text)
