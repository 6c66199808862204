use Rattle.std.proofs.Common.{◌≡◌, ◌++◌, drop}
use Rattle.digit_map.specs.Reading.{without_blanks}
use Rattle.digit_map.proofs.map_text.without_blanks.Given as goal

abbrev pub invariant-loop-byte : goal.invariant-loop-byte
invariant-loop-byte l = l.bare.items ++ without_blanks (drop l.byte-index l.text) ≡ without_blanks l.text
