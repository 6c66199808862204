-- The definitions opened, so that worked examples compute.
use Rattle.std.specs.Prelude.{⊤}
use Rattle.mg_bytes.proofs.Computing.{on_examples as bytes_examples}
use Rattle.digit_map.specs.Cuts.{strings_of, pieces, positions_of, set_of, parts_of}
use Rattle.digit_map.specs.Spelling.{is_position, is_string, is_map}
use Rattle.digit_map.specs.Reading.{map_of}
use Rattle.digit_map.specs.Change.{change_of}
use Rattle.digit_map.specs.Words.{has_letter, spells, is_word, is_begun}
use Rattle.digit_map.specs.Verdict.{verdict_of, is_critical}
use Rattle.digit_map.specs.Rows.{moved}

unfoldable pub on_examples : ⊤
unfolding bytes_examples strings_of pieces positions_of set_of parts_of is_position is_string is_map map_of change_of has_letter spells is_word is_begun verdict_of is_critical moved
on_examples = tt
