-- What is dialled in the worked examples.
use Rattle.std.specs.Prelude.{ℕ, Bool, List, filter, filter_map}
use Rattle.std.specs.List.{repeat}
use Rattle.mg_bytes.specs.declared.letter.Letter.{Letter}
use Rattle.mg_bytes.specs.Letter.{letter_of, all_letters}
use Rattle.digit_map.specs.declared.verdict.Verdict.{Verdict}
use Rattle.digit_map.specs.Words.{has_letter}
use Rattle.digit_map.specs.Verdict.{verdict_of, is_critical}

-- the letters that a text spells
abbrev pub dialled : List ℕ → List Letter
dialled text = filter_map letter_of text

-- the verdict of what is dialled
abbrev pub verdict : List ℕ → List ℕ → Verdict
verdict map text = verdict_of map (dialled text)

-- whether what is dialled is critical
abbrev pub critical : List ℕ → List ℕ → Bool
critical map text = is_critical map (dialled text)

-- a text so many times
abbrev pub copies : ℕ → List ℕ → List ℕ
copies times text = repeat times text

-- the letters that a position has, in their order
abbrev pub letters_of : List ℕ → List Letter
letters_of position = filter (has_letter position) all_letters
