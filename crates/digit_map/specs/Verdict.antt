-- How far dialled letters have come, by the set of words alone (RFC 3435, 2.1.5).
use Rattle.std.specs.Prelude.{ℕ, Bool, if◌then◌else◌, List, [], ◌∷◌, ◌++◌}
use Rattle.mg_bytes.specs.declared.letter.Letter.{Letter}
use Rattle.mg_bytes.specs.declared.letter.Letter.TheVariants.{Timer}
use Rattle.digit_map.specs.declared.verdict.Verdict.{Verdict}
use Rattle.digit_map.specs.declared.verdict.Verdict.TheVariants.{Perfect, Partial, Impossible}
use Rattle.digit_map.specs.Words.{is_word, is_begun}

-- some word begins with the letters
abbrev pub BeginsWord : (List Letter → Type 0) → List Letter → Type 0
BeginsWord IsAWord letters = (more : List Letter) × IsAWord (letters ++ more)

-- a word is perfect, even if longer words begin with it; no word, but the beginning of one, is partial; the beginning of
-- none is impossible
abbrev pub VerdictIs : (List Letter → Type 0) → List Letter → Verdict → Type 0
VerdictIs IsAWord letters Perfect = IsAWord letters
VerdictIs IsAWord letters Partial = (¬ IsAWord letters) × BeginsWord IsAWord letters
VerdictIs IsAWord letters Impossible = ¬ BeginsWord IsAWord letters

-- T behind the letters makes a word
abbrev pub IsCritical : (List Letter → Type 0) → List Letter → Type 0
IsCritical IsAWord letters = IsAWord (letters ++ Timer ∷ [])

-- The same of a map, computed

unfoldable pub verdict_of : List ℕ → List Letter → Verdict
verdict_of map letters =
    if is_word map letters then Perfect else (if is_begun map letters then Partial else Impossible)

unfoldable pub is_critical : List ℕ → List Letter → Bool
is_critical map letters = is_word map (letters ++ Timer ∷ [])

-- the most letters that a matcher is fed with (this gateway's profile)
abbrev pub most_letters : ℕ
most_letters = 64

-- a matcher at work: its map, and the letters that it was fed with
pub record Matching : Type 0 where
  pub map : List ℕ
  pub letters : List Letter
