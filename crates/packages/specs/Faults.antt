-- What is read of each item of a list.
use Rattle.std.specs.Prelude.{ℕ, nat_le, if◌then◌else◌, List, [], ◌∷◌, length, Result, Ok, Err}
use Rattle.mg_bytes.specs.Steps.{◌>>=◌}

-- what is read of each, or the first code
unfoldable pub each : {A : Type 0} → (List ℕ → Result A ℕ) → List (List ℕ) → Result (List A) ℕ
each read [] = Ok []
each read (text ∷ texts) = do
  first ← read text
  rest ← each read texts
  Ok (first ∷ rest)

-- the same of at most so many; more are 502 (insufficient resources)
abbrev pub each_up_to : {A : Type 0} → ℕ → (List ℕ → Result A ℕ) → List (List ℕ) → Result (List A) ℕ
each_up_to most read texts = if nat_le (length texts) most then each read texts else Err 502
