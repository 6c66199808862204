-- Of any list.
use Rattle.std.specs.Prelude.{Bool, true, false, List, [], ◌∷◌}

-- nothing is in it
abbrev pub is_empty : {A : Type 0} → List A → Bool
is_empty [] = true
is_empty (x ∷ xs) = false
