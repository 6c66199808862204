-- Fields that are put one behind the other.
use Rattle.std.proofs.Common.{◌≡◌, List, [], ◌∷◌, ◌++◌, ◌∙◌, ap, append_assoc}
use Rattle.http1.specs.Fields.{Header}

-- the last of three is put behind two others
pub three_more : (was one two : List Header) (x y z : Header) → one ≡ was ++ x ∷ [] → two ≡ one ++ y ∷ []
    → two ++ z ∷ [] ≡ was ++ x ∷ y ∷ z ∷ []
three_more was one two x y z first second =
    ap (λ (front : List Header). front ++ z ∷ []) (second ∙ ap (λ (front : List Header). front ++ y ∷ []) first)
    ∙ append_assoc (was ++ x ∷ []) (y ∷ []) (z ∷ []) ∙ append_assoc was (x ∷ []) (y ∷ z ∷ [])
