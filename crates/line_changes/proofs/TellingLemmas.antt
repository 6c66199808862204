-- Texts that are put one behind the other.
use Rattle.std.proofs.Common.{◌≡◌, ℕ, List, ◌++◌, Result, Ok, Err, OnErr, ap, ◌∙◌, append_assoc}

-- one more is put behind what was put
pub more : (put out back next : List ℕ) → put ≡ out ++ back → put ++ next ≡ out ++ (back ++ next)
more put out back next is = ap (λ (text : List ℕ). text ++ next) is ∙ append_assoc out back next

-- what is so where memory is refused
pub if_refused : {A E : Type 0} (done : Result A E) (P : Type 0) → P → OnErr done P
if_refused (Ok a) P so = tt
if_refused (Err e) P so = so
