use Rattle.std.proofs.Common.{All, ap, arith, get_or, ◌≡◌, List, ℕ, [], ◌∷◌, lit≤, refl}
use Rattle.std.specs.Prelude.{codes}
use Rattle.std.proofs.lemmas.List.Elements.{All-nil, All-cons}
use Rattle.mgcp_text.proofs.PiggybackComputing.{on_examples}
use Rattle.mgcp_text.proofs.PackingLaws.{IsWithin}
use Rattle.mgcp_text.proofs.GroupLaws.{packing_some, packing_only}
use Rattle.mgcp_text.proofs.piggyback_examples.texts_are_packed_into_their_datagrams_alone.Goals as goal

pub returns-clause-three : goal.returns-clause-three
unfolding on_examples
returns-clause-three c =
    let last : All (IsWithin 7) (codes "c\n" ∷ []) = All-cons (IsWithin 7) (codes "c\n") [] (lit≤ tt) (All-nil (IsWithin 7)) in
    let others : All (IsWithin 7) (codes "b\n" ∷ codes "c\n" ∷ []) = All-cons (IsWithin 7) (codes "b\n") (codes "c\n" ∷ []) (lit≤ tt) last in
    packing_some 7 (codes "a\n" ∷ codes "b\n" ∷ codes "c\n" ∷ []) (All-cons (IsWithin 7) (codes "a\n") (codes "b\n" ∷ codes "c\n" ∷ []) (lit≤ tt) others)

pub returns-clause-too_long : goal.returns-clause-too_long
unfolding on_examples
returns-clause-too_long c = λ is. let same : (codes "a\n.\r\nb\n" ∷ []) ≡ (codes "a\n" ∷ codes "b\n" ∷ []) = packing_only 6 (codes "a\n" ∷ codes "b\n" ∷ []) (codes "a\n.\r\nb\n" ∷ []) is in cc

pub returns-clause-too_early : goal.returns-clause-too_early
unfolding on_examples
returns-clause-too_early c = λ is. let same : (codes "a\n" ∷ codes "b\n" ∷ []) ≡ (codes "a\n.\r\nb\n" ∷ []) = packing_only 7 (codes "a\n" ∷ codes "b\n" ∷ []) (codes "a\n" ∷ codes "b\n" ∷ []) is in cc

pub returns-clause-by_the_next_alone : goal.returns-clause-by_the_next_alone
unfolding on_examples
returns-clause-by_the_next_alone c = λ is. let same : (codes "a\n" ∷ codes "b\n.\r\nc\n" ∷ []) ≡ (codes "a\n.\r\nb\n" ∷ codes "c\n" ∷ []) = packing_only 7 (codes "a\n" ∷ codes "b\n" ∷ codes "c\n" ∷ []) (codes "a\n" ∷ codes "b\n.\r\nc\n" ∷ []) is in cc

two_letters : (letter : ℕ) → letter ≡ 98 → letter ≡ 97 → ⊥
two_letters letter b a = omega arith

pub returns-clause-other_order : goal.returns-clause-other_order
unfolding on_examples
returns-clause-other_order c = λ is.
    let same : (codes "b\n.\r\na\n" ∷ []) ≡ (codes "a\n.\r\nb\n" ∷ []) = packing_only 7 (codes "a\n" ∷ codes "b\n" ∷ []) (codes "b\n.\r\na\n" ∷ []) is in
    two_letters 98 refl (ap (λ (datagrams : List (List ℕ)). get_or (get_or datagrams 0 []) 0 0) same)

pub returns-clause-lost : goal.returns-clause-lost
unfolding on_examples
returns-clause-lost c = λ is. let same : (codes "a\n" ∷ []) ≡ (codes "a\n.\r\nb\n" ∷ []) = packing_only 7 (codes "a\n" ∷ codes "b\n" ∷ []) (codes "a\n" ∷ []) is in cc

pub returns-clause-empty : goal.returns-clause-empty
unfolding on_examples
returns-clause-empty c = λ is. let same : ([] ∷ []) ≡ ([]) = packing_only 7 ([]) ([] ∷ []) is in cc
