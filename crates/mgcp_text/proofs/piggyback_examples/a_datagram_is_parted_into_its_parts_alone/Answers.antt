use Rattle.std.proofs.Common.{◌≡◌, [], ◌∷◌, refl}
use Rattle.std.specs.Prelude.{codes}
use Rattle.mgcp_text.proofs.PiggybackComputing.{on_examples}
use Rattle.mgcp_text.proofs.PartingLaws.{parting_only}
use Rattle.mgcp_text.proofs.piggyback_examples.a_datagram_is_parted_into_its_parts_alone.Goals as goal

pub returns-clause-two : goal.returns-clause-two
unfolding on_examples
returns-clause-two c = record { apart = refl; lines = (codes ".\n", codes "b\n" ∷ [], refl, refl, refl) }

pub returns-clause-dot_left : goal.returns-clause-dot_left
unfolding on_examples
returns-clause-dot_left c = λ is. let same : (codes "a\n.\nb\n" ∷ []) ≡ (codes "a\n" ∷ codes "b\n" ∷ []) = parting_only (codes "a\n.\nb\n") (codes "a\n.\nb\n" ∷ []) is in cc

pub returns-clause-no_dot : goal.returns-clause-no_dot
unfolding on_examples
returns-clause-no_dot c = λ is. let same : (codes "a\n" ∷ codes "c\n" ∷ []) ≡ (codes "a\nb\nc\n" ∷ []) = parting_only (codes "a\nb\nc\n") (codes "a\n" ∷ codes "c\n" ∷ []) is in cc

pub returns-clause-last_lost : goal.returns-clause-last_lost
unfolding on_examples
returns-clause-last_lost c = λ is. let same : (codes "a\n" ∷ [] ∷ []) ≡ (codes "a\n" ∷ codes "b\n" ∷ []) = parting_only (codes "a\n.\nb\n") (codes "a\n" ∷ [] ∷ []) is in cc

pub returns-clause-first_lost : goal.returns-clause-first_lost
unfolding on_examples
returns-clause-first_lost c = λ is. let same : (codes "b\n" ∷ []) ≡ (codes "a\n" ∷ codes "b\n" ∷ []) = parting_only (codes "a\n.\nb\n") (codes "b\n" ∷ []) is in cc

pub returns-clause-ends_lost : goal.returns-clause-ends_lost
unfolding on_examples
returns-clause-ends_lost c = λ is. let same : (codes "a" ∷ codes "b" ∷ []) ≡ (codes "a\n" ∷ codes "b\n" ∷ []) = parting_only (codes "a\n.\nb\n") (codes "a" ∷ codes "b" ∷ []) is in cc

pub returns-clause-none : goal.returns-clause-none
unfolding on_examples
returns-clause-none c = λ is. let same : ([]) ≡ ([] ∷ []) = parting_only [] ([]) is in cc
