-- A handling is read again, and what is no handling is 508.
use Rattle.std.proofs.Common.{◌≡◌, ℕ, ◌≤◌, List, [], ◌∷◌, refl, lit≤}
use Rattle.std.specs.Prelude.{Ok, Err}
use Rattle.mg_bytes.specs.Items.{items_of}
use Rattle.packages.specs.declared.handling.Handling.{Handling}
use Rattle.packages.specs.declared.handling.Notifying.{Notifying}
use Rattle.packages.specs.declared.handling.Quarantined.{Quarantined}
use Rattle.packages.specs.declared.handling.Notifying.TheVariants.{Step, Loop}
use Rattle.packages.specs.declared.handling.Quarantined.TheVariants.{Process, Discard}
use Rattle.packages.specs.declared.handling.Word.{Word}
use Rattle.packages.specs.declared.handling.Word.TheVariants.{OfNotifying, OfQuarantined, Other}
use Rattle.packages.specs.Handling.{word_of, by_one, by_two, handling_from, handling_of, handling_text}
use Rattle.packages.proofs.ValueComputing.{on_examples}
use Rattle.packages.proofs.PassLemmas.{Passes, along}

one_passes : (word : Word) → Passes (λ handling. Unit {0}) (by_one word)
one_passes (OfNotifying notifying) = tt
one_passes (OfQuarantined quarantined) = tt
one_passes Other = lit≤ tt

two_pass : (first second : Word) → Passes (λ handling. Unit {0}) (by_two first second)
two_pass (OfNotifying n) (OfNotifying m) = lit≤ tt
two_pass (OfNotifying n) (OfQuarantined q) = tt
two_pass (OfNotifying n) Other = lit≤ tt
two_pass (OfQuarantined q) (OfNotifying n) = tt
two_pass (OfQuarantined q) (OfQuarantined p) = lit≤ tt
two_pass (OfQuarantined q) Other = lit≤ tt
two_pass Other (OfNotifying n) = lit≤ tt
two_pass Other (OfQuarantined q) = lit≤ tt
two_pass Other Other = lit≤ tt

from_passes : (words : List (List ℕ)) → Passes (λ handling. Unit {0}) (handling_from words)
from_passes [] = lit≤ tt
from_passes (word ∷ []) = one_passes (word_of word)
from_passes (first ∷ second ∷ []) = two_pass (word_of first) (word_of second)
from_passes (first ∷ second ∷ third ∷ rest) = lit≤ tt

handling_passes : (value : List ℕ) → Passes (λ handling. Unit {0}) (handling_of value)
unfolding handling_of
handling_passes value = from_passes (items_of value)

pub fault_is_code : (value : List ℕ) (code : ℕ) → handling_of value ≡ Err code → code ≤ 999
fault_is_code value code read = along (λ handling. Unit {0}) _ (Err code) read (handling_passes value)

again : (n : Notifying) (q : Quarantined) → handling_of (handling_text (record { notifying = n; quarantined = q })) ≡ Ok (record { notifying = n; quarantined = q })
unfolding on_examples
again Step Process = refl
again Step Discard = refl
again Loop Process = refl
again Loop Discard = refl

pub handling_again : (handling : Handling) → handling_of (handling_text handling) ≡ Ok handling
handling_again handling = again handling.notifying handling.quarantined
