-- What an input up to one byte past the limit says of the whole input.
use Rattle.std.proofs.Common.{◌≡◌, ℕ, ◌≤◌, ◌<◌, nat_lt, true, false, List, length, take, min, Option, Some, None, IfSome, Result, Err, refl, sym, ◌∙◌, ap, subst, arith, take_all, ⊎_elim}
use Rattle.std.proofs.lemmas.List.{length-take}
use Rattle.std.proofs.lemmas.Bool.{cases_Bool}
use Rattle.std.proofs.lemmas.Bool.Decides.{nat_tests}
use Rattle.rgw_scripts.specs.declared.played.PlayFault.{PlayFault}
use Rattle.rgw_scripts.specs.declared.played.PlayFault.TheVariants as play_fault
use Rattle.rgw_scripts.specs.Input.{config_text, script_lines}
use Rattle.rgw_scripts.specs.Configuration.{config_in}
use Rattle.rgw_scripts.specs.Script.{steps_of}
use Rattle.rgw_scripts.specs.declared.played.LinkFault.{LinkFault}
use Rattle.rgw_scripts.specs.Play.{Scene, judged, configured, PlaysInto, Explains, ExplainsLink}

pub too_long : (input : List ℕ) → nat_lt 1048576 (length input) ≡ true → judged input ≡ Err (play_fault.Script 0)
unfolding judged
too_long input long = rw long refl

pub not_too_long : (input : List ℕ) → nat_lt 1048576 (length input) ≡ false → judged input ≡ configured (config_in (config_text input)) (steps_of (script_lines input))
unfolding judged
not_too_long input short = rw short refl

pub judged-long : (input : List ℕ) → 1048576 < length input → judged input ≡ Err (play_fault.Script 0)
judged-long input long = too_long input (grind (arith, nat_tests))

pub judged-short : (input : List ℕ) → length input ≤ 1048576 → judged input ≡ configured (config_in (config_text input)) (steps_of (script_lines input))
judged-short input short = not_too_long input (grind (arith, nat_tests))

cut_length : (input text : List ℕ) → text ≡ take 1048577 input → length text ≡ min 1048577 (length input)
cut_length input text same = ap length same ∙ length-take 1048577 input

judged_cut : (input text : List ℕ) → text ≡ take 1048577 input → nat_lt 1048576 (length text) ≡ nat_lt 1048576 (length input) → judged text ≡ judged input
judged_cut input text same lengths =
    ⊎_elim (λ (h : nat_lt 1048576 (length input) ≡ true). too_long text (lengths ∙ h) ∙ sym (too_long input h))
    (λ (h : nat_lt 1048576 (length input) ≡ false).
    let short : length input ≤ 1048577 = grind (arith, nat_tests, h) in
    ap judged (same ∙ take_all 1048577 input short))
    (cases_Bool (nat_lt 1048576 (length input)))

same_test : (m n : ℕ) → m ≡ min 1048577 n → nat_lt 1048576 m ≡ nat_lt 1048576 n
same_test m n is = grind (arith, nat_tests, is)

pub judged-take : (input text : List ℕ) → text ≡ take 1048577 input → judged text ≡ judged input
judged-take input text same = judged_cut input text same (same_test (length text) (length input) (cut_length input text same))

pub explains_whole : (o : Option (List ℕ)) (e : PlayFault) (text : List ℕ) → IfSome o (λ input. text ≡ take 1048577 input) → Explains e (judged text) → IfSome o (λ input. Explains e (judged input))
explains_whole None e text t h = tt
explains_whole (Some input) e text t h = subst (Explains e) (judged-take input text t) h

pub plays_whole : (o : Option (List ℕ)) (text : List ℕ) (m n : ℕ) (before after : Option (List ℕ)) → IfSome o (λ input. text ≡ take 1048577 input) → PlaysInto (judged text) m n before after → IfSome o (λ input. PlaysInto (judged input) m n before after)
plays_whole None text m n before after t h = tt
plays_whole (Some input) text m n before after t h = subst (λ (r : Result Scene PlayFault). PlaysInto r m n before after) (judged-take input text t) h

pub explains_link_whole : {F : Type 0} (o : Option (List ℕ)) (e : LinkFault F) (text : List ℕ) → IfSome o (λ input. text ≡ take 1048577 input) → ExplainsLink e (judged text) → IfSome o (λ input. ExplainsLink e (judged input))
explains_link_whole None e text t h = tt
explains_link_whole (Some input) e text t h = subst (ExplainsLink e) (judged-take input text t) h
