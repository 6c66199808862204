-- Which packets of a world may be copies of a text; for worked examples, in which it computes.
use Rattle.std.proofs.Common.{◌≡◌, ℕ, zero, suc, ◌+◌, Bool, true, false, ◌&&◌, List, [], ◌∷◌, ◌++◌, length, Option, Some, inl, inr, refl, sym, ap, subst, arith}
use Rattle.std.specs.Prelude.{Any, not, slice_get, unwrap_or, if◌then◌else◌}
use Rattle.std.proofs.lemmas.Bool.{and_from}
use Rattle.std.proofs.lemmas.Option.{none-some}
use Rattle.transmission.specs.Texts.{texts_of}
use Rattle.plain_machine.specs.declared.setup.Setup.{Setup}
use Rattle.machine_laws.specs.Saying.{OneOf}
use Rattle.machine_laws.proofs.EachLemmas.{any_from_one, one_from_any}
use Rattle.agent_core.specs.declared.packet.End.{End}
use Rattle.agent_core.specs.declared.packet.End.TheVariants.{AgentEnd as agent_end, GatewayEnd as gateway_end}
use Rattle.agent_core.specs.declared.packet.Posted.{Posted}
use Rattle.agent_core.specs.World.{World}
use Rattle.world_laws.specs.Copies.{IsCopy}
use Rattle.world_laws.proofs.ExampleLemmas.{all_differ, none_tells}

abbrev same_end : End → End → Bool
same_end agent_end agent_end = true
same_end agent_end gateway_end = false
same_end gateway_end agent_end = false
same_end gateway_end gateway_end = true

itself : (end : End) → same_end end end ≡ true
itself agent_end = refl
itself gateway_end = refl

-- it is this end's, and one of its texts is as long
abbrev may_be : End → ℕ → Posted → Bool
may_be end long post = same_end post.end end && not (all_differ long (post ∷ []))

-- their numbers, from this one on
abbrev pub copies_from : End → ℕ → ℕ → List Posted → List ℕ
copies_from end long number [] = []
copies_from end long number (post ∷ posts) =
    if may_be end long post then number ∷ copies_from end long (suc number) posts else copies_from end long (suc number) posts

taken_first : (b : Bool) (number : ℕ) (rest : List ℕ) → b ≡ true → OneOf (λ (n : ℕ). n ≡ number) (if b then number ∷ rest else rest)
taken_first true number rest is = inl refl
taken_first false number rest is = absurd cc

taken_later : (b : Bool) (first number : ℕ) (rest : List ℕ) → OneOf (λ (n : ℕ). n ≡ number) rest → OneOf (λ (n : ℕ). n ≡ number) (if b then first ∷ rest else rest)
taken_later true first number rest is = inr is
taken_later false first number rest is = is

it_may : (text : List ℕ) (post : Posted) (b : Bool) → all_differ (length text) (post ∷ []) ≡ b → Any (λ (one : List ℕ). one ≡ text) (texts_of post.packet.bytes) → not b ≡ true
it_may text post true differs inside = absurd (none_tells text (post ∷ []) 0 post differs refl inside)
it_may text post false differs inside = refl

among : (end : End) (text : List ℕ) (posts : List Posted) (from number : ℕ) (post : Posted) → slice_get posts number ≡ Some post → post.end ≡ end
    → Any (λ (one : List ℕ). one ≡ text) (texts_of post.packet.bytes) → OneOf (λ (n : ℕ). n ≡ from + number) (copies_from end (length text) from posts)
among end text [] from number post found of inside = absurd (none-some post found)
among end text (first ∷ posts) from zero post found of inside =
    let same : first ≡ post = ap (λ (o : Option Posted). unwrap_or o first) found in
    let may : may_be end (length text) post ≡ true =
    and_from (same_end post.end end) (not (all_differ (length text) (post ∷ [])))
    (subst (λ (e : End). same_end e end ≡ true) (sym of) (itself end)) (it_may text post (all_differ (length text) (post ∷ [])) refl inside) in
    let here = taken_first (may_be end (length text) first) from (copies_from end (length text) (suc from) posts)
    (subst (λ (p : Posted). may_be end (length text) p ≡ true) (sym same) may) in
    subst (λ (m : ℕ). OneOf (λ (n : ℕ). n ≡ m) (copies_from end (length text) from (first ∷ posts))) (omega arith) here
among end text (first ∷ posts) from (suc number) post found of inside =
    let later = among end text posts (suc from) number post found of inside in
    let there = taken_later (may_be end (length text) first) from (suc from + number) (copies_from end (length text) (suc from) posts) later in
    subst (λ (m : ℕ). OneOf (λ (n : ℕ). n ≡ m) (copies_from end (length text) from (first ∷ posts))) (omega arith) there

-- a copy is one of them
pub copy_among : (setup : Setup) (w : World) (end : End) (text : List ℕ) (number : ℕ) → IsCopy setup w end text number
    → OneOf (λ (n : ℕ). n ≡ number) (copies_from end (length text) 0 w.posted)
copy_among setup w end text number copy =
    subst (λ (m : ℕ). OneOf (λ (n : ℕ). n ≡ m) (copies_from end (length text) 0 w.posted)) (omega arith)
    (among end text w.posted 0 number copy.post copy.found copy.sender copy.inside)

-- what is none of these is the last
pub the_last : (some : List ℕ) (last number : ℕ) → OneOf (λ (n : ℕ). n ≡ number) (some ++ last ∷ []) → (Any (λ (n : ℕ). n ≡ number) some → ⊥) → last ≡ number
the_last [] last number (inl is) none = is
the_last [] last number (inr is) none = absurd is
the_last (x ∷ some) last number (inl is) none = absurd (none (any_from_one (λ (n : ℕ). n ≡ number) (x ∷ some) (inl is)))
the_last (x ∷ some) last number (inr is) none =
    the_last some last number is (λ other. none (any_from_one (λ (n : ℕ). n ≡ number) (x ∷ some) (inr (one_from_any (λ (n : ℕ). n ≡ number) some other))))

-- so where these are lost, what the last one is holds of a copy that isn't
pub last_copy_is : (setup : Setup) (w : World) (end : End) (text : List ℕ) (P : ℕ → Type 0) (some : List ℕ) (last : ℕ) → copies_from end (length text) 0 w.posted ≡ some ++ last ∷ [] → P last
    → (number : ℕ) → IsCopy setup w end text number → (Any (λ (n : ℕ). n ≡ number) some → ⊥) → P number
last_copy_is setup w end text P some last are is number copy none =
    subst P (the_last some last number (subst (OneOf (λ (n : ℕ). n ≡ number)) are (copy_among setup w end text number copy)) none) is
