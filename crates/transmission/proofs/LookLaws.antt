-- The answer that is told of a repeat is kept.
use Rattle.std.proofs.Common.{◌≡◌, ℕ, suc, Bool, true, false, ◌==◌, ◌&&◌, if◌then◌else◌, List, [], ◌∷◌, length, Option, Some, None, refl, ap, ◌∙◌, arith}
use Rattle.std.specs.Prelude.{option_map, Any, nat_lt}
use Rattle.std.specs.Option.{option_or}
use Rattle.std.proofs.lemmas.Option.{none-some}
use Rattle.transmission.specs.declared.entry.KeptFirst.{KeptFirst}
use Rattle.transmission.specs.declared.entry.Entry.{Entry}
use Rattle.transmission.specs.declared.entry.Entry.TheVariants.{First, Confirmation}
use Rattle.transmission.specs.Memory.{is_young}
use Rattle.transmission.specs.Kept.{firsts_in, young_firsts}
use Rattle.transmission.specs.Looking.{repeated, Found, latest, recalled_from, Looked, new, repeat, confirmed, full, told_by, look_of}

abbrev IsKept : List ℕ → List Entry → Type 0
IsKept answer entries = Any (λ (first : KeptFirst). first.answer ≡ answer) (firsts_in entries)

kept_here : (first : KeptFirst) (entries : List Entry) → IsKept first.answer (First first ∷ entries)
kept_here first entries = (0, first, omega arith, refl, refl)

kept_behind : (answer : List ℕ) (entry : Entry) (entries : List Entry) → IsKept answer entries → IsKept answer (entry ∷ entries)
kept_behind answer (First first) entries kept = (suc kept.0, kept.1, omega (arith, kept.2), kept.3, kept.4)
kept_behind answer (Confirmation spans) entries kept = kept

abbrev answer_in : Option Found → List ℕ
answer_in None = []
answer_in (Some found) = found.first.answer

abbrev answer_told : Looked → List ℕ
answer_told new = []
answer_told (repeat answer) = answer
answer_told confirmed = []
answer_told full = []

kept_as : (answer same : List ℕ) (entries : List Entry) → answer ≡ same → IsKept answer entries → IsKept same entries
kept_as answer same entries e kept = rw (← e) kept

repeated_here : (entry : Entry) (entries : List Entry) (id now : ℕ) (found : Found)
    → option_map (λ (first : KeptFirst). let f : Found = record { first = first; after = entries } in f) (repeated entry id now) ≡ Some found → IsKept found.first.answer (entry ∷ entries)
repeated_here (Confirmation spans) entries id now found e = absurd (none-some found e)
repeated_here (First first) entries id now found e = by_test (first.id == id && is_young now first.moment) e where
  by_test : (b : Bool) → option_map (λ (x : KeptFirst). let f : Found = record { first = x; after = entries } in f) (if b then Some first else None) ≡ Some found → IsKept found.first.answer (First first ∷ entries)
  by_test true is = kept_as first.answer found.first.answer (First first ∷ entries) (ap answer_in is) (kept_here first entries)
  by_test false is = absurd (none-some found is)

found_kept : (entries : List Entry) (id now : ℕ) (found : Found) → latest entries id now ≡ Some found → IsKept found.first.answer entries
unfolding latest
found_kept [] id now found e = absurd (none-some found e)
found_kept (entry ∷ entries) id now found e = by_rest (latest entries id now) refl e (found_kept entries id now) where
  by_rest : (rest : Option Found) → latest entries id now ≡ rest
      → option_or rest (option_map (λ (first : KeptFirst). let f : Found = record { first = first; after = entries } in f) (repeated entry id now)) ≡ Some found
      → ((other : Found) → latest entries id now ≡ Some other → IsKept other.first.answer entries) → IsKept found.first.answer (entry ∷ entries)
  by_rest None none is more = repeated_here entry entries id now found is
  by_rest (Some other) some is more = kept_behind found.first.answer entry entries (more found (some ∙ is))

told_kept : (entries : List Entry) (id now : ℕ) (found : Option Found) (has_room : Bool) (answer : List ℕ) → latest entries id now ≡ found
    → told_by (option_map (recalled_from id) found) has_room ≡ repeat answer → IsKept answer entries
told_kept entries id now None true answer is e = absurd cc
told_kept entries id now None false answer is e = absurd cc
told_kept entries id now (Some found) has_room answer is e = by_test (recalled_from id found).confirmed e where
  by_test : (b : Bool) → (if b then confirmed else repeat found.first.answer) ≡ repeat answer → IsKept answer entries
  by_test true told = absurd cc
  by_test false told = kept_as found.first.answer answer entries (ap answer_told told) (found_kept entries id now found is)

pub repeat_kept : (limit : ℕ) (entries : List Entry) (id now : ℕ) (answer : List ℕ) → look_of limit entries id now ≡ repeat answer → IsKept answer entries
unfolding look_of
repeat_kept limit entries id now answer e = told_kept entries id now (latest entries id now) (nat_lt (length (young_firsts now entries)) limit) answer refl e
