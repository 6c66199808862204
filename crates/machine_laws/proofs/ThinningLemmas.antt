-- What is told of an id that is kept doesn't hang on what was left out.
use Rattle.std.proofs.Common.{◌≡◌, ◌≢◌, ℕ, ◌<◌, ◌≤◌, Bool, true, false, ◌==◌, ◌&&◌, ◌||◌, if◌then◌else◌, List, [], ◌∷◌, ◌++◌, length, Option, Some, None, refl, sym, ap, ◌∙◌, arith}
use Rattle.std.specs.Prelude.{nat_lt, option_map}
use Rattle.std.specs.Option.{option_or}
use Rattle.std.specs.List.{list_any}
use Rattle.std.proofs.lemmas.Bool.{ltb-true, lt-ltb, eqb-true, both_ways}
use Rattle.transmission.specs.declared.entry.KeptFirst.{KeptFirst}
use Rattle.transmission.specs.declared.entry.Entry.{Entry}
use Rattle.transmission.specs.declared.entry.Entry.TheVariants.{First, Confirmation}
use Rattle.transmission.specs.Span.{is_named}
use Rattle.transmission.specs.Memory.{is_young}
use Rattle.transmission.specs.Kept.{is_young_first, young_firsts}
use Rattle.transmission.specs.Looking.{repeated, Found, latest, confirms, Recalled, recalled_from, recalled, full, told_by, look_of}

-- it says nothing of an id that is kept
abbrev pub IsForeign : (ℕ → Bool) → Entry → Type 0
IsForeign keep (First first) = keep first.id ≡ false
IsForeign keep (Confirmation spans) = (id : ℕ) → keep id ≡ true → is_named id spans ≡ false

-- the same entries, but for some that are foreign
pub data Thins (keep : ℕ → Bool) : List Entry → List Entry → Type 0 where
  none : Thins keep [] []
  both : (entry : Entry) (all some : List Entry) → Thins keep all some → Thins keep (entry ∷ all) (entry ∷ some)
  left_out : (entry : Entry) (all some : List Entry) → IsForeign keep entry → Thins keep all some → Thins keep (entry ∷ all) some

thins_all : (keep : ℕ → Bool) (entries : List Entry) → Thins keep entries entries
thins_all keep [] = none
thins_all keep (entry ∷ entries) = both entry entries entries (thins_all keep entries)

pub thins_both : (keep : ℕ → Bool) (all some more : List Entry) → Thins keep all some → Thins keep (all ++ more) (some ++ more)
thins_both keep all some more none = thins_all keep more
thins_both keep all some more (both entry a s rest) = both entry (a ++ more) (s ++ more) (thins_both keep a s more rest)
thins_both keep all some more (left_out entry a s is rest) = left_out entry (a ++ more) (some ++ more) is (thins_both keep a some more rest)

pub thins_left : (keep : ℕ → Bool) (all some : List Entry) (one : Entry) → IsForeign keep one → Thins keep all some → Thins keep (all ++ one ∷ []) some
thins_left keep all some one is none = left_out one [] [] is none
thins_left keep all some one is (both entry a s rest) = both entry (a ++ one ∷ []) s (thins_left keep a s one is rest)
thins_left keep all some one is (left_out entry a s foreign rest) = left_out entry (a ++ one ∷ []) some foreign (thins_left keep a some one is rest)

confirmed_same : (keep : ℕ → Bool) (id : ℕ) (all some : List Entry) → keep id ≡ true → Thins keep all some → list_any (confirms id) all ≡ list_any (confirms id) some
confirmed_same keep id all some is none = refl
confirmed_same keep id all some is (both entry a s rest) = ap (λ (b : Bool). confirms id entry || b) (confirmed_same keep id a s is rest)
confirmed_same keep id all some is (left_out (First first) a s foreign rest) = confirmed_same keep id a some is rest
confirmed_same keep id all some is (left_out (Confirmation spans) a s foreign rest) =
    ap (λ (b : Bool). b || list_any (confirms id) a) (foreign id is) ∙ confirmed_same keep id a some is rest

-- the front, and what is recalled of the rest
abbrev with_front : ℕ → ℕ → Entry → Bool → Option Recalled → Option Recalled
with_front id now entry confirmed rest = option_or rest (option_map (λ (first : KeptFirst). record { answer = first.answer; confirmed = confirmed }) (repeated entry id now))

map_or : (id : ℕ) (found : Option Found) (first : Option KeptFirst) (after : List Entry)
    → option_map (recalled_from id) (option_or found (option_map (λ (first : KeptFirst). record { first = first; after = after }) first))
    ≡ option_or (option_map (recalled_from id) found) (option_map (λ (first : KeptFirst). record { answer = first.answer; confirmed = list_any (confirms id) after }) first)
map_or id None None after = refl
map_or id None (Some first) after = refl
map_or id (Some found) first after = refl

recalled_more : (entry : Entry) (entries : List Entry) (id now : ℕ) → recalled (entry ∷ entries) id now ≡ with_front id now entry (list_any (confirms id) entries) (recalled entries id now)
unfolding latest
recalled_more entry entries id now = map_or id (latest entries id now) (repeated entry id now) entries

or_none : (found : Option Recalled) → option_or found None ≡ found
or_none None = refl
or_none (Some x) = refl

foreign_none : (keep : ℕ → Bool) (first : KeptFirst) (id now : ℕ) → keep id ≡ true → keep first.id ≡ false → repeated (First first) id now ≡ None
foreign_none keep first id now is foreign = by_id (first.id == id) refl where
  by_id : (b : Bool) → (first.id == id) ≡ b → (if b && is_young now first.moment then Some first else None) ≡ None
  by_id false e = refl
  by_id true e = absurd (both_ways (keep first.id) foreign (ap keep (eqb-true first.id id e) ∙ is))

recalled_same : (keep : ℕ → Bool) (all some : List Entry) (id now : ℕ) → keep id ≡ true → Thins keep all some → recalled all id now ≡ recalled some id now
recalled_same keep all some id now is none = refl
recalled_same keep all some id now is (both entry a s rest) =
    recalled_more entry a id now
    ∙ ap (λ (b : Bool). with_front id now entry b (recalled a id now)) (confirmed_same keep id a s is rest)
    ∙ ap (with_front id now entry (list_any (confirms id) s)) (recalled_same keep a s id now is rest)
    ∙ sym (recalled_more entry s id now)
recalled_same keep all some id now is (left_out (First first) a s foreign rest) =
    recalled_more (First first) a id now
    ∙ ap (λ (found : Option KeptFirst). option_or (recalled a id now) (option_map (λ (first : KeptFirst). record { answer = first.answer; confirmed = list_any (confirms id) a }) found)) (foreign_none keep first id now is foreign)
    ∙ or_none (recalled a id now) ∙ recalled_same keep a some id now is rest
recalled_same keep all some id now is (left_out (Confirmation spans) a s foreign rest) =
    recalled_more (Confirmation spans) a id now ∙ or_none (recalled a id now) ∙ recalled_same keep a some id now is rest

young_fewer : (keep : ℕ → Bool) (all some : List Entry) (now : ℕ) → Thins keep all some → length (young_firsts now some) ≤ length (young_firsts now all)
young_fewer keep all some now none = omega arith
young_fewer keep all some now (both entry a s rest) = by_test (is_young_first now entry) (young_fewer keep a s now rest) where
  by_test : (b : Bool) → length (young_firsts now s) ≤ length (young_firsts now a)
      → length (if b then entry ∷ young_firsts now s else young_firsts now s) ≤ length (if b then entry ∷ young_firsts now a else young_firsts now a)
  by_test true fewer = omega (arith, fewer)
  by_test false fewer = fewer
young_fewer keep all some now (left_out entry a s is rest) = by_test (is_young_first now entry) (young_fewer keep a some now rest) where
  by_test : (b : Bool) → length (young_firsts now some) ≤ length (young_firsts now a)
      → length (young_firsts now some) ≤ length (if b then entry ∷ young_firsts now a else young_firsts now a)
  by_test true fewer = omega (arith, fewer)
  by_test false fewer = fewer

-- what isn't lost to a full history is told the same
pub told_same : (keep : ℕ → Bool) (limit : ℕ) (all some : List Entry) (id now : ℕ) → keep id ≡ true → Thins keep all some
    → look_of limit all id now ≢ full → look_of limit some id now ≡ look_of limit all id now
unfolding look_of
told_same keep limit all some id now is thins has =
    ap (λ (found : Option Recalled). told_by found (nat_lt (length (young_firsts now some)) limit)) (sym (recalled_same keep all some id now is thins))
    ∙ by_found (recalled all id now) (nat_lt (length (young_firsts now all)) limit) (nat_lt (length (young_firsts now some)) limit) refl refl has where
      by_found : (found : Option Recalled) (b c : Bool) → nat_lt (length (young_firsts now all)) limit ≡ b → nat_lt (length (young_firsts now some)) limit ≡ c
          → told_by found b ≢ full → told_by found c ≡ told_by found b
      by_found (Some found) b c eb ec has = refl
      by_found None true true eb ec has = refl
      by_found None true false eb ec has =
          absurd (both_ways (nat_lt (length (young_firsts now some)) limit) ec
          (lt-ltb (length (young_firsts now some)) limit (let more : length (young_firsts now all) < limit = ltb-true _ limit eb in let fewer = young_fewer keep all some now thins in omega (arith, more, fewer))))
      by_found None false c eb ec has = absurd (has refl)
