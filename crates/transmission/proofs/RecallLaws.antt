-- What tells alike goes on telling alike: with one more entry, after a purge, and later.
use Rattle.std.proofs.Common.{◌≡◌, ℕ, ◌+◌, ◌≤◌, min, Bool, true, false, cond, List, [], ◌∷◌, ◌++◌, length, Option, Some, None, refl, sym, ◌∙◌, ap, arith, length-append}
use Rattle.std.specs.Prelude.{◌&&◌, ◌||◌, nat_lt, nat_eq, option_map}
use Rattle.std.specs.Option.{option_or}
use Rattle.std.specs.List.{list_any}
use Rattle.std.proofs.lemmas.Bool.{and_right}
use Rattle.std.proofs.lemmas.Bool.Decides.{nat_tests}
use Rattle.std.proofs.lemmas.List.Elements.{filter-append}
use Rattle.std.proofs.lemmas.List.Folds.{list_any-append}
use Rattle.transmission.specs.declared.entry.KeptFirst.{KeptFirst}
use Rattle.transmission.specs.declared.entry.Entry.{Entry}
use Rattle.transmission.specs.declared.entry.Entry.TheVariants.{First, Confirmation}
use Rattle.transmission.specs.Memory.{most_firsts, is_young}
use Rattle.transmission.specs.Kept.{is_young_first, young_firsts, from_young}
use Rattle.transmission.specs.Looking.{Found, latest, repeated, confirms, Recalled, recalled_from, recalled, told_by, look_of}
use Rattle.transmission.specs.Spots.{also}
use Rattle.transmission.specs.Recalling.{Recalls}

pub or_none : {A : Type 0} (o : Option A) → option_or o None ≡ o
or_none None = refl
or_none (Some x) = refl

-- One more in front

abbrev recalled_here : ℕ → Bool → KeptFirst → Recalled
recalled_here id confirmed first = record { answer = first.answer; confirmed = confirmed }

pub recalled-cons : (entry : Entry) (es : List Entry) (id now : ℕ)
    → recalled (entry ∷ es) id now ≡ option_or (recalled es id now) (option_map (λ (first : KeptFirst). record { answer = first.answer; confirmed = list_any (confirms id) es }) (repeated entry id now))
unfolding latest
recalled-cons entry es id now = both (latest es id now) (repeated entry id now) where
  both : (found : Option Found) (first : Option KeptFirst)
      → option_map (recalled_from id) (option_or found (option_map (λ (f : KeptFirst). record { first = f; after = es }) first))
      ≡ option_or (option_map (recalled_from id) found) (option_map (λ (f : KeptFirst). record { answer = f.answer; confirmed = list_any (confirms id) es }) first)
  both (Some found) first = refl
  both None (Some first) = refl
  both None None = refl

-- One more at the end

abbrev with_entry : Entry → ℕ → ℕ → Option Recalled → Option Recalled
with_entry entry id now before =
    option_or (option_map (recalled_here id false) (repeated entry id now)) (option_map (also (list_any (confirms id) (entry ∷ []))) before)

pub one_more : (id : ℕ) (here : Option Recalled) (before : Option Recalled) (first : Option KeptFirst) (named confirmed : Bool)
    → option_or (option_or here (option_map (also named) before)) (option_map (λ (f : KeptFirst). record { answer = f.answer; confirmed = confirmed || named }) first)
    ≡ option_or here (option_map (also named) (option_or before (option_map (λ (f : KeptFirst). record { answer = f.answer; confirmed = confirmed }) first)))
one_more id (Some r) before first named confirmed = refl
one_more id None (Some r) first named confirmed = refl
one_more id None None (Some f) named confirmed = refl
one_more id None None None named confirmed = refl

pub recalled-push : (es : List Entry) (entry : Entry) (id now : ℕ) → recalled (es ++ entry ∷ []) id now ≡ with_entry entry id now (recalled es id now)
unfolding latest
recalled-push [] entry id now = recalled-cons entry [] id now ∙ nothing (option_map (recalled_here id false) (repeated entry id now)) where
  nothing : (o : Option Recalled) → option_or (recalled [] id now) o ≡ option_or o (option_map (also (list_any (confirms id) (entry ∷ []))) (recalled [] id now))
  nothing None = refl
  nothing (Some r) = refl
recalled-push (x ∷ es) entry id now =
    recalled-cons x (es ++ entry ∷ []) id now
    ∙ ap (λ (o : Option Recalled). option_or o (option_map (recalled_here id (list_any (confirms id) (es ++ entry ∷ []))) (repeated x id now))) (recalled-push es entry id now)
    ∙ ap (λ (b : Bool). option_or (with_entry entry id now (recalled es id now)) (option_map (recalled_here id b) (repeated x id now))) (list_any-append (confirms id) es (entry ∷ []))
    ∙ one_more id (option_map (recalled_here id false) (repeated entry id now)) (recalled es id now) (repeated x id now) (list_any (confirms id) (entry ∷ [])) (list_any (confirms id) es)
    ∙ ap (with_entry entry id now) (sym (recalled-cons x es id now))

count-push : (es : List Entry) (entry : Entry) (now : ℕ) → length (young_firsts now (es ++ entry ∷ [])) ≡ length (young_firsts now es) + length (young_firsts now (entry ∷ []))
count-push es entry now = ap length (filter-append (is_young_first now) es (entry ∷ [])) ∙ length-append (young_firsts now es) (young_firsts now (entry ∷ []))

-- A purge

-- what is old stays old
old_later : (t now moment : ℕ) → is_young t moment ≡ false → t ≤ now → is_young now moment ≡ false
old_later t now moment old le = grind (arith, nat_tests)

not_repeated : (t now id : ℕ) (entry : Entry) → is_young_first t entry ≡ false → t ≤ now → repeated entry id now ≡ None
not_repeated t now id (First first) old le =
    let later : is_young now first.moment ≡ false = old_later t now first.moment old le in
    let none : (nat_eq first.id id && is_young now first.moment) ≡ false = and_right (nat_eq first.id id) (is_young now first.moment) later in
    ap (λ (b : Bool). cond b (Some first) None) none
not_repeated t now id (Confirmation spans) old le = refl

pub latest_purged : (es : List Entry) (t id now : ℕ) → t ≤ now → latest (from_young t es) id now ≡ latest es id now
unfolding latest from_young
latest_purged [] t id now le = refl
latest_purged (entry ∷ es) t id now le = by_age (is_young_first t entry) refl (latest_purged es t id now le) where
  by_age : (b : Bool) → is_young_first t entry ≡ b → latest (from_young t es) id now ≡ latest es id now
      → latest (cond b (entry ∷ es) (from_young t es)) id now ≡ latest (entry ∷ es) id now
  by_age true is rest = refl
  by_age false is rest =
      rest ∙ sym (ap (λ (first : Option KeptFirst). option_or (latest es id now) (option_map (λ (f : KeptFirst). record { first = f; after = es }) first)) (not_repeated t now id entry is le) ∙ or_none (latest es id now))

not_young_later : (t now : ℕ) (entry : Entry) → is_young_first t entry ≡ false → t ≤ now → is_young_first now entry ≡ false
not_young_later t now (First first) old le = old_later t now first.moment old le
not_young_later t now (Confirmation spans) old le = refl

pub young_purged : (es : List Entry) (t now : ℕ) → t ≤ now → young_firsts now (from_young t es) ≡ young_firsts now es
unfolding from_young
young_purged [] t now le = refl
young_purged (entry ∷ es) t now le = by_age (is_young_first t entry) refl (young_purged es t now le) where
  by_age : (b : Bool) → is_young_first t entry ≡ b → young_firsts now (from_young t es) ≡ young_firsts now es
      → young_firsts now (cond b (entry ∷ es) (from_young t es)) ≡ young_firsts now (entry ∷ es)
  by_age true is rest = refl
  by_age false is rest = rest ∙ sym (ap (λ (b : Bool). cond b (entry ∷ young_firsts now es) (young_firsts now es)) (not_young_later t now entry is le))

-- The laws that the crates above need

pub recalls_itself : (es : List Entry) → Recalls es es 0
recalls_itself es = record { same_answers = λ id now le. refl; same_count = λ now le. refl }

pub recalls_later : (kept all : List Entry) (since t : ℕ) → Recalls kept all since → since ≤ t → Recalls kept all t
recalls_later kept all since t r le = record {
  same_answers = λ id now lt. r.same_answers id now (omega arith);
  same_count = λ now lt. r.same_count now (omega arith);
}

-- what recalls a list is recalled by it
pub recalls_back : (kept all : List Entry) (since : ℕ) → Recalls kept all since → Recalls all kept since
recalls_back kept all since r = record {
  same_answers = λ id now le. sym (r.same_answers id now le);
  same_count = λ now le. sym (r.same_count now le);
}

pub recalls_through : (kept between all : List Entry) (since : ℕ) → Recalls kept between since → Recalls between all since → Recalls kept all since
recalls_through kept between all since r r' = record {
  same_answers = λ id now le. r.same_answers id now le ∙ r'.same_answers id now le;
  same_count = λ now le. r.same_count now le ∙ r'.same_count now le;
}

pub recalls_entry : (kept all : List Entry) (entry : Entry) (since : ℕ) → Recalls kept all since → Recalls (kept ++ entry ∷ []) (all ++ entry ∷ []) since
recalls_entry kept all entry since r = record {
  same_answers = λ id now le. recalled-push kept entry id now ∙ ap (with_entry entry id now) (r.same_answers id now le) ∙ sym (recalled-push all entry id now);
  same_count = λ now le. count (length (young_firsts now kept)) (length (young_firsts now all)) (length (young_firsts now (entry ∷ []))) _ _ (r.same_count now le) (count-push kept entry now) (count-push all entry now);
} where
  count : (a b one c d : ℕ) → min most_firsts a ≡ min most_firsts b → c ≡ a + one → d ≡ b + one → min most_firsts c ≡ min most_firsts d
  count a b one c d same is is' = omega arith

pub recalls_purged : (kept all : List Entry) (since t : ℕ) → Recalls kept all since → since ≤ t → Recalls (from_young t kept) all t
recalls_purged kept all since t r le = record {
  same_answers = λ id now lt. ap (option_map (recalled_from id)) (latest_purged kept t id now lt) ∙ r.same_answers id now (omega arith);
  same_count = λ now lt. ap (λ (es : List Entry). min most_firsts (length es)) (young_purged kept t now lt) ∙ r.same_count now (omega arith);
}

-- spans that name nothing confirm nothing
also_false : (o : Option Recalled) → option_map (also false) o ≡ o
also_false None = refl
also_false (Some r) = ap (λ (b : Bool). Some (record { answer = r.answer; confirmed = b })) (or_false r.confirmed) where
  or_false : (b : Bool) → (b || false) ≡ b
  or_false true = refl
  or_false false = refl

pub recalls_no_spans : (kept all : List Entry) (since : ℕ) → Recalls kept all since → Recalls kept (all ++ Confirmation [] ∷ []) since
recalls_no_spans kept all since r = record {
  same_answers = λ id now le. r.same_answers id now le ∙ sym (recalled-push all (Confirmation []) id now ∙ also_false (recalled all id now));
  same_count = λ now le. r.same_count now le ∙ sym (ap (λ n. min most_firsts n) (count-push all (Confirmation []) now ∙ none (length (young_firsts now all))));
} where
  none : (n : ℕ) → n + 0 ≡ n
  none n = omega arith

-- what tells alike is looked at alike
pub recalls_look : (kept all : List Entry) (since id now : ℕ) → Recalls kept all since → since ≤ now → look_of most_firsts kept id now ≡ look_of most_firsts all id now
unfolding look_of
recalls_look kept all since id now r le =
    ap (λ (o : Option Recalled). told_by o (nat_lt (length (young_firsts now kept)) most_firsts)) (r.same_answers id now le)
    ∙ ap (told_by (recalled all id now)) (room (length (young_firsts now kept)) (length (young_firsts now all)) (r.same_count now le))
  where
    room : (a b : ℕ) → min most_firsts a ≡ min most_firsts b → nat_lt a most_firsts ≡ nat_lt b most_firsts
    room a b same = grind (arith, nat_tests)
