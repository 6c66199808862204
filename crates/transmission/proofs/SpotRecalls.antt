-- What is recalled of an id, from where its latest first stands.
use Rattle.std.proofs.Common.{◌≡◌, ℕ, ◌+◌, ◌-◌, ◌<◌, ◌≤◌, Bool, true, false, cond, List, [], ◌∷◌, ◌++◌, length, get_or, take, drop, Option, Some, None, refl, sym, subst, ◌∙◌, ap, arith}
use Rattle.std.specs.Prelude.{nat_eq, slice_get, option_map}
use Rattle.std.specs.Option.{option_or, option_and_then}
use Rattle.std.specs.List.{list_any}
use Rattle.std.proofs.lemmas.Bool.{lt-ltb, le-ltb, and_left}
use Rattle.std.proofs.lemmas.List.{get_or-drop, get_or_default}
use Rattle.std.proofs.lemmas.Option.{slice_get-get_or}
use Rattle.std.proofs.lemmas.List.Folds.{list_any-append}
use Rattle.transmission.specs.declared.entry.KeptFirst.{KeptFirst}
use Rattle.transmission.specs.declared.entry.Entry.{Entry}
use Rattle.transmission.specs.declared.entry.Entry.TheVariants.{First, Confirmation}
use Rattle.transmission.specs.declared.spots.Spot.{Spot}
use Rattle.transmission.specs.Memory.{is_young}
use Rattle.transmission.specs.Looking.{repeated, confirms, latest, Recalled, recalled}
use Rattle.transmission.specs.Spots.{is_first_of, one_further, spot_in, cut_by, also}
use Rattle.transmission.proofs.RecallLaws.{or_none, one_more, recalled-cons}
use Rattle.transmission.proofs.IndexLaws.{drop-split}
use Rattle.transmission.proofs.SpotLaws.{spot_at, spot_in-drop}

-- what stands behind
pub recalled-append : (es more : List Entry) (id now : ℕ)
    → recalled (es ++ more) id now ≡ option_or (recalled more id now) (option_map (also (list_any (confirms id) more)) (recalled es id now))
unfolding latest
recalled-append [] more id now = sym (or_none (recalled more id now))
recalled-append (x ∷ es) more id now =
    recalled-cons x (es ++ more) id now
    ∙ ap (λ (o : Option Recalled). option_or o (option_map (λ (f : KeptFirst). record { answer = f.answer; confirmed = list_any (confirms id) (es ++ more) }) (repeated x id now))) (recalled-append es more id now)
    ∙ ap (λ (b : Bool). option_or (option_or (recalled more id now) (option_map (also (list_any (confirms id) more)) (recalled es id now))) (option_map (λ (f : KeptFirst). record { answer = f.answer; confirmed = b }) (repeated x id now))) (list_any-append (confirms id) es more)
    ∙ one_more id (recalled more id now) (recalled es id now) (repeated x id now) (list_any (confirms id) more) (list_any (confirms id) es)
    ∙ ap (λ (o : Option Recalled). option_or (recalled more id now) (option_map (also (list_any (confirms id) more)) o)) (sym (recalled-cons x es id now))

-- what is no first of this id isn't repeated
not_repeated : (entry : Entry) (id now : ℕ) → is_first_of id entry ≡ false → repeated entry id now ≡ None
not_repeated (First first) id now other = ap (λ (b : Bool). cond b (Some first) None) (and_left (nat_eq first.id id) (is_young now first.moment) other)
not_repeated (Confirmation spans) id now other = refl

abbrev at_front : Bool → Bool → Option Spot
at_front here confirmed = cond here (Some (spot_at 0 confirmed)) None

both_none : (o : Option Spot) (here confirmed : Bool) → option_or (option_map one_further o) (at_front here confirmed) ≡ None → (o ≡ None) × (here ≡ false)
both_none None true confirmed e = absurd cc
both_none None false confirmed e = (refl, refl)
both_none (Some spot) here confirmed e = absurd cc

-- what has no spot isn't recalled
pub recalled_no_spot : (es : List Entry) (id now : ℕ) → spot_in es id ≡ None → recalled es id now ≡ None
unfolding spot_in latest
recalled_no_spot [] id now none = refl
recalled_no_spot (x ∷ es) id now none =
    let parts = both_none (spot_in es id) (is_first_of id x) (list_any (confirms id) es) none in
    recalled-cons x es id now
    ∙ ap (λ (o : Option Recalled). option_or o (option_map (λ (f : KeptFirst). record { answer = f.answer; confirmed = list_any (confirms id) es }) (repeated x id now))) (recalled_no_spot es id now parts.0)
    ∙ ap (λ (o : Option KeptFirst). option_map (λ (f : KeptFirst). record { answer = f.answer; confirmed = list_any (confirms id) es }) o) (not_repeated x id now parts.1)

-- the spot is inside, and what is repeated there is recalled
pub record IsRecalledAt (es : List Entry) (id now : ℕ) (spot : Spot) : Type 0 where
  pub inside : spot.place < length es
  pub recalls : (entry : Entry) (first : KeptFirst) → entry ≡ get_or es spot.place entry → repeated entry id now ≡ Some first
      → recalled es id now ≡ Some (record { answer = first.answer; confirmed = spot.confirmed })

pub recalled_at_spot : (es : List Entry) (id now : ℕ) (spot : Spot) → spot_in es id ≡ Some spot → IsRecalledAt es id now spot
unfolding spot_in
recalled_at_spot [] id now spot is = absurd cc
recalled_at_spot (x ∷ es) id now spot is = by_rest (spot_in es id) refl (λ s at. recalled_at_spot es id now s at) is where
  here : (b : Bool) → spot_in es id ≡ None → at_front b (list_any (confirms id) es) ≡ Some spot → IsRecalledAt (x ∷ es) id now spot
  here false none e = absurd cc
  here true none e =
      let same : spot_at 0 (list_any (confirms id) es) ≡ spot = cc in
      subst (IsRecalledAt (x ∷ es) id now) same (record {
        inside = omega arith;
        recalls = λ entry first at found. recalled-cons x es id now
            ∙ ap (λ (o : Option Recalled). option_or o (option_map (λ (f : KeptFirst). record { answer = f.answer; confirmed = list_any (confirms id) es }) (repeated x id now))) (recalled_no_spot es id now none)
            ∙ ap (λ (o : Option KeptFirst). option_map (λ (f : KeptFirst). record { answer = f.answer; confirmed = list_any (confirms id) es }) o) (ap (λ (e : Entry). repeated e id now) (sym at) ∙ found);
      })

  by_rest : (o : Option Spot) → spot_in es id ≡ o → ((s : Spot) → spot_in es id ≡ Some s → IsRecalledAt es id now s)
      → option_or (option_map one_further o) (at_front (is_first_of id x) (list_any (confirms id) es)) ≡ Some spot → IsRecalledAt (x ∷ es) id now spot
  by_rest None none deeper e = here (is_first_of id x) none e
  by_rest (Some s) found deeper e =
      let same : one_further s ≡ spot = cc in
      let rest = deeper s found in
      subst (IsRecalledAt (x ∷ es) id now) same (record {
        inside = omega (arith, rest.inside);
        recalls = λ entry first at again. recalled-cons x es id now
            ∙ ap (λ (o : Option Recalled). option_or o (option_map (λ (f : KeptFirst). record { answer = f.answer; confirmed = list_any (confirms id) es }) (repeated x id now))) (rest.recalls entry first at again);
      })

-- the same where the front is gone
pub recalled_cut_no_spot : (es : List Entry) (gone id now : ℕ) → spot_in es id ≡ None → recalled (drop gone es) id now ≡ None
recalled_cut_no_spot es gone id now none =
    recalled_no_spot (drop gone es) id now (spot_in-drop gone es id ∙ ap (option_and_then (cut_by gone)) none)

pub recalled_cut_gone : (es : List Entry) (gone id now : ℕ) (spot : Spot) → spot_in es id ≡ Some spot → spot.place < gone → recalled (drop gone es) id now ≡ None
recalled_cut_gone es gone id now spot is below =
    recalled_no_spot (drop gone es) id now (spot_in-drop gone es id ∙ ap (option_and_then (cut_by gone)) is
    ∙ ap (λ (b : Bool). cond b None (Some (spot_at (spot.place - gone) spot.confirmed))) (lt-ltb spot.place gone below))

pub spot_inside : (es : List Entry) (id now : ℕ) (spot : Spot) → spot_in es id ≡ Some spot → spot.place < length es
spot_inside es id now spot is = (recalled_at_spot es id now spot is).inside

pub recalled_cut_spot : (es : List Entry) (gone id now : ℕ) (spot : Spot) (first : KeptFirst) → spot_in es id ≡ Some spot → gone ≤ spot.place
    → ((entry : Entry) → slice_get es spot.place ≡ Some entry → Some first ≡ repeated entry id now)
    → Some (record { answer = first.answer; confirmed = spot.confirmed }) ≡ recalled (drop gone es) id now
recalled_cut_spot es gone id now spot first is le repeats =
    let inside : spot.place < length es = spot_inside es id now spot is in
    let entry : Entry = entry_of es inside in
    let cut : spot_in (drop gone es) id ≡ Some (spot_at (spot.place - gone) spot.confirmed) =
    spot_in-drop gone es id ∙ ap (option_and_then (cut_by gone)) is
    ∙ ap (λ (b : Bool). cond b None (Some (spot_at (spot.place - gone) spot.confirmed))) (le-ltb spot.place gone le) in
    let back : gone + (spot.place - gone) ≡ spot.place = omega (arith, le) in
    let at : get_or es spot.place entry ≡ get_or (drop gone es) (spot.place - gone) (get_or es spot.place entry) =
    get_or_default es spot.place entry (get_or es spot.place entry) inside
    ∙ ap (λ n. get_or es n (get_or es spot.place entry)) (sym back) ∙ sym (get_or-drop gone es (spot.place - gone) (get_or es spot.place entry)) in
    sym ((recalled_at_spot (drop gone es) id now (spot_at (spot.place - gone) spot.confirmed) cut).recalls (get_or es spot.place entry) first at
    (sym (repeats (get_or es spot.place entry) (slice_get-get_or es spot.place entry inside))))
  where
    entry_of : (l : List Entry) → spot.place < length l → Entry
    entry_of [] within = absurd (omega (arith, within))
    entry_of (x ∷ l) within = x

-- what is settled, and what came since
pub recalled_parts : (es since : List Entry) (gone settled id now : ℕ) → gone ≤ settled → settled ≤ length es → since ≡ drop settled es
    → option_or (recalled since id now) (option_map (also (list_any (confirms id) since)) (recalled (drop gone (take settled es)) id now)) ≡ recalled (drop gone es) id now
recalled_parts es since gone settled id now le inside is =
    sym (ap (λ (l : List Entry). recalled l id now) (drop-split es gone settled le inside ∙ ap (λ (l : List Entry). drop gone (take settled es) ++ l) (sym is))
    ∙ recalled-append (drop gone (take settled es)) since id now)

module _ (es since : List Entry) (gone settled id now : ℕ) (le : gone ≤ settled) (inside : settled ≤ length es) (is : since ≡ drop settled es) where
  pub recalled_since : (r : Recalled) → Some r ≡ recalled since id now → Some r ≡ recalled (drop gone es) id now
  recalled_since r found =
      ap (λ (o : Option Recalled). option_or o (option_map (also (list_any (confirms id) since)) (recalled (drop gone (take settled es)) id now))) found
      ∙ recalled_parts es since gone settled id now le inside is

  recalled_before : (o : Option Recalled) → None ≡ recalled since id now → o ≡ recalled (drop gone (take settled es)) id now
      → option_map (also (list_any (confirms id) since)) o ≡ recalled (drop gone es) id now
  recalled_before o none before =
      ap (λ (later : Option Recalled). option_or later (option_map (also (list_any (confirms id) since)) o)) none
      ∙ ap (λ (earlier : Option Recalled). option_or (recalled since id now) (option_map (also (list_any (confirms id) since)) earlier)) before
      ∙ recalled_parts es since gone settled id now le inside is

  pub recalled_never : None ≡ recalled since id now → None ≡ recalled (drop gone (take settled es)) id now → None ≡ recalled (drop gone es) id now
  recalled_never none before = recalled_before None none before

  pub recalled_earlier : (earlier r : Recalled) → None ≡ recalled since id now → Some earlier ≡ recalled (drop gone (take settled es)) id now
      → r ≡ also (list_any (confirms id) since) earlier → Some r ≡ recalled (drop gone es) id now
  recalled_earlier earlier r none before same = ap (λ (x : Recalled). Some x) same ∙ recalled_before (Some earlier) none before
