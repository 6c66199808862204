-- Where the latest first of an id stands: behind one entry more, and where the front is cut off.
use Rattle.std.proofs.Common.{◌≡◌, ℕ, ◌+◌, ◌-◌, ◌<◌, zero, suc, Bool, true, false, cond, List, [], ◌∷◌, ◌++◌, length, get_or, take, drop, Option, Some, None, refl, sym, ◌∙◌, ap, arith}
use Rattle.std.specs.Prelude.{◌||◌, nat_lt, nat_eq, option_map}
use Rattle.std.specs.Option.{option_or, option_and_then}
use Rattle.std.specs.List.{list_any}
use Rattle.std.proofs.lemmas.Bool.{ltb-true, lt-ltb}
use Rattle.std.proofs.lemmas.Bool.Decides.{nat_tests}
use Rattle.std.proofs.lemmas.List.{take_more, length-take-le}
use Rattle.std.proofs.lemmas.List.Folds.{list_any-append}
use Rattle.transmission.specs.declared.entry.KeptFirst.{KeptFirst}
use Rattle.transmission.specs.declared.entry.Entry.{Entry}
use Rattle.transmission.specs.declared.entry.Entry.TheVariants.{First, Confirmation}
use Rattle.transmission.specs.declared.span.IdSpan.{IdSpan}
use Rattle.transmission.specs.declared.spots.Spot.{Spot}
use Rattle.transmission.specs.Span.{is_named}
use Rattle.transmission.specs.Looking.{confirms}
use Rattle.transmission.specs.Spots.{is_first_of, spot_at_front, one_further, spot_in, marked_if, cut_by}

or_false : (b : Bool) → (b || false) ≡ b
or_false true = refl
or_false false = refl

-- a spot at this place, confirmed or not
abbrev pub spot_at : ℕ → Bool → Spot
spot_at place confirmed = record { place = place; confirmed = confirmed }

-- what becomes of the spot of an id behind one entry more
abbrev pub spot_with : ℕ → Entry → ℕ → Option Spot → Option Spot
spot_with place (First first) id before = cond (nat_eq first.id id) (Some (spot_at place false)) before
spot_with place (Confirmation spans) id before = option_map (marked_if (is_named id spans)) before

abbrev at_front : Bool → Bool → Option Spot
at_front here confirmed = cond here (Some (spot_at 0 confirmed)) None

first_behind : (b here confirmed : Bool) (n : ℕ) (o : Option Spot)
    → option_or (option_map one_further (cond b (Some (spot_at n false)) o)) (at_front here (confirmed || false))
    ≡ cond b (Some (spot_at (suc n) false)) (option_or (option_map one_further o) (at_front here confirmed))
first_behind true here confirmed n o = refl
first_behind false here confirmed n o = ap (λ (c : Bool). option_or (option_map one_further o) (at_front here c)) (or_false confirmed)

named_behind : (named here confirmed : Bool) (o : Option Spot)
    → option_or (option_map one_further (option_map (marked_if named) o)) (at_front here (confirmed || (named || false)))
    ≡ option_map (marked_if named) (option_or (option_map one_further o) (at_front here confirmed))
named_behind named here confirmed (Some spot) = refl
named_behind named true confirmed None = ap (λ (b : Bool). Some (spot_at 0 (confirmed || b))) (or_false named)
named_behind named false confirmed None = refl

pub spot_in-push : (es : List Entry) (entry : Entry) (id : ℕ) → spot_in (es ++ entry ∷ []) id ≡ spot_with (length es) entry id (spot_in es id)
unfolding spot_in
spot_in-push [] (First first) id = refl
spot_in-push [] (Confirmation spans) id = refl
spot_in-push (x ∷ es) (First first) id =
    ap (λ (o : Option Spot). option_or (option_map one_further o) (spot_at_front id x (es ++ First first ∷ []))) (spot_in-push es (First first) id)
    ∙ ap (λ (b : Bool). option_or (option_map one_further (cond (nat_eq first.id id) (Some (spot_at (length es) false)) (spot_in es id))) (at_front (is_first_of id x) b)) (list_any-append (confirms id) es (First first ∷ []))
    ∙ first_behind (nat_eq first.id id) (is_first_of id x) (list_any (confirms id) es) (length es) (spot_in es id)
spot_in-push (x ∷ es) (Confirmation spans) id =
    ap (λ (o : Option Spot). option_or (option_map one_further o) (spot_at_front id x (es ++ Confirmation spans ∷ []))) (spot_in-push es (Confirmation spans) id)
    ∙ ap (λ (b : Bool). option_or (option_map one_further (option_map (marked_if (is_named id spans)) (spot_in es id))) (at_front (is_first_of id x) b)) (list_any-append (confirms id) es (Confirmation spans ∷ []))
    ∙ named_behind (is_named id spans) (is_first_of id x) (list_any (confirms id) es) (spot_in es id)

-- one entry more is taken in
pub spot_in-take_more : (es : List Entry) (place : ℕ) (entry : Entry) (id : ℕ) → place < length es → entry ≡ get_or es place entry
    → spot_in (take (place + 1) es) id ≡ spot_with place entry id (spot_in (take place es) id)
spot_in-take_more es place entry id inside is =
    ap (λ (l : List Entry). spot_in l id) (take_more es place entry inside)
    ∙ ap (λ (e : Entry). spot_in (take place es ++ e ∷ []) id) (sym is)
    ∙ spot_in-push (take place es) entry id
    ∙ ap (λ n. spot_with n entry id (spot_in (take place es) id)) (length-take-le place es (omega arith))

pub taken_first : (es : List Entry) (place : ℕ) (entry : Entry) (first : KeptFirst) (id : ℕ) → place < length es → entry ≡ get_or es place entry → entry ≡ First first
    → (before after : Option Spot) → before ≡ spot_in (take place es) id → after ≡ cond (nat_eq first.id id) (Some (spot_at place false)) before
    → after ≡ spot_in (take (place + 1) es) id
taken_first es place entry first id inside at kind before after is becomes =
    becomes ∙ ap (λ (o : Option Spot). cond (nat_eq first.id id) (Some (spot_at place false)) o) is
    ∙ ap (λ (e : Entry). spot_with place e id (spot_in (take place es) id)) (sym kind) ∙ sym (spot_in-take_more es place entry id inside at)

pub taken_confirmation : (es : List Entry) (place : ℕ) (entry : Entry) (spans : List IdSpan) (id : ℕ) → place < length es → entry ≡ get_or es place entry → entry ≡ Confirmation spans
    → (before after : Option Spot) → before ≡ spot_in (take place es) id → after ≡ option_map (marked_if (is_named id spans)) before
    → after ≡ spot_in (take (place + 1) es) id
taken_confirmation es place entry spans id inside at kind before after is becomes =
    becomes ∙ ap (option_map (marked_if (is_named id spans))) is
    ∙ ap (λ (e : Entry). spot_with place e id (spot_in (take place es) id)) (sym kind) ∙ sym (spot_in-take_more es place entry id inside at)

cut_none : (o : Option Spot) → o ≡ option_and_then (cut_by 0) o
cut_none None = refl
cut_none (Some spot) = by_test (nat_lt spot.place 0) refl where
  by_test : (b : Bool) → nat_lt spot.place 0 ≡ b → Some spot ≡ cond b None (Some (spot_at (spot.place - 0) spot.confirmed))
  by_test true is = absurd (let below : spot.place < 0 = ltb-true spot.place 0 is in omega (arith, below))
  by_test false is = let same : spot.place ≡ spot.place - 0 = omega arith in ap (λ n. Some (spot_at n spot.confirmed)) same

cut_further : (g : ℕ) (here confirmed : Bool) (o : Option Spot)
    → option_and_then (cut_by g) o ≡ option_and_then (cut_by (suc g)) (option_or (option_map one_further o) (at_front here confirmed))
cut_further g true confirmed None = sym (ap (λ (b : Bool). cond b None (Some (spot_at (0 - suc g) confirmed))) (lt-ltb 0 (suc g) (omega arith)))
cut_further g false confirmed None = refl
cut_further g here confirmed (Some spot) =
    let test : nat_lt spot.place g ≡ nat_lt (suc spot.place) (suc g) = grind (arith, nat_tests) in
    let less : spot.place - g ≡ suc spot.place - suc g = omega arith in
    ap (λ (b : Bool). cond b None (Some (spot_at (spot.place - g) spot.confirmed))) test
    ∙ ap (λ n. cond (nat_lt (suc spot.place) (suc g)) None (Some (spot_at n spot.confirmed))) less

pub spot_in-drop : (g : ℕ) (es : List Entry) (id : ℕ) → spot_in (drop g es) id ≡ option_and_then (cut_by g) (spot_in es id)
unfolding spot_in
spot_in-drop zero es id = cut_none (spot_in es id)
spot_in-drop (suc g) [] id = refl
spot_in-drop (suc g) (x ∷ es) id = spot_in-drop g es id ∙ cut_further g (is_first_of id x) (list_any (confirms id) es) (spot_in es id)
