-- That the fields of a history go on to fit each other.
use Rattle.std.proofs.Common.{◌≡◌, ℕ, ◌+◌, ◌-◌, ◌≤◌, Bool, true, false, List, [], ◌∷◌, ◌++◌, length, take, drop, filter, Option, Some, None, refl, sym, subst, ◌∙◌, ap, arith, length-append, length-drop}
use Rattle.std.specs.Prelude.{nat_eq, is_some}
use Rattle.std.specs.Option.{option_and_then}
use Rattle.std.specs.Map.{lookup}
use Rattle.std.proofs.lemmas.List.{take_rest, take-append-drop, take-append-le, drop-take, drop-drop, drop-append-le, length-take-le}
use Rattle.std.proofs.Math.Seq.{take-length}
use Rattle.indexmap.specs.IndexMap.{IndexMap, get, spare}
use Rattle.transmission.specs.declared.entry.KeptFirst.{KeptFirst}
use Rattle.transmission.specs.declared.entry.Entry.{Entry}
use Rattle.transmission.specs.declared.entry.Entry.TheVariants.{First, Confirmation}
use Rattle.transmission.specs.declared.spots.Spot.{Spot}
use Rattle.transmission.specs.Kept.{HistoryState, firsts_in, AreInOrder}
use Rattle.transmission.specs.Spots.{is_first, spot_in, cut_by, Indexes, RiseTo, IsIndexed}
use Rattle.transmission.proofs.SpotLaws.{spot_in-drop}
use Rattle.transmission.proofs.CountLaws.{firsts_counted, count-append, firsts-le-entries, rise_none, rise_first, rise_confirmed, rise_drop, rise_take, order_drop}

-- Lists

pub drop-split : (es : List Entry) (gone settled : ℕ) → gone ≤ settled → settled ≤ length es → drop gone es ≡ drop gone (take settled es) ++ drop settled es
drop-split es gone settled le inside =
    ap (drop gone) (sym (take-append-drop settled es))
    ∙ drop-append-le gone (take settled es) (drop settled es) (let same : length (take settled es) ≡ settled = length-take-le settled es inside in omega (arith, same, le))

pub drop-push : (es : List Entry) (entry : Entry) (gone : ℕ) → gone ≤ length es → drop gone (es ++ entry ∷ []) ≡ drop gone es ++ entry ∷ []
drop-push es entry gone inside = drop-append-le gone es (entry ∷ []) inside

-- a slice from a place on
pub rest_of : (slice es : List Entry) (n : ℕ) → slice ≡ es → take (length slice - n) (drop n slice) ≡ drop n es
rest_of slice es n is = take_rest slice n ∙ ap (drop n) is

-- the firsts in it, and in its front
pub rest_counted : (slice es : List Entry) (n count : ℕ) → slice ≡ es → count ≡ length (filter is_first (take (length slice - n) (drop n slice)))
    → count ≡ length (firsts_in (drop n es))
rest_counted slice es n count is counts =
    counts ∙ firsts_counted (take (length slice - n) (drop n slice)) ∙ ap (λ (l : List Entry). length (firsts_in l)) (rest_of slice es n is)

pub front_counted : (slice es : List Entry) (n old count : ℕ) → slice ≡ es → count ≡ length (filter is_first (take old (take (length slice - n) (drop n slice))))
    → count ≡ length (firsts_in (take old (drop n es)))
front_counted slice es n old count is counts =
    counts ∙ firsts_counted (take old (take (length slice - n) (drop n slice))) ∙ ap (λ (l : List Entry). length (firsts_in (take old l))) (rest_of slice es n is)

abbrev state : List Entry → List Entry → ℕ → HistoryState
state kept settled purged = record { kept = kept; settled = settled; purged = purged }

module _ {S : Type 0} where
  -- nothing yet
  pub nothing_indexed : (spots : IndexMap ℕ Spot S) → spots.entries ≡ [] → IsIndexed [] 0 0 spots 0 (Some 0)
  unfolding spot_in
  nothing_indexed spots empty = record {
    in_front = omega arith;
    inside = omega arith;
    index = λ id. ap (lookup (nat_eq id)) empty;
    room = omega arith;
    counted = refl;
    rising = λ moment is. rise_none moment;
  }

  module _ (es : List Entry) (gone settled : ℕ) (spots : IndexMap ℕ Spot S) (firsts : ℕ) (reached : Option ℕ) (fits : IsIndexed es gone settled spots firsts reached) where
    -- what is kept, in two parts
    pub kept_parts : drop gone es ≡ drop gone (take settled es) ++ drop settled es
    kept_parts = drop-split es gone settled fits.in_front fits.inside

    pub gone-le : gone ≤ length es
    gone-le = omega (arith, fits.in_front, fits.inside)

    pub firsts-le : firsts ≤ length es
    firsts-le =
        let few : length (firsts_in (drop gone es)) ≤ length (drop gone es) = firsts-le-entries (drop gone es) in
        omega (arith, few, fits.counted, length-drop gone es)

    -- one more
    abbrev IsRoomFor : IndexMap ℕ Spot S → Type 0
    IsRoomFor more = (more.entries ≡ spots.entries) × (length es - settled + 1 ≤ spare more)

    one_more : (entry : Entry) (more : IndexMap ℕ Spot S) (count : ℕ) (latest : Option ℕ) → IsRoomFor more
        → count ≡ firsts + length (firsts_in (entry ∷ [])) → ((moment : ℕ) → latest ≡ Some moment → RiseTo moment (es ++ entry ∷ []))
        → IsIndexed (es ++ entry ∷ []) gone settled more count latest
    one_more entry more count latest room counts rises =
        let longer : length (es ++ entry ∷ []) ≡ length es + 1 = length-append es (entry ∷ []) in
        record {
          in_front = fits.in_front;
          inside = omega (arith, fits.inside, longer);
          index = λ id. ap (lookup (nat_eq id)) room.0 ∙ fits.index id ∙ ap (λ (l : List Entry). spot_in l id) (sym (take-append-le settled es (entry ∷ []) fits.inside));
          room = omega (arith, room.1, longer, fits.inside);
          counted = counts ∙ ap (λ n. n + length (firsts_in (entry ∷ []))) fits.counted ∙ sym (ap (λ (l : List Entry). length (firsts_in l)) (drop-push es entry gone gone-le) ∙ count-append (drop gone es) (entry ∷ []));
          rising = rises;
        }

    pub one_first : (first : KeptFirst) (more : IndexMap ℕ Spot S) (latest : Option ℕ) → more.entries ≡ spots.entries → length es - settled + 1 ≤ spare more
        → ((now : ℕ) → latest ≡ Some now → (now ≡ first.moment) × (before : ℕ) × (reached ≡ Some before) × (before ≤ first.moment))
        → IsIndexed (es ++ First first ∷ []) gone settled more (firsts + 1) latest
    one_first first more latest same room later =
        one_more (First first) more (firsts + 1) latest (same, room) refl
        (λ moment is. let l = later moment is in subst (λ n. RiseTo n (es ++ First first ∷ [])) (sym l.0) (rise_first l.1 es first (fits.rising l.1 l.2) l.3))

    pub one_confirmation : (entry : Entry) (more : IndexMap ℕ Spot S) → is_first entry ≡ false → more.entries ≡ spots.entries → length es - settled + 1 ≤ spare more
        → IsIndexed (es ++ entry ∷ []) gone settled more firsts reached
    one_confirmation (First first) more is same room = absurd cc
    one_confirmation (Confirmation spans) more is same room =
        one_more (Confirmation spans) more firsts reached (same, room) (omega arith)
        (λ moment at. rise_confirmed moment es (Confirmation spans) refl (fits.rising moment at))

    -- all is settled
    pub all_settled : (more : IndexMap ℕ Spot S) → Indexes more es → IsIndexed es gone (length es) more firsts reached
    all_settled more index = record {
      in_front = gone-le;
      inside = omega arith;
      index = λ id. index id ∙ ap (λ (l : List Entry). spot_in l id) (sym (take-length es));
      room = omega arith;
      counted = fits.counted;
      rising = fits.rising;
    }

    -- so it is where what is settled is all that is kept
    pub all_in : drop gone (take settled es) ≡ drop gone es → settled ≡ length es
    all_in same =
        omega (arith, ap length same, length-drop gone (take settled es), length-drop gone es, length-take-le settled es fits.inside, fits.in_front, fits.inside)

    -- the moments of what is kept rise, where it is known how far
    pub kept_in_order : (b : Bool) → b ≡ is_some reached → b ≡ true → AreInOrder (firsts_in (drop gone es))
    kept_in_order b is holds = by reached refl (sym holds ∙ is) where
      by : (o : Option ℕ) → reached ≡ o → true ≡ is_some o → AreInOrder (firsts_in (drop gone es))
      by None at some = absurd cc
      by (Some moment) at some = order_drop gone es (fits.rising moment at).0

    -- so many more are gone, where all is settled
    pub count_parts : (old : ℕ) → length (firsts_in (drop gone es)) ≡ length (firsts_in (take old (drop gone es))) + length (firsts_in (drop old (drop gone es)))
    count_parts old =
        ap (λ (l : List Entry). length (firsts_in l)) (sym (take-append-drop old (drop gone es)))
        ∙ count-append (take old (drop gone es)) (drop old (drop gone es))

    pub passed-le : (old n : ℕ) → n ≡ length (firsts_in (take old (drop gone es))) → n ≤ firsts
    passed-le old n is = omega (arith, is, count_parts old, fits.counted)

    pub old_passed : (old n : ℕ) → old ≤ length (drop gone es) → n ≡ length (firsts_in (take old (drop gone es))) → settled ≡ length es
        → IsIndexed es (gone + old) settled spots (firsts - n) reached
    old_passed old n within is all = record {
      in_front = omega (arith, within, length-drop gone es, gone-le, all);
      inside = fits.inside;
      index = fits.index;
      room = fits.room;
      counted =
          let rest : firsts - n ≡ length (firsts_in (drop old (drop gone es))) = omega (arith, is, count_parts old, fits.counted) in
          rest ∙ ap (λ (l : List Entry). length (firsts_in l)) (drop-drop old gone es);
      rising = fits.rising;
    }

    -- what isn't settled is taken back
    pub since_counted : firsts ≡ length (firsts_in (drop gone (take settled es))) + length (firsts_in (drop settled es))
    since_counted = fits.counted ∙ ap (λ (l : List Entry). length (firsts_in l)) kept_parts ∙ count-append (drop gone (take settled es)) (drop settled es)

    pub undone : (n : ℕ) → n ≡ length (firsts_in (drop settled es)) → IsIndexed (take settled es) gone settled spots (firsts - n) reached
    undone n is =
        let same : length (take settled es) ≡ settled = length-take-le settled es fits.inside in
        record {
          in_front = fits.in_front;
          inside = omega (arith, same);
          index = λ id. fits.index id ∙ ap (λ (l : List Entry). spot_in l id) (sym (taken same));
          room = omega (arith, same);
          counted = omega (arith, is, since_counted);
          rising = λ moment at. rise_take moment settled es (fits.rising moment at);
        }
      where
        taken : length (take settled es) ≡ settled → take settled (take settled es) ≡ take settled es
        taken same = ap (λ n. take n (take settled es)) (sym same) ∙ take-length (take settled es)

    -- what is gone is cut off
    pub settled_cut : take (settled - gone) (drop gone es) ≡ drop gone (take settled es)
    settled_cut =
        let back : gone + (settled - gone) ≡ settled = omega (arith, fits.in_front) in
        sym (drop-take gone (settled - gone) es) ∙ ap (λ n. drop gone (take n es)) back

    pub gone_cut : (more : IndexMap ℕ Spot S) → ((id : ℕ) → get nat_eq more id ≡ option_and_then (cut_by gone) (get nat_eq spots id)) → spare spots ≤ spare more
        → IsIndexed (drop gone es) 0 (settled - gone) more firsts reached
    gone_cut more cut room = record {
      in_front = omega arith;
      inside = omega (arith, length-drop gone es, fits.inside, fits.in_front);
      index = λ id. cut id ∙ ap (option_and_then (cut_by gone)) (fits.index id) ∙ sym (spot_in-drop gone (take settled es) id) ∙ ap (λ (l : List Entry). spot_in l id) (sym settled_cut);
      room = omega (arith, length-drop gone es, fits.room, room, fits.inside, fits.in_front);
      counted = fits.counted;
      rising = λ moment at. rise_drop moment gone es (fits.rising moment at);
    }

    pub cut_view : (rest : List Entry) (purged : ℕ) → rest ≡ drop gone es
        → state rest (take (settled - gone) rest) purged ≡ state (drop gone es) (drop gone (take settled es)) purged
    cut_view rest purged is =
        ap (λ (l : List Entry). state l (take (settled - gone) l) purged) is
        ∙ ap (λ (l : List Entry). state (drop gone es) l purged) settled_cut

  -- both a confirmation and a first
  pub one_of_both : (es : List Entry) (gone settled : ℕ) (spots : IndexMap ℕ Spot S) (firsts : ℕ) (reached : Option ℕ) → IsIndexed es gone settled spots firsts reached
      → (entry : Entry) (first : KeptFirst) (more : IndexMap ℕ Spot S) (latest : Option ℕ) → is_first entry ≡ false → more.entries ≡ spots.entries → length es - settled + 2 ≤ spare more
      → ((now : ℕ) → latest ≡ Some now → (now ≡ first.moment) × (before : ℕ) × (reached ≡ Some before) × (before ≤ first.moment))
      → IsIndexed ((es ++ entry ∷ []) ++ First first ∷ []) gone settled more (firsts + 1) latest
  one_of_both es gone settled spots firsts reached fits entry first more latest is same room later =
      let longer : length (es ++ entry ∷ []) ≡ length es + 1 = length-append es (entry ∷ []) in
      one_first (es ++ entry ∷ []) gone settled more firsts reached
      (one_confirmation es gone settled spots firsts reached fits entry more is same (omega (arith, room)))
      first more latest refl (omega (arith, room, longer, fits.inside)) later
