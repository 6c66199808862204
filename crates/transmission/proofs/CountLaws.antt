-- How many firsts there are, how many of them are young, and how their moments rise.
use Rattle.std.proofs.Common.{◌≡◌, ℕ, ◌+◌, ◌-◌, ◌<◌, ◌≤◌, zero, suc, Bool, true, false, cond, List, [], ◌∷◌, ◌++◌, length, get_or, take, drop, filter, refl, sym, subst, ◌∙◌, ap, arith, length-append}
use Rattle.std.specs.Prelude.{All}
use Rattle.std.proofs.lemmas.Bool.{lt-ltb}
use Rattle.std.proofs.lemmas.List.{append-nil}
use Rattle.std.proofs.lemmas.List.Elements.{All-nil, All-cons, All-head, All-tail, All-weaker, All-append}
use Rattle.std.proofs.lemmas.List.Kept.{AllPairs-cons}
use Rattle.std.proofs.lemmas.List.Quantifiers.{all_pairs_push}
use Rattle.transmission.specs.declared.entry.KeptFirst.{KeptFirst}
use Rattle.transmission.specs.declared.entry.Entry.{Entry}
use Rattle.transmission.specs.declared.entry.Entry.TheVariants.{First, Confirmation}
use Rattle.transmission.specs.Memory.{memory_time, is_young}
use Rattle.transmission.specs.Kept.{HistoryState, settled_at, is_young_first, young_firsts, from_young, firsts_in, AreInOrder}
use Rattle.transmission.specs.Spots.{is_first, RiseTo}
use Rattle.transmission.proofs.RecallLaws.{young_purged}
use Rattle.transmission.proofs.PurgeLaws.{in_order, pairs_tail, pairs_head, purge_leaves_young}

-- Counts

pub firsts_counted : (es : List Entry) → length (filter is_first es) ≡ length (firsts_in es)
firsts_counted [] = refl
firsts_counted (First first ∷ es) = ap suc (firsts_counted es)
firsts_counted (Confirmation spans ∷ es) = firsts_counted es

pub firsts_in-append : (xs ys : List Entry) → firsts_in (xs ++ ys) ≡ firsts_in xs ++ firsts_in ys
firsts_in-append [] ys = refl
firsts_in-append (First first ∷ xs) ys = ap (λ (fs : List KeptFirst). first ∷ fs) (firsts_in-append xs ys)
firsts_in-append (Confirmation spans ∷ xs) ys = firsts_in-append xs ys

pub count-append : (xs ys : List Entry) → length (firsts_in (xs ++ ys)) ≡ length (firsts_in xs) + length (firsts_in ys)
count-append xs ys = ap length (firsts_in-append xs ys) ∙ length-append (firsts_in xs) (firsts_in ys)

pub firsts-le-entries : (es : List Entry) → length (firsts_in es) ≤ length es
firsts-le-entries [] = omega arith
firsts-le-entries (First first ∷ es) = omega (arith, firsts-le-entries es)
firsts-le-entries (Confirmation spans ∷ es) = omega (arith, firsts-le-entries es)

pub young-le-firsts : (now : ℕ) (es : List Entry) → length (young_firsts now es) ≤ length (firsts_in es)
young-le-firsts now [] = omega arith
young-le-firsts now (Confirmation spans ∷ es) = young-le-firsts now es
young-le-firsts now (First first ∷ es) = by_age (is_young now first.moment) (young-le-firsts now es) where
  by_age : (b : Bool) → length (young_firsts now es) ≤ length (firsts_in es)
      → length (cond b (First first ∷ young_firsts now es) (young_firsts now es)) ≤ suc (length (firsts_in es))
  by_age true rest = omega (arith, rest)
  by_age false rest = omega (arith, rest)

-- where all are young they are as many as there are
abbrev IsYoung : ℕ → KeptFirst → Type 0
IsYoung now first = now - first.moment < memory_time

pub all_young_count : (now : ℕ) (es : List Entry) → All (λ (first : KeptFirst). now - first.moment < memory_time) (firsts_in es) → length (young_firsts now es) ≡ length (firsts_in es)
all_young_count now [] young = refl
all_young_count now (Confirmation spans ∷ es) young = all_young_count now es young
all_young_count now (First first ∷ es) young =
    let here : is_young now first.moment ≡ true = lt-ltb (now - first.moment) memory_time (All-head (IsYoung now) first (firsts_in es) young) in
    ap (λ (b : Bool). length (cond b (First first ∷ young_firsts now es) (young_firsts now es))) here
    ∙ ap suc (all_young_count now es (All-tail (IsYoung now) first (firsts_in es) young))

-- what a purge leaves is counted
pub young_counted : (now : ℕ) (es : List Entry) → AreInOrder (firsts_in es) → length (firsts_in (from_young now es)) ≡ length (young_firsts now es)
young_counted now es order =
    sym (all_young_count now (from_young now es) (purge_leaves_young now es order))
    ∙ ap length (young_purged es now now (omega arith))

-- in whatever order the firsts came, those that are young at a purge are counted after it
pub purge_counted : (history : HistoryState) (now : ℕ) (before : List Entry) → history ≡ settled_at now (from_young now before)
    → length (young_firsts history.purged history.kept) ≡ length (young_firsts now before)
purge_counted history now before is =
    ap (λ (h : HistoryState). length (young_firsts h.purged h.kept)) is
    ∙ ap length (young_purged before now now (omega arith))

-- a young one in front has young ones behind it
pub young_behind_young : (now : ℕ) (entry : Entry) (es : List Entry) → AreInOrder (firsts_in (entry ∷ es)) → is_young_first now entry ≡ true
    → length (young_firsts now (entry ∷ es)) ≡ length (firsts_in (entry ∷ es))
unfolding from_young
young_behind_young now entry es order young =
    let same : from_young now (entry ∷ es) ≡ entry ∷ es = ap (λ (b : Bool). cond b (entry ∷ es) (from_young now es)) young in
    sym (young_counted now (entry ∷ es) order) ∙ ap (λ (l : List Entry). length (firsts_in l)) same

pub young_in_front : (now : ℕ) (es : List Entry) (entry : Entry) → entry ≡ get_or es 0 entry → 0 < length es → is_young_first now entry ≡ true
    → AreInOrder (firsts_in es) → length (young_firsts now es) ≡ length (firsts_in es)
young_in_front now [] entry at some young order = absurd (omega (arith, some))
young_in_front now (x ∷ es) entry at some young order = young_behind_young now x es order (sym (ap (is_young_first now) at) ∙ young)

-- Order

all_firsts_drop : (P : KeptFirst → Type 0) (n : ℕ) (es : List Entry) → All P (firsts_in es) → All P (firsts_in (drop n es))
all_firsts_drop P zero es all = all
all_firsts_drop P (suc n) [] all = all
all_firsts_drop P (suc n) (First first ∷ es) all = all_firsts_drop P n es (All-tail P first (firsts_in es) all)
all_firsts_drop P (suc n) (Confirmation spans ∷ es) all = all_firsts_drop P n es all

all_firsts_take : (P : KeptFirst → Type 0) (n : ℕ) (es : List Entry) → All P (firsts_in es) → All P (firsts_in (take n es))
all_firsts_take P zero es all = All-nil P
all_firsts_take P (suc n) [] all = All-nil P
all_firsts_take P (suc n) (First first ∷ es) all =
    All-cons P first (firsts_in (take n es)) (All-head P first (firsts_in es) all) (all_firsts_take P n es (All-tail P first (firsts_in es) all))
all_firsts_take P (suc n) (Confirmation spans ∷ es) all = all_firsts_take P n es all

pub order_drop : (n : ℕ) (es : List Entry) → AreInOrder (firsts_in es) → AreInOrder (firsts_in (drop n es))
order_drop zero es order = order
order_drop (suc n) [] order = order
order_drop (suc n) (First first ∷ es) order = order_drop n es (pairs_tail first (firsts_in es) order)
order_drop (suc n) (Confirmation spans ∷ es) order = order_drop n es order

order_take : (n : ℕ) (es : List Entry) → AreInOrder (firsts_in es) → AreInOrder (firsts_in (take n es))
order_take zero es order = λ i j d lt inside. absurd (omega (arith, inside))
order_take (suc n) [] order = order
order_take (suc n) (First first ∷ es) order =
    AllPairs-cons in_order first (firsts_in (take n es)) (all_firsts_take (in_order first) n es (pairs_head first (firsts_in es) order))
    (order_take n es (pairs_tail first (firsts_in es) order))
order_take (suc n) (Confirmation spans ∷ es) order = order_take n es order

pub rise_drop : (moment n : ℕ) (es : List Entry) → RiseTo moment es → RiseTo moment (drop n es)
rise_drop moment n es rise = (order_drop n es rise.0, all_firsts_drop (λ (first : KeptFirst). first.moment ≤ moment) n es rise.1)

pub rise_take : (moment n : ℕ) (es : List Entry) → RiseTo moment es → RiseTo moment (take n es)
rise_take moment n es rise = (order_take n es rise.0, all_firsts_take (λ (first : KeptFirst). first.moment ≤ moment) n es rise.1)

pub rise_none : (moment : ℕ) → RiseTo moment []
rise_none moment = (λ i j d lt inside. absurd (omega (arith, inside)), All-nil (λ (first : KeptFirst). first.moment ≤ moment))

pub rise_confirmed : (moment : ℕ) (es : List Entry) (entry : Entry) → is_first entry ≡ false → RiseTo moment es → RiseTo moment (es ++ entry ∷ [])
rise_confirmed moment es (First first) is rise = absurd cc
rise_confirmed moment es (Confirmation spans) is rise =
    let same : firsts_in (es ++ Confirmation spans ∷ []) ≡ firsts_in es = firsts_in-append es (Confirmation spans ∷ []) ∙ append-nil (firsts_in es) in
    subst (λ (fs : List KeptFirst). AreInOrder fs × All (λ (first : KeptFirst). first.moment ≤ moment) fs) (sym same) rise

pub rise_first : (latest : ℕ) (es : List Entry) (first : KeptFirst) → RiseTo latest es → latest ≤ first.moment → RiseTo first.moment (es ++ First first ∷ [])
rise_first latest es first rise le =
    let bound : All (λ (f : KeptFirst). f.moment ≤ first.moment) (firsts_in es) =
    All-weaker (λ (f : KeptFirst). f.moment ≤ latest) (λ (f : KeptFirst). f.moment ≤ first.moment) (λ f lt. omega (arith, lt, le)) (firsts_in es) rise.1 in
    let own : All (λ (f : KeptFirst). f.moment ≤ first.moment) (first ∷ []) =
    All-cons (λ (f : KeptFirst). f.moment ≤ first.moment) first [] (omega arith) (All-nil (λ (f : KeptFirst). f.moment ≤ first.moment)) in
    subst (λ (fs : List KeptFirst). AreInOrder fs × All (λ (f : KeptFirst). f.moment ≤ first.moment) fs) (sym (firsts_in-append es (First first ∷ [])))
    (all_pairs_push in_order (firsts_in es) first rise.0 (λ k d lt. bound k d lt), All-append (λ (f : KeptFirst). f.moment ≤ first.moment) (firsts_in es) (first ∷ []) bound own)
