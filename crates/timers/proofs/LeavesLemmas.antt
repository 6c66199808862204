-- Leaves in their order hold a table in its order.
use Rattle.std.proofs.Common.{◌≡◌, ℕ, zero, suc, ◌+◌, ◌*◌, ◌<◌, Bool, true, false, cond, List, length, set, replicate, Option, Some, None, ◌∷◌, [], refl, ap, sym, ◌∙◌, arith, subst, ◌≤◌}
use Rattle.std.specs.Prelude.{not, IfSome}
use Rattle.std.specs.List.{AllByRecursion}
use Rattle.std.specs.declared.cmp.Ordering.{Ordering}
use Rattle.std.specs.declared.cmp.Ordering.TheVariants.{Less, Equal, Greater}
use Rattle.std.specs.Ordering.{nat_cmp, ordering_then, ordering_reverse, is_lt, is_eq}
use Rattle.std.specs.Cmp.{ranked}
use Rattle.std.proofs.lemmas.Cmp.{tied_itself}
use Rattle.std.proofs.lemmas.List.{length-replicate}
use Rattle.std.proofs.lemmas.Grind.{common_steps}
use Rattle.timers.specs.declared.kind.DueKind.{DueKind}
use Rattle.timers.specs.declared.due_item.DueItem.{DueItem}
use Rattle.timers.specs.Order.{kind_number, kind_count, kind_cmp, place_cmp, comes_before, earlier}
use Rattle.timers.specs.Table.{Table, due, is_of, moment_of, without, with_item, with_moment, least_of, IsLeast}
use Rattle.timers.specs.Leaves.{leaf_of, set_in, first_of, IsAt, IsAtIfSet, ArePlaced, IsKept}
use Rattle.timers.proofs.OrderLemmas.{kind_within, kind_exact, place_total}
use Rattle.timers.proofs.LeastLemmas.{less, least_keeps, least_first, NoneBefore}
use Rattle.timers.proofs.TableLaws.{is_of-itself, is_of-same, NoneOf, without_none, at_found}

-- Of two items the one with the lesser leaf has the lesser place

place_less : (i j : ℕ) (a b : DueItem) → IsAt i a → IsAt j b → i < j → place_cmp a b ≡ Less
place_less i j a b first second below = by_line (nat_cmp a.line b.line) refl
  where
    m : kind_number a.kind < kind_count
    m = kind_within a.kind

    n : kind_number b.kind < kind_count
    n = kind_within b.kind

    by_line : (o : Ordering) → o ≡ nat_cmp a.line b.line → ordering_then o (kind_cmp a.kind b.kind) ≡ Less
    by_line Less e = refl
    by_line Equal e =
        let same : a.line ≡ b.line = ranked a.line b.line Equal e in
        let here : i ≡ leaf_of a.line a.kind = first in
        let there : j ≡ leaf_of b.line b.kind = second in
        less (kind_number a.kind) (kind_number b.kind) (omega (arith, m, n, same, here, there, below))
    by_line Greater e =
        let behind : b.line < a.line = ranked a.line b.line Greater e in
        let here : i ≡ leaf_of a.line a.kind = first in
        let there : j ≡ leaf_of b.line b.kind = second in
        absurd (omega (arith, m, n, behind, here, there, below))

-- what belongs to a leaf is of its line and its kind
at_leaf : (line : ℕ) (kind : DueKind) (item : DueItem) → IsAt (leaf_of line kind) item → is_of line kind item ≡ true
at_leaf line kind item is =
    let m : kind_number kind < kind_count = kind_within kind in
    let n : kind_number item.kind < kind_count = kind_within item.kind in
    let here : leaf_of line kind ≡ leaf_of item.line item.kind = is in
    let lines : line ≡ item.line = omega (arith, m, n, here) in
    let numbers : kind_number kind ≡ kind_number item.kind = omega (arith, m, n, here) in
    let kinds : kind ≡ item.kind = kind_exact kind item.kind numbers in
    ap (λ l. is_of l kind item) lines ∙ ap (λ k. is_of item.line k item) kinds ∙ is_of-itself item

-- what comes before or behind an item in the order of places isn't of its line and kind
of_one_place : (a b : DueItem) → is_of a.line a.kind b ≡ true → place_cmp a b ≡ Equal
of_one_place a b is =
    let same = is_of-same a.line a.kind b is in
    ap (λ l. ordering_then (nat_cmp l b.line) (kind_cmp a.kind b.kind)) same.0
    ∙ ap (λ k. ordering_then (nat_cmp b.line b.line) (kind_cmp k b.kind)) same.1
    ∙ tied_itself place_total b

elsewhere : (a b : DueItem) → is_eq (place_cmp a b) ≡ false → is_of a.line a.kind b ≡ false
elsewhere a b apart = by (is_of a.line a.kind b) refl
  where
    differ : true ≡ false → ⊥
    differ e = cc

    by : (x : Bool) → is_of a.line a.kind b ≡ x → x ≡ false
    by true e = absurd (differ (sym (ap is_eq (of_one_place a b e)) ∙ apart))
    by false e = refl

greater : (a b : DueItem) → place_cmp a b ≡ Less → place_cmp b a ≡ Greater
greater a b l = place_total.antisymm b a ∙ ap ordering_reverse l

-- what is set in leaves from one on comes behind what belongs to an earlier leaf
abbrev AllBehind : DueItem → Table → Type 0
AllBehind item table = AllByRecursion (λ other. place_cmp item other ≡ Less) table

all_behind : (leaf first : ℕ) (leaves : List (Option DueItem)) (item : DueItem) → IsAt leaf item → leaf < first →
    ArePlaced first leaves → AllBehind item (set_in leaves)
all_behind leaf first [] item at below placed = tt
all_behind leaf first (None ∷ leaves) item at below placed =
    all_behind leaf (suc first) leaves item at (omega arith) placed.1
all_behind leaf first (Some other ∷ leaves) item at below placed = (
  place_less leaf first item other at placed.0 below,
  all_behind leaf (suc first) leaves item at (omega arith) placed.1,
)

none_behind : (item : DueItem) (table : Table) → AllBehind item table → NoneOf item.line item.kind table
none_behind item [] all = tt
none_behind item (other ∷ table) all =
    (elsewhere item other (ap is_eq all.0), none_behind item table all.1)

front : (item : DueItem) (table : Table) → AllBehind item table → with_item table item ≡ item ∷ table
front item [] all = refl
front item (other ∷ table) all =
    ap (λ b. cond b (item ∷ other ∷ table) (other ∷ with_item table item)) (ap is_lt all.0)

-- A leaf is emptied, and one gets an item

pub set_in-cleared : (first i : ℕ) (leaves : List (Option DueItem)) (line : ℕ) (kind : DueKind) →
    first + i ≡ leaf_of line kind → ArePlaced first leaves →
    set_in (set leaves i None) ≡ without (set_in leaves) line kind
set_in-cleared first i [] line kind is placed = refl
set_in-cleared first zero (None ∷ leaves) line kind is placed =
    sym (without_none line kind (set_in leaves) (none_behind (due 0 line kind) (set_in leaves)
    (all_behind first (suc first) leaves (due 0 line kind) (omega arith) (omega arith) placed.1)))
set_in-cleared first zero (Some other ∷ leaves) line kind is placed =
    let here : first ≡ leaf_of line kind = omega arith in
    let there : first ≡ leaf_of other.line other.kind = placed.0 in
    sym (ap (λ b. cond (not b) (other ∷ without (set_in leaves) line kind) (without (set_in leaves) line kind))
    (at_leaf line kind other (sym here ∙ there))
    ∙ without_none line kind (set_in leaves) (none_behind (due 0 line kind) (set_in leaves)
    (all_behind first (suc first) leaves (due 0 line kind) here (omega arith) placed.1)))
set_in-cleared first (suc i) (None ∷ leaves) line kind is placed =
    set_in-cleared (suc first) i leaves line kind (omega arith) placed.1
set_in-cleared first (suc i) (Some other ∷ leaves) line kind is placed =
    let before : place_cmp other (due 0 line kind) ≡ Less =
    place_less first (first + suc i) other (due 0 line kind) placed.0 is (omega arith) in
    ap (λ t. other ∷ t) (set_in-cleared (suc first) i leaves line kind (omega arith) placed.1)
    ∙ sym (ap (λ b. cond (not b) (other ∷ without (set_in leaves) line kind) (without (set_in leaves) line kind))
    (elsewhere (due 0 line kind) other (ap is_eq (greater other (due 0 line kind) before))))

set_in-filled : (first i : ℕ) (leaves : List (Option DueItem)) (item : DueItem) →
    first + i ≡ leaf_of item.line item.kind → ArePlaced first leaves →
    i < length leaves → set_in (set leaves i (Some item)) ≡ with_item (set_in (set leaves i None)) item
set_in-filled first i [] item is placed within = absurd (omega arith)
set_in-filled first zero (leaf ∷ leaves) item is placed within =
    sym (front item (set_in leaves)
    (all_behind first (suc first) leaves item (omega arith) (omega arith) placed.1))
set_in-filled first (suc i) (None ∷ leaves) item is placed within =
    set_in-filled (suc first) i leaves item (omega arith) placed.1 (omega arith)
set_in-filled first (suc i) (Some other ∷ leaves) item is placed within =
    let before : place_cmp other item ≡ Less =
    place_less first (first + suc i) other item placed.0 is (omega arith) in
    let rest : Table = set_in (set leaves i None) in
    ap (λ t. other ∷ t) (set_in-filled (suc first) i leaves item (omega arith) placed.1 (omega arith))
    ∙ sym (ap (λ b. cond b (item ∷ other ∷ rest) (other ∷ with_item rest item))
    (ap is_lt (greater other item before)))

pub set_in-set : (leaves : List (Option DueItem)) (item : DueItem) →
    ArePlaced 0 leaves → leaf_of item.line item.kind < length leaves →
    set_in (set leaves (leaf_of item.line item.kind) (Some item))
    ≡ with_moment (set_in leaves) item.line item.kind item.moment
set_in-set leaves item placed within =
    set_in-filled 0 (leaf_of item.line item.kind) leaves item (omega arith) placed within
    ∙ ap (λ t. with_item t item)
    (set_in-cleared 0 (leaf_of item.line item.kind) leaves item.line item.kind (omega arith) placed)

-- Leaves stay in their order

placed_still : (first i at : ℕ) (leaves : List (Option DueItem)) (leaf : Option DueItem) → at ≡ first + i →
    IsAtIfSet at leaf → ArePlaced first leaves → ArePlaced first (set leaves i leaf)
placed_still first i at [] leaf is belongs placed = tt
placed_still first zero at (old ∷ leaves) leaf is belongs placed =
    let here : at ≡ first = omega arith in
    (subst (λ k. IsAtIfSet k leaf) here belongs, placed.1)
placed_still first (suc i) at (old ∷ leaves) leaf is belongs placed =
    (placed.0, placed_still (suc first) i at leaves leaf (omega arith) belongs placed.1)

pub kept_still : (lines i : ℕ) (leaves : List (Option DueItem)) (leaf : Option DueItem) → IsAtIfSet i leaf →
    IsKept lines leaves → IsKept lines (set leaves i leaf)
kept_still lines i leaves leaf belongs kept =
    let all : length leaves ≡ (lines + 1) * kind_count = kept.all in
    record {
      all = grind (arith, common_steps, all);
      placed = placed_still 0 i i leaves leaf (omega arith) belongs kept.placed;
    }

-- there is a leaf for each kind of each line
pub leaf_within : (lines line : ℕ) (kind : DueKind) (leaves : List (Option DueItem)) → line ≤ lines →
    IsKept lines leaves → leaf_of line kind < length leaves
leaf_within lines line kind leaves up_to kept =
    let within : kind_number kind < kind_count = kind_within kind in
    let all : length leaves ≡ (lines + 1) * kind_count = kept.all in
    omega (arith, up_to, within, all)

placed_none : (first count : ℕ) → ArePlaced first (replicate {A = Option DueItem} count None)
placed_none first zero = tt
placed_none first (suc count) = (tt, placed_none (suc first) count)

pub set_in-none : (count : ℕ) → set_in (replicate count None) ≡ []
set_in-none zero = refl
set_in-none (suc count) = set_in-none count

pub kept_none : (lines : ℕ) (leaves : List (Option DueItem)) →
    leaves ≡ replicate ((lines + 1) * kind_count) None → IsKept lines leaves
kept_none lines leaves is = subst (IsKept lines) (sym is) (record {
  all = length-replicate ((lines + 1) * kind_count) None;
  placed = placed_none 0 ((lines + 1) * kind_count);
})

-- What falls due first

-- what is set is of one of the lines
all_within : (lines first : ℕ) (leaves : List (Option DueItem)) → first + length leaves ≡ (lines + 1) * kind_count →
    ArePlaced first leaves → AllByRecursion (λ item. item.line ≤ lines) (set_in leaves)
all_within lines first [] all placed = tt
all_within lines first (None ∷ leaves) all placed = all_within lines (suc first) leaves (omega arith) placed.1
all_within lines first (Some item ∷ leaves) all placed =
    let here : first ≡ leaf_of item.line item.kind = placed.0 in
    (omega arith, all_within lines (suc first) leaves (omega arith) placed.1)

pub least_within : (lines : ℕ) (leaves : List (Option DueItem)) → IsKept lines leaves →
    IfSome (least_of (set_in leaves)) (λ item. item.line ≤ lines)
least_within lines leaves kept =
    let all : length leaves ≡ (lines + 1) * kind_count = kept.all in
    least_keeps (λ (item : DueItem). item.line ≤ lines) (set_in leaves)
    (all_within lines 0 leaves (omega arith) kept.placed)

pub first_is_least : (leaves : List (Option DueItem)) → first_of leaves ≡ least_of (set_in leaves)
first_is_least [] = refl
first_is_least (None ∷ leaves) = first_is_least leaves
first_is_least (Some item ∷ leaves) = ap (earlier (Some item)) (first_is_least leaves)

-- what is set is found
abbrev IsFoundIn : Table → DueItem → Type 0
IsFoundIn table item = moment_of table item.line item.kind ≡ Some item.moment

found_behind : (first : DueItem) (table rest : Table) → AllBehind first rest → AllByRecursion (IsFoundIn table) rest →
    AllByRecursion (IsFoundIn (first ∷ table)) rest
found_behind first table [] behind found = tt
found_behind first table (item ∷ rest) behind found = (
  ap (λ b. cond b (Some first.moment) (moment_of table item.line item.kind))
      (elsewhere item first (ap is_eq (greater first item behind.0)))
      ∙ found.0,
  found_behind first table rest behind.1 found.1,
)

all_found : (first : ℕ) (leaves : List (Option DueItem)) → ArePlaced first leaves →
    AllByRecursion (IsFoundIn (set_in leaves)) (set_in leaves)
all_found first [] placed = tt
all_found first (None ∷ leaves) placed = all_found (suc first) leaves placed.1
all_found first (Some item ∷ leaves) placed = (
  ap (λ b. cond b (Some item.moment) (moment_of (set_in leaves) item.line item.kind)) (is_of-itself item),
  found_behind item (set_in leaves) (set_in leaves)
      (all_behind first (suc first) leaves item placed.0 (omega arith) placed.1) (all_found (suc first) leaves placed.1),
)

pub least_is_least : (leaves : List (Option DueItem)) → ArePlaced 0 leaves →
    IfSome (least_of (set_in leaves)) (IsLeast (set_in leaves))
least_is_least leaves placed =
    by (least_of (set_in leaves))
    (least_keeps (IsFoundIn (set_in leaves)) (set_in leaves) (all_found 0 leaves placed)) (least_first (set_in leaves))
  where
    by : (least : Option DueItem) → IfSome least (IsFoundIn (set_in leaves)) →
        IfSome least (NoneBefore (set_in leaves)) → IfSome least (IsLeast (set_in leaves))
    by None found none = tt
    by (Some least) found none =
        record {
          set = found;
          first = λ line kind moment is.
              at_found (λ (e : DueItem). comes_before e least ≡ false) (set_in leaves) none line kind moment is;
        }
