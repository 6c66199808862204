-- Setting, clearing and what is least, of every table.
use Rattle.std.proofs.Common.{◌≡◌, ◌≢◌, ℕ, Bool, true, false, cond, Some, None, ◌∷◌, [], refl, ap, sym, ◌∙◌, subst}
use Rattle.std.specs.Prelude.{◌==◌, ◌&&◌, not, All, Any}
use Rattle.std.specs.List.{AllByRecursion, Contains}
use Rattle.std.specs.Ordering.{is_lt}
use Rattle.std.proofs.lemmas.Bool.{eqb-true, eq-eqb}
use Rattle.std.proofs.lemmas.List.Elements.{recursion_from_All, All-from_recursion, All-contains_itself}
use Rattle.timers.specs.declared.kind.DueKind.{DueKind}
use Rattle.timers.specs.declared.due_item.DueItem.{DueItem}
use Rattle.timers.specs.Order.{kind_number, place_cmp, comes_before}
use Rattle.timers.specs.Table.{Table, due, place_at, is_of, moment_of, without, with_item, with_moment, least_of, IsLeast}
use Rattle.timers.proofs.OrderLemmas.{kind_exact}
use Rattle.timers.proofs.LeastLemmas.{least_keeps, least_first, if_some, same_from_neither}

-- What is of a line and a kind

both : (x y : Bool) → (x && y) ≡ true → (x ≡ true) × (y ≡ true)
both true true e = (refl, refl)
both true false e = absurd cc
both false true e = absurd cc
both false false e = absurd cc

true_false : {X : Type 0} (b : Bool) → b ≡ true → b ≡ false → X
true_false b t f = absurd cc

pub is_of-itself : (item : DueItem) → is_of item.line item.kind item ≡ true
is_of-itself item =
    ap (λ b. b && kind_number item.kind == kind_number item.kind) (eq-eqb item.line item.line refl)
    ∙ eq-eqb (kind_number item.kind) (kind_number item.kind) refl

pub is_of-same : (line : ℕ) (kind : DueKind) (item : DueItem) → is_of line kind item ≡ true →
    (line ≡ item.line) × (kind ≡ item.kind)
is_of-same line kind item is =
    let parts = both (line == item.line) (kind_number kind == kind_number item.kind) is in
    (eqb-true line item.line parts.0, kind_exact kind item.kind (eqb-true (kind_number kind) (kind_number item.kind) parts.1))

-- an item is not of another line and another kind
is_of-apart : (line : ℕ) (kind : DueKind) (line' : ℕ) (kind' : DueKind) (item : DueItem) → place_at line' kind' ≢ place_at line kind →
    is_of line kind item ≡ true → is_of line' kind' item ≡ false
is_of-apart line kind line' kind' item apart is = by (is_of line' kind' item) refl
  where
    by : (x : Bool) → is_of line' kind' item ≡ x → x ≡ false
    by true e =
        let here = is_of-same line kind item is in
        let there = is_of-same line' kind' item e in
        absurd (apart (λ i. ((there.0 ∙ sym here.0) i, (there.1 ∙ sym here.1) i)))
    by false e = refl

-- nothing of a table is of a line and a kind
abbrev pub NoneOf : ℕ → DueKind → Table → Type 0
NoneOf line kind table = AllByRecursion (λ item. is_of line kind item ≡ false) table

pub without_none : (line : ℕ) (kind : DueKind) (table : Table) → NoneOf line kind table → without table line kind ≡ table
without_none line kind [] none = refl
without_none line kind (set ∷ table) none =
    ap (λ b. cond (not b) (set ∷ without table line kind) (without table line kind)) none.0
    ∙ ap (λ t. set ∷ t) (without_none line kind table none.1)

none_left : (line : ℕ) (kind : DueKind) (table : Table) → NoneOf line kind (without table line kind)
none_left line kind [] = tt
none_left line kind (set ∷ table) = by (is_of line kind set) refl (none_left line kind table)
  where
    by : (x : Bool) → is_of line kind set ≡ x → NoneOf line kind (without table line kind) →
        NoneOf line kind (cond (not x) (set ∷ without table line kind) (without table line kind))
    by true e rest = rest
    by false e rest = (e, rest)

-- What is found

found_none : (line : ℕ) (kind : DueKind) (table : Table) → NoneOf line kind table → moment_of table line kind ≡ None
found_none line kind [] none = refl
found_none line kind (set ∷ table) none =
    ap (λ b. cond b (Some set.moment) (moment_of table line kind)) none.0 ∙ found_none line kind table none.1

-- what holds of all that is set holds of what is found
pub at_found : (P : DueItem → Type 0) (table : Table) → AllByRecursion P table →
    (line : ℕ) (kind : DueKind) (moment : ℕ) → moment_of table line kind ≡ Some moment → P (due moment line kind)
at_found P [] all line kind moment is = absurd (none_some is)
  where
    none_some : None ≡ Some moment → ⊥
    none_some e = cc
at_found P (set ∷ table) all line kind moment is =
    by (is_of line kind set) refl (at_found P table all.1 line kind moment) is
  where
    some_same : (x y : ℕ) → Some x ≡ Some y → x ≡ y
    some_same x y e = cc

    by : (x : Bool) → is_of line kind set ≡ x →
        (moment_of table line kind ≡ Some moment → P (due moment line kind)) →
        cond x (Some set.moment) (moment_of table line kind) ≡ Some moment → P (due moment line kind)
    by true e rest found =
        let same = is_of-same line kind set e in
        let moments : set.moment ≡ moment = some_same set.moment moment found in
        subst P (λ i. record { moment = moments i; line = (sym same.0) i; kind = (sym same.1) i }) all.0
    by false e rest found = rest found

-- Once an item is set

found_here : (line : ℕ) (kind : DueKind) (item : DueItem) → is_of line kind item ≡ true → (table : Table) →
    NoneOf line kind table → moment_of (with_item table item) line kind ≡ Some item.moment
found_here line kind item is [] none = ap (λ b. cond b (Some item.moment) None) is
found_here line kind item is (set ∷ table) none =
    by (is_lt (place_cmp item set)) (found_here line kind item is table none.1)
  where
    by : (x : Bool) → moment_of (with_item table item) line kind ≡ Some item.moment →
        moment_of (cond x (item ∷ set ∷ table) (set ∷ with_item table item)) line kind ≡ Some item.moment
    by true rest = ap (λ b. cond b (Some item.moment) (moment_of (set ∷ table) line kind)) is
    by false rest = ap (λ b. cond b (Some set.moment) (moment_of (with_item table item) line kind)) none.0 ∙ rest

found_other : (line : ℕ) (kind : DueKind) (item : DueItem) → is_of line kind item ≡ false → (table : Table) →
    moment_of (with_item table item) line kind ≡ moment_of table line kind
found_other line kind item is [] = ap (λ b. cond b (Some item.moment) None) is
found_other line kind item is (set ∷ table) =
    by (is_lt (place_cmp item set)) (found_other line kind item is table)
  where
    by : (x : Bool) → moment_of (with_item table item) line kind ≡ moment_of table line kind →
        moment_of (cond x (item ∷ set ∷ table) (set ∷ with_item table item)) line kind
        ≡ moment_of (set ∷ table) line kind
    by true rest = ap (λ b. cond b (Some item.moment) (moment_of (set ∷ table) line kind)) is
    by false rest = ap (λ r. cond (is_of line kind set) (Some set.moment) r) rest

cleared_again : (line : ℕ) (kind : DueKind) (item : DueItem) → is_of line kind item ≡ true → (table : Table) →
    without (with_item table item) line kind ≡ without table line kind
cleared_again line kind item is [] = ap (λ b. cond (not b) (item ∷ []) []) is
cleared_again line kind item is (set ∷ table) =
    by (is_lt (place_cmp item set)) (cleared_again line kind item is table)
  where
    by : (x : Bool) → without (with_item table item) line kind ≡ without table line kind →
        without (cond x (item ∷ set ∷ table) (set ∷ with_item table item)) line kind
        ≡ without (set ∷ table) line kind
    by true rest =
        ap (λ b. cond (not b) (item ∷ without (set ∷ table) line kind) (without (set ∷ table) line kind)) is
    by false rest = ap (λ (t : Table). cond (not (is_of line kind set)) (set ∷ t) t) rest

-- The laws

pub moment_of-with_moment : (table : Table) (line : ℕ) (kind : DueKind) (moment : ℕ) →
    moment_of (with_moment table line kind moment) line kind ≡ Some moment
moment_of-with_moment table line kind moment =
    found_here line kind (due moment line kind) (is_of-itself (due moment line kind)) (without table line kind)
    (none_left line kind table)

pub moment_of-without : (table : Table) (line : ℕ) (kind : DueKind) → moment_of (without table line kind) line kind ≡ None
moment_of-without table line kind = found_none line kind (without table line kind) (none_left line kind table)

pub moment_of-without_other : (table : Table) (line : ℕ) (kind : DueKind) (line' : ℕ) (kind' : DueKind) →
    place_at line' kind' ≢ place_at line kind →
    moment_of (without table line kind) line' kind' ≡ moment_of table line' kind'
moment_of-without_other [] line kind line' kind' apart = refl
moment_of-without_other (set ∷ table) line kind line' kind' apart =
    by (is_of line kind set) refl (moment_of-without_other table line kind line' kind' apart)
  where
    by : (x : Bool) → is_of line kind set ≡ x →
        moment_of (without table line kind) line' kind' ≡ moment_of table line' kind' →
        moment_of (cond (not x) (set ∷ without table line kind) (without table line kind)) line' kind'
        ≡ moment_of (set ∷ table) line' kind'
    by true e rest =
        rest
        ∙ sym (ap (λ b. cond b (Some set.moment) (moment_of table line' kind'))
        (is_of-apart line kind line' kind' set apart e))
    by false e rest = ap (λ r. cond (is_of line' kind' set) (Some set.moment) r) rest

pub moment_of-with_other : (table : Table) (line : ℕ) (kind : DueKind) (moment line' : ℕ) (kind' : DueKind) →
    place_at line' kind' ≢ place_at line kind →
    moment_of (with_moment table line kind moment) line' kind' ≡ moment_of table line' kind'
moment_of-with_other table line kind moment line' kind' apart =
    found_other line' kind' (due moment line kind)
    (is_of-apart line kind line' kind' (due moment line kind) apart (is_of-itself (due moment line kind)))
    (without table line kind)
    ∙ moment_of-without_other table line kind line' kind' apart

pub without-with_moment : (table : Table) (line : ℕ) (kind : DueKind) (moment : ℕ) →
    without (with_moment table line kind moment) line kind ≡ without table line kind
without-with_moment table line kind moment =
    cleared_again line kind (due moment line kind) (is_of-itself (due moment line kind)) (without table line kind)
    ∙ without_none line kind (without table line kind) (none_left line kind table)

pub with_moment-with_moment : (table : Table) (line : ℕ) (kind : DueKind) (moment later : ℕ) →
    with_moment (with_moment table line kind moment) line kind later ≡ with_moment table line kind later
with_moment-with_moment table line kind moment later =
    ap (λ t. with_item t (due later line kind)) (without-with_moment table line kind moment)

all_mapped : (P Q : DueItem → Type 0) → ((item : DueItem) → P item → Q item) → (table : Table) →
    AllByRecursion P table → AllByRecursion Q table
all_mapped P Q f [] all = tt
all_mapped P Q f (set ∷ table) all = (f set all.0, all_mapped P Q f table all.1)

pub least_of-without : (table : Table) (line : ℕ) (kind : DueKind) (item : DueItem) →
    least_of (without table line kind) ≡ Some item → place_at item.line item.kind ≢ place_at line kind
least_of-without table line kind item is same =
    let none : is_of line kind item ≡ false =
    if_some (λ (e : DueItem). is_of line kind e ≡ false) (least_of (without table line kind)) item
    (least_keeps (λ (e : DueItem). is_of line kind e ≡ false) (without table line kind) (none_left line kind table)) is in
    true_false (is_of item.line item.kind item) (is_of-itself item)
    (ap (λ (place : ℕ × DueKind). is_of place.0 place.1 item) same ∙ none)

pub least_is_set : (table : Table) (item : DueItem) → least_of table ≡ Some item → Any (λ set. set ≡ item) table
least_is_set table item is =
    if_some (λ (e : DueItem). Any (λ (set : DueItem). set ≡ e) table) (least_of table) item
    (least_keeps (λ (e : DueItem). Any (λ (set : DueItem). set ≡ e) table) table
    (all_mapped (Contains table) (λ e. Any (λ (set : DueItem). set ≡ e) table)
    (λ e h. (h.0, e, h.1, h.2, refl)) table
    (recursion_from_All (Contains table) table (All-contains_itself table))))
    is

pub least_is_first : (table : Table) (item : DueItem) → least_of table ≡ Some item →
    All (λ set. comes_before set item ≡ false) table
least_is_first table item is =
    All-from_recursion (λ (set : DueItem). comes_before set item ≡ false) table
    (if_some (λ (e : DueItem). AllByRecursion (λ (set : DueItem). comes_before set e ≡ false) table) (least_of table) item
    (least_first table) is)

pub one_least : (table : Table) (item other : DueItem) → IsLeast table item → IsLeast table other → item ≡ other
one_least table item other is is' =
    same_from_neither item other (is'.first item.line item.kind item.moment is.set)
    (is.first other.line other.kind other.moment is'.set)
