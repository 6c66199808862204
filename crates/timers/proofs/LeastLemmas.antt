-- Which of two items falls due first, and which of all.
use Rattle.std.proofs.Common.{◌≡◌, ℕ, ◌<◌, ◌≤◌, nat_le, Bool, true, false, cond, Option, Some, None, ◌∷◌, [], refl, ap, sym, ◌∙◌, subst}
use Rattle.std.specs.Prelude.{IfSome}
use Rattle.std.specs.List.{AllByRecursion}
use Rattle.std.specs.declared.cmp.Ordering.{Ordering}
use Rattle.std.specs.declared.cmp.Ordering.TheVariants.{Less, Equal, Greater}
use Rattle.std.specs.Ordering.{nat_cmp, ordering_then, is_lt, is_gt, ordering_reverse}
use Rattle.std.specs.Cmp.{nat_cmp_is}
use Rattle.std.proofs.lemmas.Bool.{leb-true, leb-false}
use Rattle.std.proofs.lemmas.Cmp.{tied_itself, upto}
use Rattle.timers.specs.declared.kind.DueKind.{DueKind}
use Rattle.timers.specs.declared.due_item.DueItem.{DueItem}
use Rattle.timers.specs.Order.{kind_number, kind_cmp, place_cmp, item_cmp, comes_before, earlier}
use Rattle.timers.specs.Table.{Table, due, least_of}
use Rattle.timers.proofs.OrderLemmas.{item_total, item_exact}

is_lt-reverse : (order : Ordering) → is_lt (ordering_reverse order) ≡ is_gt order
is_lt-reverse Less = refl
is_lt-reverse Equal = refl
is_lt-reverse Greater = refl

-- one comes before another where that one comes after it
before_is_after : (a b : DueItem) → comes_before a b ≡ is_gt (item_cmp b a)
before_is_after a b = ap is_lt (item_total.antisymm a b) ∙ is_lt-reverse (item_cmp b a)

both : (x : Bool) → x ≡ true → x ≡ false → ⊥
both x t f = cc

-- nothing comes before itself
pub before_itself : (a : DueItem) → comes_before a a ≡ false
before_itself a = ap is_lt (tied_itself item_total a)

pub not_before_further : (a b c : DueItem) → comes_before b a ≡ false → comes_before c b ≡ false → comes_before c a ≡ false
not_before_further a b c first second =
    before_is_after c a
    ∙ upto item_total a b c (sym (before_is_after b a) ∙ first) (sym (before_is_after c b) ∙ second)

neither : (order : Ordering) → is_lt order ≡ false → is_gt order ≡ false → order ≡ Equal
neither Less l g = cc
neither Equal l g = refl
neither Greater l g = cc

-- of two items one comes first
pub same_from_neither : (a b : DueItem) → comes_before a b ≡ false → comes_before b a ≡ false → a ≡ b
same_from_neither a b first second =
    item_exact a b (neither (item_cmp a b) first (sym (before_is_after b a) ∙ second))

earlier_no_later : (order : Ordering) → is_lt order ≡ true → is_gt order ≡ false
earlier_no_later Less e = refl
earlier_no_later Equal e = refl
earlier_no_later Greater e = cc

-- what comes before another doesn't come behind it
pub not_before_back : (a b : DueItem) → comes_before a b ≡ true → comes_before b a ≡ false
not_before_back a b before = before_is_after b a ∙ earlier_no_later (item_cmp a b) before

-- what comes before another comes before all that this one comes before
pub before_further : (a b c : DueItem) → comes_before a b ≡ true → comes_before b c ≡ true → comes_before a c ≡ true
before_further a b c first second = by_test (comes_before a c) refl
  where
    by_test : (x : Bool) → comes_before a c ≡ x → comes_before a c ≡ true
    by_test true is = is
    by_test false is =
        absurd (both (comes_before b c) second (not_before_further c a b is (not_before_back a b first)))

-- Which comes before another

pub less : (a b : ℕ) → a < b → nat_cmp a b ≡ Less
less a b l = sym (nat_cmp_is a b Less l)

as_much : (n : ℕ) → nat_cmp n n ≡ Equal
as_much n = sym (nat_cmp_is n n Equal refl)

sooner : (a b : DueItem) → a.moment < b.moment → comes_before a b ≡ true
sooner a b l = ap (λ (o : Ordering). is_lt (ordering_then o (place_cmp a b))) (less a.moment b.moment l)

nearer : (a b : DueItem) → a.moment ≡ b.moment → a.line < b.line → comes_before a b ≡ true
nearer a b same l =
    ap (λ (o : Ordering). is_lt (ordering_then o (place_cmp a b))) (sym (nat_cmp_is a.moment b.moment Equal same))
    ∙ ap (λ (o : Ordering). is_lt (ordering_then o (kind_cmp a.kind b.kind))) (less a.line b.line l)

-- of one line at one moment the lesser kind
pub by_kind : (moment line : ℕ) (kind other : DueKind) → kind_number kind < kind_number other
    → comes_before (due moment line kind) (due moment line other) ≡ true
by_kind moment line kind other l =
    ap (λ (o : Ordering). is_lt (ordering_then o (place_cmp (due moment line kind) (due moment line other)))) (as_much moment)
    ∙ ap (λ (o : Ordering). is_lt (ordering_then o (kind_cmp kind other))) (as_much line)
    ∙ ap is_lt (less (kind_number kind) (kind_number other) l)

-- what doesn't come before another is no sooner
pub no_sooner : (a b : DueItem) → comes_before b a ≡ false → a.moment ≤ b.moment
no_sooner a b not = by_test (nat_le a.moment b.moment) refl
  where
    by_test : (x : Bool) → nat_le a.moment b.moment ≡ x → a.moment ≤ b.moment
    by_test true e = leb-true a.moment b.moment e
    by_test false e = absurd (both (comes_before b a) (sooner b a (leb-false a.moment b.moment e)) not)

-- and where it is as soon, on no lesser line
pub no_nearer : (a b : DueItem) → comes_before b a ≡ false → a.moment ≡ b.moment → a.line ≤ b.line
no_nearer a b not same = by_test (nat_le a.line b.line) refl
  where
    by_test : (x : Bool) → nat_le a.line b.line ≡ x → a.line ≤ b.line
    by_test true e = leb-true a.line b.line e
    by_test false e = absurd (both (comes_before b a) (nearer b a (sym same) (leb-false a.line b.line e)) not)

-- The earlier of two, in whatever order they are taken

pub earlier_none : (a : Option DueItem) → earlier a None ≡ a
earlier_none None = refl
earlier_none (Some a) = refl

pub earlier_comm : (a b : Option DueItem) → earlier a b ≡ earlier b a
earlier_comm None b = sym (earlier_none b)
earlier_comm (Some a) None = refl
earlier_comm (Some a) (Some b) = by (comes_before b a) (comes_before a b) refl refl
  where
    by : (x y : Bool) → comes_before b a ≡ x → comes_before a b ≡ y →
        cond (comes_before b a) (Some b) (Some a) ≡ cond (comes_before a b) (Some a) (Some b)
    by true true p q = let r = not_before_back b a p in cc
    by true false p q = rw (p, q) refl
    by false true p q = rw (p, q) refl
    by false false p q = rw (p, q) (ap (λ (e : DueItem). Some e) (same_from_neither a b q p))

pub earlier_assoc : (a b c : Option DueItem) → earlier (earlier a b) c ≡ earlier a (earlier b c)
earlier_assoc None b c = refl
earlier_assoc (Some a) None c = refl
earlier_assoc (Some a) (Some b) None = earlier_none (earlier (Some a) (Some b))
earlier_assoc (Some a) (Some b) (Some c) = by (comes_before b a) (comes_before c b) refl refl
  where
    by : (x y : Bool) → comes_before b a ≡ x → comes_before c b ≡ y →
        earlier (cond (comes_before b a) (Some b) (Some a)) (Some c)
        ≡ earlier (Some a) (cond (comes_before c b) (Some c) (Some b))
    by true true p q = let r = before_further c b a q p in rw (p, q, r) refl
    by true false p q = rw (p, q) (rw p refl)
    by false true p q = rw (p, q) refl
    by false false p q = let r = not_before_further a b c p q in rw (p, q, r) (rw p refl)

-- Of all that is set

-- what holds of both holds of the earlier
earlier_keeps : (P : DueItem → Type 0) (one other : Option DueItem) → IfSome one P → IfSome other P →
    IfSome (earlier one other) P
earlier_keeps P None other first second = second
earlier_keeps P (Some one) None first second = first
earlier_keeps P (Some one) (Some other) first second = by_test (comes_before other one)
  where
    by_test : (b : Bool) → IfSome (cond b (Some other) (Some one)) P
    by_test true = second
    by_test false = first

-- whatever holds of all that is set holds of the least
pub least_keeps : (P : DueItem → Type 0) (table : Table) → AllByRecursion P table → IfSome (least_of table) P
least_keeps P [] all = tt
least_keeps P (item ∷ table) all =
    earlier_keeps P (Some item) (least_of table) all.0 (least_keeps P table all.1)

-- only of nothing there is no least
pub least_of-none : (table : Table) → least_of table ≡ None → table ≡ []
least_of-none [] e = refl
least_of-none (item ∷ table) e = absurd (some_first (least_of table) e)
  where
    none_apart : (b : Bool) (x y : DueItem) → cond b (Some x) (Some y) ≡ None → ⊥
    none_apart true x y e = cc
    none_apart false x y e = cc

    some_first : (rest : Option DueItem) → earlier (Some item) rest ≡ None → ⊥
    some_first None e = cc
    some_first (Some other) e = none_apart (comes_before other item) other item e

-- nothing that is set comes before an item
abbrev pub NoneBefore : Table → DueItem → Type 0
NoneBefore table item = AllByRecursion (λ set. comes_before set item ≡ false) table

none_further : (table : Table) (first second : DueItem) → NoneBefore table second → comes_before second first ≡ false →
    NoneBefore table first
none_further [] first second none apart = tt
none_further (set ∷ table) first second none apart =
    (not_before_further first second set apart none.0, none_further table first second none.1 apart)

-- nothing that is set comes before the least
pub least_first : (table : Table) → IfSome (least_of table) (NoneBefore table)
least_first [] = tt
least_first (item ∷ table) = by_rest (least_of table) refl (least_first table)
  where
    by_test : (other : DueItem) → NoneBefore table other → (b : Bool) → comes_before other item ≡ b →
        IfSome (cond b (Some other) (Some item)) (NoneBefore (item ∷ table))
    by_test other inner true e =
        (before_is_after item other ∙ earlier_no_later (item_cmp other item) e, inner)
    by_test other inner false e = (before_itself item, none_further table item other inner e)

    by_rest : (rest : Option DueItem) → least_of table ≡ rest → IfSome rest (NoneBefore table) →
        IfSome (earlier (Some item) rest) (NoneBefore (item ∷ table))
    by_rest None is inner = (before_itself item, subst (λ t. NoneBefore t item) (sym (least_of-none table is)) tt)
    by_rest (Some other) is inner = by_test other inner (comes_before other item) refl

-- so of one that is named
pub if_some : (P : DueItem → Type 0) (first : Option DueItem) (item : DueItem) → IfSome first P → first ≡ Some item →
    P item
if_some P first item holds is = subst (λ (f : Option DueItem). IfSome f P) is holds
