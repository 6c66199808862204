-- What an arrival is: which first it is a copy of, and what becomes of the firsts.
use Rattle.std.proofs.Common.{subst, ◌≡◌, ◌≢◌, ◌↔◌, ℕ, ◌-◌, ◌<◌, ◌≤◌, Bool, true, false, cond, List, [], ◌∷◌, ◌++◌, length, get_or, Option, Some, None, refl, sym, ◌∙◌, ap, arith, ⊎_elim}
use Rattle.std.specs.Prelude.{nat_lt, nat_eq, AllPairs, fold}
use Rattle.std.specs.Option.{option_or}
use Rattle.std.proofs.lemmas.Bool.{cases_Bool, cases_lt, and_parts, and_from, eqb-true, eq-eqb, ltb-true, ltb-false, lt-ltb, le-ltb}
use Rattle.std.proofs.lemmas.List.{append-nil, append_assoc}
use Rattle.std.proofs.lemmas.List.Elements.{All-nil, All-cons, All-head, All-tail}
use Rattle.std.proofs.lemmas.List.Quantifiers.{all_pairs_push}
use Rattle.std.proofs.lemmas.List.Sums.{fold-append}
use Rattle.transmission.specs.Memory.{memory_time, is_young}
use Rattle.transmission.specs.Arrival.{Arrival}
use Rattle.transmission.specs.Firsts.{is_copy, Copied, copied_by, young_of, Kind, a_first, a_repeat, lost, kind_by, kind_of, added, firsts_with, firsts_of, IsCopy, IsNoCopy, IsLatestCopy}

-- The test and the fact

copy_is : (a first : Arrival) → is_copy a first ≡ true → IsCopy a first
copy_is a first is =
    let parts = and_parts (nat_eq first.id a.id) (is_young a.moment first.moment) is in
    (eqb-true first.id a.id parts.0, ltb-true (a.moment - first.moment) memory_time parts.1)

is_copy_from : (a first : Arrival) → IsCopy a first → is_copy a first ≡ true
is_copy_from a first copy =
    and_from (nat_eq first.id a.id) (is_young a.moment first.moment) (eq-eqb first.id a.id copy.0) (lt-ltb (a.moment - first.moment) memory_time copy.1)

no_copy_is : (a first : Arrival) → is_copy a first ≡ false → ¬ IsCopy a first
no_copy_is a first is copy = let both : true ≡ false = sym (is_copy_from a first copy) ∙ is in absurd cc

no_copy_from : (a first : Arrival) → ¬ IsCopy a first → is_copy a first ≡ false
no_copy_from a first not_copy = ⊎_elim (λ (h : is_copy a first ≡ true). absurd (not_copy (copy_is a first h))) (λ (h : is_copy a first ≡ false). h) (cases_Bool (is_copy a first))

-- The search among the firsts

abbrev pub at_front : Arrival → List Arrival → Bool → Option Copied
at_front first firsts b = cond b (Some (record { original = first; after = firsts })) None

both_none : (x y : Option Copied) → option_or x y ≡ None → (x ≡ None) × (y ≡ None)
both_none None y e = (refl, e)
both_none (Some c) y e = absurd cc

pub none_copied : (firsts : List Arrival) (a : Arrival) → copied_by firsts a ≡ None → IsNoCopy a firsts
unfolding copied_by
none_copied [] a none = All-nil (λ (first : Arrival). ¬ IsCopy a first)
none_copied (first ∷ firsts) a none =
    let parts = both_none (copied_by firsts a) (at_front first firsts (is_copy a first)) none in
    All-cons (λ (f : Arrival). ¬ IsCopy a f) first firsts (no_copy_is a first (by_test (is_copy a first) parts.1)) (none_copied firsts a parts.0)
  where
    by_test : (b : Bool) → at_front first firsts b ≡ None → b ≡ false
    by_test true e = absurd cc
    by_test false e = refl

pub copied_none : (firsts : List Arrival) (a : Arrival) → IsNoCopy a firsts → copied_by firsts a ≡ None
unfolding copied_by
copied_none [] a none = refl
copied_none (first ∷ firsts) a none =
    let here : is_copy a first ≡ false = no_copy_from a first (All-head (λ (f : Arrival). ¬ IsCopy a f) first firsts none) in
    let rest : copied_by firsts a ≡ None = copied_none firsts a (All-tail (λ (f : Arrival). ¬ IsCopy a f) first firsts none) in
    ap (λ (o : Option Copied). option_or o (at_front first firsts (is_copy a first))) rest ∙ ap (at_front first firsts) here

pub latest_copied : (firsts : List Arrival) (a : Arrival) (copied : Copied) → copied_by firsts a ≡ Some copied → IsLatestCopy firsts a copied
unfolding copied_by
latest_copied [] a copied is = absurd cc
latest_copied (first ∷ firsts) a copied is = by_rest (copied_by firsts a) refl (λ c found. latest_copied firsts a c found) is where
  here : (b : Bool) → is_copy a first ≡ b → copied_by firsts a ≡ None → at_front first firsts b ≡ Some copied → IsLatestCopy (first ∷ firsts) a copied
  here true held none e =
      let same : record { original = first; after = firsts } ≡ copied = cc in
      subst (λ (c : Copied). IsLatestCopy (first ∷ firsts) a c) same (record { before = []; stands = refl; copy = copy_is a first held; latest = none_copied firsts a none })
  here false held none e = absurd cc

  by_rest : (o : Option Copied) → copied_by firsts a ≡ o → ((c : Copied) → copied_by firsts a ≡ Some c → IsLatestCopy firsts a c) → option_or o (at_front first firsts (is_copy a first)) ≡ Some copied → IsLatestCopy (first ∷ firsts) a copied
  by_rest None none deeper e = here (is_copy a first) refl none e
  by_rest (Some c) found deeper e =
      let rest = deeper copied (found ∙ e) in
      record { before = first ∷ rest.before; stands = ap (λ (fs : List Arrival). first ∷ fs) rest.stands; copy = rest.copy; latest = rest.latest }

in_front : (before rest : List Arrival) (a : Arrival) (copied : Copied) → copied_by rest a ≡ Some copied → copied_by (before ++ rest) a ≡ Some copied
unfolding copied_by
in_front [] rest a copied is = is
in_front (first ∷ before) rest a copied is = ap (λ (o : Option Copied). option_or o (at_front first (before ++ rest) (is_copy a first))) (in_front before rest a copied is)

copied_here : (firsts : List Arrival) (first a : Arrival) → is_copy a first ≡ true → copied_by firsts a ≡ None → copied_by (first ∷ firsts) a ≡ Some (record { original = first; after = firsts })
unfolding copied_by
copied_here firsts first a held none = ap (λ (o : Option Copied). option_or o (at_front first firsts (is_copy a first))) none ∙ ap (at_front first firsts) held

pub copied_latest : (firsts : List Arrival) (a : Arrival) (copied : Copied) → IsLatestCopy firsts a copied → copied_by firsts a ≡ Some copied
copied_latest firsts a copied is =
    ap (λ (fs : List Arrival). copied_by fs a) is.stands
    ∙ in_front is.before (copied.original ∷ copied.after) a copied (copied_here copied.after copied.original a (is_copy_from a copied.original is.copy) (copied_none copied.after a is.latest))

-- What an arrival is

abbrev room : ℕ → List Arrival → Arrival → Bool
room limit firsts a = nat_lt (length (young_of a.moment firsts)) limit

repeat_by : (o : Option Copied) (b : Bool) (copied : Copied) → kind_by o b ≡ a_repeat copied → o ≡ Some copied
repeat_by (Some c) b copied e = ap Some cc
repeat_by None true copied e = absurd cc
repeat_by None false copied e = absurd cc

first_by : (o : Option Copied) (b : Bool) → kind_by o b ≡ a_first → (o ≡ None) × (b ≡ true)
first_by (Some c) b e = absurd cc
first_by None true e = (refl, refl)
first_by None false e = absurd cc

lost_by : (o : Option Copied) (b : Bool) → kind_by o b ≡ lost → (o ≡ None) × (b ≡ false)
lost_by (Some c) b e = absurd cc
lost_by None true e = absurd cc
lost_by None false e = (refl, refl)

pub kind_repeat : (limit : ℕ) (firsts : List Arrival) (a : Arrival) (copied : Copied) → (kind_of limit firsts a ≡ a_repeat copied) ↔ IsLatestCopy firsts a copied
unfolding kind_of
kind_repeat limit firsts a copied = (
  λ is. latest_copied firsts a copied (repeat_by (copied_by firsts a) (room limit firsts a) copied is),
  λ is. ap (λ (o : Option Copied). kind_by o (room limit firsts a)) (copied_latest firsts a copied is),
)

pub kind_first : (limit : ℕ) (firsts : List Arrival) (a : Arrival) → (kind_of limit firsts a ≡ a_first) ↔ (IsNoCopy a firsts × (length (young_of a.moment firsts) < limit))
unfolding kind_of
kind_first limit firsts a = (
  λ is. let parts = first_by (copied_by firsts a) (room limit firsts a) is in
      (none_copied firsts a parts.0, ltb-true (length (young_of a.moment firsts)) limit parts.1),
  λ is. ap (λ (o : Option Copied). kind_by o (room limit firsts a)) (copied_none firsts a is.0) ∙ ap (kind_by None) (lt-ltb (length (young_of a.moment firsts)) limit is.1),
)

pub kind_lost : (limit : ℕ) (firsts : List Arrival) (a : Arrival) → (kind_of limit firsts a ≡ lost) ↔ (IsNoCopy a firsts × (limit ≤ length (young_of a.moment firsts)))
unfolding kind_of
kind_lost limit firsts a = (
  λ is. let parts = lost_by (copied_by firsts a) (room limit firsts a) is in
      (none_copied firsts a parts.0, ltb-false (length (young_of a.moment firsts)) limit parts.1),
  λ is. ap (λ (o : Option Copied). kind_by o (room limit firsts a)) (copied_none firsts a is.0) ∙ ap (kind_by None) (le-ltb (length (young_of a.moment firsts)) limit is.1),
)

pub one_copy : (firsts : List Arrival) (a : Arrival) (copied other : Copied) → IsLatestCopy firsts a copied → IsLatestCopy firsts a other → copied ≡ other
one_copy firsts a copied other is is' =
    let same : Some copied ≡ Some other = sym (copied_latest firsts a copied is) ∙ copied_latest firsts a other is' in cc

-- The firsts

abbrev apart : Arrival → Arrival → Type 0
apart f g = f.id ≡ g.id → memory_time ≤ g.moment - f.moment

-- what is no copy is apart
apart_from : (f g : Arrival) → ¬ IsCopy g f → apart f g
apart_from f g not_copy same = ⊎_elim (λ (lt : g.moment - f.moment < memory_time). absurd (not_copy (same, lt))) (λ (le : memory_time ≤ g.moment - f.moment). le) (cases_lt (g.moment - f.moment) memory_time)

added_apart : (kind : Kind) (limit : ℕ) (firsts : List Arrival) (a : Arrival) → kind_of limit firsts a ≡ kind → AllPairs apart firsts → AllPairs apart (added kind firsts a)
added_apart a_first limit firsts a is pairs =
    let none = ((kind_first limit firsts a).0 is).0 in
    all_pairs_push apart firsts a pairs (λ k d lt. apart_from (get_or firsts k d) a (none k d lt))
added_apart (a_repeat copied) limit firsts a is pairs = pairs
added_apart lost limit firsts a is pairs = pairs

firsts_apart_from : (limit : ℕ) (arrivals firsts : List Arrival) → AllPairs apart firsts → AllPairs apart (fold (firsts_with limit) firsts arrivals)
unfolding firsts_with
firsts_apart_from limit [] firsts pairs = pairs
firsts_apart_from limit (a ∷ arrivals) firsts pairs = firsts_apart_from limit arrivals (firsts_with limit firsts a) (added_apart (kind_of limit firsts a) limit firsts a refl pairs)

pub firsts_apart : (limit : ℕ) (arrivals : List Arrival) → AllPairs (λ (f g : Arrival). f.id ≡ g.id → memory_time ≤ g.moment - f.moment) (firsts_of limit arrivals)
firsts_apart limit arrivals = firsts_apart_from limit arrivals [] (λ i j d lt none. absurd (omega arith))

added_not : (kind : Kind) (firsts : List Arrival) (a : Arrival) → kind ≢ a_first → added kind firsts a ≡ firsts
added_not a_first firsts a other = absurd (other refl)
added_not (a_repeat copied) firsts a other = refl
added_not lost firsts a other = refl

-- what is no first adds none
pub firsts_with_no_first : (limit : ℕ) (firsts : List Arrival) (a : Arrival) → kind_of limit firsts a ≢ a_first → firsts_with limit firsts a ≡ firsts
unfolding firsts_with
firsts_with_no_first limit firsts a other = added_not (kind_of limit firsts a) firsts a other

pub firsts_with_first : (limit : ℕ) (firsts : List Arrival) (a : Arrival) → kind_of limit firsts a ≡ a_first → firsts_with limit firsts a ≡ firsts ++ a ∷ []
unfolding firsts_with
firsts_with_first limit firsts a is = ap (λ (kind : Kind). added kind firsts a) is

pub firsts_on : (limit : ℕ) (earlier later : List Arrival) → firsts_of limit (earlier ++ later) ≡ fold (firsts_with limit) (firsts_of limit earlier) later
firsts_on limit earlier later = fold-append (firsts_with limit) [] earlier later

pub firsts_without : (limit : ℕ) (earlier later : List Arrival) (a : Arrival) → kind_of limit (firsts_of limit earlier) a ≢ a_first
    → firsts_of limit (earlier ++ a ∷ later) ≡ firsts_of limit (earlier ++ later)
firsts_without limit earlier later a other =
    firsts_on limit earlier (a ∷ later)
    ∙ ap (λ (firsts : List Arrival). fold (firsts_with limit) firsts later) (firsts_with_no_first limit (firsts_of limit earlier) a other)
    ∙ sym (firsts_on limit earlier later)

-- The firsts only grow

pub record Grown (firsts all : List Arrival) : Type 0 where
  pub newer : List Arrival
  pub grown : all ≡ firsts ++ newer

added_grows : (kind : Kind) (firsts : List Arrival) (a : Arrival) → Grown firsts (added kind firsts a)
added_grows a_first firsts a = record { newer = a ∷ []; grown = refl }
added_grows (a_repeat copied) firsts a = record { newer = []; grown = sym (append-nil firsts) }
added_grows lost firsts a = record { newer = []; grown = sym (append-nil firsts) }

grown_from : (limit : ℕ) (more firsts : List Arrival) → Grown firsts (fold (firsts_with limit) firsts more)
unfolding firsts_with
grown_from limit [] firsts = record { newer = []; grown = sym (append-nil firsts) }
grown_from limit (a ∷ more) firsts =
    let one = added_grows (kind_of limit firsts a) firsts a in
    let rest = grown_from limit more (firsts_with limit firsts a) in
    record {
      newer = one.newer ++ rest.newer;
      grown = rest.grown ∙ ap (λ (fs : List Arrival). fs ++ rest.newer) one.grown ∙ append_assoc firsts one.newer rest.newer;
    }

pub firsts_grow : (limit : ℕ) (earlier more : List Arrival) → (newer : List Arrival) × (firsts_of limit (earlier ++ more) ≡ firsts_of limit earlier ++ newer)
firsts_grow limit earlier more =
    let grown = grown_from limit more (firsts_of limit earlier) in
    (grown.newer, firsts_on limit earlier more ∙ grown.grown)
