-- Which end comes first.
use Rattle.std.proofs.Common.{◌≡◌, ℕ, ◌<◌, ◌≤◌, Bool, true, false, ◌⊎◌, inl, inr, if◌then◌else◌, List, [], ◌∷◌, fold, All, Option, Some, None, IfSome, refl, sym, ap, ◌∙◌, arith, nat_le}
use Rattle.std.proofs.lemmas.Bool.{leb-true, leb-false}
use Rattle.std.proofs.lemmas.Bool.Decides.{nat_tests}
use Rattle.std.proofs.lemmas.List.Elements.{All-nil, All-cons, All-head, All-tail}
use Rattle.std.proofs.lemmas.List.Sums.{fold-append}
use Rattle.packages.specs.declared.signal.Signal.{Signal}
use Rattle.events_and_signals.specs.declared.active.ActiveSignal.{ActiveSignal}
use Rattle.events_and_signals.specs.Due.{end_of, earlier, due_first, IsDueFirst}

abbrev Due : Type 0
Due = ℕ × Signal

abbrev next : Option Due → ActiveSignal → Option Due
next first a = earlier first (end_of a)

abbrev NotBefore : Due → ActiveSignal → Type 0
NotBefore due a = IfSome a.end (λ other. due.0 ≤ other)

abbrev Behind : Due → ActiveSignal → Type 0
Behind due a = IfSome a.end (λ other. due.0 < other)

-- what was first before stays first
record Stays (first : Option Due) (active : List ActiveSignal) (due : Due) : Type 0 where
  is : first ≡ Some due
  none_earlier : All (NotBefore due) active

-- one of these comes first, and what was first before ends later
record Comes (first : Option Due) (active : List ActiveSignal) (due : Due) : Type 0 where
  later : IfSome first (λ other. due.0 < other.0)
  found : IsDueFirst active due.0 due.1

-- with one more in front, which has no end or a later one
passed : (first : Option Due) (a : ActiveSignal) (active : List ActiveSignal) (due : Due) → IfSome first (λ other. due.0 < other.0) → Behind due a → IsDueFirst active due.0 due.1 → Comes first (a ∷ active) due
passed first a active due later behind found = record {
  later = later;
  found = record {
    before = a ∷ found.before;
    after = found.after;
    stands = ap (λ rest. a ∷ rest) found.stands;
    none_as_early = All-cons (Behind due) a found.before behind found.none_as_early;
    none_earlier = found.none_earlier;
  };
}

-- with one more in front, which comes first
taken : (first : Option Due) (signal : Signal) (end : ℕ) (active : List ActiveSignal) (due : Due) → IfSome first (λ other. due.0 < other.0) → due ≡ (end, signal) → All (NotBefore due) active
    → Comes first (record { signal = signal; end = Some end } ∷ active) due
taken first signal end active due later is none_earlier = record {
  later = later;
  found = record {
    before = [];
    after = active;
    stands = ap (λ (d : Due). (record { signal = d.1; end = Some d.0 }) ∷ active) (sym is);
    none_as_early = All-nil (Behind due);
    none_earlier = none_earlier;
  };
}

by_order : (p due : Due) (signal : Signal) (end : ℕ) (active : List ActiveSignal) (b : Bool) → nat_le p.0 end ≡ b
    → Stays (if b then Some p else Some (end, signal)) active due ⊎ Comes (if b then Some p else Some (end, signal)) active due
    → Stays (Some p) (record { signal = signal; end = Some end } ∷ active) due ⊎ Comes (Some p) (record { signal = signal; end = Some end } ∷ active) due
by_order p due signal end active true order (inl s) =
    let is : p ≡ due = let e = s.is in cc in
    let low : p.0 ≤ end = leb-true p.0 end order in
    let same : p.0 ≡ due.0 = ap (λ (d : Due). d.0) is in
    inl (record { is = s.is; none_earlier = All-cons (NotBefore due) _ active (omega arith) s.none_earlier })
by_order p due signal end active true order (inr c) =
    let low : p.0 ≤ end = leb-true p.0 end order in
    let later : due.0 < p.0 = c.later in
    inr (passed (Some p) _ active due later (omega arith) c.found)
by_order p due signal end active false order (inl s) =
    let is : (end, signal) ≡ due = let e = s.is in cc in
    let high : end < p.0 = leb-false p.0 end order in
    let same : end ≡ due.0 = ap (λ (d : Due). d.0) is in
    inr (taken (Some p) signal end active due (omega arith) (sym is) s.none_earlier)
by_order p due signal end active false order (inr c) =
    let high : end < p.0 = leb-false p.0 end order in
    let later : due.0 < end = c.later in
    inr (passed (Some p) _ active due (omega arith) later c.found)

one_more : (first : Option Due) (signal : Signal) (end : Option ℕ) (active : List ActiveSignal) (due : Due)
    → Stays (next first (record { signal = signal; end = end })) active due ⊎ Comes (next first (record { signal = signal; end = end })) active due
    → Stays first (record { signal = signal; end = end } ∷ active) due ⊎ Comes first (record { signal = signal; end = end } ∷ active) due
one_more None signal None active due (inl s) = inl (record { is = s.is; none_earlier = All-cons (NotBefore due) _ active tt s.none_earlier })
one_more None signal None active due (inr c) = inr (passed None _ active due tt tt c.found)
one_more (Some p) signal None active due (inl s) = inl (record { is = s.is; none_earlier = All-cons (NotBefore due) _ active tt s.none_earlier })
one_more (Some p) signal None active due (inr c) = inr (passed (Some p) _ active due c.later tt c.found)
one_more None signal (Some end) active due (inl s) =
    let is : (end, signal) ≡ due = let e = s.is in cc in
    inr (taken None signal end active due tt (sym is) s.none_earlier)
one_more None signal (Some end) active due (inr c) = inr (passed None _ active due tt c.later c.found)
one_more (Some p) signal (Some end) active due both = by_order p due signal end active (nat_le p.0 end) refl both

due_among : (active : List ActiveSignal) (first : Option Due) (due : Due) → fold next first active ≡ Some due → Stays first active due ⊎ Comes first active due
due_among [] first due e = inl (record { is = e; none_earlier = All-nil (NotBefore due) })
due_among (a ∷ active) first due e = one_more first a.signal a.end active due (due_among active (next first a) due e)

pub due_first_is : (active : List ActiveSignal) (end : ℕ) (signal : Signal) → due_first active ≡ Some (end, signal) → IsDueFirst active end signal
unfolding due_first
due_first_is active end signal e = from_both (due_among active None (end, signal) e)
  where
    from_both : Stays None active (end, signal) ⊎ Comes None active (end, signal) → IsDueFirst active end signal
    from_both (inl s) = let none = s.is in absurd cc
    from_both (inr c) = c.found

-- The other way

by_order_later : (end : ℕ) (p other : Due) (b : Bool) → end < p.0 → end < other.0 → IfSome (if b then Some p else Some other) (λ d. end < d.0)
by_order_later end p other true low lower = low
by_order_later end p other false low lower = lower

next_later : (end : ℕ) (first : Option Due) (signal : Signal) (its : Option ℕ) → IfSome first (λ d. end < d.0) → IfSome its (λ other. end < other)
    → IfSome (next first (record { signal = signal; end = its })) (λ d. end < d.0)
next_later end None signal None later behind = tt
next_later end None signal (Some its) later behind = behind
next_later end (Some p) signal None later behind = later
next_later end (Some p) signal (Some its) later behind = by_order_later end p (its, signal) (nat_le p.0 its) later behind

all_later : (end : ℕ) (before : List ActiveSignal) (first : Option Due) → All (λ a. IfSome a.end (λ other. end < other)) before → IfSome first (λ d. end < d.0)
    → IfSome (fold next first before) (λ d. end < d.0)
all_later end [] first all later = later
all_later end (a ∷ before) first all later =
    all_later end before (next first a) (All-tail (λ a. IfSome a.end (λ other. end < other)) a before all)
    (next_later end first a.signal a.end later (All-head (λ a. IfSome a.end (λ other. end < other)) a before all))

next_taken : (end : ℕ) (signal : Signal) (first : Option Due) → IfSome first (λ d. end < d.0) → earlier first (Some (end, signal)) ≡ Some (end, signal)
next_taken end signal None later = refl
next_taken end signal (Some p) later =
    let high : nat_le p.0 end ≡ false = grind (arith, nat_tests) in
    rw high refl

next_stays : (end : ℕ) (signal other : Signal) (its : Option ℕ) → IfSome its (λ other. end ≤ other) → next (Some (end, signal)) (record { signal = other; end = its }) ≡ Some (end, signal)
next_stays end signal other None low = refl
next_stays end signal other (Some its) low =
    let is_low : nat_le end its ≡ true = grind (arith, nat_tests) in
    rw is_low refl

all_stay : (end : ℕ) (signal : Signal) (after : List ActiveSignal) → All (λ a. IfSome a.end (λ other. end ≤ other)) after → fold next (Some (end, signal)) after ≡ Some (end, signal)
all_stay end signal [] all = refl
all_stay end signal (a ∷ after) all =
    ap (λ first. fold next first after) (next_stays end signal a.signal a.end (All-head (λ a. IfSome a.end (λ other. end ≤ other)) a after all))
    ∙ all_stay end signal after (All-tail (λ a. IfSome a.end (λ other. end ≤ other)) a after all)

pub is_due_first : (active : List ActiveSignal) (end : ℕ) (signal : Signal) → IsDueFirst active end signal → due_first active ≡ Some (end, signal)
unfolding due_first
is_due_first active end signal is =
    ap (λ all. fold next None all) is.stands
    ∙ fold-append next None is.before ((record { signal = signal; end = Some end }) ∷ is.after)
    ∙ ap (λ first. fold next first is.after) (next_taken end signal (fold next None is.before) (all_later end is.before None is.none_as_early tt))
    ∙ all_stay end signal is.after is.none_earlier

-- Where there is none

record HasNone (first : Option Due) (active : List ActiveSignal) : Type 0 where
  none : first ≡ None
  endless : All (λ a. a.end ≡ None) active

none_next : (first : Option Due) (signal : Signal) (end : Option ℕ) (active : List ActiveSignal) → HasNone (next first (record { signal = signal; end = end })) active → HasNone first (record { signal = signal; end = end } ∷ active)
none_next None signal None active h = record { none = refl; endless = All-cons (λ a. a.end ≡ None) _ active refl h.endless }
none_next None signal (Some end) active h = let none = h.none in absurd cc
none_next (Some p) signal None active h = let none = h.none in absurd cc
none_next (Some p) signal (Some end) active h = by_order_none (nat_le p.0 end) h.none
  where
    by_order_none : (b : Bool) → (if b then Some p else Some (end, signal)) ≡ None → HasNone (Some p) (record { signal = signal; end = Some end } ∷ active)
    by_order_none true none = absurd cc
    by_order_none false none = absurd cc

none_among : (active : List ActiveSignal) (first : Option Due) → fold next first active ≡ None → HasNone first active
none_among [] first e = record { none = e; endless = All-nil (λ a. a.end ≡ None) }
none_among (a ∷ active) first e = none_next first a.signal a.end active (none_among active (next first a) e)

pub none_is_due : (active : List ActiveSignal) → due_first active ≡ None → All (λ a. a.end ≡ None) active
unfolding due_first
none_is_due active e = (none_among active None e).endless
