-- What comes back, and what is held after it, are the events that came, but for the lost.
use Rattle.std.proofs.Common.{◌≡◌, ℕ, zero, suc, ◌+◌, ◌<◌, ◌≤◌, true, false, min, List, [], ◌∷◌, ◌++◌, length, refl, sym, ap, append_assoc, append-nil, arith, ⊎_elim, length-append, drop, subst}
use Rattle.std.specs.Prelude.{nat_lt}
use Rattle.std.proofs.lemmas.Bool.{cases_Bool}
use Rattle.std.proofs.lemmas.Bool.Decides.{nat_tests}
use Rattle.packages.specs.declared.observed.Observed.{Observed}
use Rattle.events_and_signals.specs.Held.{Held, most_lost, nothing_held, holding}
use Rattle.events_and_signals.specs.Given.{Happening, comes, is_taken, coming, held_after, given_back, InOrderBut, none, kept, left_out}

abbrev held_as : List Observed → ℕ → ℕ → Held
held_as events room lost = record { events = events; room = room; lost = lost }

grown : (events : List Observed) (event : Observed) (room : ℕ) → length events < room → length (events ++ event ∷ []) ≤ room
grown events event room below = rw length-append (omega arith)

-- an event comes
with_room : (events : List Observed) (room lost : ℕ) (event : Observed) → nat_lt (length events) room ≡ true
    → held_as (events ++ event ∷ []) room lost ≡ holding (held_as events room lost) event
unfolding holding
with_room events room lost event here = rw here refl

without_room : (events : List Observed) (room lost : ℕ) (event : Observed) → nat_lt (length events) room ≡ false
    → held_as events room (min most_lost (lost + 1)) ≡ holding (held_as events room lost) event
unfolding holding
without_room events room lost event here = rw here refl

below_room : (n room : ℕ) → nat_lt n room ≡ true → n < room
below_room n room here = grind (arith, nat_tests)

-- there is never more than there is room for
few : (all : List Happening) (events : List Observed) (room lost : ℕ) → length events ≤ room
    → length (held_after (held_as events room lost) all).events ≤ room
unfolding held_after
few [] events room lost fits = fits
few (is_taken ∷ rest) [] room lost fits = few rest [] room lost fits
few (is_taken ∷ rest) (event ∷ events) room lost fits = few rest events room lost (omega arith)
few (comes event ∷ rest) events room lost fits =
    ⊎_elim
    (λ (h : nat_lt (length events) room ≡ true). subst (λ held. length (held_after held rest).events ≤ room)
    (with_room events room lost event h) (few rest (events ++ event ∷ []) room lost (grown events event room (below_room _ _ h))))
    (λ (h : nat_lt (length events) room ≡ false). subst (λ held. length (held_after held rest).events ≤ room)
    (without_room events room lost event h) (few rest events room (min most_lost (lost + 1)) fits))
    (cases_Bool (nat_lt (length events) room))

pub few_held : (room : ℕ) (all : List Happening) → length (held_after (nothing_held room) all).events ≤ room
few_held room all = few all [] room 0 (omega arith)

-- while there is room for all that comes, nothing is lost
is_below : (n m room : ℕ) → n + suc m ≤ room → nat_lt n room ≡ true
is_below n m room fits = grind (arith, nat_tests)

still_fits : (events : List Observed) (event : Observed) (m room : ℕ) → length events + suc m ≤ room → length (events ++ event ∷ []) + m ≤ room
still_fits events event m room fits = rw length-append (omega arith)

none_lost : (all : List Happening) (events : List Observed) (room : ℕ) → length events + length (coming all) ≤ room
    → (held_after (held_as events room 0) all).lost ≡ 0
unfolding held_after
none_lost [] events room fits = refl
none_lost (is_taken ∷ rest) [] room fits = none_lost rest [] room fits
none_lost (is_taken ∷ rest) (event ∷ events) room fits = none_lost rest events room (omega arith)
none_lost (comes event ∷ rest) events room fits =
    subst (λ held. (held_after held rest).lost ≡ 0)
    (with_room events room 0 event (is_below (length events) (length (coming rest)) room fits))
    (none_lost rest (events ++ event ∷ []) room (still_fits events event (length (coming rest)) room fits))

pub none_lost_from : (room : ℕ) (all : List Happening) → length (coming all) ≤ room → (held_after (nothing_held room) all).lost ≡ 0
none_lost_from room all fits = none_lost all [] room (omega arith)

-- all of a list
whole : (all : List Observed) → InOrderBut zero all all
whole [] = none
whole (event ∷ all) = kept zero event all all (whole all)

-- how many are left out, and that none is where the count is 0
pub counted_out : (n : ℕ) (some all : List Observed) → InOrderBut n some all → length some + n ≡ length all
counted_out n some all none = refl
counted_out n some all (kept m event more rest so) =
    let e : length more + m ≡ length rest = counted_out m more rest so in omega arith
counted_out n some all (left_out m event more rest so) =
    let e : length more + m ≡ length rest = counted_out m more rest so in omega arith

whole_from : (n : ℕ) (some all : List Observed) → InOrderBut n some all → n ≡ 0 → some ≡ all
whole_from n some all none is_zero = refl
whole_from n some all (kept m event more rest so) is_zero =
    ap (λ (events : List Observed). event ∷ events) (whole_from m more rest so is_zero)
whole_from n some all (left_out m event more rest so) is_zero = absurd (omega arith)

pub whole_of : (some all : List Observed) → InOrderBut 0 some all → some ≡ all
whole_of some all so = whole_from 0 some all so refl

-- one more that is left out
left_out_behind : (n : ℕ) (some front rest : List Observed) (event : Observed)
    → InOrderBut n some (front ++ rest) → InOrderBut (suc n) some (front ++ event ∷ rest)
left_out_behind n some [] rest event so = left_out n event some rest so
left_out_behind n some (x ∷ front) rest event (kept m y more all so) =
    kept (suc m) x more (front ++ event ∷ rest) (left_out_behind m more front rest event so)
left_out_behind n some (x ∷ front) rest event (left_out m y more all so) =
    left_out (suc m) x more (front ++ event ∷ rest) (left_out_behind m more front rest event so)

-- the count never falls
min_room : (lost : ℕ) → lost ≤ most_lost → lost ≤ min most_lost (lost + 1)
min_room lost small = grind (arith, nat_tests)

min_most : (lost : ℕ) → min most_lost (lost + 1) ≤ most_lost
min_most lost = grind (arith, nat_tests)

min_small : (lost after : ℕ) → min most_lost (lost + 1) ≤ after → after < most_lost → min most_lost (lost + 1) ≡ lost + 1
min_small lost after counted below = grind (arith, nat_tests)

trans_le : (a b c : ℕ) → a ≤ b → b ≤ c → a ≤ c
trans_le a b c ab bc = omega arith

more_lost : (all : List Happening) (events : List Observed) (room lost : ℕ) → lost ≤ most_lost
    → lost ≤ (held_after (held_as events room lost) all).lost
unfolding held_after
more_lost [] events room lost small = omega arith
more_lost (is_taken ∷ rest) events room lost small = more_lost rest (drop 1 events) room lost small
more_lost (comes event ∷ rest) events room lost small =
    ⊎_elim
    (λ (h : nat_lt (length events) room ≡ true). subst (λ held. lost ≤ (held_after held rest).lost)
    (with_room events room lost event h) (more_lost rest (events ++ event ∷ []) room lost small))
    (λ (h : nat_lt (length events) room ≡ false). subst (λ held. lost ≤ (held_after held rest).lost)
    (without_room events room lost event h) (trans_le lost (min most_lost (lost + 1)) _ (min_room lost small) (more_lost rest events room (min most_lost (lost + 1)) (min_most lost))))
    (cases_Bool (nat_lt (length events) room))

abbrev Claim : Held → List Happening → ℕ → List Observed → Type 0
Claim held rest lost came =
    (n : ℕ) → n + lost ≡ (held_after held rest).lost → (held_after held rest).lost < most_lost
    → InOrderBut n (given_back held rest ++ (held_after held rest).events) came

missed : (held : Held) (rest : List Happening) (lost : ℕ) (front : List Observed) (event : Observed) (back : List Observed)
    → min most_lost (lost + 1) ≤ (held_after held rest).lost → Claim held rest (min most_lost (lost + 1)) (front ++ back)
    → Claim held rest lost (front ++ event ∷ back)
missed held rest lost front event back counted so zero count below =
    let e : min most_lost (lost + 1) ≡ lost + 1 = min_small lost _ counted below in absurd (omega arith)
missed held rest lost front event back counted so (suc n) count below =
    let e : min most_lost (lost + 1) ≡ lost + 1 = min_small lost _ counted below in
    left_out_behind n _ front back event (so n (omega arith) below)

in_order : (all : List Happening) (events : List Observed) (room lost : ℕ) → lost ≤ most_lost
    → Claim (held_as events room lost) all lost (events ++ coming all)
unfolding held_after given_back
in_order [] events room lost small zero count below = subst (λ came. InOrderBut zero events came) (sym (append-nil events)) (whole events)
in_order [] events room lost small (suc n) count below = absurd (omega arith)
in_order (is_taken ∷ rest) [] room lost small n count below = in_order rest [] room lost small n count below
in_order (is_taken ∷ rest) (event ∷ events) room lost small n count below = kept n event _ _ (in_order rest events room lost small n count below)
in_order (comes event ∷ rest) events room lost small n count below =
    ⊎_elim
    (λ (h : nat_lt (length events) room ≡ true). subst (λ held. Claim held rest lost (events ++ event ∷ coming rest))
    (with_room events room lost event h)
    (subst (λ came. Claim (held_as (events ++ event ∷ []) room lost) rest lost came) (append_assoc events (event ∷ []) (coming rest))
    (in_order rest (events ++ event ∷ []) room lost small)) n count below)
    (λ (h : nat_lt (length events) room ≡ false). subst (λ held. Claim held rest lost (events ++ event ∷ coming rest))
    (without_room events room lost event h)
    (missed (held_as events room (min most_lost (lost + 1))) rest lost events event (coming rest)
    (more_lost rest events room (min most_lost (lost + 1)) (min_most lost)) (in_order rest events room (min most_lost (lost + 1)) (min_most lost))) n count below)
    (cases_Bool (nat_lt (length events) room))

pub in_order_from : (room : ℕ) (all : List Happening) → (held_after (nothing_held room) all).lost < most_lost
    → InOrderBut (held_after (nothing_held room) all).lost
    (given_back (nothing_held room) all ++ (held_after (nothing_held room) all).events) (coming all)
in_order_from room all below = in_order all [] room 0 (omega arith) _ (omega arith) below
