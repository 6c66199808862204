-- What comes next, however things stand.
use Rattle.std.proofs.Common.{inl, inr, ◌≡◌, ◌⊎◌, ℕ, ◌+◌, ◌-◌, ◌<◌, ◌≤◌, ◌^◌, Bool, true, false, cond, List, [], ◌∷◌, Option, Some, None, refl, sym, ◌∙◌, ap, subst, arith, zero-le}
use Rattle.std.specs.Prelude.{◌&&◌, not, nat_lt, nat_le, if◌then◌else◌, count_by}
use Rattle.std.proofs.lemmas.Bool.{true≢false, ltb-true, ltb-false, leb-false}
use Rattle.std.proofs.lemmas.List.Sums.{sum_by-cons}
use Rattle.turns.specs.declared.circle.Ready.{Ready}
use Rattle.turns.specs.declared.circle.Source.{Source}
use Rattle.turns.specs.declared.circle.Source.TheVariants.{Clock, Commands, Datagrams, Visitors}
use Rattle.turns.specs.declared.situation.Situation.{Situation}
use Rattle.turns.specs.declared.turn.Turn.{Turn}
use Rattle.turns.specs.declared.turn.Turn.TheVariants.{End, Look, Wait, Tick, Note}
use Rattle.turns.specs.declared.schedule.Mode.{Mode}
use Rattle.turns.specs.declared.schedule.Mode.TheVariants.{Rounds, Reading, CatchingUp}
use Rattle.turns.specs.declared.schedule.Schedule.{Schedule}
use Rattle.turns.specs.Circle.{is_ready, first_ready}
use Rattle.turns.specs.Clock.{longest_tick, longest_wait, is_over, tick_to, wait_until}
use Rattle.turns.specs.Schedule.{longest_read_pause, most_read, is_far_behind, reads_on, met, asked, taken, turn_of, is_tick_due, is_stale, round_by, round, is_paused, lateness_of, noted, woken, of_sockets, read_by, read_on, onward, next_met, next_of}
use Rattle.turns.specs.Runs.{turns_from, is_end, source_of, is_its, is_turn_of, is_rounds, is_round, IsReadyIn, reading}

-- ---- tests

by_if : {A : Type 0} (P : A → Type 0) (b : Bool) (x y : A) → (b ≡ true → P x) → (b ≡ false → P y) → P (if b then x else y)
by_if P true x y when_true when_false = when_true refl
by_if P false x y when_true when_false = when_false refl

both_hold : (a b : Bool) → (a && b) ≡ true → (a ≡ true) × (b ≡ true)
both_hold true b e = (refl, e)
both_hold false b e = absurd (true≢false (sym e))

is_not : (b : Bool) → not b ≡ true → b ≡ false
is_not true e = absurd (true≢false (sym e))
is_not false e = refl

-- ---- the circle

-- so many places one stands behind another; itself it stands behind all
abbrev distance : Source → Source → ℕ
distance Clock Clock = 4
distance Clock Commands = 1
distance Clock Datagrams = 2
distance Clock Visitors = 3
distance Commands Clock = 3
distance Commands Commands = 4
distance Commands Datagrams = 1
distance Commands Visitors = 2
distance Datagrams Clock = 2
distance Datagrams Commands = 3
distance Datagrams Datagrams = 4
distance Datagrams Visitors = 1
distance Visitors Clock = 1
distance Visitors Commands = 2
distance Visitors Datagrams = 3
distance Visitors Visitors = 4

-- of those that are found, each stands before this one, or is this one
abbrev Near : Source → Source → Option Source → Type 0
Near last source None = ⊥
Near last source (Some found) = (found ≡ source) ⊎ (nat_lt (distance found source) (distance last source) ≡ true)

at_1 : (P : Option Source → Type 0) (p q r s : Bool) (v w x y : Source) → p ≡ true → P (Some v) → P (if p then Some v else if q then Some w else if r then Some x else if s then Some y else None)
at_1 P true q r s v w x y is h1 = h1
at_1 P false q r s v w x y is h1 = absurd (true≢false (sym is))

at_2 : (P : Option Source → Type 0) (p q r s : Bool) (v w x y : Source) → q ≡ true → P (Some v) → P (Some w) → P (if p then Some v else if q then Some w else if r then Some x else if s then Some y else None)
at_2 P p q r s v w x y is h1 h2 =
    by_if P p (Some v) (if q then Some w else if r then Some x else if s then Some y else None) (λ e. h1) (λ e. by_if P q (Some w) (if r then Some x else if s then Some y else None) (λ e. h2) (λ e. absurd (true≢false (sym is ∙ e))))

at_3 : (P : Option Source → Type 0) (p q r s : Bool) (v w x y : Source) → r ≡ true → P (Some v) → P (Some w) → P (Some x) → P (if p then Some v else if q then Some w else if r then Some x else if s then Some y else None)
at_3 P p q r s v w x y is h1 h2 h3 =
    by_if P p (Some v) (if q then Some w else if r then Some x else if s then Some y else None) (λ e. h1) (λ e. by_if P q (Some w) (if r then Some x else if s then Some y else None) (λ e. h2) (λ e. by_if P r (Some x) (if s then Some y else None) (λ e. h3) (λ e. absurd (true≢false (sym is ∙ e)))))

at_4 : (P : Option Source → Type 0) (p q r s : Bool) (v w x y : Source) → s ≡ true → P (Some v) → P (Some w) → P (Some x) → P (Some y) → P (if p then Some v else if q then Some w else if r then Some x else if s then Some y else None)
at_4 P p q r s v w x y is h1 h2 h3 h4 =
    by_if P p (Some v) (if q then Some w else if r then Some x else if s then Some y else None) (λ e. h1) (λ e. by_if P q (Some w) (if r then Some x else if s then Some y else None) (λ e. h2) (λ e. by_if P r (Some x) (if s then Some y else None) (λ e. h3) (λ e. by_if P s (Some y) (None) (λ e. h4) (λ e. absurd (true≢false (sym is ∙ e))))))

-- one that is ready is found, or one that stands before it
near : (b : Bool) (r : Ready) (last source : Source) → is_ready b r source ≡ true → Near last source (first_ready b r last)
near b r Clock Commands is = at_1 (Near Clock Commands) r.commands r.datagrams r.visitors b Commands Datagrams Visitors Clock is (inl refl)
near b r Clock Datagrams is = at_2 (Near Clock Datagrams) r.commands r.datagrams r.visitors b Commands Datagrams Visitors Clock is (inr refl) (inl refl)
near b r Clock Visitors is = at_3 (Near Clock Visitors) r.commands r.datagrams r.visitors b Commands Datagrams Visitors Clock is (inr refl) (inr refl) (inl refl)
near b r Clock Clock is = at_4 (Near Clock Clock) r.commands r.datagrams r.visitors b Commands Datagrams Visitors Clock is (inr refl) (inr refl) (inr refl) (inl refl)
near b r Commands Datagrams is = at_1 (Near Commands Datagrams) r.datagrams r.visitors b r.commands Datagrams Visitors Clock Commands is (inl refl)
near b r Commands Visitors is = at_2 (Near Commands Visitors) r.datagrams r.visitors b r.commands Datagrams Visitors Clock Commands is (inr refl) (inl refl)
near b r Commands Clock is = at_3 (Near Commands Clock) r.datagrams r.visitors b r.commands Datagrams Visitors Clock Commands is (inr refl) (inr refl) (inl refl)
near b r Commands Commands is = at_4 (Near Commands Commands) r.datagrams r.visitors b r.commands Datagrams Visitors Clock Commands is (inr refl) (inr refl) (inr refl) (inl refl)
near b r Datagrams Visitors is = at_1 (Near Datagrams Visitors) r.visitors b r.commands r.datagrams Visitors Clock Commands Datagrams is (inl refl)
near b r Datagrams Clock is = at_2 (Near Datagrams Clock) r.visitors b r.commands r.datagrams Visitors Clock Commands Datagrams is (inr refl) (inl refl)
near b r Datagrams Commands is = at_3 (Near Datagrams Commands) r.visitors b r.commands r.datagrams Visitors Clock Commands Datagrams is (inr refl) (inr refl) (inl refl)
near b r Datagrams Datagrams is = at_4 (Near Datagrams Datagrams) r.visitors b r.commands r.datagrams Visitors Clock Commands Datagrams is (inr refl) (inr refl) (inr refl) (inl refl)
near b r Visitors Clock is = at_1 (Near Visitors Clock) b r.commands r.datagrams r.visitors Clock Commands Datagrams Visitors is (inl refl)
near b r Visitors Commands is = at_2 (Near Visitors Commands) b r.commands r.datagrams r.visitors Clock Commands Datagrams Visitors is (inr refl) (inl refl)
near b r Visitors Datagrams is = at_3 (Near Visitors Datagrams) b r.commands r.datagrams r.visitors Clock Commands Datagrams Visitors is (inr refl) (inr refl) (inl refl)
near b r Visitors Visitors is = at_4 (Near Visitors Visitors) b r.commands r.datagrams r.visitors Clock Commands Datagrams Visitors is (inr refl) (inr refl) (inr refl) (inl refl)

-- ---- turns of a source

same_turn : (at : Situation) (other found : Source) → is_turn_of other (turn_of at found) ≡ true → found ≡ other
same_turn at Clock Clock e = refl
same_turn at Clock Commands e = absurd (true≢false (sym e))
same_turn at Clock Datagrams e = absurd (true≢false (sym e))
same_turn at Clock Visitors e = absurd (true≢false (sym e))
same_turn at Commands Clock e = absurd (true≢false (sym e))
same_turn at Commands Commands e = refl
same_turn at Commands Datagrams e = absurd (true≢false (sym e))
same_turn at Commands Visitors e = absurd (true≢false (sym e))
same_turn at Datagrams Clock e = absurd (true≢false (sym e))
same_turn at Datagrams Commands e = absurd (true≢false (sym e))
same_turn at Datagrams Datagrams e = refl
same_turn at Datagrams Visitors e = absurd (true≢false (sym e))
same_turn at Visitors Clock e = absurd (true≢false (sym e))
same_turn at Visitors Commands e = absurd (true≢false (sym e))
same_turn at Visitors Datagrams e = absurd (true≢false (sym e))
same_turn at Visitors Visitors e = refl

own_turn : (at : Situation) (source : Source) → is_turn_of source (turn_of at source) ≡ true
own_turn at Clock = refl
own_turn at Commands = refl
own_turn at Datagrams = refl
own_turn at Visitors = refl

abbrev count_if : Bool → ℕ
count_if b = cond b 1 0

count_more : (p : Turn → Bool) (t : Turn) (ts : List Turn) → count_by p (t ∷ ts) ≡ count_if (p t) + count_by p ts
count_more p t ts = sum_by-cons (λ x. cond (p x) 1 0) t ts

-- ---- rounds

on_mode : (mode : Mode) (s : Schedule) (at : Situation) → is_rounds mode ≡ true → onward mode s at ≡ round s at
on_mode Rounds s at is = refl
on_mode (Reading late before) s at is = absurd (true≢false (sym is))
on_mode (CatchingUp left) s at is = absurd (true≢false (sym is))

next_round : (s : Schedule) (at : Situation) → is_round s at ≡ true → next_of s at ≡ round (met s at) at
unfolding next_of
next_round s at is =
    let over : is_over at ≡ false = is_not (is_over at) (both_hold (not (is_over at)) _ is).0 in
    let rest = both_hold (not (is_paused (met s at) at)) _ (both_hold (not (is_over at)) _ is).1 in
    let paused : is_paused (met s at) at ≡ false = is_not (is_paused (met s at) at) rest.0 in
    rw (over, paused) (on_mode (met s at).mode (met s at) at rest.1)

met_last : (s : Schedule) (at : Situation) → (met s at).last ≡ s.last
met_last s at = by_if (λ (x : Schedule). x.last ≡ s.last) s.is_fresh (record s { looked = at.moment }) s (λ e. refl) (λ e. refl)

-- another one has a turn at most where it stands before the one that is ready
abbrev most : Source → Source → Source → ℕ
most other last source = count_if (nat_lt (distance other source) (distance last source))

abbrev Fair : Source → Source → Source → List Situation → Turn × Schedule → Type 0
Fair source other last more r =
    IsReadyIn source r.1 more → count_by (is_turn_of source) (r.0 ∷ turns_from r.1 more) ≡ 0
    → count_by (is_turn_of other) (r.0 ∷ turns_from r.1 more) ≤ most other last source

abbrev FairAfter : Source → Source → List Situation → Type 0
FairAfter source other more =
    (s : Schedule) → IsReadyIn source s more → count_by (is_turn_of source) (turns_from s more) ≡ 0
    → count_by (is_turn_of other) (turns_from s more) ≤ most other s.last source

no_source : (source other : Source) (last : Source) (t : Turn) (s : Schedule) (more : List Situation) → source_of t ≡ None → s.last ≡ last
    → FairAfter source other more → Fair source other last more (t, s)
no_source source other last t s more nobody same rest all none =
    let mine : is_turn_of source t ≡ false = ap (is_its source) nobody in
    let others : is_turn_of other t ≡ false = ap (is_its other) nobody in
    let zero_more : count_by (is_turn_of source) (turns_from s more) ≡ 0 =
    omega (arith, count_more (is_turn_of source) t (turns_from s more), ap count_if mine, none) in
    let few = subst (λ (l : Source). count_by (is_turn_of other) (turns_from s more) ≤ most other l source) same (rest s all zero_more) in
    omega (arith, count_more (is_turn_of other) t (turns_from s more), ap count_if others, few)

-- somebody who stands before it has a turn
before_it : (source other last found : Source) (at : Situation) (s : Schedule) (more : List Situation) → s.last ≡ found
    → nat_lt (distance found source) (distance last source) ≡ true → FairAfter source other more → Fair source other last more (turn_of at found, s)
before_it source other last found at s more same nearer rest all none = by_turn (is_turn_of other (turn_of at found)) refl where
  zero_more : count_by (is_turn_of source) (turns_from s more) ≡ 0
  zero_more = omega (arith, count_more (is_turn_of source) (turn_of at found) (turns_from s more), none)

  few : count_by (is_turn_of other) (turns_from s more) ≤ most other found source
  few = subst (λ (l : Source). count_by (is_turn_of other) (turns_from s more) ≤ most other l source) same (rest s all zero_more)

  not_twice : found ≡ other → most other found source ≡ 0
  not_twice e = subst (λ (x : Source). most other x source ≡ 0) (sym e) (no_less (distance other source)) where
    no_less : (n : ℕ) → count_if (nat_lt n n) ≡ 0
    no_less n = by_if (λ (m : ℕ). m ≡ 0) (nat_lt n n) 1 0 (λ e. absurd (omega (arith, ltb-true n n e))) (λ e. refl)

  by_turn : (b : Bool) → is_turn_of other (turn_of at found) ≡ b → count_by (is_turn_of other) (turn_of at found ∷ turns_from s more) ≤ most other last source
  by_turn true is =
      let e : found ≡ other = same_turn at other found is in
      let one : most other last source ≡ 1 = subst (λ (x : Source). most x last source ≡ 1) e (ap count_if nearer) in
      omega (arith, count_more (is_turn_of other) (turn_of at found) (turns_from s more), ap count_if is, few, not_twice e, one)
  by_turn false is =
      omega (arith, count_more (is_turn_of other) (turn_of at found) (turns_from s more), ap count_if is, few, no_more) where
        no_more : most other found source ≤ most other last source
        no_more = by_if (λ (m : ℕ). m ≤ most other last source) (nat_lt (distance other source) (distance found source)) 1 0
            (λ lt. by_if (λ (m : ℕ). 1 ≤ m) (nat_lt (distance other source) (distance last source)) 1 0 (λ e. omega arith)
            (λ no. absurd (omega (arith, ltb-true _ _ lt, ltb-true _ _ nearer, ltb-false _ _ no))))
            (λ no. zero-le)

-- it has a turn itself
itself : (source other last : Source) (at : Situation) (s : Schedule) (more : List Situation) → Fair source other last more (turn_of at source, s)
itself source other last at s more all none =
    absurd (omega (arith, count_more (is_turn_of source) (turn_of at source) (turns_from s more), ap count_if (own_turn at source), none))

fair_found : (source other : Source) (s : Schedule) (at : Situation) (more : List Situation) (found : Option Source) → Near s.last source found
    → FairAfter source other more → Fair source other s.last more (round_by found s at)
fair_found source other s at more None close rest = absurd close
fair_found source other s at more (Some found) close rest =
    by_if (Fair source other s.last more) (is_stale s at) (Look, asked s at) (turn_of at found, taken s at found)
    (λ stale. no_source source other s.last Look (asked s at) more refl refl rest)
    (λ seen. by_place close) where
      by_place : (found ≡ source) ⊎ (nat_lt (distance found source) (distance s.last source) ≡ true) → Fair source other s.last more (turn_of at found, taken s at found)
      by_place (inl same) = subst (λ (x : Source). Fair source other s.last more (turn_of at x, taken s at x)) (sym same) (itself source other s.last at (taken s at source) more)
      by_place (inr less) = before_it source other s.last found at (taken s at found) more refl less rest

fair_round : (source other : Source) (s : Schedule) (at : Situation) (more : List Situation) → is_ready (is_tick_due s at) at.ready source ≡ true
    → FairAfter source other more → Fair source other s.last more (round s at)
fair_round source other s at more is rest =
    fair_found source other s at more (first_ready (is_tick_due s at) at.ready s.last) (near (is_tick_due s at) at.ready s.last source is) rest

fair : (source other : Source) (more : List Situation) → FairAfter source other more
unfolding turns_from
fair source other [] s all none = zero-le
fair source other (at ∷ more) s all none =
    let here : Fair source other (met s at).last more (round (met s at) at) =
    fair_round source other (met s at) at more all.1 (λ next ready no. fair source other more next ready no) in
    let placed : Fair source other s.last more (round (met s at) at) = subst (λ (l : Source). Fair source other l more (round (met s at) at)) (met_last s at) here in
    subst (λ r. Fair source other s.last more r) (sym (next_round s at all.0)) placed all.2 none

pub one_turn_each : (source other : Source) (s : Schedule) (all : List Situation) → IsReadyIn source s all
    → count_by (is_turn_of source) (turns_from s all) ≡ 0 → count_by (is_turn_of other) (turns_from s all) ≤ 1
one_turn_each source other s all ready none =
    let few = fair source other all s ready none in
    by_if (λ (m : ℕ). count_by (is_turn_of other) (turns_from s all) ≤ m → count_by (is_turn_of other) (turns_from s all) ≤ 1)
    (nat_lt (distance other source) (distance s.last source)) 1 0 (λ e le. le) (λ e le. omega (arith, le)) few

-- ---- any turn

one_found : (b : Bool) (r : Ready) (found : Source) (p q t u : Bool) (v w x y : Source)
    → (p ≡ true → is_ready b r v ≡ true) → (q ≡ true → is_ready b r w ≡ true) → (t ≡ true → is_ready b r x ≡ true) → (u ≡ true → is_ready b r y ≡ true)
    → (if p then Some v else if q then Some w else if t then Some x else if u then Some y else None) ≡ Some found → is_ready b r found ≡ true
one_found b r found true q t u v w x y h i j k is = let e : v ≡ found = cc in subst (λ (z : Source). is_ready b r z ≡ true) e (h refl)
one_found b r found false true t u v w x y h i j k is = let e : w ≡ found = cc in subst (λ (z : Source). is_ready b r z ≡ true) e (i refl)
one_found b r found false false true u v w x y h i j k is = let e : x ≡ found = cc in subst (λ (z : Source). is_ready b r z ≡ true) e (j refl)
one_found b r found false false false true v w x y h i j k is = let e : y ≡ found = cc in subst (λ (z : Source). is_ready b r z ≡ true) e (k refl)
one_found b r found false false false false v w x y h i j k is = absurd cc

found_is_ready : (b : Bool) (r : Ready) (last found : Source) → first_ready b r last ≡ Some found → is_ready b r found ≡ true
found_is_ready b r Clock found is = one_found b r found r.commands r.datagrams r.visitors b Commands Datagrams Visitors Clock (λ e. e) (λ e. e) (λ e. e) (λ e. e) is
found_is_ready b r Commands found is = one_found b r found r.datagrams r.visitors b r.commands Datagrams Visitors Clock Commands (λ e. e) (λ e. e) (λ e. e) (λ e. e) is
found_is_ready b r Datagrams found is = one_found b r found r.visitors b r.commands r.datagrams Visitors Clock Commands Datagrams (λ e. e) (λ e. e) (λ e. e) (λ e. e) is
found_is_ready b r Visitors found is = one_found b r found b r.commands r.datagrams r.visitors Clock Commands Datagrams Visitors (λ e. e) (λ e. e) (λ e. e) (λ e. e) is

none_ready : (b : Bool) (r : Ready) (last source : Source) → first_ready b r last ≡ None → is_ready b r source ≡ false
none_ready b r last source none = by_test (is_ready b r source) refl where
  by_test : (is : Bool) → is_ready b r source ≡ is → is_ready b r source ≡ false
  by_test true e = absurd (subst (λ (found : Option Source). Near last source found) none (near b r last source e))
  by_test false e = e

-- ---- ticks

abbrev Bounded : Situation → Turn → Type 0
Bounded at turn = (moment : ℕ) → turn ≡ Tick moment → (at.ticked < moment) × (moment ≤ at.moment) × (moment ≤ at.ticked + longest_tick)

tick_bounds : (at : Situation) → at.moment < 2 ^ 64 → nat_lt at.ticked at.moment ≡ true → Bounded at (Tick (tick_to at))
tick_bounds at few behind moment is =
    let same : tick_to at ≡ moment = cc in
    let less : at.ticked < at.moment = ltb-true at.ticked at.moment behind in
    (omega (arith, few, less, same), omega (arith, same), omega (arith, same))

found_bounds : (at : Situation) (found : Source) → at.moment < 2 ^ 64 → (found ≡ Clock → nat_lt at.ticked at.moment ≡ true) → Bounded at (turn_of at found)
found_bounds at Clock few behind = tick_bounds at few (behind refl)
found_bounds at Commands few behind = λ moment is. absurd cc
found_bounds at Datagrams few behind = λ moment is. absurd cc
found_bounds at Visitors few behind = λ moment is. absurd cc

clock_is_behind : (s : Schedule) (at : Situation) (found : Source) → is_ready (is_tick_due s at) at.ready found ≡ true → found ≡ Clock → nat_lt at.ticked at.moment ≡ true
clock_is_behind s at Clock is same = (both_hold (nat_lt at.ticked at.moment) _ is).0
clock_is_behind s at Commands is same = absurd cc
clock_is_behind s at Datagrams is same = absurd cc
clock_is_behind s at Visitors is same = absurd cc

round_bounds : (s : Schedule) (at : Situation) → at.moment < 2 ^ 64 → Bounded at (round s at).0
round_bounds s at few = by_found (first_ready (is_tick_due s at) at.ready s.last) refl where
  by_found : (found : Option Source) → first_ready (is_tick_due s at) at.ready s.last ≡ found → Bounded at (round_by found s at).0
  by_found None is = λ moment e. absurd cc
  by_found (Some found) is =
      by_if (λ (r : Turn × Schedule). Bounded at r.0) (is_stale s at) (Look, asked s at) (turn_of at found, taken s at found) (λ stale moment e. absurd cc)
      (λ seen. found_bounds at found few (clock_is_behind s at found (found_is_ready (is_tick_due s at) at.ready s.last found is)))

no_clock : (r : Ready) (found : Source) → is_ready false r found ≡ true → found ≡ Clock → ⊥
no_clock r Clock is same = true≢false (sym is)
no_clock r Commands is same = absurd cc
no_clock r Datagrams is same = absurd cc
no_clock r Visitors is same = absurd cc

-- no tick where what came in a pause is read
abbrev NoTick : Turn → Type 0
NoTick turn = (moment : ℕ) → turn ≡ Tick moment → ⊥

found_no_tick : (at : Situation) (found : Source) → (found ≡ Clock → ⊥) → NoTick (turn_of at found)
found_no_tick at Clock other = absurd (other refl)
found_no_tick at Commands other = λ moment is. absurd cc
found_no_tick at Datagrams other = λ moment is. absurd cc
found_no_tick at Visitors other = λ moment is. absurd cc

read_no_tick : (s : Schedule) (at : Situation) (late before : ℕ) → NoTick (read_on s at late before).0
read_no_tick s at late before =
    by_if (λ (found : Option Source). NoTick (read_by found s at late before).0) (reads_on at before) (first_ready false (of_sockets at.ready) s.last) None
    (λ some. by_found (first_ready false (of_sockets at.ready) s.last) refl) (λ none moment e. absurd cc) where
      by_found : (found : Option Source) → first_ready false (of_sockets at.ready) s.last ≡ found → NoTick (read_by found s at late before).0
      by_found None is = λ moment e. absurd cc
      by_found (Some found) is =
          by_if (λ (r : Turn × Schedule). NoTick r.0) (is_stale s at) (Look, asked s at) (turn_of at found, taken s at found)
          (λ stale moment e. absurd cc) (λ seen. found_no_tick at found (no_clock (of_sockets at.ready) found (found_is_ready false (of_sockets at.ready) s.last found is)))

onward_bounds : (mode : Mode) (s : Schedule) (at : Situation) → at.moment < 2 ^ 64 → Bounded at (onward mode s at).0
onward_bounds Rounds s at few = round_bounds s at few
onward_bounds (Reading late before) s at few = λ moment e. absurd (read_no_tick s at late before moment e)
onward_bounds (CatchingUp left) s at few =
    by_if (λ (r : Turn × Schedule). Bounded at r.0) (nat_lt 0 left && nat_lt at.ticked at.moment)
    (Tick (tick_to at), record (taken s at Clock) { mode = CatchingUp (left - 1) }) (round (record s { mode = Rounds }) at)
    (λ both. tick_bounds at few (both_hold (nat_lt 0 left) _ both).1) (λ over. round_bounds (record s { mode = Rounds }) at few)

woken_quiet : (P : Turn → Type 0) (s : Schedule) (at : Situation) → P (Note (record { lateness = lateness_of s at; read = None })) → P Look → P (woken s at).0
woken_quiet P s at note look =
    by_if (λ (r : Turn × Schedule). P r.0) (is_far_behind at) (noted s at (lateness_of s at) None) _ (λ long. note) (λ short. look)

pub ticks_within : (s : Schedule) (at : Situation) (moment : ℕ) → at.moment < 2 ^ 64 → (next_of s at).0 ≡ Tick moment
    → (at.ticked < moment) × (moment ≤ at.moment) × (moment ≤ at.ticked + longest_tick)
unfolding next_of
ticks_within s at moment few is =
    by_if (λ (r : Turn × Schedule). Bounded at r.0) (is_over at) (End, s) (next_met (met s at) at) (λ over m e. absurd cc)
    (λ on. by_if (λ (r : Turn × Schedule). Bounded at r.0) (is_paused (met s at) at) (woken (met s at) at) (onward (met s at).mode (met s at) at)
    (λ paused. woken_quiet (Bounded at) (met s at) at (λ m e. absurd cc) (λ m e. absurd cc))
    (λ going. onward_bounds (met s at).mode (met s at) at few)) moment is

-- ---- pauses

met_with : (b : Bool) (s : Schedule) (moment late before : ℕ) → (if b then record (reading s late before) { looked = moment } else reading s late before)
    ≡ reading (if b then record s { looked = moment } else s) late before
met_with true s moment late before = refl
met_with false s moment late before = refl

and_false : (b : Bool) → (b && false) ≡ false
and_false true = refl
and_false false = refl

next_reading : (s : Schedule) (at : Situation) (late before : ℕ) → next_met (reading s late before) at ≡ read_on (reading s late before) at late before
next_reading s at late before = rw (and_false (nat_lt 500 (at.moment - s.awaited))) refl

in_pause : (P : Turn × Schedule → Type 0) (s : Schedule) (at : Situation) (late before : ℕ) → P (End, reading s late before)
    → ((met_then : Schedule) → P (read_on (reading met_then late before) at late before)) → P (next_of (reading s late before) at)
unfolding next_of
in_pause P s at late before over on =
    by_if P (is_over at) (End, reading s late before) (next_met (met (reading s late before) at) at) (λ is. over)
    (λ is. subst (λ (m : Schedule). P (next_met m at)) (sym (met_with s.is_fresh s at.moment late before))
    (subst P (sym (next_reading (met s at) at late before)) (on (met s at))))

pub pause_without_ticks : (s : Schedule) (at : Situation) (late before moment : ℕ) → (next_of (reading s late before) at).0 ≡ Tick moment → ⊥
pause_without_ticks s at late before moment is =
    in_pause (λ r. NoTick r.0) s at late before (λ m e. absurd cc) (λ m. read_no_tick (reading m late before) at late before) moment is

abbrev Enough : Situation → ℕ → ℕ → Turn × Schedule → Type 0
Enough at late before r = (source : Source) → source_of r.0 ≡ Some source → (at.read - before < most_read) × (r.1.mode ≡ Reading late before)

read_enough : (s : Schedule) (at : Situation) (late before : ℕ) → Enough at late before (read_on (reading s late before) at late before)
read_enough s at late before =
    by_if (λ (found : Option Source). Enough at late before (read_by found (reading s late before) at late before)) (reads_on at before) (first_ready false (of_sockets at.ready) s.last) None
    (λ some. by_found some (first_ready false (of_sockets at.ready) s.last)) (λ none source e. absurd cc) where
      by_found : reads_on at before ≡ true → (found : Option Source) → Enough at late before (read_by found (reading s late before) at late before)
      by_found some None = λ source e. absurd cc
      by_found some (Some found) =
          by_if (Enough at late before) (is_stale (reading s late before) at) (Look, asked (reading s late before) at) (turn_of at found, taken (reading s late before) at found)
          (λ stale source e. absurd cc) (λ seen source e. (ltb-true (at.read - before) most_read (both_hold (nat_lt (at.read - before) most_read) _ some).0, refl))

pub pause_has_enough : (s : Schedule) (at : Situation) (late before : ℕ) (source : Source) → source_of (next_of (reading s late before) at).0 ≡ Some source
    → (at.read - before < most_read) × ((next_of (reading s late before) at).1.mode ≡ Reading late before)
pause_has_enough s at late before source is =
    in_pause (Enough at late before) s at late before (λ x e. absurd cc) (λ m. read_enough m at late before) source is

-- nobody's turn comes where the clock is too far behind
abbrev NotFar : Situation → Turn × Schedule → Type 0
NotFar at r = (source : Source) → source_of r.0 ≡ Some source → at.moment - at.ticked ≤ longest_read_pause

read_not_far : (s : Schedule) (at : Situation) (late before : ℕ) → NotFar at (read_on s at late before)
read_not_far s at late before =
    by_if (λ (found : Option Source). NotFar at (read_by found s at late before)) (reads_on at before) (first_ready false (of_sockets at.ready) s.last) None
    (λ some source e. let near = ltb-false longest_read_pause (at.moment - at.ticked) (is_not (is_far_behind at) (both_hold (nat_lt (at.read - before) most_read) _ some).1) in omega (arith, near))
    (λ none source e. absurd cc)

pub pause_is_not_far : (s : Schedule) (at : Situation) (late before : ℕ) (source : Source) → source_of (next_of (reading s late before) at).0 ≡ Some source
    → at.moment - at.ticked ≤ longest_read_pause
pause_is_not_far s at late before source is =
    in_pause (NotFar at) s at late before (λ x e. absurd cc) (λ m. read_not_far (reading m late before) at late before) source is

-- ---- waiting

-- a wait is where nobody is ready
abbrev Waits : Bool → Situation → Turn → Type 0
Waits due at turn = (until : ℕ) → turn ≡ Wait until → ((source : Source) → is_ready due at.ready source ≡ false) × (until ≡ wait_until at)

turn_no_wait : (due : Bool) (at : Situation) (found : Source) → Waits due at (turn_of at found)
turn_no_wait due at Clock = λ until is. absurd cc
turn_no_wait due at Commands = λ until is. absurd cc
turn_no_wait due at Datagrams = λ until is. absurd cc
turn_no_wait due at Visitors = λ until is. absurd cc

round_waits : (s : Schedule) (at : Situation) → Waits (is_tick_due s at) at (round s at).0
round_waits s at = by_found (first_ready (is_tick_due s at) at.ready s.last) refl where
  by_found : (found : Option Source) → first_ready (is_tick_due s at) at.ready s.last ≡ found → Waits (is_tick_due s at) at (round_by found s at).0
  by_found None is = λ until e. let same : wait_until at ≡ until = cc in (λ source. none_ready (is_tick_due s at) at.ready s.last source is, sym same)
  by_found (Some found) is =
      by_if (λ (r : Turn × Schedule). Waits (is_tick_due s at) at r.0) (is_stale s at) (Look, asked s at) (turn_of at found, taken s at found) (λ stale until e. absurd cc)
      (λ seen. turn_no_wait (is_tick_due s at) at found)

read_no_wait : (due : Bool) (s : Schedule) (at : Situation) (late before : ℕ) (found : Option Source) → Waits due at (read_by found s at late before).0
read_no_wait due s at late before None = λ until e. absurd cc
read_no_wait due s at late before (Some found) =
    by_if (λ (r : Turn × Schedule). Waits due at r.0) (is_stale s at) (Look, asked s at) (turn_of at found, taken s at found)
    (λ stale until e. absurd cc) (λ seen. turn_no_wait due at found)

onward_waits : (mode : Mode) (s : Schedule) (at : Situation) → Waits (is_tick_due s at) at (onward mode s at).0
onward_waits Rounds s at = round_waits s at
onward_waits (Reading late before) s at = read_no_wait (is_tick_due s at) s at late before _
onward_waits (CatchingUp left) s at =
    by_if (λ (r : Turn × Schedule). Waits (is_tick_due s at) at r.0) (nat_lt 0 left && nat_lt at.ticked at.moment)
    (Tick (tick_to at), record (taken s at Clock) { mode = CatchingUp (left - 1) }) (round (record s { mode = Rounds }) at)
    (λ both until e. absurd cc) (λ over. round_waits (record s { mode = Rounds }) at)

next_waits : (s : Schedule) (at : Situation) → Waits (is_tick_due (met s at) at) at (next_of s at).0
unfolding next_of
next_waits s at =
    by_if (λ (r : Turn × Schedule). Waits (is_tick_due (met s at) at) at r.0) (is_over at) (End, s) (next_met (met s at) at) (λ over m e. absurd cc)
    (λ on. by_if (λ (r : Turn × Schedule). Waits (is_tick_due (met s at) at) at r.0) (is_paused (met s at) at) (woken (met s at) at) (onward (met s at).mode (met s at) at)
    (λ paused. woken_quiet (Waits (is_tick_due (met s at) at) at) (met s at) at (λ m e. absurd cc) (λ m e. absurd cc))
    (λ going. onward_waits (met s at).mode (met s at) at))

pub nobody_ready_waits : (s : Schedule) (at : Situation) (until : ℕ) (source : Source) → (next_of s at).0 ≡ Wait until
    → is_ready (is_tick_due (met s at) at) at.ready source ≡ false
nobody_ready_waits s at until source is = (next_waits s at until is).0 source

pub waits_within : (s : Schedule) (at : Situation) (until : ℕ) → (next_of s at).0 ≡ Wait until → until ≤ at.moment + longest_wait
waits_within s at until is = omega (arith, (next_waits s at until is).1)

-- ---- what wasn't asked for

fresh_now : (b : Bool) (s : Schedule) (moment : ℕ) → s.is_fresh ≡ b → (if b then record s { looked = moment } else s).is_fresh ≡ true
    → moment - (if b then record s { looked = moment } else s).looked ≡ 0
fresh_now true s moment is fresh = omega arith
fresh_now false s moment is fresh = absurd (true≢false (sym fresh ∙ is))

seen_lately : (fresh unseen : Bool) → (not fresh && unseen) ≡ false → (fresh ≡ true) ⊎ (unseen ≡ false)
seen_lately true unseen e = inl refl
seen_lately false unseen e = inr e

not_stale : (s : Schedule) (at : Situation) → is_stale (met s at) at ≡ false → at.moment - (met s at).looked < 2
not_stale s at seen = by_kind (seen_lately (met s at).is_fresh (nat_le 2 (at.moment - (met s at).looked)) seen) where
  by_kind : ((met s at).is_fresh ≡ true) ⊎ (nat_le 2 (at.moment - (met s at).looked) ≡ false) → at.moment - (met s at).looked < 2
  by_kind (inl fresh) = let now = fresh_now s.is_fresh s at.moment refl fresh in omega (arith, now)
  by_kind (inr late) = omega (arith, leb-false 2 (at.moment - (met s at).looked) late)

taken_seen : (s : Schedule) (at : Situation) (found : Option Source) (source : Source) → source_of (round_by found s at).0 ≡ Some source → is_stale s at ≡ false
taken_seen s at None source is = absurd cc
taken_seen s at (Some found) source is =
    by_if (λ (r : Turn × Schedule). source_of r.0 ≡ Some source → is_stale s at ≡ false) (is_stale s at) (Look, asked s at) (turn_of at found, taken s at found)
    (λ stale e. absurd cc) (λ seen e. seen) is

pub taken_unseen : (s : Schedule) (at : Situation) (source : Source) → is_round s at ≡ true → source_of (next_of s at).0 ≡ Some source
    → at.moment - (met s at).looked < 2
taken_unseen s at source going is =
    not_stale s at (taken_seen (met s at) at (first_ready (is_tick_due (met s at) at) at.ready (met s at).last) source
    (ap (λ (r : Turn × Schedule). source_of r.0) (sym (next_round s at going)) ∙ is))

-- ---- the end

found_goes_on : (at : Situation) (found : Source) → is_end (turn_of at found) ≡ false
found_goes_on at Clock = refl
found_goes_on at Commands = refl
found_goes_on at Datagrams = refl
found_goes_on at Visitors = refl

round_goes_on : (s : Schedule) (at : Situation) (found : Option Source) → is_end (round_by found s at).0 ≡ false
round_goes_on s at None = refl
round_goes_on s at (Some found) =
    by_if (λ (r : Turn × Schedule). is_end r.0 ≡ false) (is_stale s at) (Look, asked s at) (turn_of at found, taken s at found) (λ stale. refl)
    (λ seen. found_goes_on at found)

read_goes_on : (s : Schedule) (at : Situation) (late before : ℕ) (found : Option Source) → is_end (read_by found s at late before).0 ≡ false
read_goes_on s at late before None = refl
read_goes_on s at late before (Some found) =
    by_if (λ (r : Turn × Schedule). is_end r.0 ≡ false) (is_stale s at) (Look, asked s at) (turn_of at found, taken s at found) (λ stale. refl)
    (λ seen. found_goes_on at found)

onward_goes_on : (mode : Mode) (s : Schedule) (at : Situation) → is_end (onward mode s at).0 ≡ false
onward_goes_on Rounds s at = round_goes_on s at (first_ready (is_tick_due s at) at.ready s.last)
onward_goes_on (Reading late before) s at = read_goes_on s at late before _
onward_goes_on (CatchingUp left) s at =
    by_if (λ (r : Turn × Schedule). is_end r.0 ≡ false) (nat_lt 0 left && nat_lt at.ticked at.moment)
    (Tick (tick_to at), record (taken s at Clock) { mode = CatchingUp (left - 1) }) (round (record s { mode = Rounds }) at)
    (λ both. refl) (λ over. round_goes_on (record s { mode = Rounds }) at (first_ready (is_tick_due (record s { mode = Rounds }) at) at.ready s.last))

pub ends_when_over : (s : Schedule) (at : Situation) → is_end (next_of s at).0 ≡ is_over at
unfolding next_of
ends_when_over s at =
    by_if (λ (r : Turn × Schedule). is_end r.0 ≡ is_over at) (is_over at) (End, s) (next_met (met s at) at) (λ over. sym over)
    (λ on. by_if (λ (r : Turn × Schedule). is_end r.0 ≡ false) (is_paused (met s at) at) (woken (met s at) at) (onward (met s at).mode (met s at) at)
    (λ paused. woken_quiet (λ (turn : Turn). is_end turn ≡ false) (met s at) at refl refl)
    (λ going. onward_goes_on (met s at).mode (met s at) at) ∙ sym on)
