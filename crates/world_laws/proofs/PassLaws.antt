-- All that falls due of an agent's commands happens, the first first: the count of `pass` is never used up.
use Rattle.std.proofs.Common.{◌≡◌, ◌≢◌, ℕ, zero, suc, ◌+◌, ◌-◌, ◌*◌, ◌<◌, ◌≤◌, Bool, true, false, ◌==◌, if◌then◌else◌, List, [], ◌∷◌, ◌++◌, length, Option, Some, None, refl, sym, ap, ◌∙◌, subst, inl, inr, arith, ◌&&◌}
use Rattle.std.specs.Prelude.{◌⊎◌, nat_le, nat_lt, unwrap_or}
use Rattle.std.proofs.lemmas.Bool.{and_parts, ltb-true, eqb-true, eqb-false, leb-true, leb-false, ltb-false}
use Rattle.retransmission.specs.declared.repeat.Repeat.{Repeat}
use Rattle.retransmission.specs.declared.repeat.Repeat.TheVariants.{Sent as SentAgain, GivenUp}
use Rattle.retransmission.specs.Sends.{may_repeat, most_repeats, sending_time, wait_after}
use Rattle.retransmission.specs.Flight.{InFlight, repeat_of, repeated, again_as}
use Rattle.retransmission.proofs.LifeLaws.{repeat_same}
use Rattle.machine_laws.specs.Saying.{OneOf}
use Rattle.machine_laws.proofs.EachLemmas.{Each, one_of_each, one_to}
use Rattle.call_agent.specs.declared.setup.AgentSetup.{AgentSetup}
use Rattle.call_agent.specs.Agent.{agent_opening}
use Rattle.call_agent.specs.Flying.{Flown, flown, flown_on, afterwards, fly_on, if_due, first_flight, sooner, passed, pass, with_flight, without_flight}
use Rattle.call_agent.specs.Hearing.{AgentEvent, plain_agent}
use Rattle.world_laws.proofs.AnswersOnce.{Apart, apart_with, apart_without, events_on, opening_single}
use Rattle.world_laws.specs.Copies.{answer_wait}

-- so many things are left to fall due of a command: its repeats, and its end
abbrev left : InFlight → ℕ
left flight = suc (7 - flight.repeats)

abbrev all_left : List InFlight → ℕ
all_left [] = 0
all_left (flight ∷ flights) = left flight + all_left flights

abbrev Among : InFlight → List InFlight → Type 0
Among flight flights = OneOf (λ (f : InFlight). f ≡ flight) flights

at_most : (flights : List InFlight) → all_left flights ≤ 8 * length flights
at_most [] = omega arith
at_most (f ∷ fs) = let rest = at_most fs in omega (arith, rest)

among_each : (P : InFlight → Type 0) (flight : InFlight) (flights : List InFlight) → Among flight flights → Each P flights → P flight
among_each P flight flights among all =
    one_to (λ (f : InFlight). P f × (f ≡ flight)) (P flight) (λ f both. subst P both.1 both.0) flights (one_of_each P (λ (f : InFlight). f ≡ flight) flights all among)

-- what falls due first is one of them
first_among : (flights : List InFlight) (flight : InFlight) → first_flight flights ≡ Some flight → Among flight flights
unfolding first_flight
first_among [] flight is = absurd cc
first_among (f ∷ fs) flight is = by_other (first_flight fs) (first_among fs flight) is where
  by_test : (other : InFlight) (b : Bool) → (other ≡ flight → Among flight fs) → (if b then Some f else Some other) ≡ Some flight → (f ≡ flight) ⊎ Among flight fs
  by_test other true rest same = inl (ap (λ (o : Option InFlight). unwrap_or o f) same)
  by_test other false rest same = inr (rest (ap (λ (o : Option InFlight). unwrap_or o f) same))

  by_other : (found : Option InFlight) → (found ≡ Some flight → Among flight fs) → sooner f found ≡ Some flight → (f ≡ flight) ⊎ Among flight fs
  by_other None rest same = inl (ap (λ (o : Option InFlight). unwrap_or o f) same)
  by_other (Some other) rest same = by_test other (nat_le f.due other.due) (λ e. rest (ap Some e)) same

due_among : (flights : List InFlight) (moment : ℕ) (flight : InFlight) → if_due moment (first_flight flights) ≡ Some flight → Among flight flights
due_among flights moment flight is = by_first (first_flight flights) (first_among flights flight) is where
  by_test : (first : InFlight) (b : Bool) → (first ≡ flight → Among flight flights) → (if b then Some first else None) ≡ Some flight → Among flight flights
  by_test first true rest same = rest (ap (λ (o : Option InFlight). unwrap_or o first) same)
  by_test first false rest same = absurd cc

  by_first : (found : Option InFlight) → (found ≡ Some flight → Among flight flights) → if_due moment found ≡ Some flight → Among flight flights
  by_first None rest same = absurd cc
  by_first (Some first) rest same = by_test first (nat_le first.due moment) (λ e. rest (ap Some e)) same

-- One thing leaves less

with_less : (flights : List InFlight) (flight now : InFlight) → Apart flights → Among flight flights → now.id ≡ flight.id → left now < left flight → all_left (with_flight now flights) < all_left flights
unfolding with_flight
with_less [] flight now apart none same less = absurd none
with_less (f ∷ fs) flight now apart among same less = by_test (f.id == now.id) refl among (λ behind. with_less fs flight now apart.1 behind same less) where
  by_test : (b : Bool) → (f.id == now.id) ≡ b → (f ≡ flight) ⊎ Among flight fs → (Among flight fs → all_left (with_flight now fs) < all_left fs)
      → all_left (if b then now ∷ fs else f ∷ with_flight now fs) < left f + all_left fs
  by_test true is (inl here) rest = let more : left f ≡ left flight = ap (λ (g : InFlight). left g) here in omega (arith, less, more)
  by_test true is (inr behind) rest = absurd (among_each (λ (g : InFlight). f.id ≢ g.id) flight fs behind apart.0 (eqb-true f.id now.id is ∙ same))
  by_test false is (inl here) rest = absurd (eqb-false f.id now.id is (ap (λ (g : InFlight). g.id) here ∙ sym same))
  by_test false is (inr behind) rest = let fewer = rest behind in omega (arith, fewer)

without_less : (flights : List InFlight) (flight : InFlight) → Among flight flights → all_left (without_flight flight.id flights) < all_left flights
unfolding without_flight
without_less [] flight none = absurd none
without_less (f ∷ fs) flight among = by_test (f.id == flight.id) refl among (λ behind. without_less fs flight behind) where
  by_test : (b : Bool) → (f.id == flight.id) ≡ b → (f ≡ flight) ⊎ Among flight fs → (Among flight fs → all_left (without_flight flight.id fs) < all_left fs)
      → all_left (if b then fs else f ∷ without_flight flight.id fs) < left f + all_left fs
  by_test true is among rest = omega arith
  by_test false is (inl here) rest = absurd (eqb-false f.id flight.id is (ap (λ (g : InFlight). g.id) here))
  by_test false is (inr behind) rest = let fewer = rest behind in omega (arith, fewer)

-- a command that goes out again has one repeat more, of seven
fewer_left : (flight : InFlight) (moment : ℕ) → repeat_of flight moment ≡ SentAgain → left (repeated flight moment) < left flight
unfolding repeated
fewer_left flight moment is = rw is (by_test (may_repeat flight.first flight.repeats moment) refl is) where
  by_test : (b : Bool) → may_repeat flight.first flight.repeats moment ≡ b → (if b then SentAgain else GivenUp) ≡ SentAgain → suc (7 - (flight.repeats + 1)) < suc (7 - flight.repeats)
  by_test true may e =
      let few : flight.repeats < most_repeats = ltb-true flight.repeats most_repeats (and_parts (nat_lt flight.repeats most_repeats) (nat_lt (moment - flight.first) sending_time) may).0 in omega (arith, few)
  by_test false may e = absurd cc

-- what one thing leaves
record Leaves (fs is : List InFlight) : Type 0 where
  less : all_left is < all_left fs
  apart : Apart is

flown_leaves : (flight : InFlight) (flights : List InFlight) → Apart flights → Among flight flights → Leaves flights (flown_on (repeat_of flight flight.due) flights flight).flights
flown_leaves flight flights apart among = by_repeat (repeat_of flight flight.due) refl where
  by_repeat : (repeat : Repeat) → repeat_of flight flight.due ≡ repeat → Leaves flights (flown_on repeat flights flight).flights
  by_repeat SentAgain is = record {
    less = with_less flights flight (repeated flight flight.due) apart among (repeat_same flight flight.due).same_id (fewer_left flight flight.due is);
    apart = apart_with (repeated flight flight.due) flights apart;
  }
  by_repeat GivenUp is = record { less = without_less flights flight among; apart = apart_without flight.id flights apart }

-- Then nothing is due

none_left : (flights : List InFlight) (moment : ℕ) → all_left flights ≤ 0 → if_due moment (first_flight flights) ≡ None
unfolding first_flight
none_left [] moment none = refl
none_left (f ∷ fs) moment none = absurd (omega (arith, none))

all_passed : (n : ℕ) (flights : List InFlight) (moment : ℕ) → Apart flights → all_left flights ≤ n → if_due moment (first_flight (passed n flights moment).flights) ≡ None
unfolding passed
all_passed zero flights moment apart few = none_left flights moment few
all_passed (suc n) flights moment apart few = by_due (if_due moment (first_flight flights)) refl (λ next apart few. all_passed n next moment apart few) where
  by_due : (found : Option InFlight) → if_due moment (first_flight flights) ≡ found
      → ((next : List InFlight) → Apart next → all_left next ≤ n → if_due moment (first_flight (passed n next moment).flights) ≡ None)
      → if_due moment (first_flight (fly_on found flights (λ next. passed n next moment)).flights) ≡ None
  by_due None is on = is
  by_due (Some flight) is on =
      let leaves = flown_leaves flight flights apart (due_among flights moment flight is) in
      let less = leaves.less in
      on (flown_on (repeat_of flight flight.due) flights flight).flights leaves.apart (omega (arith, less, few))

-- a count that suffices is as good as another
same_count : (n k : ℕ) (flights : List InFlight) (moment : ℕ) → Apart flights → all_left flights ≤ n → all_left flights ≤ k → passed n flights moment ≡ passed k flights moment
unfolding passed
same_count zero zero flights moment apart few fewer = refl
same_count zero (suc k) flights moment apart few fewer = rw (none_left flights moment few) refl
same_count (suc n) zero flights moment apart few fewer = rw (none_left flights moment fewer) refl
same_count (suc n) (suc k) flights moment apart few fewer = by_due (if_due moment (first_flight flights)) refl (λ next apart few fewer. same_count n k next moment apart few fewer) where
  by_due : (found : Option InFlight) → if_due moment (first_flight flights) ≡ found
      → ((next : List InFlight) → Apart next → all_left next ≤ n → all_left next ≤ k → passed n next moment ≡ passed k next moment)
      → fly_on found flights (λ next. passed n next moment) ≡ fly_on found flights (λ next. passed k next moment)
  by_due None is on = refl
  by_due (Some flight) is on =
      let leaves = flown_leaves flight flights apart (due_among flights moment flight is) in
      let less = leaves.less in
      let first : Flown = flown_on (repeat_of flight flight.due) flights flight in
      ap (λ (rest : Flown). flown rest.flights (first.sent ++ rest.sent)) (on first.flights leaves.apart (omega (arith, less, few)) (omega (arith, less, fewer)))

passed_more : (n : ℕ) (flights : List InFlight) (moment : ℕ) (flight : InFlight) → if_due moment (first_flight flights) ≡ Some flight
    → passed (suc n) flights moment ≡ afterwards (flown_on (repeat_of flight flight.due) flights flight) (λ next. passed n next moment)
unfolding passed
passed_more n flights moment flight is = rw is refl

pass_goes_on : (flights : List InFlight) (moment : ℕ) (flight : InFlight) → Apart flights → if_due moment (first_flight flights) ≡ Some flight
    → pass flights moment ≡ afterwards (flown_on (repeat_of flight flight.due) flights flight) (λ next. pass next moment)
unfolding pass
pass_goes_on flights moment flight apart is =
    let most = at_most flights in
    let leaves = flown_leaves flight flights apart (due_among flights moment flight is) in
    let less = leaves.less in
    let first : Flown = flown_on (repeat_of flight flight.due) flights flight in
    same_count (8 * length flights) (suc (8 * length flights)) flights moment apart most (omega (arith, most))
    ∙ passed_more (8 * length flights) flights moment flight is
    ∙ ap (λ (rest : Flown). flown rest.flights (first.sent ++ rest.sent))
    (same_count (8 * length flights) (8 * length first.flights) first.flights moment leaves.apart (omega (arith, less, most)) (at_most first.flights))

pass_ends : (flights : List InFlight) (moment : ℕ) → Apart flights → if_due moment (first_flight (pass flights moment).flights) ≡ None
unfolding pass
pass_ends flights moment apart = all_passed (8 * length flights) flights moment apart (at_most flights)

apart_always : (setup : AgentSetup) (events : List AgentEvent) → Apart (plain_agent setup events).flights
apart_always setup events = (events_on setup (agent_opening setup) events (opening_single setup)).single.apart

-- what is due first happens, at its own moment, and then what is due then
pub first_happens : (setup : AgentSetup) (events : List AgentEvent) (moment : ℕ) (flight : InFlight) → if_due moment (first_flight (plain_agent setup events).flights) ≡ Some flight
    → pass (plain_agent setup events).flights moment
    ≡ afterwards (flown_on (repeat_of flight flight.due) (plain_agent setup events).flights flight) (λ next. pass next moment)
first_happens setup events moment flight is = pass_goes_on (plain_agent setup events).flights moment flight (apart_always setup events) is

-- until nothing is
pub none_is_due : (setup : AgentSetup) (events : List AgentEvent) (moment : ℕ) → if_due moment (first_flight (pass (plain_agent setup events).flights moment).flights) ≡ None
none_is_due setup events moment = pass_ends (plain_agent setup events).flights moment (apart_always setup events)

-- How long after its first send a message is sent again, and when it is given up.

-- so long after the first send the send with this number is due, where nothing comes
unfoldable pub offset : ℕ → ℕ
offset zero = 0
offset (suc n) = offset n + wait_after n

pub offset_next : (n : ℕ) → offset (n + 1) ≡ offset n + wait_after n
unfolding offset
offset_next n = ap offset (let next : n + 1 ≡ suc n = omega arith in next)

pub offset_none : offset 0 ≡ 0
unfolding offset
offset_none = refl

pub at_once : (first number : ℕ) → number ≤ 0 → first ≡ first + offset number
at_once first number less =
    let none : number ≡ 0 = omega (arith, less) in
    let at : offset number ≡ 0 = ap offset none ∙ offset_none in
    omega (arith, at)

pub offset_first : offset 1 ≡ 500
unfolding offset
offset_first = refl

pub offset_last : offset (most_repeats + 1) ≡ answer_wait
unfolding offset
offset_last = refl

-- they come one behind the other
pub offset_rises : (n m : ℕ) → n ≤ m → offset n ≤ offset m
unfolding offset
offset_rises n zero less = let none : n ≡ 0 = omega (arith, less) in let same : offset n ≡ 0 = ap offset none in omega (arith, same)
offset_rises n (suc m) less = by_test (nat_le n m) refl (λ low. offset_rises n m low) where
  by_test : (b : Bool) → nat_le n m ≡ b → (n ≤ m → offset n ≤ offset m) → offset n ≤ offset m + wait_after m
  by_test true low on = let more : offset n ≤ offset m = on (leb-true n m low) in omega (arith, more)
  by_test false high on =
      let above : m < n = leb-false n m high in
      let same : n ≡ suc m = omega (arith, above, less) in
      let at : offset n ≡ offset m + wait_after m = ap offset same in
      omega (arith, at)

-- a message that is sent again has one repeat more, and was repeated less often than it may be
pub again_is : (flight : InFlight) (moment : ℕ) → repeat_of flight moment ≡ SentAgain
    → repeated flight moment ≡ record flight { repeats = flight.repeats + 1; due = moment + wait_after (flight.repeats + 1) }
unfolding repeated
again_is flight moment is = ap (λ (r : Repeat). again_as r flight moment) is

pub again_few : (flight : InFlight) (moment : ℕ) → repeat_of flight moment ≡ SentAgain → flight.repeats < most_repeats
again_few flight moment is = by_test (may_repeat flight.first flight.repeats moment) refl is where
  by_test : (b : Bool) → may_repeat flight.first flight.repeats moment ≡ b → (if b then SentAgain else GivenUp) ≡ SentAgain → flight.repeats < most_repeats
  by_test true may e =
      ltb-true flight.repeats most_repeats (and_parts (nat_lt flight.repeats most_repeats) (nat_lt (moment - flight.first) sending_time) may).0
  by_test false may e = absurd cc

-- one that is given up was repeated as often as it may be, or its sending time is over
pub given_up : (flight : InFlight) (moment : ℕ) → repeat_of flight moment ≡ GivenUp → (most_repeats ≤ flight.repeats) ⊎ (sending_time ≤ moment - flight.first)
given_up flight moment is = by_few (nat_lt flight.repeats most_repeats) (nat_lt (moment - flight.first) sending_time) refl refl is where
  by_few : (a b : Bool) → nat_lt flight.repeats most_repeats ≡ a → nat_lt (moment - flight.first) sending_time ≡ b → (if (a && b) then SentAgain else GivenUp) ≡ GivenUp
      → (most_repeats ≤ flight.repeats) ⊎ (sending_time ≤ moment - flight.first)
  by_few true true few soon e = absurd cc
  by_few true false few late e = inr (ltb-false (moment - flight.first) sending_time late)
  by_few false b many soon e = inl (ltb-false flight.repeats most_repeats many)
