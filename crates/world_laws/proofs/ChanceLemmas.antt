-- At which moments a command goes out, while no response to it comes.
use Rattle.std.proofs.Common.{◌≡◌, ◌≢◌, ℕ, Bool, true, false, ◌==◌, if◌then◌else◌, List, [], ◌∷◌, Some, inl, inr, refl, sym, ◌∙◌, zero, suc, ◌+◌, ◌-◌, ◌*◌, ◌<◌, ◌≤◌, ◌++◌, length, Option, None, ap, subst, arith}
use Rattle.std.specs.Prelude.{◌⊎◌, IfSome, find, nat_le}
use Rattle.std.proofs.lemmas.Bool.{eqb-true, eqb-false, leb-true, leb-false}
use Rattle.retransmission.specs.Flight.{InFlight, sent_to, repeat_of, repeated}
use Rattle.machine_laws.specs.Saying.{OneOf}
use Rattle.machine_laws.proofs.EachLemmas.{Each, each_weaker, one_behind, one_of_each, one_to}
use Rattle.call_agent.specs.Flying.{has_id, with_flight, without_flight, Flown, afterwards, first_flight, flown_on, fly_on, if_due, pass, passed, sooner}
use Rattle.std.specs.List.{slice_index_or}
use Rattle.std.proofs.lemmas.Option.{none-some}
use Rattle.std.specs.declared.net.socket_addr.SocketAddrV4.{SocketAddrV4}
use Rattle.endpoint_names.specs.declared.route.Route.TheVariants.{One}
use Rattle.endpoint_names.specs.Route.{at}
use Rattle.retransmission.specs.declared.repeat.Repeat.{Repeat}
use Rattle.retransmission.specs.declared.repeat.Repeat.TheVariants.{Sent as SentAgain, GivenUp}
use Rattle.retransmission.specs.Sends.{most_repeats, sending_time, wait_after}
use Rattle.retransmission.proofs.LifeLaws.{repeat_same}
use Rattle.transmission.specs.declared.output.OutDatagram.{OutDatagram}
use Rattle.transmission.specs.Transacting.{message_to}
use Rattle.plain_machine.specs.Message.{Begun}
use Rattle.world_laws.proofs.AgentLaws.{due_is, first_is, with_each, without_each}
use Rattle.world_laws.proofs.AnswersOnce.{Apart, apart_with, apart_without}
use Rattle.world_laws.specs.Copies.{answer_wait}
use Rattle.world_laws.specs.Chances.{last_chance}
use Rattle.world_laws.proofs.LookLemmas.{each_two}
use Rattle.world_laws.proofs.PassLaws.{offset, offset_next, offset_last, again_few, again_is, given_up}

-- Flights of which one has this id: it is found, replaced and removed.

-- a flight with this id is among them
abbrev pub Among : ℕ → List InFlight → Type 0
Among id flights = OneOf (λ (flight : InFlight). flight.id ≡ id) flights

pub found_among : (id : ℕ) (flights : List InFlight) → Among id flights → (flight : InFlight) × (find (has_id id) flights ≡ Some flight) × (flight.id ≡ id)
found_among id [] one = absurd one
found_among id (f ∷ fs) one = by_test (f.id == id) refl one (λ there. found_among id fs there) where
  by_test : (b : Bool) → (f.id == id) ≡ b → (f.id ≡ id) ⊎ Among id fs → (Among id fs → (flight : InFlight) × (find (has_id id) fs ≡ Some flight) × (flight.id ≡ id))
      → (flight : InFlight) × ((if b then Some f else find (has_id id) fs) ≡ Some flight) × (flight.id ≡ id)
  by_test true same one on = (f, refl, eqb-true f.id id same)
  by_test false far (inl is) on = absurd (eqb-false f.id id far is)
  by_test false far (inr there) on = on there

-- what holds of each holds of the one that is found
pub found_each : (P : InFlight → Type 0) (id : ℕ) (flights : List InFlight) → Each P flights → IfSome (find (has_id id) flights) (λ flight. P flight × (flight.id ≡ id))
found_each P id [] all = tt
found_each P id (f ∷ fs) all = by_test (f.id == id) refl (found_each P id fs all.1) where
  by_test : (b : Bool) → (f.id == id) ≡ b → IfSome (find (has_id id) fs) (λ flight. P flight × (flight.id ≡ id))
      → IfSome (if b then Some f else find (has_id id) fs) (λ flight. P flight × (flight.id ≡ id))
  by_test true same rest = (all.0, eqb-true f.id id same)
  by_test false far rest = rest

-- one that is replaced keeps its id
pub among_with : (id : ℕ) (now : InFlight) (flights : List InFlight) → Among id flights → Among id (with_flight now flights)
unfolding with_flight
among_with id now [] one = absurd one
among_with id now (f ∷ fs) one = by_test (f.id == now.id) refl one (λ there. among_with id now fs there) where
  by_test : (b : Bool) → (f.id == now.id) ≡ b → (f.id ≡ id) ⊎ Among id fs → (Among id fs → Among id (with_flight now fs))
      → Among id (if b then now ∷ fs else f ∷ with_flight now fs)
  by_test true same (inl is) on = inl (sym (eqb-true f.id now.id same) ∙ is)
  by_test true same (inr there) on = inr there
  by_test false far (inl is) on = inl is
  by_test false far (inr there) on = inr (on there)

-- where another is removed
pub among_without : (id other : ℕ) (flights : List InFlight) → other ≢ id → Among id flights → Among id (without_flight other flights)
unfolding without_flight
among_without id other [] apart one = absurd one
among_without id other (f ∷ fs) apart one = by_test (f.id == other) refl one (λ there. among_without id other fs apart there) where
  by_test : (b : Bool) → (f.id == other) ≡ b → (f.id ≡ id) ⊎ Among id fs → (Among id fs → Among id (without_flight other fs))
      → Among id (if b then fs else f ∷ without_flight other fs)
  by_test true same (inl is) on = absurd (apart (sym (eqb-true f.id other same) ∙ is))
  by_test true same (inr there) on = there
  by_test false far (inl is) on = inl is
  by_test false far (inr there) on = inr (on there)

-- The one address

abbrev pub GoesTo : SocketAddrV4 → InFlight → Type 0
GoesTo to flight = flight.route ≡ One to

only_one : (a : SocketAddrV4) (place : ℕ) → slice_index_or (a ∷ []) place a ≡ a
only_one a zero = refl
only_one a (suc place) = refl

at_one : (a : SocketAddrV4) (send : ℕ) → at (One a) send ≡ a
unfolding at
at_one a send = only_one a _

sent_there : (to : SocketAddrV4) (flight : InFlight) → GoesTo to flight → sent_to flight ≡ to
sent_there to flight goes = ap (λ route. at route flight.repeats) goes ∙ at_one to flight.repeats

-- A flight that was repeated so often

-- it is this command, repeated so often at its own moments, and due at the next
pub record IsAt (to : SocketAddrV4) (b : Begun) (count : ℕ) (flight : InFlight) : Type 0 where
  pub begins : flight.first ≡ b.moment
  pub text : flight.text ≡ b.text
  pub goes : GoesTo to flight
  pub often : flight.repeats ≡ count
  pub next : flight.due ≡ b.moment + offset (count + 1)

pub next_at : (first due one wait two : ℕ) → two ≡ one + wait → due ≡ first + one → due + wait ≡ first + two
next_at first due one wait two is at = omega (arith, is, at)

again_at : (to : SocketAddrV4) (b : Begun) (count : ℕ) (flight : InFlight) → IsAt to b count flight → repeat_of flight flight.due ≡ SentAgain
    → IsAt to b (count + 1) (repeated flight flight.due)
again_at to b count flight is sent =
    let often : flight.repeats + 1 ≡ count + 1 = ap (λ (n : ℕ). n + 1) is.often in
    subst (IsAt to b (count + 1)) (sym (again_is flight flight.due sent)) (record {
      begins = is.begins;
      text = is.text;
      goes = is.goes;
      often = often;
      next = ap (λ (n : ℕ). flight.due + wait_after n) often
          ∙ next_at b.moment flight.due (offset (count + 1)) (wait_after (count + 1)) (offset (count + 1 + 1)) (offset_next (count + 1)) is.next;
    })

-- with all its repeats the last of its moments is behind it
pub offset_low : (count : ℕ) → count < most_repeats → offset (count + 1) ≤ last_chance
unfolding offset
offset_low zero few = omega arith
offset_low (suc zero) few = omega arith
offset_low (suc (suc zero)) few = omega arith
offset_low (suc (suc (suc zero))) few = omega arith
offset_low (suc (suc (suc (suc zero)))) few = omega arith
offset_low (suc (suc (suc (suc (suc zero))))) few = omega arith
offset_low (suc (suc (suc (suc (suc (suc zero)))))) few = omega arith
offset_low (suc (suc (suc (suc (suc (suc (suc n))))))) few = absurd (omega (arith, few))

-- one that is given up was repeated as often as it may be
given_up_at : (to : SocketAddrV4) (b : Begun) (count : ℕ) (flight : InFlight) → IsAt to b count flight → count ≤ most_repeats → repeat_of flight flight.due ≡ GivenUp → count ≡ most_repeats
given_up_at to b count flight is few up = by_case (given_up flight flight.due up) where
  by_few : (x : Bool) → nat_le most_repeats count ≡ x → sending_time ≤ flight.due - flight.first → count ≡ most_repeats
  by_few true many late = let most : most_repeats ≤ count = leb-true most_repeats count many in omega (arith, most, few)
  by_few false fewer late =
      absurd (
      let less : count < most_repeats = leb-false most_repeats count fewer in
      let low : offset (count + 1) ≤ last_chance = offset_low count less in
      let due : flight.due ≡ b.moment + offset (count + 1) = is.next in
      let first : flight.first ≡ b.moment = is.begins in
      omega (arith, late, low, due, first))

  by_case : (most_repeats ≤ flight.repeats) ⊎ (sending_time ≤ flight.due - flight.first) → count ≡ most_repeats
  by_case (inl many) = let often : flight.repeats ≡ count = is.often in omega (arith, many, often, few)
  by_case (inr late) = by_few (nat_le most_repeats count) refl late

-- Flights of which this command is one

pub record FliesAt (to : SocketAddrV4) (b : Begun) (count : ℕ) (flights : List InFlight) : Type 0 where
  pub each : Each (λ (flight : InFlight). flight.id ≡ b.id → IsAt to b count flight) flights
  pub among : Among b.id flights
  pub few : count ≤ most_repeats

-- where each has its own id, one that is replaced is the only one with that id
with_apart : (P : InFlight → Type 0) (id : ℕ) (now : InFlight) (flights : List InFlight) → Apart flights → now.id ≡ id → P now
    → Each (λ (flight : InFlight). flight.id ≡ id → P flight) (with_flight now flights)
unfolding with_flight
with_apart P id now [] apart same is = tt
with_apart P id now (f ∷ fs) apart same is = by_test (f.id == now.id) refl (with_apart P id now fs apart.1 same is) where
  by_test : (x : Bool) → (f.id == now.id) ≡ x → Each (λ (flight : InFlight). flight.id ≡ id → P flight) (with_flight now fs)
      → Each (λ (flight : InFlight). flight.id ≡ id → P flight) (if x then now ∷ fs else f ∷ with_flight now fs)
  by_test true here rest = (
    λ e. is,
    each_weaker (λ (g : InFlight). f.id ≢ g.id) (λ (g : InFlight). g.id ≡ id → P g)
        (λ g far. λ e. absurd (far (eqb-true f.id now.id here ∙ same ∙ sym e))) fs apart.0,
  )
  by_test false far rest = (λ e. absurd (eqb-false f.id now.id far (e ∙ sym same)), rest)

-- so many ms after it was issued the command is among what was sent
abbrev pub GoesOut : SocketAddrV4 → Begun → ℕ → List OutDatagram → Type 0
GoesOut to b number sent = OneOf (λ (out : OutDatagram). out ≡ message_to to (b.moment + offset number) b.text) sent

-- each send behind the one, up to the other
abbrev pub GoOut : SocketAddrV4 → Begun → ℕ → ℕ → List OutDatagram → Type 0
GoOut to b from until sent = (number : ℕ) → from < number → number ≤ until → GoesOut to b number sent

-- it goes on to fly, and its sends went out; or all of them did, and it is given up
abbrev pub FliesOn : SocketAddrV4 → Begun → ℕ → ℕ → Flown → Type 0
FliesOn to b count moment done =
    ((later : ℕ) × FliesAt to b later done.flights × GoOut to b count later done.sent)
    ⊎ (GoOut to b count most_repeats done.sent × (b.moment + answer_wait ≤ moment))

none_out : (to : SocketAddrV4) (b : Begun) (count until : ℕ) (sent : List OutDatagram) → until ≤ count → GoOut to b count until sent
none_out to b count until sent none = λ number more less. absurd (omega (arith, none, more, less))

behind_out : (to : SocketAddrV4) (b : Begun) (count until : ℕ) (first sent : List OutDatagram) → GoOut to b count until sent → GoOut to b count until (first ++ sent)
behind_out to b count until first sent out = λ number more less.
    one_behind (λ (o : OutDatagram). o ≡ message_to to (b.moment + offset number) b.text) first sent (out number more less)

one_more_out : (to : SocketAddrV4) (b : Begun) (count until : ℕ) (one : OutDatagram) (sent : List OutDatagram) → one ≡ message_to to (b.moment + offset (count + 1)) b.text
    → GoOut to b (count + 1) until sent → GoOut to b count until (one ∷ sent)
one_more_out to b count until one sent is out = λ number more less. by_test number (number == count + 1) refl more less where
  by_test : (number : ℕ) (x : Bool) → (number == count + 1) ≡ x → count < number → number ≤ until → GoesOut to b number (one ∷ sent)
  by_test number true same more less = inl (is ∙ ap (λ (n : ℕ). message_to to (b.moment + offset n) b.text) (sym (eqb-true number (count + 1) same)))
  by_test number false far more less = inr (out number (let apart : number ≢ count + 1 = eqb-false number (count + 1) far in omega (arith, more, apart)) less)

-- what falls due of another flight
other_flies : (to : SocketAddrV4) (b : Begun) (count moment : ℕ) (first : List OutDatagram) (flights : List InFlight) (sent : List OutDatagram)
    → FliesOn to b count moment (record { flights = flights; sent = sent }) → FliesOn to b count moment (record { flights = flights; sent = first ++ sent })
other_flies to b count moment first flights sent (inl on) = inl (on.0, on.1, behind_out to b count on.0 first sent on.2)
other_flies to b count moment first flights sent (inr gone) = inr (behind_out to b count most_repeats first sent gone.0, gone.1)

own_flies : (to : SocketAddrV4) (b : Begun) (count moment : ℕ) (one : OutDatagram) (flights : List InFlight) (sent : List OutDatagram)
    → one ≡ message_to to (b.moment + offset (count + 1)) b.text
    → FliesOn to b (count + 1) moment (record { flights = flights; sent = sent }) → FliesOn to b count moment (record { flights = flights; sent = one ∷ sent })
own_flies to b count moment one flights sent is (inl on) = inl (on.0, on.1, one_more_out to b count on.0 one sent is on.2)
own_flies to b count moment one flights sent is (inr gone) = inr (one_more_out to b count most_repeats one sent is gone.0, gone.1)

-- from where a flight was repeated so often, whatever else falls due
abbrev pub FlyOn : SocketAddrV4 → Begun → ℕ → ℕ → List InFlight → Type 0
FlyOn to b moment n flights = (count : ℕ) → Apart flights → FliesAt to b count flights → FliesOn to b count moment (passed n flights moment)

module _ (to : SocketAddrV4) (b : Begun) (moment n count : ℕ) (flights : List InFlight) (flight : InFlight) (on : (next : List InFlight) → FlyOn to b moment n next)
    (apart : Apart flights) (f : FliesAt to b count flights) (is : flight.id ≡ b.id → IsAt to b count flight) where
  sent_goes : repeat_of flight flight.due ≡ SentAgain → FliesOn to b count moment (afterwards (flown_on SentAgain flights flight) (λ next. passed n next moment))
  sent_goes sent = by_test (flight.id == b.id) refl where
    now : InFlight
    now = repeated flight flight.due

    next : List InFlight
    next = with_flight now flights

    same_id : now.id ≡ flight.id
    same_id = (repeat_same flight flight.due).same_id

    by_test : (x : Bool) → (flight.id == b.id) ≡ x → FliesOn to b count moment (afterwards (flown_on SentAgain flights flight) (λ next. passed n next moment))
    by_test true same =
        let ours = is (eqb-true flight.id b.id same) in
        let again = again_at to b count flight ours sent in
        let few : flight.repeats < most_repeats = again_few flight flight.due sent in
        let often : flight.repeats ≡ count = ours.often in
        own_flies to b count moment (message_to (sent_to now) flight.due flight.text) (passed n next moment).flights (passed n next moment).sent
        (ap (λ (a : SocketAddrV4). message_to a flight.due flight.text) (sent_there to now again.goes)
        ∙ ap (λ (t : ℕ). message_to to t flight.text) ours.next
        ∙ ap (λ (text : List ℕ). message_to to (b.moment + offset (count + 1)) text) ours.text)
        (on next (count + 1) (apart_with now flights apart) (record {
          each = with_apart (IsAt to b (count + 1)) b.id now flights apart (same_id ∙ eqb-true flight.id b.id same) again;
          among = among_with b.id now flights f.among;
          few = omega (arith, few, often);
        }))
    by_test false far =
        other_flies to b count moment (message_to (sent_to now) flight.due flight.text ∷ []) (passed n next moment).flights (passed n next moment).sent
        (on next count (apart_with now flights apart) (record {
          each = with_each (λ (g : InFlight). g.id ≡ b.id → IsAt to b count g) now flights (λ e. absurd (eqb-false flight.id b.id far (sym same_id ∙ e))) f.each;
          among = among_with b.id now flights f.among;
          few = f.few;
        }))

  up_goes : flight.due ≤ moment → repeat_of flight flight.due ≡ GivenUp → FliesOn to b count moment (afterwards (flown_on GivenUp flights flight) (λ next. passed n next moment))
  up_goes due up = by_test (flight.id == b.id) refl where
    next : List InFlight
    next = without_flight flight.id flights

    by_test : (x : Bool) → (flight.id == b.id) ≡ x → FliesOn to b count moment (afterwards (flown_on GivenUp flights flight) (λ next. passed n next moment))
    by_test true same =
        let ours = is (eqb-true flight.id b.id same) in
        let all : count ≡ most_repeats = given_up_at to b count flight ours f.few up in
        let last : flight.due ≡ b.moment + answer_wait = ours.next ∙ ap (λ (c : ℕ). b.moment + offset (c + 1)) all ∙ ap (λ (o : ℕ). b.moment + o) offset_last in
        inr (none_out to b count most_repeats (passed n next moment).sent (omega (arith, all)), omega (arith, last, due))
    by_test false far = on next count (apart_without flight.id flights apart) (record {
      each = without_each (λ (g : InFlight). g.id ≡ b.id → IsAt to b count g) flight.id flights f.each;
      among = among_without b.id flight.id flights (eqb-false flight.id b.id far) f.among;
      few = f.few;
    })

  due_goes : flight.due ≤ moment → (repeat : Repeat) → repeat_of flight flight.due ≡ repeat → FliesOn to b count moment (afterwards (flown_on repeat flights flight) (λ next. passed n next moment))
  due_goes due SentAgain done = sent_goes done
  due_goes due GivenUp done = up_goes due done

passed_flies : (to : SocketAddrV4) (b : Begun) (moment n : ℕ) (flights : List InFlight) → FlyOn to b moment n flights
unfolding passed
passed_flies to b moment zero flights = λ count apart f. inl (count, f, none_out to b count count [] (omega arith))
passed_flies to b moment (suc n) flights = λ count apart f.
    by_due count apart f (if_due moment (first_flight flights))
    (due_is (λ (g : InFlight). g.id ≡ b.id → IsAt to b count g) moment (first_flight flights) (first_is (λ (g : InFlight). g.id ≡ b.id → IsAt to b count g) flights f.each))
    (λ next. passed_flies to b moment n next) where
      by_due : (count : ℕ) → Apart flights → FliesAt to b count flights → (found : Option InFlight)
          → IfSome found (λ flight. (flight.id ≡ b.id → IsAt to b count flight) × (flight.due ≤ moment)) → ((next : List InFlight) → FlyOn to b moment n next)
          → FliesOn to b count moment (fly_on found flights (λ next. passed n next moment))
      by_due count apart f None is on = inl (count, f, none_out to b count count [] (omega arith))
      by_due count apart f (Some flight) is on = due_goes to b moment n count flights flight on apart f is.0 is.1 (repeat_of flight flight.due) refl

pub pass_flies : (to : SocketAddrV4) (b : Begun) (moment count : ℕ) (flights : List InFlight) → Apart flights → FliesAt to b count flights → FliesOn to b count moment (pass flights moment)
unfolding pass
pass_flies to b moment count flights apart f = passed_flies to b moment (8 * length flights) flights count apart f

-- Where nothing is due each is due later

due_later : (moment : ℕ) (flight : InFlight) → if_due moment (Some flight) ≡ None → moment < flight.due
due_later moment flight none = by_test (nat_le flight.due moment) refl none where
  by_test : (x : Bool) → nat_le flight.due moment ≡ x → (if x then Some flight else None) ≡ None → moment < flight.due
  by_test true due e = absurd (none-some flight (sym e))
  by_test false later e = leb-false flight.due moment later

not_yet : (moment : ℕ) (flight : InFlight) → moment < flight.due → if_due moment (Some flight) ≡ None
not_yet moment flight later = by_test (nat_le flight.due moment) refl where
  by_test : (x : Bool) → nat_le flight.due moment ≡ x → (if x then Some flight else None) ≡ None
  by_test true due = absurd (let less : flight.due ≤ moment = leb-true flight.due moment due in omega (arith, less, later))
  by_test false more = refl

first_least : (flights : List InFlight) (moment : ℕ) → if_due moment (first_flight flights) ≡ None → Each (λ (flight : InFlight). moment < flight.due) flights
unfolding first_flight
first_least [] moment none = tt
first_least (f ∷ fs) moment none = by_other (first_flight fs) refl none (λ rest. first_least fs moment rest) where
  by_sooner : (other : InFlight) (x : Bool) → nat_le f.due other.due ≡ x → if_due moment (if x then Some f else Some other) ≡ None → (moment < f.due) × (moment < other.due)
  by_sooner other true sooner none =
      let here = due_later moment f none in
      let less : f.due ≤ other.due = leb-true f.due other.due sooner in
      (here, omega (arith, here, less))
  by_sooner other false later none =
      let there = due_later moment other none in
      let less : other.due < f.due = leb-false f.due other.due later in
      (omega (arith, there, less), there)

  by_other : (found : Option InFlight) → first_flight fs ≡ found → if_due moment (sooner f found) ≡ None
      → (if_due moment (first_flight fs) ≡ None → Each (λ (flight : InFlight). moment < flight.due) fs) → (moment < f.due) × Each (λ (flight : InFlight). moment < flight.due) fs
  by_other None is none on = (due_later moment f none, on (ap (if_due moment) is))
  by_other (Some other) is none on =
      let both = by_sooner other (nat_le f.due other.due) refl none in
      (both.0, on (ap (if_due moment) is ∙ not_yet moment other both.1))

-- so the next send of a command that flies is later
pub flies_later : (to : SocketAddrV4) (b : Begun) (count moment : ℕ) (flights : List InFlight) → if_due moment (first_flight flights) ≡ None → FliesAt to b count flights
    → moment < b.moment + offset (count + 1)
flies_later to b count moment flights none f =
    one_to (λ (flight : InFlight). (λ (g : InFlight). (g.id ≡ b.id → IsAt to b count g) × (moment < g.due)) flight × (flight.id ≡ b.id)) (moment < b.moment + offset (count + 1))
    (λ flight both. let later : moment < flight.due = both.0.1 in let at : flight.due ≡ b.moment + offset (count + 1) = (both.0.0 both.1).next in omega (arith, later, at)) flights
    (one_of_each (λ (g : InFlight). (g.id ≡ b.id → IsAt to b count g) × (moment < g.due)) (λ (flight : InFlight). flight.id ≡ b.id) flights
    (each_two (λ (g : InFlight). g.id ≡ b.id → IsAt to b count g) (λ (g : InFlight). moment < g.due) flights f.each (first_least flights moment none)) f.among)
