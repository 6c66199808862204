-- What falls due, one thing after the other.
use Rattle.std.proofs.Common.{◌≡◌, ℕ, zero, suc, ◌+◌, ◌*◌, ◌<◌, ◌≤◌, Bool, true, false, if◌then◌else◌, List, [], ◌∷◌, ◌++◌, length, drop, get_or, Option, Some, None, refl, sym, ap, ◌∙◌, arith, append_assoc, append-nil}
use Rattle.std.specs.Prelude.{nat_le}
use Rattle.std.specs.Option.{is_some}
use Rattle.std.specs.declared.net.socket_addr.SocketAddrV4.{SocketAddrV4}
use Rattle.std.proofs.lemmas.Bool.{leb-true}
use Rattle.std.proofs.lemmas.List.{drop_all}
use Rattle.std.proofs.Math.Seq.{drop-cons}
use Rattle.retransmission.specs.declared.repeat.Repeat.{Repeat}
use Rattle.retransmission.specs.declared.repeat.Repeat.TheVariants.{Sent as SentAgain, GivenUp}
use Rattle.retransmission.specs.Flight.{InFlight, sent_to, repeat_of, repeated}
use Rattle.retransmission.proofs.LifeLaws.{repeat_same}
use Rattle.transmission.specs.declared.output.OutDatagram.{OutDatagram}
use Rattle.transmission.specs.Transacting.{message_to}
use Rattle.call_agent.specs.Flying.{Flown, flown, flown_on, if_due, first_flight, passed, pass, ticked, with_flight, without_flight}
use Rattle.call_agent.specs.Flights.{Commands, flight_in, flights_in}
use Rattle.call_agent.specs.declared.state.State.{State}
use Rattle.call_agent.specs.State.{FlewOn, StillFound, Went, kept_in}

-- ---- what the event found

still_same : (was : Commands) → StillFound was was
still_same was = record { next = refl; found = refl }

pub still_found : (was mid is : Commands) → StillFound was mid → StillFound mid is → StillFound was is
still_found was mid is first rest = record { next = rest.next ∙ first.next; found = rest.found ∙ first.found }

-- ---- one thing

pub flew_again : (flight now : InFlight) (repeat : Repeat) (moment : ℕ) (was is : Commands) (were are : List OutDatagram) (to : SocketAddrV4) (text : List ℕ) → moment ≡ flight.due
    → repeat ≡ repeat_of flight moment → repeat ≡ SentAgain → now ≡ repeated flight moment → is ≡ record was { is = with_flight now was.is } → to ≡ sent_to now → text ≡ now.text
    → are ≡ were ++ message_to to moment text ∷ [] → FlewOn (flown_on (repeat_of flight flight.due) was.is flight) was is were are
flew_again flight now repeat moment was is were are to text at done again goes put where_to says sent =
    let same = repeat_same flight flight.due in
    let again_at : repeat_of flight flight.due ≡ SentAgain = sym (ap (repeat_of flight) at) ∙ sym done ∙ again in
    let now_is : now ≡ repeated flight flight.due = goes ∙ ap (repeated flight) at in
    rw again_at (record {
      flights = ap (λ (g : Commands). g.is) put ∙ ap (λ (f : InFlight). with_flight f was.is) now_is;
      still = record { next = ap (λ (g : Commands). g.next) put; found = ap (λ (g : Commands). g.found) put };
      sent = sent
          ∙ ap (λ (x : SocketAddrV4). were ++ message_to x moment text ∷ []) (where_to ∙ ap sent_to now_is)
          ∙ ap (λ (x : List ℕ). were ++ message_to (sent_to (repeated flight flight.due)) moment x ∷ []) (says ∙ ap (λ (f : InFlight). f.text) now_is ∙ same.same_text)
          ∙ ap (λ (m : ℕ). were ++ message_to (sent_to (repeated flight flight.due)) m flight.text ∷ []) at;
    })

pub flew_up : (flight now : InFlight) (id : ℕ) (repeat : Repeat) (moment : ℕ) (was is : Commands) (out : List OutDatagram) → moment ≡ flight.due → repeat ≡ repeat_of flight moment
    → repeat ≡ GivenUp → now ≡ repeated flight moment → id ≡ now.id → is ≡ record was { is = without_flight id was.is }
    → FlewOn (flown_on (repeat_of flight flight.due) was.is flight) was is out out
flew_up flight now id repeat moment was is out at done ends goes named land =
    let ends_at : repeat_of flight flight.due ≡ GivenUp = sym (ap (repeat_of flight) at) ∙ sym done ∙ ends in
    let id_is : id ≡ flight.id = named ∙ ap (λ (f : InFlight). f.id) goes ∙ (repeat_same flight moment).same_id in
    rw ends_at (record {
      flights = ap (λ (g : Commands). g.is) land ∙ ap (λ (i : ℕ). without_flight i was.is) id_is;
      still = record { next = ap (λ (g : Commands). g.next) land; found = ap (λ (g : Commands). g.found) land };
      sent = sym (append-nil out);
    })

-- ---- and then the next

pub due_before : (moment : ℕ) (first : Option InFlight) (flight : InFlight) → if_due moment first ≡ Some flight → flight.due ≤ moment
due_before moment None flight is = absurd cc
due_before moment (Some first) flight is = by_test (nat_le first.due moment) refl is where
  by_test : (b : Bool) → nat_le first.due moment ≡ b → (if b then Some first else None) ≡ Some flight → flight.due ≤ moment
  by_test true due same = let before : first.due ≤ moment = leb-true first.due moment due in omega (arith, before, ap (due_or first) same) where
    due_or : InFlight → Option InFlight → ℕ
    due_or d None = d.due
    due_or d (Some f) = f.due
  by_test false due same = absurd cc

pub flew_next : (k moment : ℕ) (flight : InFlight) (was mid is : Commands) (were between are : List OutDatagram) → if_due moment (first_flight was.is) ≡ Some flight
    → FlewOn (flown_on (repeat_of flight flight.due) was.is flight) was mid were between → FlewOn (passed k mid.is moment) mid is between are → FlewOn (passed (suc k) was.is moment) was is were are
unfolding passed
flew_next k moment flight was mid is were between are due one rest =
    let first : Flown = flown_on (repeat_of flight flight.due) was.is flight in
    rw due (record {
      flights = rest.flights ∙ ap (λ (x : List InFlight). (passed k x moment).flights) one.flights;
      still = still_found was mid is one.still rest.still;
      sent = rest.sent
          ∙ ap (λ (x : List InFlight). between ++ (passed k x moment).sent) one.flights
          ∙ ap (λ (x : List OutDatagram). x ++ (passed k first.flights moment).sent) one.sent
          ∙ append_assoc were first.sent (passed k first.flights moment).sent;
    })

-- the same with the count as it goes down
pub flew_step : (n k moment : ℕ) (flight : InFlight) (was mid is : Commands) (were between are : List OutDatagram) → n ≡ suc k → if_due moment (first_flight was.is) ≡ Some flight
    → FlewOn (flown_on (repeat_of flight flight.due) was.is flight) was mid were between → FlewOn (passed k mid.is moment) mid is between are → FlewOn (passed n was.is moment) was is were are
flew_step n k moment flight was mid is were between are more due one rest = rw more (flew_next k moment flight was mid is were between are due one rest)

pub flew_no_more : (k moment : ℕ) (was : Commands) (out : List OutDatagram) → if_due moment (first_flight was.is) ≡ None → FlewOn (passed k was.is moment) was was out out
unfolding passed
flew_no_more zero moment was out none = record { flights = refl; still = still_same was; sent = sym (append-nil out) }
flew_no_more (suc k) moment was out none = rw none (record { flights = refl; still = still_same was; sent = sym (append-nil out) })

pub flew_out : (k moment : ℕ) (was : Commands) (out : List OutDatagram) → k ≡ 0 → FlewOn (passed k was.is moment) was was out out
unfolding passed
flew_out k moment was out none = rw none (record { flights = refl; still = still_same was; sent = sym (append-nil out) })

pub flew_whole : (moment n : ℕ) (was is : Commands) (were are : List OutDatagram) → n ≡ 8 * length was.is → FlewOn (passed n was.is moment) was is were are → FlewOn (pass was.is moment) was is were are
unfolding pass
flew_whole moment n was is were are most f = rw most at f

-- ---- how many

abbrev counted : Option InFlight → ℕ
counted place = if is_some place then 1 else 0

pub count_next : (places : List (Option InFlight)) (i : ℕ) (here : Option InFlight) → i < length places → here ≡ get_or places i here
    → length (flights_in (drop i places)) ≡ (if is_some here then 1 else 0) + length (flights_in (drop (i + 1) places))
count_next places i here within had =
    let more : suc i ≡ i + 1 = omega arith in
    ap (λ (x : List (Option InFlight)). length (flights_in x))
    (drop-cons places i here within ∙ ap (λ (x : Option InFlight). x ∷ drop (suc i) places) (sym had) ∙ ap (λ (n : ℕ). here ∷ drop n places) more)
    ∙ by_place here where
      by_place : (here : Option InFlight) → length (flight_in here ++ flights_in (drop (i + 1) places)) ≡ (if is_some here then 1 else 0) + length (flights_in (drop (i + 1) places))
      by_place None = omega arith
      by_place (Some flight) = omega arith

pub count_end : (places : List (Option InFlight)) (i : ℕ) → length places ≤ i → length (flights_in (drop i places)) ≡ 0
count_end places i past = ap (λ (x : List (Option InFlight)). length (flights_in x)) (drop_all i places past)

-- ---- nothing

passed_none : (k : ℕ) (flights : List InFlight) (moment : ℕ) → if_due moment (first_flight flights) ≡ None → passed k flights moment ≡ flown flights []
unfolding passed
passed_none zero flights moment none = refl
passed_none (suc k) flights moment none = rw none refl

-- nothing is due, so nothing goes out
pub passes_nothing : (flights : List InFlight) (moment : ℕ) → if_due moment (first_flight flights) ≡ None → pass flights moment ≡ flown flights []
unfolding pass
passes_nothing flights moment none = passed_none (8 * length flights) flights moment none

-- and the tick moves the clock alone
pub ticked_idly : (was is : State) (moment : ℕ) (out : List OutDatagram) → if_due moment (first_flight was.flights.is) ≡ None → out ≡ [] → is ≡ record was { clock = moment }
    → Went (ticked (kept_in was) moment (pass was.flights.is moment)) was is [] out
ticked_idly was is moment out none empty moved = rw (passes_nothing was.flights.is moment none, moved) (record { machine = refl; found = refl; sent = empty })
