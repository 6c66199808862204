-- A command of a line's own goes out at its moments until a response to it comes.
use Rattle.std.proofs.Common.{◌≡◌, ℕ, ◌+◌, ◌<◌, ◌≤◌, Bool, true, false, if◌then◌else◌, List, [], ◌∷◌, ◌++◌, Option, Some, None, inl, inr, refl, sym, ap, ◌∙◌, subst, arith, append-nil}
use Rattle.std.specs.Prelude.{◌⊎◌, All, IfSome, filter, nat_le, option_and_then}
use Rattle.std.proofs.lemmas.Bool.{leb-true, leb-false}
use Rattle.mgcp_text.specs.declared.message.Message.TheVariants as messages
use Rattle.mgcp_text.specs.Reading.{Outcome, message, no_header, bad_version, bad_body}
use Rattle.retransmission.specs.Sends.{most_repeats}
use Rattle.retransmission.specs.Flight.{InFlight}
use Rattle.transmission.specs.Texts.{texts_of}
use Rattle.plain_machine.specs.declared.response.Response.{Response}
use Rattle.plain_machine.specs.declared.setup.Setup.{Setup}
use Rattle.plain_machine.specs.declared.endpoint.Endpoint.{Endpoint}
use Rattle.plain_machine.specs.Arriving.{TextArrival, arrivals_at, arrivals_from, arrivals_of, clock_after}
use Rattle.plain_machine.specs.Event.{GatewayEvent, datagram, phone, tick}
use Rattle.plain_machine.specs.Falling.{due_by, due_on, pass, post_due}
use Rattle.plain_machine.specs.Happening.{effect}
use Rattle.plain_machine.specs.Lists.{machine_after, plain, sent_from, sent_of}
use Rattle.plain_machine.specs.Machine.{Endpoints, Machine, endpoint_at, opening, opening_endpoint}
use Rattle.plain_machine.specs.Message.{Begun, Sent}
use Rattle.plain_machine.specs.Setup.{IsSetUp}
use Rattle.plain_machine.proofs.EffectLaws.{effect_now, some_line}
use Rattle.plain_machine.proofs.FallingLaws.{nothing_left}
use Rattle.plain_machine.proofs.FirstLemmas.{FirstBy, command_by, none_by, post_by}
use Rattle.machine_laws.proofs.TurnLemmas.{of_line as of_its_line, on_made}
use Rattle.machine_laws.specs.Saying.{OneOf, begun_in}
use Rattle.machine_laws.specs.Waiting.{KeepOrder}
use Rattle.machine_laws.proofs.EachLemmas.{Each, all_from_each, any_from_one, each_back, each_front, each_weaker, one_from_any, one_of_each, one_to, one_weaker}
use Rattle.machine_laws.proofs.OwningLemmas.{place_of}
use Rattle.machine_laws.proofs.WaitLaws.{acts_wait, opening_waits, pass_waits, texts_wait}
use Rattle.machine_laws.specs.Belonging.{is_of, of_line}
use Rattle.world_laws.proofs.CourseLemmas.{AllHear, Hears, Stands, events_stand}
use Rattle.agent_core.specs.World.{World, WorldStep, gateway_in, now_in, plain_world, steps_are_taken, world_opening}
use Rattle.world_laws.specs.Chances.{chances}
use Rattle.world_laws.specs.OwnChances.{HasCome, IsOfLine, IsResponse, IsToldAfter}
use Rattle.world_laws.proofs.LookLemmas.{each_member, one_at}
use Rattle.world_laws.proofs.PostedLemmas.{HasText, SaysAt, said_posted}
use Rattle.world_laws.proofs.PassLaws.{offset, offset_rises}
use Rattle.world_laws.proofs.ChanceLaws.{eight}
use Rattle.world_laws.proofs.OnTurns.{FliesIn, IsIt, IsOn, IsOver, LineSends, Sends, SendsBeside, its_sends, opening_sends, send_turns}
use Rattle.world_laws.proofs.WaitingTurns.{DueLater, LaterBeside, NoSooner, later_turns}
use Rattle.world_laws.proofs.AtOnceLemmas.{AreAt, act_at_once, datagram_at_once}

-- The responses that came

abbrev pub Came : List TextArrival → ℕ → Type 0
Came arrivals id = OneOf (λ (a : TextArrival). IsResponse id a.outcome) arrivals

-- all that come do
pub hear_came : (setup : Setup) (arrivals : List TextArrival) → AllHear setup (λ (response : Response). Came arrivals response.id) arrivals
hear_came setup arrivals =
    each_weaker (λ (a : TextArrival). OneOf (λ (other : TextArrival). other ≡ a) arrivals) (λ (a : TextArrival). Hears setup (λ (response : Response). Came arrivals response.id) a.outcome)
    (λ a there. by_outcome a there a.outcome refl) arrivals (each_member arrivals) where
      by_outcome : (a : TextArrival) → OneOf (λ (other : TextArrival). other ≡ a) arrivals → (outcome : Outcome) → a.outcome ≡ outcome → Hears setup (λ (response : Response). Came arrivals response.id) outcome
      by_outcome a there no_header is = tt
      by_outcome a there (bad_version id) is = tt
      by_outcome a there (bad_body id) is = tt
      by_outcome a there (message (messages.Command verb id name params body)) is = tt
      by_outcome a there (message (messages.Response code id params body)) is =
          one_weaker (λ (other : TextArrival). other ≡ a) (λ (other : TextArrival). IsResponse id other.outcome)
          (λ other same. (code, params, body, ap (λ (x : TextArrival). x.outcome) same ∙ is)) arrivals there

-- of what is of a line

pub each_filtered : {X : Type 0} (P : X → Type 0) (p : X → Bool) (xs : List X) → Each P xs → Each P (filter p xs)
each_filtered P p [] all = tt
each_filtered P p (x ∷ xs) all = by_test (p x) (each_filtered P p xs all.1) where
  by_test : (b : Bool) → Each P (filter p xs) → Each P (if b then x ∷ filter p xs else filter p xs)
  by_test true rest = (all.0, rest)
  by_test false rest = rest

pub one_unfiltered : {X : Type 0} (P : X → Type 0) (p : X → Bool) (xs : List X) → OneOf P (filter p xs) → OneOf P xs
one_unfiltered P p [] one = one
one_unfiltered P p (x ∷ xs) one = by_test (p x) one (one_unfiltered P p xs) where
  by_test : (b : Bool) → OneOf P (if b then x ∷ filter p xs else filter p xs) → (OneOf P (filter p xs) → OneOf P xs) → P x ⊎ OneOf P xs
  by_test true (inl is) on = inl is
  by_test true (inr there) on = inr (on there)
  by_test false there on = inr (on there)

module _ (setup : Setup) (A : ℕ → Type 0) (line : ℕ) (some : 1 ≤ line) where
  abbrev HasA : Response → Type 0
  HasA response = A response.id

  -- What a line sent of what it has in flight

  opening_on : Stands setup HasA (SendsBeside A) (send_turns A setup) line some [] [] (opening setup)
  opening_on = record {
    order = opening_waits setup;
    holds = λ s at.
        of_its_line (λ n endpoint. LineSends A [] endpoint) (opening setup).endpoints line s
        (on_made (λ n endpoint. LineSends A [] endpoint) (opening_endpoint setup) 1 setup.names.lines (λ i low high. opening_sends A (opening_endpoint setup i) refl refl)) at;
  }

  pub line_on : (events : List GatewayEvent) → AllHear setup HasA (arrivals_of events) → (s : Endpoint) → endpoint_at (plain setup events).endpoints line ≡ Some s
      → LineSends A (of_line line (sent_of setup events)) s
  line_on events hears = (events_stand setup HasA (SendsBeside A) (send_turns A setup) line some (opening setup) [] [] 0 events hears opening_on).holds

  -- It is due behind the clock

  abbrev LaterIn : Machine → Type 0
  LaterIn m = (s : Endpoint) → endpoint_at m.endpoints line ≡ Some s → DueLater A m.now s.post.pending

  event_order : (m : Machine) (event : GatewayEvent) → KeepOrder m.endpoints → KeepOrder (effect setup m event).value.endpoints
  unfolding effect
  event_order m (datagram source bytes) order = texts_wait setup m source (texts_of bytes) order
  event_order m (phone n act) order = acts_wait setup m.endpoints n m.now act order
  event_order m (tick moment) order = pass_waits setup m.endpoints moment order

  at_once_later : (m : Machine) (event : GatewayEvent) → KeepOrder m.endpoints → AllHear setup HasA (arrivals_at m.now event) → AreAt m.now (effect setup m event).sent → LaterIn m
      → (s : Endpoint) → endpoint_at (effect setup m event).value.endpoints line ≡ Some s → DueLater A m.now s.post.pending
  unfolding machine_after sent_from arrivals_from
  at_once_later m event order hears at later s there =
      let sent = (effect setup m event).sent in
      let all : NoSooner A m.now (sent ++ []) =
      subst (NoSooner A m.now) (sym (append-nil sent))
      (each_weaker (λ (one : Sent). one.moment ≡ m.now) (λ (one : Sent). m.now ≤ one.moment) (λ one same. omega (arith, same)) sent at) in
      (events_stand setup HasA (LaterBeside A m.now) (later_turns A m.now setup) line some m [] [] m.now (event ∷ [])
      (subst (AllHear setup HasA) (sym (append-nil (arrivals_at m.now event))) hears)
      (record { order = order; holds = λ x found. λ none. later x found })).holds s there
      (each_filtered (λ (one : Sent). m.now ≤ one.moment) (λ (one : Sent). is_of line one.owner) (sent ++ []) all)

  -- nothing is left behind a tick
  left_later : (endpoints : Endpoints) (moment : ℕ) (s : Endpoint) (flight : InFlight) → due_by endpoints moment ≡ None → endpoint_at endpoints line ≡ Some s → s.post.pending ≡ Some flight
      → moment < flight.due
  left_later endpoints moment s flight none at flies =
      let by : FirstBy (due_on (line, s)) flight.due = post_by line s flight.due (command_by line s.post flight flight.due flies (omega arith)) in
      let later : moment < by.item.moment =
      none_by endpoints moment line by.item none
      (ap (λ (b : Bool). if b then post_due 0 endpoints.own else option_and_then (λ (e : Endpoint). due_on (line, e)) (endpoint_at endpoints line)) (some_line endpoints line s at)
      ∙ ap (option_and_then (λ (e : Endpoint). due_on (line, e))) at ∙ by.is) in
      let before : by.item.moment ≤ flight.due = by.before in
      omega (arith, later, before)

  tick_later : (endpoints : Endpoints) (moment : ℕ) (s : Endpoint) → endpoint_at (pass setup endpoints moment).value line ≡ Some s → DueLater A moment s.post.pending
  tick_later endpoints moment s at = by_pending s.post.pending refl where
    by_pending : (pending : Option InFlight) → s.post.pending ≡ pending → DueLater A moment pending
    by_pending None flies = tt
    by_pending (Some flight) flies = inr (left_later (pass setup endpoints moment).value moment s flight (nothing_left setup endpoints moment) at flies)

  ticked_later : (m : Machine) (moment : ℕ) → LaterIn (effect setup m (tick moment)).value
  unfolding effect
  ticked_later m moment = λ s at. tick_later m.endpoints moment s at

  event_later : (m : Machine) (event : GatewayEvent) → KeepOrder m.endpoints → AllHear setup HasA (arrivals_at m.now event) → LaterIn m → LaterIn (effect setup m event).value
  event_later m (datagram source bytes) order hears later = λ s at.
      subst (λ (now : ℕ). DueLater A now s.post.pending) (sym (effect_now setup m (datagram source bytes)))
      (at_once_later m (datagram source bytes) order hears (datagram_at_once setup m source bytes) later s at)
  event_later m (phone n act) order hears later = λ s at.
      subst (λ (now : ℕ). DueLater A now s.post.pending) (sym (effect_now setup m (phone n act)))
      (at_once_later m (phone n act) order hears (act_at_once setup m n act) later s at)
  event_later m (tick moment) order hears later = ticked_later m moment

  pub events_later : (m : Machine) (events : List GatewayEvent) → KeepOrder m.endpoints → AllHear setup HasA (arrivals_from m.now events) → LaterIn m → LaterIn (machine_after setup m events)
  unfolding machine_after arrivals_from
  events_later m [] order hears later = later
  events_later m (event ∷ events) order hears later =
      let next = (effect setup m event).value in
      let Q : TextArrival → Type 0 = λ a. Hears setup HasA a.outcome in
      events_later next events (event_order m event order)
      (subst (λ (now : ℕ). AllHear setup HasA (arrivals_from now events)) (sym (effect_now setup m event)) (each_back Q (arrivals_at m.now event) (arrivals_from (clock_after m.now event) events) hears))
      (event_later m event order (each_front Q (arrivals_at m.now event) (arrivals_from (clock_after m.now event) events) hears) later)

  opening_later : LaterIn (opening setup)
  opening_later = λ s at.
      of_its_line (λ n endpoint. DueLater A 0 endpoint.post.pending) (opening setup).endpoints line s
      (on_made (λ n endpoint. DueLater A 0 endpoint.post.pending) (opening_endpoint setup) 1 setup.names.lines (λ i low high. tt)) at

  pub line_later : (events : List GatewayEvent) → AllHear setup HasA (arrivals_of events) → LaterIn (plain setup events)
  line_later events hears = events_later (opening setup) events (opening_waits setup) hears opening_later

-- Each command of a line's own

-- it went out so many ms after its first send, once the clock is so late
abbrev pub SaidBy : List Sent → Begun → ℕ → ℕ → Type 0
SaidBy sent b now wait = b.moment + wait ≤ now → OneOf (SaysAt b.text (b.moment + wait)) sent

-- what is in flight went out so often as the clock is late
pub flying_said : (sent : List Sent) (b : Begun) (flight : InFlight) (now : ℕ) → IsIt b flight → IsOn sent flight → now < flight.due → (number : ℕ) → SaidBy sent b now (offset number)
flying_said sent b flight now is on soon number = λ past. by_test (nat_le number flight.repeats) refl past where
  by_test : (x : Bool) → nat_le number flight.repeats ≡ x → b.moment + offset number ≤ now → OneOf (SaysAt b.text (b.moment + offset number)) sent
  by_test true low past = its_sends sent b flight flight.repeats is on.out number (leb-true number flight.repeats low)
  by_test false high past =
      absurd (
      let above : flight.repeats < number = leb-false number flight.repeats high in
      let later : offset (flight.repeats + 1) ≤ offset number = offset_rises (flight.repeats + 1) number (omega (arith, above)) in
      let next : flight.due ≡ flight.first + offset (flight.repeats + 1) = on.next in
      let first : flight.first ≡ b.moment = is.first in
      omega (arith, later, soon, next, first, past))

pub told_after : (setup : Setup) (w : World) (b : Begun) (wait : ℕ) → OneOf (HasText b.text (b.moment + wait)) w.posted → IsToldAfter setup w b wait
told_after setup w b wait one =
    let at = one_at (HasText b.text (b.moment + wait)) w.posted one in
    record {
      number = at.0;
      post = at.1;
      found = at.2;
      sender = at.3.0;
      moment = at.3.1;
      inside = any_from_one (λ (text : List ℕ). text ≡ b.text) (texts_of at.1.packet.bytes) at.3.2;
    }

module _ (setup : Setup) (steps : List WorldStep) (line : ℕ) (set_up : IsSetUp setup) (taken : steps_are_taken setup world_opening steps ≡ true) where
  abbrev w : World
  w = plain_world setup steps

  abbrev pub HasAny : ℕ → Type 0
  HasAny = Came (arrivals_of w.gateway_took)

  abbrev pub sent_by_it : List Sent
  sent_by_it = of_line line (sent_of setup w.gateway_took)

  posts : (b : Begun) (wait : ℕ) → SaidBy sent_by_it b (now_in setup w) wait → b.moment + wait ≤ now_in setup w → IsToldAfter setup w b wait
  posts b wait said past =
      told_after setup w b wait
      (said_posted setup steps set_up taken b.text (b.moment + wait)
      (one_unfiltered (SaysAt b.text (b.moment + wait)) (λ (one : Sent). is_of line one.owner) (sent_of setup w.gateway_took) (said past)))

  told : (b : Begun) → ((number : ℕ) → number ≤ most_repeats → SaidBy sent_by_it b (now_in setup w) (offset number))
      → All (λ (wait : ℕ). b.moment + wait ≤ now_in setup w → IsToldAfter setup w b wait) chances
  told b said =
      all_from_each (λ (wait : ℕ). b.moment + wait ≤ now_in setup w → IsToldAfter setup w b wait) chances
      (eight (λ (wait : ℕ). b.moment + wait ≤ now_in setup w → IsToldAfter setup w b wait) (λ number few. posts b (offset number) (said number few)))

  abbrev pub IsDone : Begun → Type 0
  IsDone b = HasCome w b.id ⊎ All (λ (wait : ℕ). b.moment + wait ≤ now_in setup w → IsToldAfter setup w b wait) chances

  came : (b : Begun) → HasAny b.id → IsDone b
  came b is = inl (any_from_one (λ (a : TextArrival). IsResponse b.id a.outcome) (arrivals_of w.gateway_took) is)

  flies : (b : Begun) (flight : InFlight) → IsIt b flight → HasAny flight.id ⊎ IsOn sent_by_it flight → HasAny flight.id ⊎ (now_in setup w < flight.due) → IsDone b
  flies b flight is (inl has) soon = came b (subst HasAny is.id has)
  flies b flight is (inr on) (inl has) = came b (subst HasAny is.id has)
  flies b flight is (inr on) (inr soon) = inr (told b (λ number few. flying_said sent_by_it b flight (now_in setup w) is on soon number))

  module _ (pending : Option InFlight) (sends : Sends HasAny sent_by_it pending) (later : DueLater HasAny (now_in setup w) pending) where
    done : (b : Begun) → IsOver HasAny sent_by_it b ⊎ FliesIn HasAny pending b → IsDone b
    done b (inl (inl has)) = came b has
    done b (inl (inr out)) = inr (told b (λ number few past. out number few))
    done b (inr in_flight) =
        flies b in_flight.0 in_flight.2
        (subst (λ (p : Option InFlight). IfSome p (λ flight. HasAny flight.id ⊎ IsOn sent_by_it flight)) in_flight.1 sends.on)
        (subst (DueLater HasAny (now_in setup w)) in_flight.1 later)

    -- each command of the line's
    pub each_done : (b : Begun) → IsOfLine setup w line b → IsDone b
    each_done b of =
        one_to (λ (one : Begun). (IsOver HasAny sent_by_it one ⊎ FliesIn HasAny pending one) × (one ≡ b)) (IsDone b) (λ one both. subst IsDone both.1 (done one both.0)) (begun_in sent_by_it)
        (one_of_each (λ (one : Begun). IsOver HasAny sent_by_it one ⊎ FliesIn HasAny pending one) (λ (one : Begun). one ≡ b) (begun_in sent_by_it) sends.each
        (one_from_any (λ (one : Begun). one ≡ b) (begun_in sent_by_it) of))

pub told_eight_times : (setup : Setup) (steps : List WorldStep) (line : ℕ) (endpoint : Endpoint) (b : Begun) → IsSetUp setup → steps_are_taken setup world_opening steps ≡ true
    → let w = plain_world setup steps in endpoint_at (gateway_in setup w).endpoints line ≡ Some endpoint → IsOfLine setup w line b
    → HasCome w b.id ⊎ All (λ (wait : ℕ). b.moment + wait ≤ now_in setup w → IsToldAfter setup w b wait) chances
told_eight_times setup steps line endpoint b set_up taken at of =
    let w = plain_world setup steps in
    let arrivals = arrivals_of w.gateway_took in
    let some : 1 ≤ line = (place_of (gateway_in setup w).endpoints line endpoint at).0 in
    each_done setup steps line set_up taken endpoint.post.pending (line_on setup (Came arrivals) line some w.gateway_took (hear_came setup arrivals) endpoint at).sends
    (line_later setup (Came arrivals) line some w.gateway_took (hear_came setup arrivals) endpoint at) b of
