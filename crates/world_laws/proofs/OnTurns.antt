-- Until a response to a command of a line's own comes, or all its sends went out, it is what the line has in flight: so does each turn of
-- the line leave it.
use Rattle.std.proofs.Common.{◌≡◌, true, List, [], ◌∷◌, ◌++◌, Option, Some, None, inl, inr, refl, sym, ap, ℕ, ◌≢◌, ◌+◌, ◌-◌, ◌<◌, ◌≤◌, Bool, false, ◌==◌, if◌then◌else◌, ◌∙◌, subst, arith, append-nil}
use Rattle.std.specs.Prelude.{◌⊎◌, IfSome, nat_le, option_map}
use Rattle.std.proofs.lemmas.Grind.{flat_map-append}
use Rattle.std.proofs.lemmas.Option.{none-some}
use Rattle.mg_line.specs.State.{State}
use Rattle.mg_line.specs.State.TheVariants.{Notification}
use Rattle.mg_line.specs.Line.{LineDone, Notice}
use Rattle.mg_line.specs.Laws.{AwaitsIfNotified}
use Rattle.mg_line.proofs.OnceLemmas.{notifies_once}
use Rattle.retransmission.specs.Flight.{InFlight, repeat_of, repeated, reply_by, reply_of, heard, heard_as, sent_first}
use Rattle.retransmission.specs.declared.restart.Restart.{Restart}
use Rattle.retransmission.specs.declared.restart.Restart.TheVariants.{Waiting, Announced, Serving}
use Rattle.plain_machine.specs.declared.setup.Setup.{Setup}
use Rattle.plain_machine.specs.declared.endpoint.Endpoint.{Endpoint}
use Rattle.plain_machine.specs.Effect.{silently, Effect}
use Rattle.plain_machine.specs.Message.{Said, answer, again, command, resent, acknowledgement, is_answer, Sent, Begun}
use Rattle.plain_machine.specs.Notifying.{with_notice, noted, posted, notification}
use Rattle.plain_machine.specs.Requesting.{asked_if, with_entity, with_connections, deed_on}
use Rattle.machine_laws.specs.Saying.{begun_at, begun_in, OneOf}
use Rattle.std.specs.Option.{unwrap_or}
use Rattle.std.proofs.lemmas.Bool.{eqb-true, leb-true, leb-false}
use Rattle.std.specs.declared.net.socket_addr.SocketAddrV4.{SocketAddrV4}
use Rattle.endpoint_names.specs.declared.route.Route.{Route}
use Rattle.endpoint_names.specs.declared.entity.Entity.{Entity}
use Rattle.mgcp_text.specs.Writing.{written}
use Rattle.mg_line.specs.Acting.{phoned}
use Rattle.mg_line.specs.Answering.{answered}
use Rattle.mg_line.specs.Opening.{opened}
use Rattle.mg_line.specs.Falling.{fired}
use Rattle.retransmission.specs.declared.repeat.Repeat.{Repeat}
use Rattle.retransmission.specs.declared.repeat.Repeat.TheVariants.{Sent as SentAgain, GivenUp}
use Rattle.retransmission.specs.declared.reply.Reply.{Reply}
use Rattle.retransmission.specs.declared.reply.Reply.TheVariants as replies
use Rattle.retransmission.specs.declared.reply.Reply.TheVariants.{Provisional, Stranger}
use Rattle.retransmission.specs.Sends.{most_repeats, sending_time, wait_after}
use Rattle.retransmission.proofs.LifeLaws.{repeat_same, reply_same}
use Rattle.retransmission.specs.declared.heard.Heard.{Heard}
use Rattle.retransmission.specs.declared.heard.Heard.TheVariants.{Nothing, PutOff, Redirected, Answered}
use Rattle.retransmission.specs.Restarting.{heard_of}
use Rattle.timers.specs.declared.due_item.DueItem.{DueItem}
use Rattle.timers.specs.declared.kind.DueKind.TheVariants.{OfLine}
use Rattle.timers.specs.declared.kind.LineDue.{LineDue}
use Rattle.command_forms.specs.declared.forms.Deed.{Deed}
use Rattle.plain_machine.specs.declared.post.Post.{Post}
use Rattle.plain_machine.specs.declared.response.Response.{Response}
use Rattle.plain_machine.specs.Announcing.{announcement, announced, announced_by, announced_on, heard_by, heard_on, replied}
use Rattle.plain_machine.specs.Falling.{due_on, happened_on, post_due}
use Rattle.plain_machine.specs.Flights.{IsClosed}
use Rattle.plain_machine.specs.Posting.{id_on, repeated_as, resent_by, resent_on}
use Rattle.plain_machine.specs.Responding.{responded_as, responded_on, redirected_on, opened_on}
use Rattle.plain_machine.proofs.FirstLemmas.{OfItsLine, OfItsCommand, OfItsAnnouncement, due_cases, post_cases}
use Rattle.machine_laws.proofs.FlightLaws.{WaitsOn, phoned_waits, fired_waits, asked_waits, redirected_announced, noted_silent, asked_awaits}
use Rattle.machine_laws.proofs.EachLemmas.{Each, each_push, each_weaker, one_before, one_behind}
use Rattle.world_laws.specs.Course.{CourseStep}
use Rattle.world_laws.proofs.CourseLemmas.{EndpointTurns}
use Rattle.world_laws.specs.Chances.{last_chance}
use Rattle.world_laws.proofs.PostedLemmas.{SaysAt}
use Rattle.world_laws.proofs.PassLaws.{again_few, again_is, at_once, given_up, offset, offset_first, offset_next}
use Rattle.world_laws.proofs.ChanceLemmas.{next_at, offset_low}

-- Where a line waits for an answer, and what begins nothing.

-- while an announcement waits nothing is in flight; while something is in flight the line waits
abbrev pub Rests : Restart → Option InFlight → State → Type 0
Rests (Waiting until) pending state = (pending ≡ None) × (state ≡ Notification)
Rests Announced pending state = state ≡ Notification
Rests Serving pending state = IfSome pending (λ flight. state ≡ Notification)

pub rests_is : (restart : Restart) (pending : Option InFlight) (state : State) → Rests restart pending state → (state ≡ Notification) ⊎ ((restart ≡ Serving) × (pending ≡ None))
rests_is (Waiting until) pending state rests = inl rests.1
rests_is Announced pending state rests = inl rests
rests_is Serving None state rests = inr (refl, refl)
rests_is Serving (Some flight) state rests = inl rests

pub rests_on : (restart : Restart) (pending : Option InFlight) (was is : State) → Rests restart pending was → is ≡ Notification → Rests restart pending is
rests_on (Waiting until) pending was is rests waits = (rests.0, waits)
rests_on Announced pending was is rests waits = waits
rests_on Serving None was is rests waits = tt
rests_on Serving (Some flight) was is rests waits = waits

-- another send of what is in flight
pub rests_again : (restart : Restart) (flight other : InFlight) (state : State) → Rests restart (Some flight) state → Rests restart (Some other) state
rests_again (Waiting until) flight other state rests = absurd (none-some flight (sym rests.0))
rests_again Announced flight other state rests = rests
rests_again Serving flight other state rests = rests

pub flight_waits : (restart : Restart) (flight : InFlight) (state : State) → Rests restart (Some flight) state → state ≡ Notification
flight_waits (Waiting until) flight state rests = rests.1
flight_waits Announced flight state rests = rests
flight_waits Serving flight state rests = rests

pub begun_both : (some more : List Sent) → begun_in (some ++ more) ≡ begun_in some ++ begun_in more
begun_both some more = flat_map-append begun_at some more

-- an answer to a command begins nothing
pub answer_begins : (one : Sent) → is_answer one.said ≡ true → begun_in (one ∷ []) ≡ []
answer_begins one is = by_said one.said is where
  by_said : (said : Said) → is_answer said ≡ true → begun_in ((record one { said = said }) ∷ []) ≡ []
  by_said (answer response) e = refl
  by_said (again id text) e = refl
  by_said (command said) e = absurd cc
  by_said (resent message) e = absurd cc
  by_said (acknowledgement response) e = absurd cc

-- The sends of a command

-- it was said at each of its moments up to this one
abbrev pub WentOut : List Sent → List ℕ → ℕ → ℕ → Type 0
WentOut sent text first until = (number : ℕ) → number ≤ until → OneOf (SaysAt text (first + offset number)) sent

pub went_on : (sent more : List Sent) (text : List ℕ) (first until : ℕ) → WentOut sent text first until → WentOut (sent ++ more) text first until
went_on sent more text first until out = λ number less. one_before (SaysAt text (first + offset number)) sent more (out number less)

-- what is in flight is due at the next of its moments, and went out at all before
pub record IsOn (sent : List Sent) (flight : InFlight) : Type 0 where
  pub few : flight.repeats ≤ most_repeats
  pub next : flight.due ≡ flight.first + offset (flight.repeats + 1)
  pub out : WentOut sent flight.text flight.first flight.repeats

pub on_more : (sent more : List Sent) (flight : InFlight) → IsOn sent flight → IsOn (sent ++ more) flight
on_more sent more flight on = record { few = on.few; next = on.next; out = went_on sent more flight.text flight.first flight.repeats on.out }

pub on_begins : (sent : List Sent) (one : Sent) (id : ℕ) (route : Route SocketAddrV4) (text : List ℕ) (moment : ℕ) → SaysAt text moment one → IsOn (sent ++ one ∷ []) (sent_first id route text moment)
on_begins sent one id route text moment says = record {
  few = omega arith;
  next = ap (λ (o : ℕ). moment + o) (sym offset_first);
  out = λ number less. one_behind (SaysAt text (moment + offset number)) sent (one ∷ []) (inl (says.0, says.1 ∙ at_once moment number less));
}

pub on_again : (sent : List Sent) (one : Sent) (flight : InFlight) → repeat_of flight flight.due ≡ SentAgain → SaysAt flight.text flight.due one → IsOn sent flight
    → IsOn (sent ++ one ∷ []) (repeated flight flight.due)
on_again sent one flight resends says on =
    subst (IsOn (sent ++ one ∷ [])) (sym (again_is flight flight.due resends)) (record {
      few = (let few : flight.repeats < most_repeats = again_few flight flight.due resends in omega (arith, few));
      next = next_at flight.first flight.due (offset (flight.repeats + 1)) (wait_after (flight.repeats + 1)) (offset (flight.repeats + 1 + 1)) (offset_next (flight.repeats + 1)) on.next;
      out = λ number less. by_test number (nat_le number flight.repeats) refl less;
    }) where
      last : (number : ℕ) → flight.repeats < number → number ≤ flight.repeats + 1 → flight.repeats + 1 ≡ number
      last number above less = omega (arith, above, less)

      by_test : (number : ℕ) (x : Bool) → nat_le number flight.repeats ≡ x → number ≤ flight.repeats + 1 → OneOf (SaysAt flight.text (flight.first + offset number)) (sent ++ one ∷ [])
      by_test number true low less = one_before (SaysAt flight.text (flight.first + offset number)) sent (one ∷ []) (on.out number (leb-true number flight.repeats low))
      by_test number false high less =
          one_behind (SaysAt flight.text (flight.first + offset number)) sent (one ∷ [])
          (inl (says.0, says.1 ∙ on.next ∙ ap (λ (n : ℕ). flight.first + offset n) (last number (leb-false number flight.repeats high) less)))

-- one that is given up went out at all its moments
pub all_out : (sent : List Sent) (flight : InFlight) → repeat_of flight flight.due ≡ GivenUp → IsOn sent flight → WentOut sent flight.text flight.first most_repeats
all_out sent flight up on = subst (WentOut sent flight.text flight.first) (by_case (given_up flight flight.due up)) on.out where
  most : flight.repeats ≤ most_repeats
  most = on.few

  by_few : (x : Bool) → nat_le most_repeats flight.repeats ≡ x → sending_time ≤ flight.due - flight.first → flight.repeats ≡ most_repeats
  by_few true many late = let all : most_repeats ≤ flight.repeats = leb-true most_repeats flight.repeats many in omega (arith, most, all)
  by_few false fewer late =
      absurd (
      let less : flight.repeats < most_repeats = leb-false most_repeats flight.repeats fewer in
      let low : offset (flight.repeats + 1) ≤ last_chance = offset_low flight.repeats less in
      let next : flight.due ≡ flight.first + offset (flight.repeats + 1) = on.next in
      omega (arith, late, low, next))

  by_case : (most_repeats ≤ flight.repeats) ⊎ (sending_time ≤ flight.due - flight.first) → flight.repeats ≡ most_repeats
  by_case (inl many) = omega (arith, most, many)
  by_case (inr late) = by_few (nat_le most_repeats flight.repeats) refl late

-- Whose flight it is

-- it is this command
pub record IsIt (b : Begun) (flight : InFlight) : Type 0 where
  pub id : flight.id ≡ b.id
  pub first : flight.first ≡ b.moment
  pub text : flight.text ≡ b.text

pub its_sends : (sent : List Sent) (b : Begun) (flight : InFlight) (until : ℕ) → IsIt b flight → WentOut sent flight.text flight.first until → WentOut sent b.text b.moment until
its_sends sent b flight until is out = λ number less.
    subst (λ (text : List ℕ). OneOf (SaysAt text (b.moment + offset number)) sent) is.text
    (subst (λ (first : ℕ). OneOf (SaysAt flight.text (first + offset number)) sent) is.first (out number less))

-- what a response is

-- one that is more than nothing to what is in flight has its id
pub heard_id : (post : Post) (response : Response) (flight : InFlight) → post.pending ≡ Some flight → heard_on post response ≢ Nothing → flight.id ≡ response.id
heard_id post response flight at some = by_test (flight.id == response.id) refl where
  by_test : (b : Bool) → (flight.id == response.id) ≡ b → flight.id ≡ response.id
  by_test true same = eqb-true flight.id response.id same
  by_test false far =
      absurd (some (ap (λ (pending : Option InFlight). heard_by pending post.restart response) at
      ∙ ap (λ (b : Bool). heard_of post.restart (if b then reply_by response.code else Stranger) response.code response.entity) far))

pub provisional_id : (flight : InFlight) (id code : ℕ) → reply_of flight id code ≡ Provisional → flight.id ≡ id
provisional_id flight id code is = by_test (flight.id == id) refl is where
  by_test : (b : Bool) → (flight.id == id) ≡ b → (if b then reply_by code else Stranger) ≡ Provisional → flight.id ≡ id
  by_test true same e = eqb-true flight.id id same
  by_test false far e = absurd cc

-- A holds of the ids of the responses that came
module _ (A : ℕ → Type 0) where
  -- a response to it came, or all its sends went out
  abbrev pub IsOver : List Sent → Begun → Type 0
  IsOver sent b = A b.id ⊎ WentOut sent b.text b.moment most_repeats

  -- or it is in flight
  abbrev pub FliesIn : Option InFlight → Begun → Type 0
  FliesIn pending b = (flight : InFlight) × (pending ≡ Some flight) × IsIt b flight

  pub record Sends (sent : List Sent) (pending : Option InFlight) : Type 0 where
    pub each : Each (λ (b : Begun). IsOver sent b ⊎ FliesIn pending b) (begun_in sent)
    pub on : IfSome pending (λ flight. A flight.id ⊎ IsOn sent flight)

  over_on : (sent more : List Sent) (b : Begun) → IsOver sent b → IsOver (sent ++ more) b
  over_on sent more b (inl came) = inl came
  over_on sent more b (inr out) = inr (went_on sent more b.text b.moment most_repeats out)

  -- where nothing begins
  sends_to : (sent more : List Sent) (was is : Option InFlight) → begun_in more ≡ [] → ((b : Begun) → FliesIn was b → IsOver (sent ++ more) b ⊎ FliesIn is b)
      → IfSome is (λ flight. A flight.id ⊎ IsOn (sent ++ more) flight) → Sends sent was → Sends (sent ++ more) is
  sends_to sent more was is none flies on s = record {
    each = subst (Each (λ (b : Begun). IsOver (sent ++ more) b ⊎ FliesIn is b)) (sym (begun_both sent more ∙ ap (λ (x : List Begun). begun_in sent ++ x) none ∙ append-nil (begun_in sent)))
        (each_weaker (λ (b : Begun). IsOver sent b ⊎ FliesIn was b) (λ (b : Begun). IsOver (sent ++ more) b ⊎ FliesIn is b) by_case (begun_in sent) s.each);
    on = on;
  } where
    by_case : (b : Begun) → IsOver sent b ⊎ FliesIn was b → IsOver (sent ++ more) b ⊎ FliesIn is b
    by_case b (inl over) = inl (over_on sent more b over)
    by_case b (inr in_flight) = flies b in_flight

  either_on : (sent more : List Sent) (flight : InFlight) → A flight.id ⊎ IsOn sent flight → A flight.id ⊎ IsOn (sent ++ more) flight
  either_on sent more flight (inl came) = inl came
  either_on sent more flight (inr on) = inr (on_more sent more flight on)

  still_on : (sent more : List Sent) (pending : Option InFlight) → IfSome pending (λ flight. A flight.id ⊎ IsOn sent flight) → IfSome pending (λ flight. A flight.id ⊎ IsOn (sent ++ more) flight)
  still_on sent more None on = tt
  still_on sent more (Some flight) on = either_on sent more flight on

  pub still_sends : (sent more : List Sent) (pending : Option InFlight) → begun_in more ≡ [] → Sends sent pending → Sends (sent ++ more) pending
  still_sends sent more pending none s = sends_to sent more pending pending none (λ b in_flight. inr in_flight) (still_on sent more pending s.on) s

  -- what was in flight is over
  pub over_sends : (sent : List Sent) (was : Option InFlight) → ((flight : InFlight) → was ≡ Some flight → A flight.id ⊎ WentOut sent flight.text flight.first most_repeats) → Sends sent was
      → Sends sent None
  over_sends sent was ends s = record { each = each_weaker (λ (b : Begun). IsOver sent b ⊎ FliesIn was b) (λ (b : Begun). IsOver sent b ⊎ FliesIn None b) by_case (begun_in sent) s.each; on = tt } where
    by_end : (b : Begun) (flight : InFlight) → IsIt b flight → A flight.id ⊎ WentOut sent flight.text flight.first most_repeats → IsOver sent b
    by_end b flight is (inl came) = inl (subst A is.id came)
    by_end b flight is (inr out) = inr (its_sends sent b flight most_repeats is out)

    by_case : (b : Begun) → IsOver sent b ⊎ FliesIn was b → IsOver sent b ⊎ FliesIn None b
    by_case b (inl over) = inl over
    by_case b (inr in_flight) = inl (by_end b in_flight.0 in_flight.2 (ends in_flight.0 in_flight.1))

  -- another begins
  pub begin_sends : (sent : List Sent) (one : Sent) (id : ℕ) (route : Route SocketAddrV4) (text : List ℕ) (moment : ℕ) → begun_at one ≡ (record { id = id; moment = moment; text = text }) ∷ [] → SaysAt text moment one
      → Sends sent None → Sends (sent ++ one ∷ []) (Some (sent_first id route text moment))
  begin_sends sent one id route text moment begins says s = record {
    each = subst (Each Either) (sym (begun_both sent (one ∷ []) ∙ ap (λ (x : List Begun). begun_in sent ++ (x ++ [])) begins))
        (each_push Either (begun_in sent) b (each_weaker (λ (b : Begun). IsOver sent b ⊎ FliesIn None b) Either by_case (begun_in sent) s.each)
        (inr (flight, refl, record { id = refl; first = refl; text = refl })));
    on = inr (on_begins sent one id route text moment says);
  } where
    b : Begun
    b = record { id = id; moment = moment; text = text }

    flight : InFlight
    flight = sent_first id route text moment

    Either : Begun → Type 0
    Either c = IsOver (sent ++ one ∷ []) c ⊎ FliesIn (Some flight) c

    by_case : (c : Begun) → IsOver sent c ⊎ FliesIn None c → Either c
    by_case c (inl over) = inl (over_on sent (one ∷ []) c over)
    by_case c (inr in_flight) = absurd (none-some in_flight.0 in_flight.1)

  -- the same command, sent once more or put off
  again_flies : (b : Begun) (flight other : InFlight) → other.id ≡ flight.id → other.first ≡ flight.first → other.text ≡ flight.text → FliesIn (Some flight) b → FliesIn (Some other) b
  again_flies b flight other id first text in_flight =
      let is : IsIt b flight = subst (IsIt b) (ap (λ (o : Option InFlight). unwrap_or o flight) (sym in_flight.1)) in_flight.2 in
      (other, refl, record { id = id ∙ is.id; first = first ∙ is.first; text = text ∙ is.text })

  pub again_sends : (sent : List Sent) (one : Sent) (flight : InFlight) → begun_at one ≡ [] → repeat_of flight flight.due ≡ SentAgain → SaysAt flight.text flight.due one → Sends sent (Some flight)
      → Sends (sent ++ one ∷ []) (Some (repeated flight flight.due))
  again_sends sent one flight none resends says s =
      let same = repeat_same flight flight.due in
      let other = repeated flight flight.due in
      sends_to sent (one ∷ []) (Some flight) (Some other) (ap (λ (x : List Begun). x ++ []) none)
      (λ b in_flight. inr (again_flies b flight other same.same_id same.same_start same.same_text in_flight)) (by_case s.on) s where
        by_case : A flight.id ⊎ IsOn sent flight → A (repeated flight flight.due).id ⊎ IsOn (sent ++ one ∷ []) (repeated flight flight.due)
        by_case (inl came) = inl (subst A (sym (repeat_same flight flight.due).same_id) came)
        by_case (inr on) = inr (on_again sent one flight resends says on)

  -- What a line does

  pub record LineSends (sent : List Sent) (endpoint : Endpoint) : Type 0 where
    pub rests : Rests endpoint.post.restart endpoint.post.pending endpoint.line.state
    pub sends : Sends sent endpoint.post.pending

  abbrev SendsOn : List Sent → Effect Endpoint → Type 0
  SendsOn sent turn = LineSends (sent ++ turn.sent) turn.value

  waits_sends : (setup : Setup) (sent : List Sent) (line moment : ℕ) (endpoint : Endpoint) (done : LineDone) → WaitsOn done → LineSends sent endpoint
      → SendsOn sent (noted setup line moment endpoint done)
  waits_sends setup sent line moment endpoint done on f =
      let still : SendsOn sent (silently (record endpoint { line = done.line })) = record {
        rests = rests_on endpoint.post.restart endpoint.post.pending endpoint.line.state done.line.state f.rests on.state;
        sends = still_sends sent [] endpoint.post.pending refl f.sends;
      } in
      subst (λ (t : Effect Endpoint). SendsOn sent t) (sym (noted_silent setup line moment endpoint done on.silent)) still

  -- something may be told
  free_sends : (setup : Setup) (sent : List Sent) (line moment : ℕ) (endpoint : Endpoint) (done : LineDone) → endpoint.post.restart ≡ Serving → endpoint.post.pending ≡ None → AwaitsIfNotified done
      → Sends sent None → SendsOn sent (noted setup line moment endpoint done)
  unfolding noted notification
  free_sends setup sent line moment endpoint done serving none awaits s = by_notice done.notice awaits where
    by_notice : (notice : Option Notice) → AwaitsIfNotified (record { line = done.line; notice = notice })
        → SendsOn sent (with_notice setup line moment (record endpoint { line = done.line }) notice)
    by_notice None awaits = record {
      rests = subst (λ (r : Restart). Rests r endpoint.post.pending done.line.state) (sym serving) (subst (λ (p : Option InFlight). Rests Serving p done.line.state) (sym none) tt);
      sends = subst (Sends (sent ++ [])) (sym none) (still_sends sent [] None refl s);
    }
    by_notice (Some notice) awaits = record {
      rests = subst (λ (r : Restart). Rests r (with_notice setup line moment (record endpoint { line = done.line }) (Some notice)).value.post.pending done.line.state) (sym serving) awaits.state;
      sends = begin_sends sent _ (id_on line endpoint.post.number) endpoint.post.entity.route (written (notification setup line (id_on line endpoint.post.number) notice)) moment refl (refl, refl) s;
    }

  noted_sends : (setup : Setup) (sent : List Sent) (line moment : ℕ) (endpoint : Endpoint) (done : LineDone) → AwaitsIfNotified done → (endpoint.line.state ≡ Notification → WaitsOn done)
      → LineSends sent endpoint → SendsOn sent (noted setup line moment endpoint done)
  noted_sends setup sent line moment endpoint done awaits waits f = by_rests (rests_is endpoint.post.restart endpoint.post.pending endpoint.line.state f.rests) where
    by_rests : (endpoint.line.state ≡ Notification) ⊎ ((endpoint.post.restart ≡ Serving) × (endpoint.post.pending ≡ None)) → SendsOn sent (noted setup line moment endpoint done)
    by_rests (inl is) = waits_sends setup sent line moment endpoint done (waits is) f
    by_rests (inr free) = free_sends setup sent line moment endpoint done free.0 free.1 awaits (subst (Sends sent) free.1 f.sends)

  deed_sends : (setup : Setup) (sent : List Sent) (deed : Deed) (moment line : ℕ) (endpoint : Endpoint) → LineSends sent endpoint → SendsOn sent (deed_on setup deed moment line endpoint)
  unfolding deed_on
  deed_sends setup sent deed moment line endpoint f =
      noted_sends setup sent line moment (with_connections deed (with_entity deed.entity endpoint)) (asked_if deed.request endpoint.line moment)
      (asked_awaits deed.request endpoint.line moment) (asked_waits deed.request endpoint.line moment) (record { rests = f.rests; sends = f.sends })

  opened_sends : (setup : Setup) (sent : List Sent) (agent : Option Entity) (moment line : ℕ) (endpoint : Endpoint) → IsClosed endpoint → LineSends sent endpoint
      → SendsOn sent (opened_on agent setup moment line endpoint)
  unfolding opened_on
  opened_sends setup sent agent moment line endpoint closed f =
      free_sends setup sent line moment (with_entity agent endpoint) (opened endpoint.line moment) closed.restart closed.pending (notifies_once.serving endpoint.line moment)
      (subst (Sends sent) closed.pending f.sends)

  redirected_sends : (sent : List Sent) (agent : Entity) (line : ℕ) (endpoint : Endpoint) → LineSends sent endpoint → SendsOn sent (redirected_on agent line endpoint)
  unfolding redirected_on
  redirected_sends sent agent line endpoint f = record { rests = f.rests; sends = still_sends sent [] endpoint.post.pending refl f.sends }

  -- What falls due

  resent_sends : (setup : Setup) (sent : List Sent) (line : ℕ) (endpoint : Endpoint) (flight : InFlight) → endpoint.post.pending ≡ Some flight → LineSends sent endpoint
      → SendsOn sent (posted endpoint (resent_on setup line flight.due endpoint.post))
  resent_sends setup sent line endpoint flight at f =
      subst (λ (pending : Option InFlight). SendsOn sent (posted endpoint (resent_by pending setup line flight.due endpoint.post))) (sym at) (by_repeat (repeat_of flight flight.due) refl) where
        rests : Rests endpoint.post.restart (Some flight) endpoint.line.state
        rests = subst (λ (pending : Option InFlight). Rests endpoint.post.restart pending endpoint.line.state) at f.rests

        sends : Sends sent (Some flight)
        sends = subst (Sends sent) at f.sends

        by_on : repeat_of flight flight.due ≡ GivenUp → A flight.id ⊎ IsOn sent flight → A flight.id ⊎ WentOut sent flight.text flight.first most_repeats
        by_on up (inl came) = inl came
        by_on up (inr on) = inr (all_out sent flight up on)

        ends : repeat_of flight flight.due ≡ GivenUp → (other : InFlight) → Some flight ≡ Some other → A other.id ⊎ WentOut sent other.text other.first most_repeats
        ends up other same =
            subst (λ (x : InFlight). A x.id ⊎ WentOut sent x.text x.first most_repeats) (ap (λ (o : Option InFlight). unwrap_or o flight) same) (by_on up sends.on)

        by_repeat : (repeat : Repeat) → repeat_of flight flight.due ≡ repeat → SendsOn sent (posted endpoint (repeated_as repeat setup line flight.due endpoint.post flight))
        by_repeat SentAgain resends = record {
          rests = rests_again endpoint.post.restart flight (repeated flight flight.due) endpoint.line.state rests;
          sends = again_sends sent _ flight refl resends (refl, refl) sends;
        }
        by_repeat GivenUp up = record {
          rests = (refl, flight_waits endpoint.post.restart flight endpoint.line.state rests);
          sends = still_sends sent [] None refl (over_sends sent (Some flight) (ends up) sends);
        }

  announced_sends : (setup : Setup) (sent : List Sent) (line moment : ℕ) (endpoint : Endpoint) (post : Post) → endpoint.line.state ≡ Notification → Sends sent None
      → SendsOn sent (posted endpoint (announced setup line moment post))
  unfolding announced announcement
  announced_sends setup sent line moment endpoint post waits s =
      record { rests = waits; sends = begin_sends sent _ (id_on line post.number) post.entity.route (written (announcement setup line (id_on line post.number))) moment refl (refl, refl) s }

  announced_on_sends : (setup : Setup) (sent : List Sent) (line moment until : ℕ) (endpoint : Endpoint) → endpoint.post.restart ≡ Waiting until → LineSends sent endpoint
      → SendsOn sent (posted endpoint (announced_on setup line moment endpoint.post))
  announced_on_sends setup sent line moment until endpoint waits f =
      let rests : Rests (Waiting until) endpoint.post.pending endpoint.line.state = subst (λ (r : Restart). Rests r endpoint.post.pending endpoint.line.state) waits f.rests in
      subst (λ (r : Restart). SendsOn sent (posted endpoint (announced_by r setup line moment endpoint.post))) (sym waits)
      (announced_sends setup sent line moment endpoint endpoint.post rests.1 (subst (Sends sent) rests.0 f.sends))

  happened_sends : (setup : Setup) (sent : List Sent) (line : ℕ) (item : DueItem) (endpoint : Endpoint) → due_on (line, endpoint) ≡ Some item → LineSends sent endpoint
      → SendsOn sent (happened_on item.kind setup line item.moment endpoint)
  unfolding happened_on
  happened_sends setup sent line item endpoint due f = by_case (due_cases line endpoint item due) where
    Happens : DueItem → Type 0
    Happens i = SendsOn sent (happened_on i.kind setup line i.moment endpoint)

    of_line : (due : LineDue) (moment : ℕ) → SendsOn sent (happened_on (OfLine due) setup line moment endpoint)
    of_line due moment = noted_sends setup sent line moment endpoint (fired endpoint.line due moment) (notifies_once.firing endpoint.line due moment) (fired_waits endpoint.line due moment) f

    by_post : OfItsCommand line endpoint.post item ⊎ OfItsAnnouncement line endpoint.post item → Happens item
    by_post (inl of) = subst Happens of.same (resent_sends setup sent line endpoint of.message of.pending f)
    by_post (inr of) = subst Happens of.same (announced_on_sends setup sent line of.until of.until endpoint of.waits f)

    by_case : OfItsLine line endpoint item ⊎ (post_due line endpoint.post ≡ Some item) → Happens item
    by_case (inl of) = subst Happens of.same (of_line of.found.1 of.found.0)
    by_case (inr is) = by_post (post_cases line endpoint.post item is)

  -- A response

  pub put_off_sends : (sent : List Sent) (response : Response) (moment : ℕ) (flight : InFlight) → A response.id → Sends sent (Some flight)
      → Sends (sent ++ []) (Some (heard flight response.id response.code moment))
  unfolding heard
  put_off_sends sent response moment flight came s =
      let same = reply_same flight response.id response.code moment in
      let other = heard flight response.id response.code moment in
      sends_to sent [] (Some flight) (Some other) refl (λ b in_flight. inr (again_flies b flight other same.same_id same.same_start same.same_text in_flight))
      (by_reply (reply_of flight response.id response.code) refl) s where
        by_reply : (reply : Reply) → reply_of flight response.id response.code ≡ reply → A (heard_as reply flight moment).id ⊎ IsOn (sent ++ []) (heard_as reply flight moment)
        by_reply replies.Answered is = either_on sent [] flight s.on
        by_reply Provisional is = inl (subst A (sym (provisional_id flight response.id response.code is)) came)
        by_reply Stranger is = either_on sent [] flight s.on

  put_off_line : (sent : List Sent) (response : Response) (moment : ℕ) (restart : Restart) (pending : Option InFlight) (state : State) → A response.id → Rests restart pending state → Sends sent pending
      → Rests restart (option_map (λ (flight : InFlight). heard flight response.id response.code moment) pending) state
      × Sends (sent ++ []) (option_map (λ (flight : InFlight). heard flight response.id response.code moment) pending)
  put_off_line sent response moment restart None state came rests s = (rests, still_sends sent [] None refl s)
  put_off_line sent response moment restart (Some flight) state came rests s =
      (rests_again restart flight (heard flight response.id response.code moment) state rests, put_off_sends sent response moment flight came s)

  responded_sends : (setup : Setup) (sent : List Sent) (line moment : ℕ) (response : Response) (endpoint : Endpoint) → A response.id → LineSends sent endpoint
      → SendsOn sent (responded_on setup line moment response endpoint)
  unfolding responded_on replied
  responded_sends setup sent line moment response endpoint came f = by_heard (heard_on endpoint.post response) refl where
    over : (heard : Heard) → heard_on endpoint.post response ≡ heard → heard ≢ Nothing → Sends sent None
    over heard e some =
        over_sends sent endpoint.post.pending
        (λ flight at. inl (subst A (sym (heard_id endpoint.post response flight at (λ nothing. some (sym e ∙ nothing)))) came)) f.sends

    by_heard : (heard : Heard) → heard_on endpoint.post response ≡ heard → SendsOn sent (responded_as heard setup line moment response endpoint)
    by_heard Nothing e = record { rests = f.rests; sends = still_sends sent [] endpoint.post.pending refl f.sends }
    by_heard PutOff e =
        let both = put_off_line sent response moment endpoint.post.restart endpoint.post.pending endpoint.line.state came f.rests f.sends in
        record { rests = both.0; sends = both.1 }
    by_heard (Redirected agent) e =
        let rests : Rests Announced endpoint.post.pending endpoint.line.state =
        subst (λ (r : Restart). Rests r endpoint.post.pending endpoint.line.state) (redirected_announced endpoint.post response agent e) f.rests in
        announced_sends setup sent line moment endpoint (record endpoint.post { entity = agent }) rests (over (Redirected agent) e (λ same. absurd cc))
    by_heard (Answered agent) e =
        let to : Endpoint = record endpoint { post = record endpoint.post { entity = unwrap_or agent endpoint.post.entity; pending = None; restart = Serving } } in
        free_sends setup sent line moment to (answered endpoint.line moment) refl refl (notifies_once.answering endpoint.line moment) (over (Answered agent) e (λ same. absurd cc))

  -- it is so whatever the course
  abbrev pub SendsBeside : Bool → List CourseStep → List Sent → Endpoint → Type 0
  SendsBeside serving course sent endpoint = LineSends sent endpoint

  pub send_turns : (setup : Setup) → EndpointTurns setup (λ (response : Response). A response.id) SendsBeside
  send_turns setup = record {
    act = λ serving course sent line moment act endpoint f.
        noted_sends setup sent line moment endpoint (phoned endpoint.line act moment) (notifies_once.act endpoint.line act moment) (phoned_waits endpoint.line act moment) f;
    deed = λ course sent deed moment line endpoint f. deed_sends setup sent deed moment line endpoint f;
    response = λ serving course sent line moment response endpoint came f. responded_sends setup sent line moment response endpoint came f;
    happening = λ serving course sent line item endpoint is f. happened_sends setup sent line item endpoint is f;
    redirecting = λ serving course sent agent line endpoint f. redirected_sends sent agent line endpoint f;
    opening = λ course sent agent moment line endpoint closed f. opened_sends setup sent agent moment line endpoint closed f;
    answering = λ serving course sent one endpoint is f. record { rests = f.rests; sends = still_sends sent (one ∷ []) endpoint.post.pending (answer_begins one is) f.sends };
  }

  -- a line that is as it opens
  pub opening_sends : (endpoint : Endpoint) → endpoint.post.restart ≡ Serving → endpoint.post.pending ≡ None → LineSends [] endpoint
  opening_sends endpoint serving none = record {
    rests = subst (λ (r : Restart). Rests r endpoint.post.pending endpoint.line.state) (sym serving) (subst (λ (p : Option InFlight). Rests Serving p endpoint.line.state) (sym none) tt);
    sends = subst (Sends []) (sym none) (record { each = tt; on = tt });
  }
