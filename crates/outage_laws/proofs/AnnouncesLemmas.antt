-- A line that has no agent announces itself: its announcement is in flight, or goes out when its wait is over.
use Rattle.std.proofs.Common.{◌≡◌, ℕ, ◌+◌, ◌≤◌, Bool, true, false, if◌then◌else◌, List, [], ◌∷◌, ◌++◌, Option, Some, None, sym, ap, ◌∙◌, subst, arith, append-nil, append_assoc}
use Rattle.std.specs.Prelude.{IfSome, is_none}
use Rattle.std.proofs.lemmas.Bool.{and_parts, ne_eqb}
use Rattle.endpoint_names.specs.declared.entity.Entity.{Entity}
use Rattle.mg_line.specs.Line.{LineDone, Notice}
use Rattle.mg_line.specs.State.{State}
use Rattle.mg_line.specs.Acting.{phoned}
use Rattle.mg_line.specs.Answering.{answered}
use Rattle.mg_line.specs.Falling.{fired}
use Rattle.mg_line.specs.Opening.{opened}
use Rattle.retransmission.specs.declared.repeat.Repeat.{Repeat}
use Rattle.retransmission.specs.declared.repeat.Repeat.TheVariants.{Sent as SentAgain, GivenUp}
use Rattle.retransmission.specs.Flight.{InFlight, repeat_of}
use Rattle.retransmission.specs.declared.restart.Restart.{Restart}
use Rattle.retransmission.specs.declared.restart.Restart.TheVariants.{Waiting, Announced, Serving}
use Rattle.retransmission.specs.declared.heard.Heard.{Heard}
use Rattle.retransmission.specs.declared.heard.Heard.TheVariants.{Nothing, PutOff, Redirected, Answered}
use Rattle.retransmission.specs.Restarting.{announced_at}
use Rattle.timers.specs.declared.due_item.DueItem.{DueItem}
use Rattle.timers.specs.declared.kind.DueKind.{DueKind}
use Rattle.timers.specs.declared.kind.DueKind.TheVariants.{OfLine, Resend, Announce}
use Rattle.command_forms.specs.declared.forms.Deed.{Deed}
use Rattle.plain_machine.specs.declared.endpoint.Endpoint.{Endpoint}
use Rattle.plain_machine.specs.declared.response.Response.{Response}
use Rattle.plain_machine.specs.declared.setup.Setup.{Setup}
use Rattle.plain_machine.specs.Announcing.{announced, announced_by, heard_on, replied}
use Rattle.plain_machine.specs.Event.{GatewayEvent, datagram, phone, tick}
use Rattle.plain_machine.specs.Arriving.{arrivals_at}
use Rattle.plain_machine.specs.Falling.{due_on, happened_on}
use Rattle.plain_machine.specs.Flights.{InOrderBy, InOrderWhile, IsClosed}
use Rattle.plain_machine.specs.Happening.{effect}
use Rattle.plain_machine.specs.Lists.{are_taken, machine_after, plain}
use Rattle.plain_machine.specs.Machine.{Machine, endpoint_at, opening, opening_endpoint, serves}
use Rattle.plain_machine.specs.Message.{Sent}
use Rattle.plain_machine.specs.Notifying.{noted, posted, with_notice}
use Rattle.plain_machine.specs.Posting.{repeated_as, resent_by, resent_on, wait_of}
use Rattle.plain_machine.specs.Refusing.{refusal_of}
use Rattle.plain_machine.specs.Requesting.{asked_if, deed_on, with_connections, with_entity}
use Rattle.plain_machine.specs.Responding.{opened_on, redirected_on, responded_as, responded_on}
use Rattle.plain_machine.proofs.ListLaws.{machine_on}
use Rattle.machine_laws.proofs.EachLemmas.{is_none-None}
use Rattle.machine_laws.proofs.GatewayEvents.{gateway_forward}
use Rattle.machine_laws.proofs.OwningLemmas.{place_of}
use Rattle.machine_laws.proofs.TurnLemmas.{of_line as of_its_line, on_made}
use Rattle.machine_laws.proofs.WaitLaws.{events_wait}
use Rattle.world_laws.proofs.WorldLaws.{gateway_alone}
use Rattle.world_laws.proofs.CourseLemmas.{hear_all}
use Rattle.told_laws.proofs.LineEvents.{TurnKeeps, TurnsAt, datagram_holds, phone_holds, tick_holds}
use Rattle.told_laws.proofs.SettledLemmas.{clock_on}
use Rattle.outage_laws.specs.Alone.{AnnouncesBy}

-- what waits to be announced is announced by then
abbrev BoundBy : ℕ → Restart → Type 0
BoundBy by restart = IfSome (announced_at restart) (λ until. until ≤ by)

-- so long behind an earlier moment is no later
no_later : (a b wait : ℕ) → a ≤ b → a + wait ≤ b + wait
no_later a b wait low = omega (arith, low)

raised : (by more : ℕ) (restart : Restart) → by ≤ more → BoundBy by restart → BoundBy more restart
raised by more (Waiting until) less bound = omega (arith, less, bound)
raised by more Announced less bound = tt
raised by more Serving less bound = tt

module _ (setup : Setup) (line : ℕ) where
  abbrev Bound : ℕ → List Sent → Endpoint → Type 0
  Bound top sent endpoint = BoundBy (top + wait_of setup line) endpoint.post.restart

  -- Each turn leaves it so

  noted_bound : (by moment : ℕ) (endpoint : Endpoint) (done : LineDone) → BoundBy by endpoint.post.restart → BoundBy by (noted setup line moment endpoint done).value.post.restart
  unfolding noted
  noted_bound by moment endpoint done bound = by_notice done.notice where
    by_notice : (notice : Option Notice) → BoundBy by (with_notice setup line moment (record endpoint { line = done.line }) notice).value.post.restart
    by_notice None = bound
    by_notice (Some notice) = bound

  deed_bound : (by : ℕ) (deed : Deed) (moment : ℕ) (endpoint : Endpoint) → BoundBy by endpoint.post.restart → BoundBy by (deed_on setup deed moment line endpoint).value.post.restart
  unfolding deed_on
  deed_bound by deed moment endpoint bound =
      noted_bound by moment (with_connections deed (with_entity deed.entity endpoint)) (asked_if deed.request endpoint.line moment) bound

  responded_bound : (by moment : ℕ) (response : Response) (endpoint : Endpoint) → BoundBy by endpoint.post.restart
      → BoundBy by (responded_on setup line moment response endpoint).value.post.restart
  unfolding responded_on replied announced
  responded_bound by moment response endpoint bound = by_heard (heard_on endpoint.post response) where
    by_heard : (heard : Heard) → BoundBy by (responded_as heard setup line moment response endpoint).value.post.restart
    by_heard Nothing = bound
    by_heard PutOff = bound
    by_heard (Redirected agent) = tt
    by_heard (Answered agent) =
        let first : Endpoint = (posted endpoint (replied (Answered agent) setup line moment response endpoint.post)).value in
        noted_bound by moment first (answered first.line moment) tt

  redirected_bound : (by : ℕ) (agent : Entity) (endpoint : Endpoint) → BoundBy by endpoint.post.restart → BoundBy by (redirected_on agent line endpoint).value.post.restart
  unfolding redirected_on
  redirected_bound by agent endpoint bound = bound

  opened_bound : (by : ℕ) (agent : Option Entity) (moment : ℕ) (endpoint : Endpoint) → BoundBy by endpoint.post.restart
      → BoundBy by (opened_on agent setup moment line endpoint).value.post.restart
  unfolding opened_on
  opened_bound by agent moment endpoint bound = noted_bound by moment (with_entity agent endpoint) (opened endpoint.line moment) bound

  resent_bound : (by moment : ℕ) (endpoint : Endpoint) → moment + wait_of setup line ≤ by → BoundBy by endpoint.post.restart
      → BoundBy by (posted endpoint (resent_on setup line moment endpoint.post)).value.post.restart
  resent_bound by moment endpoint soon bound = by_pending endpoint.post.pending where
    by_repeat : (flight : InFlight) (repeat : Repeat) → BoundBy by (posted endpoint (repeated_as repeat setup line moment endpoint.post flight)).value.post.restart
    by_repeat flight SentAgain = bound
    by_repeat flight GivenUp = soon

    by_pending : (pending : Option InFlight) → BoundBy by (posted endpoint (resent_by pending setup line moment endpoint.post)).value.post.restart
    by_pending None = bound
    by_pending (Some flight) = by_repeat flight (repeat_of flight moment)

  announced_bound : (by moment : ℕ) (endpoint : Endpoint) → BoundBy by endpoint.post.restart
      → (restart : Restart) → BoundBy by (posted endpoint (announced_by restart setup line moment endpoint.post)).value.post.restart
  unfolding announced
  announced_bound by moment endpoint bound (Waiting until) = tt
  announced_bound by moment endpoint bound Announced = bound
  announced_bound by moment endpoint bound Serving = bound

  happened_bound : (by moment : ℕ) (kind : DueKind) (endpoint : Endpoint) → moment + wait_of setup line ≤ by → BoundBy by endpoint.post.restart
      → BoundBy by (happened_on kind setup line moment endpoint).value.post.restart
  unfolding happened_on
  happened_bound by moment (OfLine due) endpoint soon bound = noted_bound by moment endpoint (fired endpoint.line due moment) bound
  happened_bound by moment Resend endpoint soon bound = resent_bound by moment endpoint soon bound
  happened_bound by moment Announce endpoint soon bound = announced_bound by moment endpoint bound endpoint.post.restart

  abbrev Any_response : Response → Type 0
  Any_response response = Unit {0}

  turns_bound : (now : ℕ) → TurnsAt setup line now Any_response (Bound now)
  turns_bound now = record {
    act = λ sent act endpoint bound. noted_bound (now + wait_of setup line) now endpoint (phoned endpoint.line act now) bound;
    deed = λ sent deed endpoint bound. deed_bound (now + wait_of setup line) deed now endpoint bound;
    response = λ sent response endpoint hears bound. responded_bound (now + wait_of setup line) now response endpoint bound;
    redirecting = λ sent agent endpoint bound. redirected_bound (now + wait_of setup line) agent endpoint bound;
    opening = λ sent agent endpoint closed bound. opened_bound (now + wait_of setup line) agent now endpoint bound;
    answering = λ sent one endpoint is bound. bound;
  }

  happens : (moment : ℕ) (sent : List Sent) (item : DueItem) (endpoint : Endpoint) → due_on (line, endpoint) ≡ Some item → item.moment ≤ moment → Bound moment sent endpoint
      → TurnKeeps (Bound moment) sent (happened_on item.kind setup line item.moment endpoint)
  happens moment sent item endpoint due low bound = happened_bound (moment + wait_of setup line) item.moment item.kind endpoint (no_later item.moment moment (wait_of setup line) low) bound

  -- So does each event, and so do all

  abbrev BoundIn : List GatewayEvent → Type 0
  BoundIn took = (s : Endpoint) → endpoint_at (plain setup took).endpoints line ≡ Some s → Bound (plain setup took).now [] s

  next_is : (took : List GatewayEvent) (event : GatewayEvent) → plain setup (took ++ event ∷ []) ≡ (effect setup (plain setup took) event).value
  next_is took event = machine_on setup (opening setup) took (event ∷ []) ∙ gateway_alone setup (plain setup took) event

  by_clock : (took : List GatewayEvent) (event : GatewayEvent) (now : ℕ) (s : Endpoint) → (plain setup (took ++ event ∷ [])).now ≡ now → Bound now [] s
      → Bound (plain setup (took ++ event ∷ [])).now [] s
  by_clock took event now s clock bound = subst (λ (n : ℕ). Bound n [] s) (sym clock) bound

  one_bound : 1 ≤ line → (took : List GatewayEvent) (event : GatewayEvent) → refusal_of (plain setup took) event ≡ None → BoundIn took → BoundIn (took ++ event ∷ [])
  one_bound some took (datagram source bytes) may before s at =
      let m = plain setup took in
      by_clock took (datagram source bytes) m.now s (clock_on setup took (datagram source bytes))
      (datagram_holds setup line some Any_response (Bound m.now) m (turns_bound m.now) [] source bytes (events_wait setup took)
      (hear_all setup Any_response (λ response. tt) (arrivals_at m.now (datagram source bytes))) before s
      (ap (λ (x : Machine). endpoint_at x.endpoints line) (sym (next_is took (datagram source bytes))) ∙ at))
  one_bound some took (phone n act) may before s at =
      let m = plain setup took in
      by_clock took (phone n act) m.now s (clock_on setup took (phone n act))
      (phone_holds setup line some Any_response (Bound m.now) m (turns_bound m.now) [] n act before s
      (ap (λ (x : Machine). endpoint_at x.endpoints line) (sym (next_is took (phone n act))) ∙ at))
  one_bound some took (tick moment) may before s at =
      let m = plain setup took in
      let on : m.now ≤ moment = gateway_forward m (tick moment) may in
      let rested = tick_holds setup line some moment (Bound moment) (happens moment) m []
      (λ was here. raised (m.now + wait_of setup line) (moment + wait_of setup line) was.post.restart (no_later m.now moment (wait_of setup line) on) (before was here)) s
      (ap (λ (x : Machine). endpoint_at x.endpoints line) (sym (next_is took (tick moment))) ∙ at) in
      by_clock took (tick moment) moment s (clock_on setup took (tick moment)) rested.0

  all_bound : 1 ≤ line → (took events : List GatewayEvent) → are_taken setup (plain setup took) events ≡ true → BoundIn took → BoundIn (took ++ events)
  unfolding are_taken
  all_bound some took [] taken before = subst BoundIn (sym (append-nil took)) before
  all_bound some took (event ∷ events) taken before =
      let m = plain setup took in
      let both = and_parts (is_none (refusal_of m event)) (are_taken setup (effect setup m event).value events) taken in
      subst BoundIn (append_assoc took (event ∷ []) events)
      (all_bound some (took ++ event ∷ []) events (subst (λ (x : Machine). are_taken setup x events ≡ true) (sym (next_is took event)) both.1)
      (one_bound some took event (is_none-None (refusal_of m event) both.0) before))

  opening_bound : BoundIn []
  unfolding machine_after
  opening_bound s at =
      of_its_line (λ n endpoint. Bound (plain setup []).now [] endpoint) (opening setup).endpoints line s
      (on_made (λ n endpoint. Bound (plain setup []).now [] endpoint) (opening_endpoint setup) 1 setup.names.lines (λ i low high. tt)) at

  -- Where its announcement is

  by_order : (by : ℕ) (restart : Restart) (pending : Option InFlight) (state : State) → InOrderBy restart line pending state → BoundBy by restart → AnnouncesBy restart pending by
  by_order by (Waiting until) pending state order bound = bound
  by_order by Announced pending state order bound = λ none. (let clash : Some order.0.message ≡ None = sym order.0.flies ∙ none in cc)
  by_order by Serving pending state order bound = tt

  line_wait : 1 ≤ line → wait_of setup line ≡ setup.disconnected_wait
  line_wait some = ap (λ (b : Bool). if b then setup.restart_wait else setup.disconnected_wait) (ne_eqb line 0 (λ same. absurd (omega (arith, some, same))))

  closed_announces : (by : ℕ) (s : Endpoint) → IsClosed s → AnnouncesBy s.post.restart s.post.pending by
  closed_announces by s closed = subst (λ (r : Restart). AnnouncesBy r s.post.pending by) (sym closed.restart) tt

pub line_announces : (setup : Setup) (events : List GatewayEvent) (line : ℕ) (s : Endpoint) → are_taken setup (opening setup) events ≡ true
    → endpoint_at (plain setup events).endpoints line ≡ Some s → AnnouncesBy s.post.restart s.post.pending ((plain setup events).now + setup.disconnected_wait)
unfolding machine_after
line_announces setup events line s taken at =
    subst (λ (wait : ℕ). AnnouncesBy s.post.restart s.post.pending ((plain setup events).now + wait)) (line_wait setup line some)
    (by_serving (serves (plain setup events).endpoints) ((events_wait setup events).order.lines line s at)) where
      some : 1 ≤ line
      some = (place_of (plain setup events).endpoints line s at).0

      bound : BoundBy ((plain setup events).now + wait_of setup line) s.post.restart
      bound = all_bound setup line some [] events taken (opening_bound setup line) s at

      by_serving : (b : Bool) → InOrderWhile b line s → AnnouncesBy s.post.restart s.post.pending ((plain setup events).now + wait_of setup line)
      by_serving true order = by_order setup line ((plain setup events).now + wait_of setup line) s.post.restart s.post.pending s.line.state order bound
      by_serving false closed = closed_announces setup line ((plain setup events).now + wait_of setup line) s closed
