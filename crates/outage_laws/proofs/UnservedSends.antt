-- Until it serves a gateway begins nothing but its own announcements.
use Rattle.std.proofs.Common.{◌≡◌, ℕ, zero, suc, ◌+◌, Bool, true, false, ◌||◌, ◌&&◌, List, [], ◌∷◌, Option, Some, refl, ap, subst, arith, ◌≢◌, ◌≤◌, ◌==◌, if◌then◌else◌, ◌++◌, None, sym, ◌∙◌, append-nil, append_assoc}
use Rattle.std.specs.Prelude.{nat_le, nat_lt, slice_get, unwrap_or, IfSome}
use Rattle.std.proofs.lemmas.Bool.{and_parts, leb-true, eq-eqb}
use Rattle.std.proofs.lemmas.Option.{none-some}
use Rattle.plain_machine.specs.declared.setup.Setup.{Setup}
use Rattle.agent_core.specs.declared.packet.Posted.{Posted}
use Rattle.agent_core.specs.World.{WorldStep, now_in, plain_world, world_after, world_opening, World, delivered, delivered_from, delivering, dialling, gateway_address, gateway_in, is_among, issuing, step_refusal, steps_are_taken, ticking, to_agent, to_gateway, went}
use Rattle.world_laws.specs.Fairness.{AgentAlwaysHasRoom}
use Rattle.world_laws.proofs.ExampleLemmas.{hand_over, none_handed}
use Rattle.world_laws.proofs.ServingLaws.{handed, is_handed, is_in_time, not_young, texts_serve}
use Rattle.outage_laws.specs.AfterOutage.{AgentHasRoomFrom, IsFairFrom}
use Rattle.std.specs.declared.net.socket_addr.SocketAddrV4.{SocketAddrV4}
use Rattle.mgcp_text.specs.Confirmation.{k_of}
use Rattle.mgcp_text.specs.declared.message.Message.TheVariants as messages
use Rattle.mgcp_text.specs.declared.message.Param.{Param}
use Rattle.mgcp_text.specs.Reading.{Outcome, message, no_header, bad_version, bad_body, read_text}
use Rattle.transmission.specs.Looking.{Looked, new, repeat, confirmed, full, look_of}
use Rattle.transmission.specs.Memory.{most_firsts}
use Rattle.transmission.specs.Acknowledging.{asks_for_acknowledgement}
use Rattle.transmission.specs.Packing.{same_address}
use Rattle.transmission.specs.Texts.{texts_of}
use Rattle.command_forms.specs.Command.{Command}
use Rattle.mg_line.specs.declared.phone.Act.{Act}
use Rattle.mg_line.specs.Line.{LineDone}
use Rattle.mg_line.specs.Acting.{phoned}
use Rattle.mg_line.specs.Falling.{fired}
use Rattle.retransmission.specs.Flight.{InFlight}
use Rattle.retransmission.specs.Restarting.{is_serving}
use Rattle.retransmission.specs.declared.restart.Restart.{Restart}
use Rattle.retransmission.specs.declared.heard.Heard.{Heard}
use Rattle.retransmission.specs.declared.heard.Heard.TheVariants.{Nothing, PutOff, Redirected, Answered}
use Rattle.timers.specs.declared.kind.DueKind.{DueKind}
use Rattle.timers.specs.declared.kind.DueKind.TheVariants.{OfLine, Resend, Announce}
use Rattle.plain_machine.specs.declared.endpoint.Endpoint.{Endpoint}
use Rattle.plain_machine.specs.declared.post.Post.{Post}
use Rattle.plain_machine.specs.declared.response.Response.{Response}
use Rattle.plain_machine.specs.Acting.{acted_on}
use Rattle.plain_machine.specs.Announcing.{announced_by, heard_by, heard_on, replied, replied_on}
use Rattle.plain_machine.specs.Answering.{Transaction, executed, handled, read_command, refusing, took_all, transacted_by}
use Rattle.plain_machine.specs.Effect.{Effect, afterwards, effect_map}
use Rattle.plain_machine.specs.Event.{GatewayEvent, datagram, phone, tick}
use Rattle.plain_machine.specs.Falling.{happened_on}
use Rattle.plain_machine.specs.Flights.{AreInOrder, InOrderWhile, IsClosed}
use Rattle.plain_machine.specs.Happening.{effect}
use Rattle.plain_machine.specs.Lists.{sent_from, sent_of}
use Rattle.plain_machine.specs.Machine.{Endpoints, Machine, endpoint_at, on_line, opening, serves, with_own}
use Rattle.plain_machine.specs.Message.{Begun, Said, Sent, acknowledgement, again, answer, command, of_none, own_of, resent}
use Rattle.plain_machine.specs.Notifying.{noted, posted}
use Rattle.plain_machine.specs.Posting.{line_of_id, resent_by}
use Rattle.plain_machine.specs.Refusing.{refusal_of}
use Rattle.plain_machine.specs.Responding.{acknowledged, lines_told, own_heard, responded, responded_as, responded_on, response_with}
use Rattle.plain_machine.specs.Setup.{IsSetUp}
use Rattle.plain_machine.proofs.EffectLaws.{on_nothing, on_this}
use Rattle.plain_machine.proofs.ListLaws.{machine_on}
use Rattle.machine_laws.specs.Belonging.{is_of, of_line}
use Rattle.machine_laws.specs.Passing.{PassesAlone, goes_on, line_due, line_happens, rests}
use Rattle.machine_laws.specs.Saying.{begun_at, begun_by, begun_in}
use Rattle.machine_laws.specs.Waiting.{KeepOrder}
use Rattle.machine_laws.proofs.AnnouncementLaws.{nothing_done}
use Rattle.machine_laws.proofs.EachLemmas.{Each, each_back, each_both, each_from_all, each_front}
use Rattle.machine_laws.proofs.FlightLaws.{WaitsOn, fired_waits, phoned_waits, posts_in_order, noted_silent}
use Rattle.machine_laws.proofs.GatewayEvents.{gateway_forward}
use Rattle.machine_laws.proofs.PassLemmas.{line_passes, own_passes}
use Rattle.machine_laws.proofs.WaitLaws.{events_wait, text_waits}
use Rattle.call_agent.specs.Hearing.{hears}
use Rattle.agent_core.specs.declared.packet.End.{End}
use Rattle.agent_core.specs.declared.packet.End.TheVariants.{AgentEnd as agent_end, GatewayEnd as gateway_end}
use Rattle.world_laws.specs.Reached.{own_in}
use Rattle.world_laws.proofs.WorldLaws.{gateway_alone, gateway_taken}
use Rattle.world_laws.proofs.FairLaws.{taken_last}
use Rattle.world_laws.proofs.PostedLemmas.{sent_more}
use Rattle.world_laws.proofs.OnTurns.{begun_both}
use Rattle.world_laws.proofs.PostedFinal.{step_more, taken_front}
use Rattle.world_laws.proofs.WellLemmas.{IsWell, SaysWell, sent_well}
use Rattle.outage_laws.proofs.OwnRoutes.{not_redirected, told_still}
use Rattle.outage_laws.proofs.PlainArrivals.{IsPlain, plain_texts}
use Rattle.outage_laws.proofs.TrackLaws.{Behind, Closed, IsTracked, closed_front, world_tracked}
use Rattle.outage_laws.proofs.TrackLemmas.{Anytime, IsAnnounced, Tracked, begun_passed, tracked_on}

-- Whether a network is fair from a moment on, computed; for worked examples.

-- all packets that were sent since are handed over in time, or aren't so old yet; the first of these has this number
abbrev pub all_handed_from : ℕ → Setup → ℕ → ℕ → List WorldStep → ℕ → List Posted → Bool
all_handed_from since setup within now steps number [] = true
all_handed_from since setup within now steps number (post ∷ posts) =
    (nat_lt post.packet.moment since || is_in_time setup within now steps number post.packet.moment) && all_handed_from since setup within now steps (number + 1) posts

handed_at : (since : ℕ) (setup : Setup) (within now : ℕ) (steps : List WorldStep) (first : ℕ) (posts : List Posted) (place : ℕ) (post : Posted) → slice_get posts place ≡ Some post
    → all_handed_from since setup within now steps first posts ≡ true → (nat_lt post.packet.moment since || is_in_time setup within now steps (first + place) post.packet.moment) ≡ true
handed_at since setup within now steps first [] place post found all = absurd (none-some post found)
handed_at since setup within now steps first (one ∷ posts) zero post found all =
    subst (λ (p : Posted). (nat_lt p.packet.moment since || is_in_time setup within now steps (first + 0) p.packet.moment) ≡ true) (ap (λ (o : Option Posted). unwrap_or o one) found)
    (subst (λ (n : ℕ). (nat_lt one.packet.moment since || is_in_time setup within now steps n one.packet.moment) ≡ true) (same first)
    (and_parts (nat_lt one.packet.moment since || is_in_time setup within now steps first one.packet.moment) (all_handed_from since setup within now steps (first + 1) posts) all).0) where
      same : (n : ℕ) → n ≡ n + 0
      same n = omega arith
handed_at since setup within now steps first (one ∷ posts) (suc place) post found all =
    subst (λ (n : ℕ). (nat_lt post.packet.moment since || is_in_time setup within now steps n post.packet.moment) ≡ true) (same first place)
    (handed_at since setup within now steps (first + 1) posts place post found
    (and_parts (nat_lt one.packet.moment since || is_in_time setup within now steps first one.packet.moment) (all_handed_from since setup within now steps (first + 1) posts) all).1) where
      same : (n m : ℕ) → n + 1 + m ≡ n + suc m
      same n m = omega arith

pub fair_from_is : (setup : Setup) (steps : List WorldStep) (since within : ℕ)
    → all_handed_from since setup within (now_in setup (plain_world setup steps)) steps 0 (plain_world setup steps).posted ≡ true → IsFairFrom setup steps since within
unfolding world_after
fair_from_is setup steps since within all = λ number post found past late.
    let now = now_in setup (plain_world setup steps) in
    handed setup within steps number post found [] steps world_opening refl refl
    (not_young now (post.packet.moment + within) (is_handed setup within number post.packet.moment world_opening steps) late
    (not_young post.packet.moment since (is_in_time setup within now steps number post.packet.moment) past
    (subst (λ (n : ℕ). (nat_lt post.packet.moment since || is_in_time setup within now steps n post.packet.moment) ≡ true) (same number)
    (handed_at since setup within now steps 0 (plain_world setup steps).posted number post found all)))) where
      same : (n : ℕ) → 0 + n ≡ n
      same n = omega arith

-- one that should have been handed over, and wasn't
pub not_fair_from : (setup : Setup) (steps : List WorldStep) (since within number : ℕ) (post : Posted) → slice_get (plain_world setup steps).posted number ≡ Some post
    → nat_le since post.packet.moment ≡ true → nat_le (post.packet.moment + within) (now_in setup (plain_world setup steps)) ≡ true → hand_over number steps ≡ false
    → IsFairFrom setup steps since within → ⊥
not_fair_from setup steps since within number post found past old none fair =
    none_handed setup steps within number post none
    (fair number post found (leb-true since post.packet.moment past) (leb-true (post.packet.moment + within) (now_in setup (plain_world setup steps)) old))

-- always there is from any moment on
pub room_from : (setup : Setup) (steps : List WorldStep) (since : ℕ) → AgentAlwaysHasRoom setup steps → AgentHasRoomFrom setup steps since
room_from setup steps since always = λ before later order past. always before later order

-- A line of it

-- it stays so, and sends nothing
record StaysClosed (turn : Effect Endpoint) : Type 0 where
  closed : IsClosed turn.value
  silent : turn.sent ≡ []

noted_closed : (setup : Setup) (line moment : ℕ) (endpoint : Endpoint) (done : LineDone) → IsClosed endpoint → WaitsOn done → StaysClosed (noted setup line moment endpoint done)
noted_closed setup line moment endpoint done closed on =
    subst StaysClosed (sym (noted_silent setup line moment endpoint done on.silent))
    (record { closed = record { restart = closed.restart; pending = closed.pending; state = on.state }; silent = refl })

happened_closed : (kind : DueKind) (setup : Setup) (line moment : ℕ) (endpoint : Endpoint) → IsClosed endpoint → StaysClosed (happened_on kind setup line moment endpoint)
unfolding happened_on
happened_closed (OfLine due) setup line moment endpoint closed =
    noted_closed setup line moment endpoint (fired endpoint.line due moment) closed (fired_waits endpoint.line due moment closed.state)
happened_closed Resend setup line moment endpoint closed =
    subst (λ (pending : Option InFlight). StaysClosed (posted endpoint (resent_by pending setup line moment endpoint.post))) (sym closed.pending)
    (record { closed = record { restart = closed.restart; pending = closed.pending; state = closed.state }; silent = refl })
happened_closed Announce setup line moment endpoint closed =
    subst (λ (restart : Restart). StaysClosed (posted endpoint (announced_by restart setup line moment endpoint.post))) (sym closed.restart)
    (record { closed = record { restart = closed.restart; pending = closed.pending; state = closed.state }; silent = refl })

line_rests : (setup : Setup) (line moment : ℕ) (was : Option Endpoint) (is : Effect (Option Endpoint)) → PassesAlone (line_due line) (line_happens setup line) moment was is
    → IfSome was IsClosed → is.sent ≡ []
line_rests setup line moment was is (rests w t none same) closed = ap (λ (turn : Effect (Option Endpoint)). turn.sent) same
line_rests setup line moment None is (goes_on w item rest t first own same) closed = absurd (none-some item first)
line_rests setup line moment (Some was) is (goes_on w item rest t first own same) closed =
    let turn : Effect Endpoint = happened_on item.kind setup line item.moment was in
    let stays : StaysClosed turn = happened_closed item.kind setup line item.moment was closed in
    ap (λ (t : Effect (Option Endpoint)). t.sent) same ∙ ap (λ (x : List Sent). x ++ rest.sent) stays.silent
    ∙ line_rests setup line moment (Some turn.value) rest own stays.closed

line_closed : (line : ℕ) (endpoints : Endpoints) → serves endpoints ≡ false → AreInOrder endpoints → (s : Endpoint) → endpoint_at endpoints line ≡ Some s → IsClosed s
line_closed line endpoints closed order s at = subst (λ (b : Bool). InOrderWhile b line s) closed (order.lines line s at)

closed_at : (line : ℕ) (endpoints : Endpoints) → serves endpoints ≡ false → AreInOrder endpoints → IfSome (endpoint_at endpoints line) IsClosed
closed_at line endpoints closed order = by_endpoint (endpoint_at endpoints line) refl where
  by_endpoint : (found : Option Endpoint) → endpoint_at endpoints line ≡ found → IfSome found IsClosed
  by_endpoint None none = tt
  by_endpoint (Some s) at = line_closed line endpoints closed order s at

tick_line : (setup : Setup) (m : Machine) (moment line : ℕ) → 1 ≤ line → serves m.endpoints ≡ false → AreInOrder m.endpoints → of_line line (effect setup m (tick moment)).sent ≡ []
unfolding effect
tick_line setup m moment line some closed order =
    line_rests setup line moment (endpoint_at m.endpoints line) _ (line_passes setup line moment some m.endpoints) (closed_at line m.endpoints closed order)

turns_silent : (endpoints : Endpoints) (line : ℕ) (turn : Endpoint → Effect Endpoint) → ((s : Endpoint) → endpoint_at endpoints line ≡ Some s → (turn s).sent ≡ []) → (on_line endpoints line turn).sent ≡ []
turns_silent endpoints line turn silent = by_endpoint (endpoint_at endpoints line) refl where
  by_endpoint : (found : Option Endpoint) → endpoint_at endpoints line ≡ found → (on_line endpoints line turn).sent ≡ []
  by_endpoint None none = ap (λ (t : Effect Endpoints). t.sent) (on_nothing endpoints line turn none)
  by_endpoint (Some s) at = ap (λ (t : Effect Endpoints). t.sent) (on_this endpoints line s turn at) ∙ silent s at

act_sends : (setup : Setup) (m : Machine) (line : ℕ) (act : Act) → serves m.endpoints ≡ false → AreInOrder m.endpoints → (effect setup m (phone line act)).sent ≡ []
unfolding effect
act_sends setup m line act closed order = turns_silent m.endpoints line (acted_on setup line m.now act) silent where
  silent : (s : Endpoint) → endpoint_at m.endpoints line ≡ Some s → (acted_on setup line m.now act s).sent ≡ []
  silent s at =
      let is : IsClosed s = line_closed line m.endpoints closed order s at in
      (noted_closed setup line m.now s (phoned s.line act m.now) is (phoned_waits s.line act m.now is.state)).silent

-- A response that leaves it as it is

module _ (setup : Setup) (endpoints : Endpoints) (moment : ℕ) (response : Response) (closed : serves endpoints ≡ false) (order : AreInOrder endpoints) (other : response.code ≢ 521) where
  abbrev FirstBy : Heard → Endpoints
  FirstBy heard = with_own endpoints (replied heard setup 0 moment response endpoints.own).value

  abbrev HeardBy : Heard → Effect Endpoints
  HeardBy heard = afterwards (effect_map (with_own endpoints) (replied heard setup 0 moment response endpoints.own)) (λ next. lines_told heard setup moment next)

  own_sends : serves (own_heard setup endpoints moment response).value ≡ false → (own_heard setup endpoints moment response).sent ≡ []
  unfolding replied_on replied
  own_sends after = by_heard (heard_on endpoints.own response) refl after where
    by_heard : (heard : Heard) → heard_on endpoints.own response ≡ heard → serves (HeardBy heard).value ≡ false → (HeardBy heard).sent ≡ []
    by_heard Nothing e after = refl
    by_heard PutOff e after = refl
    by_heard (Redirected agent) e after = absurd (not_redirected endpoints.own response agent other e)
    by_heard (Answered agent) e after =
        absurd (let clash : true ≡ false = sym (ap (λ (own : Post). is_serving own.restart) (told_still setup moment (FirstBy (Answered agent)) (Answered agent)).own) ∙ after in cc)

  strange_sends : (line : ℕ) (s : Endpoint) → IsClosed s → (responded_on setup line moment response s).sent ≡ []
  unfolding responded_on
  strange_sends line s is =
      ap (λ (heard : Heard). (responded_as heard setup line moment response s).sent) (ap (λ (pending : Option InFlight). heard_by pending s.post.restart response) is.pending)

  response_sends : serves (responded setup endpoints moment response).value ≡ false → (responded setup endpoints moment response).sent ≡ []
  response_sends after = by_test (line_of_id response.id == 0) after where
    by_test : (b : Bool) → serves (if b then own_heard setup endpoints moment response
        else on_line endpoints (line_of_id response.id) (responded_on setup (line_of_id response.id) moment response)).value ≡ false
        → (if b then own_heard setup endpoints moment response
        else on_line endpoints (line_of_id response.id) (responded_on setup (line_of_id response.id) moment response)).sent ≡ []
    by_test true after = own_sends after
    by_test false after =
        turns_silent endpoints (line_of_id response.id) (responded_on setup (line_of_id response.id) moment response)
        (λ s at. strange_sends (line_of_id response.id) s (line_closed (line_of_id response.id) endpoints closed order s at))

-- A text

acknowledged_begins : (moment : ℕ) (source : SocketAddrV4) (code id : ℕ) (params : List Param) → begun_in (acknowledged moment source code id params) ≡ []
acknowledged_begins moment source code id params = by_test (asks_for_acknowledgement code params) where
  by_test : (b : Bool) → let one : Sent = record { to = source; moment = moment; owner = of_none; said = acknowledgement (messages.Response 0 id [] []) } in begun_in (if b then one ∷ [] else []) ≡ []
  by_test true = refl
  by_test false = refl

transacted_begins : (looked : Looked) (m : Machine) (source : SocketAddrV4) (t : Transaction) → t.done.told.sent ≡ [] → begun_in (transacted_by looked m source t).sent ≡ []
unfolding executed
transacted_begins new m source t none = ap begun_in none
transacted_begins (repeat text) m source t none = refl
transacted_begins confirmed m source t none = refl
transacted_begins full m source t none = refl

text_begins : (setup : Setup) (m : Machine) (source : SocketAddrV4) (outcome : Outcome) → serves m.endpoints ≡ false → AreInOrder m.endpoints → IsPlain outcome
    → serves (handled setup m source outcome).value.endpoints ≡ false → begun_in (handled setup m source outcome).sent ≡ []
unfolding handled
text_begins setup m source no_header closed order plain after = refl
text_begins setup m source (bad_version id) closed order plain after = transacted_begins (look_of most_firsts m.history id m.now) m source (refusing m id 528) refl
text_begins setup m source (bad_body id) closed order plain after = transacted_begins (look_of most_firsts m.history id m.now) m source (refusing m id 510) refl
text_begins setup m source (message (messages.Command verb id name params body)) closed order plain after =
    let said : Command = record { verb = verb; name = name; params = params; body = body } in
    transacted_begins (look_of most_firsts m.history id m.now) m source (read_command setup m verb id name params body)
    (ap (λ (told : Effect Endpoints). told.sent) (nothing_done setup m.endpoints m.now id said (k_of params) closed))
text_begins setup m source (message (messages.Response code id params body)) closed order plain after =
    let is : Effect Endpoints = responded setup m.endpoints m.now (response_with setup id code params) in
    begun_both (acknowledged m.now source code id params) is.sent
    ∙ ap (λ (x : List Begun). x ++ begun_in is.sent) (acknowledged_begins m.now source code id params)
    ∙ ap begun_in (response_sends setup m.endpoints m.now (response_with setup id code params) closed order (plain code id params body refl).1 after)

texts_begin : (setup : Setup) (m : Machine) (source : SocketAddrV4) (texts : List (List ℕ)) → serves m.endpoints ≡ false → KeepOrder m.endpoints
    → Each (λ (text : List ℕ). IsPlain (read_text text)) texts → serves (took_all setup m source texts).value.endpoints ≡ false → begun_in (took_all setup m source texts).sent ≡ []
unfolding took_all
texts_begin setup m source [] closed order plain after = refl
texts_begin setup m source (text ∷ texts) closed order plain after =
    begun_both one.sent rest.sent
    ∙ ap (λ (x : List Begun). x ++ begun_in rest.sent) (text_begins setup m source (read_text text) closed order.order plain.0 closed_then)
    ∙ texts_begin setup one.value source texts closed_then next plain.1 after where
      one : Effect Machine
      one = handled setup m source (read_text text)

      rest : Effect Machine
      rest = took_all setup one.value source texts

      next : KeepOrder one.value.endpoints
      next = text_waits setup m source (read_text text) order

      by_serving : (b : Bool) → serves one.value.endpoints ≡ b → serves one.value.endpoints ≡ false
      by_serving true serving = absurd (let clash : true ≡ false = sym (texts_serve setup one.value source texts next serving) ∙ after in cc)
      by_serving false is = is

      closed_then : serves one.value.endpoints ≡ false
      closed_then = by_serving (serves one.value.endpoints) refl

datagram_begins : (setup : Setup) (m : Machine) (source : SocketAddrV4) (bytes : List ℕ) → serves m.endpoints ≡ false → KeepOrder m.endpoints
    → Each (λ (text : List ℕ). IsPlain (read_text text)) (texts_of bytes) → serves (effect setup m (datagram source bytes)).value.endpoints ≡ false
    → begun_in (effect setup m (datagram source bytes)).sent ≡ []
unfolding effect
datagram_begins setup m source bytes closed order plain after = texts_begin setup m source (texts_of bytes) closed order plain after

-- A tick, by what each line sends

tick_own : (setup : Setup) (m : Machine) (moment : ℕ) (sent : List Sent) → Tracked setup (Anytime setup) sent moment m.endpoints.own
    → Each (IsAnnounced setup) (begun_in (of_line 0 (effect setup m (tick moment)).sent))
unfolding effect
tick_own setup m moment sent s = begun_passed setup moment m.endpoints.own _ (own_passes setup moment m.endpoints) sent s

module _ (P : Begun → Type 0) (setup : Setup) where
  abbrev OfEachLine : List Sent → Type 0
  OfEachLine sent = (n : ℕ) → Each P (begun_in (of_line n sent))

  behind_one : (n : ℕ) (one : Sent) (sent : List Sent) → Each P (begun_in (of_line n (one ∷ sent))) → Each P (begun_in (of_line n sent))
  behind_one n one sent all = by_test (is_of n one.owner) all where
    by_test : (b : Bool) → Each P (begun_in (if b then one ∷ of_line n sent else of_line n sent)) → Each P (begun_in (of_line n sent))
    by_test true all = each_back P (begun_at one) (begun_in (of_line n sent)) all
    by_test false all = all

  mine : (n : ℕ) (one : Sent) (sent : List Sent) → one.owner ≡ own_of n → Each P (begun_in (of_line n (one ∷ sent))) → Each P (begun_at one)
  mine n one sent owned all =
      each_front P (begun_at one) (begun_in (of_line n sent))
      (subst (λ (b : Bool). Each P (begun_in (if b then one ∷ of_line n sent else of_line n sent))) (ap (is_of n) owned ∙ eq-eqb n n refl) all)

  one_begins : (one : Sent) (sent : List Sent) → IsWell setup one → OfEachLine (one ∷ sent) → Each P (begun_at one)
  one_begins one sent well all = by_said one.said refl well where
    by_said : (said : Said) → one.said ≡ said → SaysWell setup one.owner said → Each P (begun_by one.moment said)
    by_said (command (messages.Command verb id name params body)) is own =
        subst (λ (s : Said). Each P (begun_by one.moment s)) is (mine own.line one sent own.owned (all own.line))
    by_said (command (messages.Response code id params body)) is own = tt
    by_said (answer response) is own = tt
    by_said (again id text) is own = tt
    by_said (resent flight) is own = tt
    by_said (acknowledgement response) is own = tt

  lines_begin : (sent : List Sent) → Each (IsWell setup) sent → OfEachLine sent → Each P (begun_in sent)
  lines_begin [] well all = tt
  lines_begin (one ∷ sent) well all =
      each_both P (begun_at one) (begun_in sent) (one_begins one sent well.0 all) (lines_begin sent well.1 (λ n. behind_one n one sent (all n)))

-- A world

module _ (setup : Setup) (set_up : IsSetUp setup) where
  abbrev pub AllAnnounced : World → Type 0
  AllAnnounced w = Each (IsAnnounced setup) (own_in setup w)

  more : (w : World) (event : GatewayEvent) → own_in setup (to_gateway setup w event) ≡ own_in setup w ++ begun_in (effect setup (gateway_in setup w) event).sent
  more w event = ap begun_in (sent_more setup (opening setup) w.gateway_took event) ∙ begun_both (sent_of setup w.gateway_took) (effect setup (gateway_in setup w) event).sent

  new_announced : (w : World) (event : GatewayEvent) → Each (IsAnnounced setup) (begun_in (effect setup (gateway_in setup w) event).sent) → AllAnnounced w → AllAnnounced (to_gateway setup w event)
  new_announced w event begins all =
      subst (Each (IsAnnounced setup)) (sym (more w event))
      (each_both (IsAnnounced setup) (own_in setup w) (begun_in (effect setup (gateway_in setup w) event).sent) all begins)

  none_announced : (w : World) (event : GatewayEvent) → begun_in (effect setup (gateway_in setup w) event).sent ≡ [] → AllAnnounced w → AllAnnounced (to_gateway setup w event)
  none_announced w event none all = new_announced w event (subst (Each (IsAnnounced setup)) (sym none) tt) all

  wells : (w : World) (event : GatewayEvent) → Each (IsWell setup) (effect setup (gateway_in setup w) event).sent
  wells w event =
      each_back (IsWell setup) (sent_of setup w.gateway_took) (effect setup (gateway_in setup w) event).sent
      (subst (Each (IsWell setup)) (sent_more setup (opening setup) w.gateway_took event)
      (each_from_all (IsWell setup) (sent_of setup (w.gateway_took ++ event ∷ [])) (sent_well setup set_up (w.gateway_took ++ event ∷ []))))

  tick_announces : (w : World) (moment : ℕ) → now_in setup w ≤ moment → Closed setup w → IsTracked setup w
      → Each (IsAnnounced setup) (begun_in (effect setup (gateway_in setup w) (tick moment)).sent)
  tick_announces w moment past closed s = lines_begin (IsAnnounced setup) setup (effect setup (gateway_in setup w) (tick moment)).sent (wells w (tick moment)) each where
    sent : List Sent
    sent = of_line 0 (sent_of setup w.gateway_took)

    own : Post
    own = (gateway_in setup w).endpoints.own

    before : Tracked setup (Anytime setup) sent moment own
    before =
        subst (λ (x : List Sent). Tracked setup (Anytime setup) x moment own) (append-nil sent)
        (tracked_on setup (Behind (now_in setup w)) (Anytime setup) (λ due up. tt) sent [] (now_in setup w) moment past own s)

    each : (n : ℕ) → Each (IsAnnounced setup) (begun_in (of_line n (effect setup (gateway_in setup w) (tick moment)).sent))
    each zero = tick_own setup (gateway_in setup w) moment sent before
    each (suc n) =
        subst (λ (x : List Sent). Each (IsAnnounced setup) (begun_in x))
        (sym (tick_line setup (gateway_in setup w) moment (suc n) (omega arith) closed (posts_in_order setup w.gateway_took))) tt

  still_closed : (w : World) (event : GatewayEvent) → Closed setup (to_gateway setup w event) → serves (effect setup (gateway_in setup w) event).value.endpoints ≡ false
  still_closed w event closed =
      sym (ap (λ (m : Machine). serves m.endpoints) (machine_on setup (opening setup) w.gateway_took (event ∷ []) ∙ gateway_alone setup (gateway_in setup w) event)) ∙ closed

  step_announces : (steps : List WorldStep) (step : WorldStep) → steps_are_taken setup world_opening steps ≡ true → step_refusal setup (plain_world setup steps) step ≡ None
      → Closed setup (plain_world setup steps) → Closed setup (went setup (plain_world setup steps) step) → AllAnnounced (plain_world setup steps)
      → AllAnnounced (went setup (plain_world setup steps) step)
  unfolding step_refusal went
  step_announces steps (issuing verb name rest) taken may before closed all = all
  step_announces steps (dialling line act) taken may before closed all =
      let w = plain_world setup steps in
      none_announced w (phone line act) (ap begun_in (act_sends setup (gateway_in setup w) line act before (posts_in_order setup w.gateway_took))) all
  step_announces steps (ticking moment) taken may before closed all =
      let w = plain_world setup steps in
      let m = gateway_in setup w in
      new_announced w (tick moment)
      (tick_announces w moment (gateway_forward m (tick moment) (gateway_taken (refusal_of m (tick moment)) may)) before (world_tracked setup set_up steps taken before)) all
  step_announces steps (delivering number) taken may before closed all = by_post (slice_get (plain_world setup steps).posted number) refl closed where
    w : World
    w = plain_world setup steps

    by_gateway : (post : Posted) → slice_get w.posted number ≡ Some post → post.end ≡ agent_end → (b : Bool)
        → Closed setup (if b then to_gateway setup w (datagram post.packet.sender post.packet.bytes) else w)
        → AllAnnounced (if b then to_gateway setup w (datagram post.packet.sender post.packet.bytes) else w)
    by_gateway post found from true closed =
        none_announced w (datagram post.packet.sender post.packet.bytes)
        (datagram_begins setup (gateway_in setup w) post.packet.sender post.packet.bytes before (events_wait setup w.gateway_took)
        (plain_texts setup set_up steps number post taken found from) (still_closed w (datagram post.packet.sender post.packet.bytes) closed)) all
    by_gateway post found from false closed = all

    by_agent : (post : Posted) (b : Bool) → AllAnnounced (if b then to_agent setup w (hears (datagram post.packet.sender post.packet.bytes)) else w)
    by_agent post true = all
    by_agent post false = all

    by_end : (post : Posted) → slice_get w.posted number ≡ Some post → (end : End) → post.end ≡ end → Closed setup (delivered_from end setup w post.packet)
        → AllAnnounced (delivered_from end setup w post.packet)
    by_end post found agent_end from closed = by_gateway post found from (same_address post.packet.to (gateway_address setup)) closed
    by_end post found gateway_end from closed = by_agent post (is_among setup.agent.route post.packet.to)

    by_post : (found : Option Posted) → slice_get w.posted number ≡ found → Closed setup (delivered found setup w) → AllAnnounced (delivered found setup w)
    by_post None none closed = all
    by_post (Some post) found closed = by_end post found post.end refl closed

  steps_announce : (before rest : List WorldStep) → steps_are_taken setup world_opening (before ++ rest) ≡ true → Closed setup (plain_world setup (before ++ rest)) → AllAnnounced (plain_world setup before)
      → AllAnnounced (plain_world setup (before ++ rest))
  steps_announce before [] taken closed all = subst (λ (x : List WorldStep). AllAnnounced (plain_world setup x)) (sym (append-nil before)) all
  steps_announce before (step ∷ rest) taken closed all =
      let order : (before ++ step ∷ []) ++ rest ≡ before ++ step ∷ rest = append_assoc before (step ∷ []) rest in
      let taken_on : steps_are_taken setup world_opening ((before ++ step ∷ []) ++ rest) ≡ true = subst (λ (x : List WorldStep). steps_are_taken setup world_opening x ≡ true) (sym order) taken in
      let closed_on : Closed setup (plain_world setup ((before ++ step ∷ []) ++ rest)) = subst (λ (x : List WorldStep). Closed setup (plain_world setup x)) (sym order) closed in
      let here : steps_are_taken setup world_opening (before ++ step ∷ []) ≡ true = taken_front setup world_opening (before ++ step ∷ []) rest taken_on in
      subst (λ (x : List WorldStep). AllAnnounced (plain_world setup x)) order
      (steps_announce (before ++ step ∷ []) rest taken_on closed_on
      (subst AllAnnounced (sym (step_more setup before step))
      (step_announces before step (taken_front setup world_opening before (step ∷ []) here) (taken_last setup world_opening before step here)
      (closed_front setup set_up before (step ∷ rest) closed)
      (subst (Closed setup) (step_more setup before step) (closed_front setup set_up (before ++ step ∷ []) rest closed_on)) all)))

  opening_announced : AllAnnounced (plain_world setup [])
  unfolding world_after sent_from
  opening_announced = tt

  pub all_announced : (steps : List WorldStep) → steps_are_taken setup world_opening steps ≡ true → Closed setup (plain_world setup steps) → AllAnnounced (plain_world setup steps)
  all_announced steps taken closed = steps_announce [] steps taken closed opening_announced
