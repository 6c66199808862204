-- In a world whose gateway doesn't serve yet each step leaves it where it is with its announcements, or further on.
use Rattle.std.proofs.Common.{◌≡◌, ◌≢◌, ℕ, ◌<◌, ◌≤◌, Bool, true, false, ◌==◌, if◌then◌else◌, List, [], ◌∷◌, ◌++◌, Option, Some, None, inl, inr, refl, sym, ap, ◌∙◌, subst, arith, append-nil, append_assoc}
use Rattle.std.specs.Prelude.{◌⊎◌, IfSome, slice_get}
use Rattle.std.proofs.lemmas.Bool.{eqb-true, eqb-false}
use Rattle.std.specs.declared.net.socket_addr.SocketAddrV4.{SocketAddrV4}
use Rattle.mgcp_text.specs.Reading.{Outcome, read_text}
use Rattle.retransmission.specs.Flight.{InFlight}
use Rattle.retransmission.specs.Restarting.{is_serving}
use Rattle.transmission.specs.Packing.{same_address}
use Rattle.transmission.specs.Texts.{texts_of}
use Rattle.mg_line.specs.declared.phone.Act.{Act}
use Rattle.plain_machine.specs.declared.post.Post.{Post}
use Rattle.plain_machine.specs.declared.response.Response.{Response}
use Rattle.plain_machine.specs.declared.setup.Setup.{Setup}
use Rattle.plain_machine.specs.Acting.{acted_on}
use Rattle.plain_machine.specs.Answering.{handled, took_all}
use Rattle.plain_machine.specs.Effect.{Effect}
use Rattle.plain_machine.specs.Event.{GatewayEvent, datagram, phone, tick}
use Rattle.plain_machine.specs.Happening.{effect}
use Rattle.plain_machine.specs.Lists.{machine_after, plain, sent_from, sent_of}
use Rattle.plain_machine.specs.Machine.{Endpoints, Machine, opening, serves}
use Rattle.plain_machine.specs.Message.{Sent}
use Rattle.plain_machine.specs.Posting.{line_of_id}
use Rattle.plain_machine.specs.Refusing.{refusal_of}
use Rattle.plain_machine.specs.Responding.{responded, response_with}
use Rattle.plain_machine.specs.Setup.{IsSetUp}
use Rattle.plain_machine.proofs.ListLaws.{machine_on}
use Rattle.machine_laws.specs.Belonging.{of_line}
use Rattle.machine_laws.specs.Waiting.{KeepOrder}
use Rattle.machine_laws.proofs.AnnouncementLaws.{answer_serves, serving_lasts}
use Rattle.machine_laws.proofs.EachLemmas.{Each}
use Rattle.machine_laws.proofs.FlightLaws.{a_stranger_to_itself, own_stays as own_stays_at, own_stays_at as own_stays_on}
use Rattle.machine_laws.proofs.GatewayEvents.{gateway_forward}
use Rattle.machine_laws.proofs.OwningLemmas.{of_both}
use Rattle.machine_laws.proofs.PassLemmas.{own_passes}
use Rattle.machine_laws.proofs.WaitLaws.{events_wait, text_waits}
use Rattle.call_agent.specs.Hearing.{hears}
use Rattle.agent_core.specs.declared.packet.End.{End}
use Rattle.agent_core.specs.declared.packet.End.TheVariants.{AgentEnd as agent_end, GatewayEnd as gateway_end}
use Rattle.agent_core.specs.declared.packet.Posted.{Posted}
use Rattle.agent_core.specs.World.{World, WorldStep, delivered, delivered_from, delivering, dialling, gateway_address, gateway_in, is_among, issuing, now_in, plain_world, step_refusal, steps_are_taken, ticking, to_agent, to_gateway, went, world_after, world_opening}
use Rattle.world_laws.specs.Landing.{is_final}
use Rattle.world_laws.proofs.WorldLaws.{gateway_alone, gateway_clock, gateway_taken}
use Rattle.world_laws.proofs.FairLaws.{taken_last}
use Rattle.world_laws.proofs.TakenLaws.{took_more}
use Rattle.world_laws.proofs.LineLaws.{heard_is}
use Rattle.world_laws.proofs.PostedLemmas.{sent_more}
use Rattle.world_laws.proofs.ServingLaws.{own_keeps, texts_serve}
use Rattle.world_laws.proofs.PostedFinal.{step_more, steps_more, taken_front}
use Rattle.outage_laws.proofs.PlainArrivals.{IsPlain, plain_texts}
use Rattle.outage_laws.proofs.TrackLemmas.{Anytime, Tracked, opening_tracked, passed, tracked_on}

-- A response, as it comes in a world, is no matter to the gateway's own post, or makes it serve

-- it is as it was, or it serves
abbrev SameOrServes : Post → Post → Type 0
SameOrServes was is = (is ≡ was) ⊎ (is_serving is.restart ≡ true)

response_same : (setup : Setup) (endpoints : Endpoints) (moment : ℕ) (response : Response) → is_final response.code ≡ true → response.code ≢ 521
    → SameOrServes endpoints.own (responded setup endpoints moment response).value.own
response_same setup endpoints moment response final other = by_own (line_of_id response.id == 0) refl where
  strange : line_of_id response.id ≡ 0 → IfSome endpoints.own.pending (λ message. message.id ≢ response.id) → SameOrServes endpoints.own (responded setup endpoints moment response).value.own
  strange own far = inl (ap (λ (t : Effect Endpoints). t.value.own) (a_stranger_to_itself setup endpoints moment response own far))

  by_test : (flight : InFlight) → endpoints.own.pending ≡ Some flight → line_of_id response.id ≡ 0 → (b : Bool) → (flight.id == response.id) ≡ b
      → SameOrServes endpoints.own (responded setup endpoints moment response).value.own
  by_test flight flies own true same =
      let heard = heard_is endpoints.own response flight flies (eqb-true flight.id response.id same) final other in
      inr (answer_serves setup endpoints moment response heard.0 own heard.1)
  by_test flight flies own false far =
      strange own (subst (λ (pending : Option InFlight). IfSome pending (λ message. message.id ≢ response.id)) (sym flies) (eqb-false flight.id response.id far))

  by_pending : (pending : Option InFlight) → endpoints.own.pending ≡ pending → line_of_id response.id ≡ 0 → SameOrServes endpoints.own (responded setup endpoints moment response).value.own
  by_pending None none own = strange own (subst (λ (pending : Option InFlight). IfSome pending (λ message. message.id ≢ response.id)) (sym none) tt)
  by_pending (Some flight) flies own = by_test flight flies own (flight.id == response.id) refl

  by_own : (b : Bool) → (line_of_id response.id == 0) ≡ b → SameOrServes endpoints.own (responded setup endpoints moment response).value.own
  by_own true own = by_pending endpoints.own.pending refl (eqb-true (line_of_id response.id) 0 own)
  by_own false some = inl (own_stays_at setup endpoints moment response (eqb-false (line_of_id response.id) 0 some))

text_same : (setup : Setup) (m : Machine) (source : SocketAddrV4) (outcome : Outcome) → IsPlain outcome → SameOrServes m.endpoints.own (handled setup m source outcome).value.endpoints.own
text_same setup m source outcome plain =
    own_keeps setup (SameOrServes m.endpoints.own) m source outcome
    (λ code id params body reads.
    let both = plain code id params body reads in response_same setup m.endpoints m.now (response_with setup id code params) both.0 both.1) (inl refl)

texts_same : (setup : Setup) (m : Machine) (source : SocketAddrV4) (texts : List (List ℕ)) → KeepOrder m.endpoints → Each (λ (text : List ℕ). IsPlain (read_text text)) texts
    → SameOrServes m.endpoints.own (took_all setup m source texts).value.endpoints.own
unfolding took_all
texts_same setup m source [] order plain = inl refl
texts_same setup m source (text ∷ texts) order plain = by_one (text_same setup m source (read_text text) plain.0) (texts_same setup next source texts (text_waits setup m source (read_text text) order) plain.1) where
  next : Machine
  next = (handled setup m source (read_text text)).value

  by_rest : next.endpoints.own ≡ m.endpoints.own → SameOrServes next.endpoints.own (took_all setup next source texts).value.endpoints.own
      → SameOrServes m.endpoints.own (took_all setup next source texts).value.endpoints.own
  by_rest same (inl is) = inl (is ∙ same)
  by_rest same (inr serving) = inr serving

  by_one : SameOrServes m.endpoints.own next.endpoints.own → SameOrServes next.endpoints.own (took_all setup next source texts).value.endpoints.own
      → SameOrServes m.endpoints.own (took_all setup next source texts).value.endpoints.own
  by_one (inl same) rest = by_rest same rest
  by_one (inr serving) rest = inr (texts_serve setup next source texts (text_waits setup m source (read_text text) order) serving)

-- An event

-- behind now; or nothing has gone by yet
abbrev pub Behind : ℕ → ℕ → Type 0
Behind now due = (now < due) ⊎ (now ≡ 0)

module _ (setup : Setup) where
  abbrev pub IsTracked : World → Type 0
  IsTracked w = Tracked setup (Behind (now_in setup w)) (of_line 0 (sent_of setup w.gateway_took)) (now_in setup w) (gateway_in setup w).endpoints.own

  abbrev pub Closed : World → Type 0
  Closed w = serves (gateway_in setup w).endpoints ≡ false

  more_is : (w : World) (event : GatewayEvent) → gateway_in setup (to_gateway setup w event) ≡ (effect setup (gateway_in setup w) event).value
  more_is w event = machine_on setup (opening setup) w.gateway_took (event ∷ []) ∙ gateway_alone setup (gateway_in setup w) event

  sent_is : (w : World) (event : GatewayEvent)
      → of_line 0 (sent_of setup (w.gateway_took ++ event ∷ [])) ≡ of_line 0 (sent_of setup w.gateway_took) ++ of_line 0 (effect setup (gateway_in setup w) event).sent
  sent_is w event =
      ap (of_line 0) (sent_more setup (opening setup) w.gateway_took event) ∙ of_both 0 (sent_of setup w.gateway_took) (effect setup (gateway_in setup w) event).sent

  -- by the machine behind it, its clock, and what is sent
  tracked_by : (w : World) (event : GatewayEvent) (now : ℕ) → now_in setup (to_gateway setup w event) ≡ now
      → Tracked setup (Behind now) (of_line 0 (sent_of setup w.gateway_took) ++ of_line 0 (effect setup (gateway_in setup w) event).sent) now (effect setup (gateway_in setup w) event).value.endpoints.own
      → IsTracked (to_gateway setup w event)
  tracked_by w event now clock s =
      subst (λ (n : ℕ). Tracked setup (Behind n) (of_line 0 (sent_of setup (w.gateway_took ++ event ∷ []))) n (gateway_in setup (to_gateway setup w event)).endpoints.own) (sym clock)
      (subst (λ (m : Machine). Tracked setup (Behind now) (of_line 0 (sent_of setup (w.gateway_took ++ event ∷ []))) now m.endpoints.own) (sym (more_is w event))
      (subst (λ (sent : List Sent). Tracked setup (Behind now) sent now (effect setup (gateway_in setup w) event).value.endpoints.own) (sym (sent_is w event)) s))

  -- its own post stays, and so does the clock
  pub stays : (w : World) (event : GatewayEvent) → now_in setup (to_gateway setup w event) ≡ now_in setup w → (effect setup (gateway_in setup w) event).value.endpoints.own ≡ (gateway_in setup w).endpoints.own
      → IsTracked w → IsTracked (to_gateway setup w event)
  stays w event clock same s =
      let now = now_in setup w in
      let sent = of_line 0 (sent_of setup w.gateway_took) in
      let more = of_line 0 (effect setup (gateway_in setup w) event).sent in
      tracked_by w event now clock
      (subst (Tracked setup (Behind now) (sent ++ more) now) (sym same)
      (tracked_on setup (Behind now) (Behind now) (λ due up. up) sent more now now (omega arith) (gateway_in setup w).endpoints.own s))

  datagram_own : (m : Machine) (source : SocketAddrV4) (bytes : List ℕ) → KeepOrder m.endpoints → Each (λ (text : List ℕ). IsPlain (read_text text)) (texts_of bytes)
      → SameOrServes m.endpoints.own (effect setup m (datagram source bytes)).value.endpoints.own
  unfolding effect
  datagram_own m source bytes order plain = texts_same setup m source (texts_of bytes) order plain

  pub datagram_tracked : (w : World) (source : SocketAddrV4) (bytes : List ℕ) → Each (λ (text : List ℕ). IsPlain (read_text text)) (texts_of bytes) → Closed (to_gateway setup w (datagram source bytes))
      → IsTracked w → IsTracked (to_gateway setup w (datagram source bytes))
  datagram_tracked w source bytes plain closed s = by_own (datagram_own (gateway_in setup w) source bytes (events_wait setup w.gateway_took) plain) where
    by_own : SameOrServes (gateway_in setup w).endpoints.own (effect setup (gateway_in setup w) (datagram source bytes)).value.endpoints.own → IsTracked (to_gateway setup w (datagram source bytes))
    by_own (inl same) = stays w (datagram source bytes) (gateway_clock setup w (datagram source bytes)) same s
    by_own (inr serving) =
        absurd (let clash : true ≡ false = sym serving ∙ sym (ap (λ (m : Machine). serves m.endpoints) (more_is w (datagram source bytes))) ∙ closed in cc)

  pub act_own : (m : Machine) (line : ℕ) (act : Act) → (effect setup m (phone line act)).value.endpoints.own ≡ m.endpoints.own
  unfolding effect
  act_own m line act = own_stays_on m.endpoints line (acted_on setup line m.now act)

  tick_own : (m : Machine) (moment : ℕ) (sent : List Sent) → Tracked setup (Anytime setup) sent moment m.endpoints.own
      → Tracked setup (λ (due : ℕ). moment < due) (sent ++ of_line 0 (effect setup m (tick moment)).sent) moment (effect setup m (tick moment)).value.endpoints.own
  unfolding effect
  tick_own m moment sent s = passed setup moment m.endpoints.own _ (own_passes setup moment m.endpoints) sent s

  pub tick_tracked : (w : World) (moment : ℕ) → now_in setup w ≤ moment → IsTracked w → IsTracked (to_gateway setup w (tick moment))
  tick_tracked w moment past s =
      let sent = of_line 0 (sent_of setup w.gateway_took) in
      let own = (gateway_in setup w).endpoints.own in
      let more = of_line 0 (effect setup (gateway_in setup w) (tick moment)).sent in
      let is = (effect setup (gateway_in setup w) (tick moment)).value.endpoints.own in
      let before : Tracked setup (Anytime setup) sent moment own =
      subst (λ (x : List Sent). Tracked setup (Anytime setup) x moment own) (append-nil sent)
      (tracked_on setup (Behind (now_in setup w)) (Anytime setup) (λ due up. tt) sent [] (now_in setup w) moment past own s) in
      tracked_by w (tick moment) moment (gateway_clock setup w (tick moment))
      (subst (λ (x : List Sent). Tracked setup (Behind moment) x moment is) (append-nil (sent ++ more))
      (tracked_on setup (λ (due : ℕ). moment < due) (Behind moment) (λ due up. inl up) (sent ++ more) [] moment moment (omega arith) is (tick_own (gateway_in setup w) moment sent before)))

  -- A step

  module _ (set_up : IsSetUp setup) where
    step_tracked : (steps : List WorldStep) (step : WorldStep) → steps_are_taken setup world_opening steps ≡ true → step_refusal setup (plain_world setup steps) step ≡ None
        → Closed (went setup (plain_world setup steps) step) → IsTracked (plain_world setup steps) → IsTracked (went setup (plain_world setup steps) step)
    unfolding step_refusal went
    step_tracked steps (issuing verb name rest) taken may closed s = s
    step_tracked steps (dialling line act) taken may closed s =
        stays (plain_world setup steps) (phone line act) (gateway_clock setup (plain_world setup steps) (phone line act)) (act_own (gateway_in setup (plain_world setup steps)) line act) s
    step_tracked steps (ticking moment) taken may closed s =
        let m = gateway_in setup (plain_world setup steps) in
        tick_tracked (plain_world setup steps) moment (gateway_forward m (tick moment) (gateway_taken (refusal_of m (tick moment)) may)) s
    step_tracked steps (delivering number) taken may closed s = by_post (slice_get (plain_world setup steps).posted number) refl closed where
      w : World
      w = plain_world setup steps

      by_gateway : (post : Posted) → slice_get w.posted number ≡ Some post → post.end ≡ agent_end → (b : Bool)
          → Closed (if b then to_gateway setup w (datagram post.packet.sender post.packet.bytes) else w) → IsTracked (if b then to_gateway setup w (datagram post.packet.sender post.packet.bytes) else w)
      by_gateway post found from true closed = datagram_tracked w post.packet.sender post.packet.bytes (plain_texts setup set_up steps number post taken found from) closed s
      by_gateway post found from false closed = s

      by_agent : (post : Posted) (b : Bool) → IsTracked (if b then to_agent setup w (hears (datagram post.packet.sender post.packet.bytes)) else w)
      by_agent post true = s
      by_agent post false = s

      by_end : (post : Posted) → slice_get w.posted number ≡ Some post → (end : End) → post.end ≡ end → Closed (delivered_from end setup w post.packet) → IsTracked (delivered_from end setup w post.packet)
      by_end post found agent_end from closed = by_gateway post found from (same_address post.packet.to (gateway_address setup)) closed
      by_end post found gateway_end from closed = by_agent post (is_among setup.agent.route post.packet.to)

      by_post : (found : Option Posted) → slice_get w.posted number ≡ found → Closed (delivered found setup w) → IsTracked (delivered found setup w)
      by_post None none closed = s
      by_post (Some post) found closed = by_end post found post.end refl closed

    -- a gateway that serves goes on to
    pub closed_front : (before rest : List WorldStep) → Closed (plain_world setup (before ++ rest)) → Closed (plain_world setup before)
    closed_front before rest closed = by_test (serves (gateway_in setup (plain_world setup before)).endpoints) refl where
      more : (events : List GatewayEvent) → (plain_world setup (before ++ rest)).gateway_took ≡ (plain_world setup before).gateway_took ++ events
          → serves (gateway_in setup (plain_world setup before)).endpoints ≡ true → ⊥
      more events took serving =
          absurd (
          let lasts = serving_lasts setup (plain_world setup before).gateway_took events serving in
          let clash : true ≡ false = sym lasts ∙ sym (ap (λ (x : List GatewayEvent). serves (plain setup x).endpoints) took) ∙ closed in cc)

      by_test : (b : Bool) → serves (gateway_in setup (plain_world setup before)).endpoints ≡ b → Closed (plain_world setup before)
      by_test true serving =
          let t = took_more setup (plain_world setup before) rest in
          absurd (more t.0 (ap (λ (x : World). x.gateway_took) (steps_more setup world_opening before rest) ∙ t.1) serving)
      by_test false is = is

    steps_tracked : (before rest : List WorldStep) → steps_are_taken setup world_opening (before ++ rest) ≡ true → Closed (plain_world setup (before ++ rest)) → IsTracked (plain_world setup before)
        → IsTracked (plain_world setup (before ++ rest))
    steps_tracked before [] taken closed s = subst (λ (x : List WorldStep). IsTracked (plain_world setup x)) (sym (append-nil before)) s
    steps_tracked before (step ∷ rest) taken closed s =
        let order : (before ++ step ∷ []) ++ rest ≡ before ++ step ∷ rest = append_assoc before (step ∷ []) rest in
        let taken_on : steps_are_taken setup world_opening ((before ++ step ∷ []) ++ rest) ≡ true = subst (λ (x : List WorldStep). steps_are_taken setup world_opening x ≡ true) (sym order) taken in
        let closed_on : Closed (plain_world setup ((before ++ step ∷ []) ++ rest)) = subst (λ (x : List WorldStep). Closed (plain_world setup x)) (sym order) closed in
        let here : steps_are_taken setup world_opening (before ++ step ∷ []) ≡ true = taken_front setup world_opening (before ++ step ∷ []) rest taken_on in
        subst (λ (x : List WorldStep). IsTracked (plain_world setup x)) order
        (steps_tracked (before ++ step ∷ []) rest taken_on closed_on
        (subst IsTracked (sym (step_more setup before step))
        (step_tracked before step (taken_front setup world_opening before (step ∷ []) here) (taken_last setup world_opening before step here)
        (subst Closed (step_more setup before step) (closed_front (before ++ step ∷ []) rest closed_on)) s)))

    pub opening_is : IsTracked (plain_world setup [])
    unfolding world_after machine_after sent_from
    opening_is =
        subst (λ (x : List Sent). Tracked setup (Behind 0) x 0 (opening setup).endpoints.own) (append-nil [])
        (tracked_on setup (λ (due : ℕ). Unit {0}) (Behind 0) (λ due up. inr refl) [] [] 0 0 (omega arith) (opening setup).endpoints.own (opening_tracked setup))

    pub world_tracked : (steps : List WorldStep) → steps_are_taken setup world_opening steps ≡ true → Closed (plain_world setup steps) → IsTracked (plain_world setup steps)
    world_tracked steps taken closed = steps_tracked [] steps taken closed opening_is
