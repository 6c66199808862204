-- In a world each step leaves a line where it is with its commands, or further on, from a front of its steps on.
use Rattle.std.proofs.Common.{◌≡◌, ℕ, ◌≤◌, Bool, true, false, if◌then◌else◌, List, [], ◌∷◌, ◌++◌, map, Option, Some, None, refl, sym, ap, ◌∙◌, subst, append-nil, append_assoc}
use Rattle.std.specs.Prelude.{slice_get}
use Rattle.std.specs.declared.net.socket_addr.SocketAddrV4.{SocketAddrV4}
use Rattle.mgcp_text.specs.declared.message.Message.TheVariants as messages
use Rattle.mgcp_text.specs.Reading.{Outcome, message, no_header, bad_version, bad_body, read_text}
use Rattle.transmission.specs.Packing.{same_address}
use Rattle.transmission.specs.Texts.{texts_of}
use Rattle.mg_line.specs.declared.phone.Act.{Act}
use Rattle.plain_machine.specs.declared.setup.Setup.{Setup}
use Rattle.plain_machine.specs.declared.endpoint.Endpoint.{Endpoint}
use Rattle.plain_machine.specs.Arriving.{TextArrival, arrival}
use Rattle.plain_machine.specs.Event.{GatewayEvent, datagram, phone, tick}
use Rattle.plain_machine.specs.Falling.{due_on, if_by}
use Rattle.plain_machine.specs.Happening.{effect}
use Rattle.plain_machine.specs.Lists.{machine_after, sent_from, sent_of}
use Rattle.plain_machine.specs.Machine.{Machine, endpoint_at, opening, opening_endpoint}
use Rattle.plain_machine.specs.Message.{Sent}
use Rattle.plain_machine.specs.Refusing.{refusal_of}
use Rattle.plain_machine.specs.Setup.{IsSetUp}
use Rattle.plain_machine.proofs.ListLaws.{machine_on}
use Rattle.machine_laws.specs.Belonging.{of_line}
use Rattle.machine_laws.proofs.EachLemmas.{Each, each_mapped, each_weaker}
use Rattle.machine_laws.proofs.GatewayEvents.{gateway_forward}
use Rattle.machine_laws.proofs.OwningLemmas.{of_both}
use Rattle.machine_laws.proofs.TurnLemmas.{of_line as of_its_line, on_made}
use Rattle.machine_laws.proofs.WaitLaws.{events_wait}
use Rattle.call_agent.specs.Hearing.{hears}
use Rattle.agent_core.specs.declared.packet.End.{End}
use Rattle.agent_core.specs.declared.packet.End.TheVariants.{AgentEnd as agent_end, GatewayEnd as gateway_end}
use Rattle.agent_core.specs.declared.packet.Posted.{Posted}
use Rattle.agent_core.specs.World.{World, WorldStep, delivered, delivered_from, delivering, dialling, gateway_address, gateway_in, is_among, issuing, now_in, plain_world, step_refusal, steps_are_taken, ticking, to_agent, to_gateway, went, world_after, world_opening}
use Rattle.world_laws.proofs.WorldLaws.{gateway_alone, gateway_clock, gateway_taken}
use Rattle.world_laws.proofs.CourseLemmas.{AllHear, Hears}
use Rattle.world_laws.proofs.FairLaws.{taken_last}
use Rattle.world_laws.proofs.PostedLemmas.{sent_more}
use Rattle.world_laws.proofs.PostedFinal.{step_more, taken_front}
use Rattle.told_laws.proofs.LineEvents.{datagram_holds, phone_holds, tick_holds}
use Rattle.outage_laws.proofs.LineTracks.{Anytime, Behind, IsPlainResponse, LineTracks, anytime, happens_tracks, none_tracks, now_turns, rested}
use Rattle.outage_laws.proofs.PlainArrivals.{IsPlain, plain_texts}

-- Each response that comes is an answer

plain_heard : (setup : Setup) (outcome : Outcome) → IsPlain outcome → Hears setup IsPlainResponse outcome
plain_heard setup no_header plain = tt
plain_heard setup (bad_version id) plain = tt
plain_heard setup (bad_body id) plain = tt
plain_heard setup (message (messages.Command verb id name params body)) plain = tt
plain_heard setup (message (messages.Response code id params body)) plain = plain code id params body refl

texts_heard : (setup : Setup) (now : ℕ) (source : SocketAddrV4) (texts : List (List ℕ)) → Each (λ (text : List ℕ). IsPlain (read_text text)) texts
    → AllHear setup IsPlainResponse (map (arrival now source) texts)
texts_heard setup now source texts plain =
    each_mapped (λ (a : TextArrival). Hears setup IsPlainResponse a.outcome) (arrival now source) texts
    (each_weaker (λ (text : List ℕ). IsPlain (read_text text)) (λ (text : List ℕ). Hears setup IsPlainResponse (read_text text))
    (λ text is. plain_heard setup (read_text text) is) texts plain)

-- all that the line sent by now
abbrev pub line_says : Setup → ℕ → World → List Sent
line_says setup line w = of_line line (sent_of setup w.gateway_took)

module _ (setup : Setup) (line : ℕ) (some : 1 ≤ line) where
  -- where it is with what it sent behind these
  pub record TracksSince (early : List Sent) (w : World) : Type 0 where
    pub since : List Sent
    pub split : line_says setup line w ≡ early ++ since
    pub tracks : (s : Endpoint) → endpoint_at (gateway_in setup w).endpoints line ≡ Some s → LineTracks setup line (Behind (now_in setup w)) (now_in setup w) since s

  more_is : (w : World) (event : GatewayEvent) → gateway_in setup (to_gateway setup w event) ≡ (effect setup (gateway_in setup w) event).value
  more_is w event = machine_on setup (opening setup) w.gateway_took (event ∷ []) ∙ gateway_alone setup (gateway_in setup w) event

  sent_is : (w : World) (event : GatewayEvent)
      → line_says setup line (to_gateway setup w event) ≡ line_says setup line w ++ of_line line (effect setup (gateway_in setup w) event).sent
  sent_is w event =
      ap (of_line line) (sent_more setup (opening setup) w.gateway_took event) ∙ of_both line (sent_of setup w.gateway_took) (effect setup (gateway_in setup w) event).sent

  -- by the machine behind it, its clock, and what is sent
  goes : (early : List Sent) (w : World) (event : GatewayEvent) (now : ℕ) → now_in setup (to_gateway setup w event) ≡ now → (t : TracksSince early w)
      → ((s : Endpoint) → endpoint_at (effect setup (gateway_in setup w) event).value.endpoints line ≡ Some s
      → LineTracks setup line (Behind now) now (t.since ++ of_line line (effect setup (gateway_in setup w) event).sent) s)
      → TracksSince early (to_gateway setup w event)
  goes early w event now clock t holds = record {
    since = t.since ++ more;
    split = sent_is w event ∙ ap (λ (x : List Sent). x ++ more) t.split ∙ append_assoc early t.since more;
    tracks = λ s at.
        subst (λ (n : ℕ). LineTracks setup line (Behind n) n (t.since ++ more) s) (sym clock)
        (holds s (ap (λ (m : Machine). endpoint_at m.endpoints line) (sym (more_is w event)) ∙ at));
  } where
    more : List Sent
    more = of_line line (effect setup (gateway_in setup w) event).sent

  -- An event

  pub datagram_tracks : (early : List Sent) (w : World) (source : SocketAddrV4) (bytes : List ℕ) → Each (λ (text : List ℕ). IsPlain (read_text text)) (texts_of bytes) → TracksSince early w
      → TracksSince early (to_gateway setup w (datagram source bytes))
  datagram_tracks early w source bytes plain t =
      let m = gateway_in setup w in
      goes early w (datagram source bytes) (now_in setup w) (gateway_clock setup w (datagram source bytes)) t
      (datagram_holds setup line some IsPlainResponse (LineTracks setup line (Behind m.now) m.now) m (now_turns setup line m.now) t.since source bytes (events_wait setup w.gateway_took)
      (texts_heard setup m.now source (texts_of bytes) plain) t.tracks)

  pub phone_tracks : (early : List Sent) (w : World) (n : ℕ) (act : Act) → TracksSince early w → TracksSince early (to_gateway setup w (phone n act))
  phone_tracks early w n act t =
      let m = gateway_in setup w in
      goes early w (phone n act) (now_in setup w) (gateway_clock setup w (phone n act)) t
      (phone_holds setup line some IsPlainResponse (LineTracks setup line (Behind m.now) m.now) m (now_turns setup line m.now) t.since n act t.tracks)

  pub tick_tracks : (early : List Sent) (w : World) (moment : ℕ) → now_in setup w ≤ moment → TracksSince early w → TracksSince early (to_gateway setup w (tick moment))
  tick_tracks early w moment past t =
      let m = gateway_in setup w in
      goes early w (tick moment) moment (gateway_clock setup w (tick moment)) t
      (λ s at. by_rest s
      (tick_holds setup line some moment (LineTracks setup line Anytime moment) (λ sent item endpoint due by is. happens_tracks setup line moment sent item endpoint due by is) m t.since
      (λ x found. anytime setup line m.now moment t.since x past (t.tracks x found)) s at)) where
        by_rest : (s : Endpoint) → LineTracks setup line Anytime moment (t.since ++ of_line line (effect setup (gateway_in setup w) (tick moment)).sent) s × (if_by moment (due_on (line, s)) ≡ None)
            → LineTracks setup line (Behind moment) moment (t.since ++ of_line line (effect setup (gateway_in setup w) (tick moment)).sent) s
        by_rest s both = rested setup line moment (t.since ++ of_line line (effect setup (gateway_in setup w) (tick moment)).sent) s both.0 both.1

  -- A step

  module _ (set_up : IsSetUp setup) (early : List Sent) where
    step_tracks : (steps : List WorldStep) (step : WorldStep) → steps_are_taken setup world_opening steps ≡ true → step_refusal setup (plain_world setup steps) step ≡ None
        → TracksSince early (plain_world setup steps) → TracksSince early (went setup (plain_world setup steps) step)
    unfolding step_refusal went
    step_tracks steps (issuing verb name rest) taken may t = record { since = t.since; split = t.split; tracks = t.tracks }
    step_tracks steps (dialling n act) taken may t = phone_tracks early (plain_world setup steps) n act t
    step_tracks steps (ticking moment) taken may t =
        let m = gateway_in setup (plain_world setup steps) in
        let next = tick_tracks early (plain_world setup steps) moment (gateway_forward m (tick moment) (gateway_taken (refusal_of m (tick moment)) may)) t in
        record { since = next.since; split = next.split; tracks = next.tracks }
    step_tracks steps (delivering number) taken may t = by_post (slice_get (plain_world setup steps).posted number) refl where
      w : World
      w = plain_world setup steps

      by_gateway : (post : Posted) → slice_get w.posted number ≡ Some post → post.end ≡ agent_end → (b : Bool)
          → TracksSince early (if b then to_gateway setup w (datagram post.packet.sender post.packet.bytes) else w)
      by_gateway post found from true = datagram_tracks early w post.packet.sender post.packet.bytes (plain_texts setup set_up steps number post taken found from) t
      by_gateway post found from false = t

      by_agent : (post : Posted) (b : Bool) → TracksSince early (if b then to_agent setup w (hears (datagram post.packet.sender post.packet.bytes)) else w)
      by_agent post true = record { since = t.since; split = t.split; tracks = t.tracks }
      by_agent post false = t

      by_end : (post : Posted) → slice_get w.posted number ≡ Some post → (end : End) → post.end ≡ end → TracksSince early (delivered_from end setup w post.packet)
      by_end post found agent_end from = by_gateway post found from (same_address post.packet.to (gateway_address setup))
      by_end post found gateway_end from = by_agent post (is_among setup.agent.route post.packet.to)

      by_post : (found : Option Posted) → slice_get w.posted number ≡ found → TracksSince early (delivered found setup w)
      by_post None none = t
      by_post (Some post) found = by_end post found post.end refl

    pub steps_track : (before rest : List WorldStep) → steps_are_taken setup world_opening (before ++ rest) ≡ true → TracksSince early (plain_world setup before)
        → TracksSince early (plain_world setup (before ++ rest))
    steps_track before [] taken t = subst (λ (x : List WorldStep). TracksSince early (plain_world setup x)) (sym (append-nil before)) t
    steps_track before (step ∷ rest) taken t =
        let order : (before ++ step ∷ []) ++ rest ≡ before ++ step ∷ rest = append_assoc before (step ∷ []) rest in
        let taken_on : steps_are_taken setup world_opening ((before ++ step ∷ []) ++ rest) ≡ true = subst (λ (x : List WorldStep). steps_are_taken setup world_opening x ≡ true) (sym order) taken in
        let here : steps_are_taken setup world_opening (before ++ step ∷ []) ≡ true = taken_front setup world_opening (before ++ step ∷ []) rest taken_on in
        subst (λ (x : List WorldStep). TracksSince early (plain_world setup x)) order
        (steps_track (before ++ step ∷ []) rest taken_on
        (subst (TracksSince early) (sym (step_more setup before step))
        (step_tracks before step (taken_front setup world_opening before (step ∷ []) here) (taken_last setup world_opening before step here) t)))

  pub opening_is : TracksSince [] (plain_world setup [])
  unfolding world_after machine_after sent_from
  opening_is = record {
    since = [];
    split = refl;
    tracks = λ s at.
        of_its_line (λ n endpoint. LineTracks setup line (Behind 0) 0 [] endpoint) (opening setup).endpoints line s
        (on_made (λ n endpoint. LineTracks setup line (Behind 0) 0 [] endpoint) (opening_endpoint setup) 1 setup.names.lines
        (λ i low high. none_tracks setup line 0 (opening_endpoint setup i) refl refl)) at;
  }

  -- from the opening on
  pub tracks_at : IsSetUp setup → (steps : List WorldStep) → steps_are_taken setup world_opening steps ≡ true → (s : Endpoint)
      → endpoint_at (gateway_in setup (plain_world setup steps)).endpoints line ≡ Some s
      → LineTracks setup line (Behind (now_in setup (plain_world setup steps))) (now_in setup (plain_world setup steps)) (line_says setup line (plain_world setup steps)) s
  tracks_at set_up steps taken s at =
      let t = steps_track set_up [] [] steps taken opening_is in
      subst (λ (x : List Sent). LineTracks setup line (Behind (now_in setup (plain_world setup steps))) (now_in setup (plain_world setup steps)) x s) (sym t.split) (t.tracks s at)

  -- from a front on, at which it has nothing in flight and nothing to announce
  pub tracks_from : IsSetUp setup → (before rest : List WorldStep) → steps_are_taken setup world_opening (before ++ rest) ≡ true
      → ((s : Endpoint) → endpoint_at (gateway_in setup (plain_world setup before)).endpoints line ≡ Some s
      → LineTracks setup line (Behind (now_in setup (plain_world setup before))) (now_in setup (plain_world setup before)) [] s)
      → TracksSince (line_says setup line (plain_world setup before)) (plain_world setup (before ++ rest))
  tracks_from set_up before rest taken begins =
      steps_track set_up (line_says setup line (plain_world setup before)) before rest taken
      (record { since = []; split = sym (append-nil (line_says setup line (plain_world setup before))); tracks = begins })
