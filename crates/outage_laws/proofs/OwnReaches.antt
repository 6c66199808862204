-- In a world all that a gateway announces of itself goes to its agent: no response there redirects it.
use Rattle.std.proofs.Common.{◌≡◌, ℕ, Bool, true, false, if◌then◌else◌, List, [], ◌∷◌, ◌++◌, map, flat_map, Option, Some, None, inl, inr, refl, sym, ap, ◌∙◌, subst, append-nil, append_assoc}
use Rattle.std.specs.Prelude.{◌⊎◌, IfSome, slice_get}
use Rattle.std.proofs.lemmas.Bool.{eqb-true}
use Rattle.std.specs.declared.net.socket_addr.SocketAddrV4.{SocketAddrV4}
use Rattle.mgcp_text.specs.declared.message.Message.TheVariants as messages
use Rattle.mgcp_text.specs.Reading.{read_text}
use Rattle.mgcp_text.proofs.RoundLaws.{read_again}
use Rattle.endpoint_names.specs.declared.route.Route.{Route}
use Rattle.endpoint_names.specs.Route.{at}
use Rattle.retransmission.specs.Issued.{is_command_as}
use Rattle.transmission.specs.declared.output.OutDatagram.{OutDatagram}
use Rattle.transmission.specs.Packing.{messages_in, packed, same_address}
use Rattle.transmission.specs.Texts.{texts_of}
use Rattle.transmission.proofs.PackingLaws.{IsMessage, packed_messages}
use Rattle.plain_machine.specs.declared.setup.Setup.{Setup}
use Rattle.plain_machine.specs.Effect.{Effect}
use Rattle.plain_machine.specs.Event.{GatewayEvent, datagram, phone, tick}
use Rattle.plain_machine.specs.Happening.{effect}
use Rattle.plain_machine.specs.Lists.{machine_after, sent_of, plain, sent_from}
use Rattle.plain_machine.specs.Machine.{Machine, opening}
use Rattle.plain_machine.specs.Message.{Begun, Owner, Said, Sent, acknowledgement, again, answer, command, datagram_of, datagrams_of, own_of, resent, text_of}
use Rattle.plain_machine.specs.Packing.{put_out}
use Rattle.plain_machine.specs.Posting.{line_of_id}
use Rattle.plain_machine.specs.Setup.{IsSetUp}
use Rattle.plain_machine.proofs.ListLaws.{machine_on}
use Rattle.machine_laws.specs.Belonging.{is_of, of_line}
use Rattle.machine_laws.specs.Saying.{OneOf, begun_at, begun_by, begun_in}
use Rattle.machine_laws.proofs.CommandLaws.{IsOut}
use Rattle.machine_laws.proofs.EachLemmas.{Each, all_from_each, each_at, each_both, each_from_all, each_mapped, each_unflat, each_unmapped, each_weaker, one_from_any, one_of_each, one_to, one_before, one_behind}
use Rattle.machine_laws.proofs.MessageLaws.{event_goes}
use Rattle.call_agent.specs.Hearing.{AgentEvent, agent_effect, hears, issues}
use Rattle.agent_core.specs.declared.packet.End.{End}
use Rattle.agent_core.specs.declared.packet.End.TheVariants.{AgentEnd as agent_end, GatewayEnd as gateway_end}
use Rattle.agent_core.specs.declared.packet.Packet.{Packet}
use Rattle.agent_core.specs.declared.packet.Posted.{Posted}
use Rattle.agent_core.specs.World.{World, WorldStep, agent_in, agent_of, delivered, delivered_from, delivering, dialling, gateway_address, gateway_in, is_among, issuing, plain_world, posted_as, steps_are_taken, ticking, to_agent, to_gateway, went, world_after, world_opening}
use Rattle.world_laws.proofs.AgentLaws.{Goes}
use Rattle.world_laws.proofs.LinkLaws.{Linked, world_linked}
use Rattle.world_laws.proofs.WorldLaws.{gateway_alone, texts_hold}
use Rattle.world_laws.specs.Fairness.{GoesToAgent}
use Rattle.world_laws.specs.OwnChances.{IsOfLine}
use Rattle.world_laws.proofs.LookLemmas.{one_parted}
use Rattle.world_laws.proofs.PostedFinal.{agent_sender, first_among, step_more, taken_front, agent_grows}
use Rattle.world_laws.proofs.WellLemmas.{IsWell, SaysWell, sent_well}
use Rattle.outage_laws.proofs.LineTexts.{IsLines, IsLinesOr, IsTextOf, act_lines, datagram_or, plain_stands, tick_lines}
use Rattle.outage_laws.proofs.OwnRoutes.{IsAmong, OwnFits, OwnGoes, act_goes, datagram_goes, each_goes, tick_goes}
use Rattle.outage_laws.proofs.PlainArrivals.{plain_texts}
use Rattle.machine_laws.proofs.GatewayEvents.{GatewayHolds}
use Rattle.machine_laws.proofs.OwningLemmas.{of_both}
use Rattle.world_laws.specs.Reached.{own_in}
use Rattle.world_laws.proofs.PostedLemmas.{HasText, SaysAt, says_out, sent_more}
use Rattle.world_laws.proofs.RoundLaws.{sent_on}
use Rattle.outage_laws.proofs.LineTrackLaws.{line_says}
use Rattle.machine_laws.proofs.PostLogs.{same_command}
use Rattle.world_laws.proofs.FairLaws.{one_id}

module _ (agent : Route SocketAddrV4) where
  -- the text of a command of the gateway itself goes to the agent
  abbrev pub TextGoes : SocketAddrV4 → List ℕ → Type 0
  TextGoes to text = (id : ℕ) (name : List ℕ) → is_command_as id name (read_text text) ≡ true → line_of_id id ≡ 0 → IsAmong agent to

  pub sent_goes : (one : Sent) → IsLines one ⊎ IsAmong agent one.to → OwnGoes agent one → TextGoes one.to (text_of one.said)
  sent_goes one (inr among) goes = λ id name reads own. among
  sent_goes one (inl lines) goes = λ id name reads own.
      goes (lines.owned ∙ ap own_of (sym lines.says.of ∙ ap line_of_id (one_id lines.says.id id lines.says.name name (read_text (text_of one.said)) lines.says.reads reads) ∙ own))

  abbrev OutGoes : OutDatagram → Type 0
  OutGoes out = TextGoes out.to out.bytes

  -- packed, each text still does
  packed_go : (messages : List OutDatagram) → Each (λ (out : OutDatagram). Goes out.bytes) messages → Each OutGoes messages
      → Each (λ (out : OutDatagram). Each (TextGoes out.to) (texts_of out.bytes)) (packed messages)
  packed_go messages goes says =
      let apart : flat_map messages_in (packed messages) ≡ messages = packed_messages messages (all_from_each IsMessage messages goes) in
      let inside : Each OutGoes (flat_map messages_in (packed messages)) = subst (Each OutGoes) (sym apart) says in
      each_weaker (λ (out : OutDatagram). Each OutGoes (messages_in out)) (λ (out : OutDatagram). Each (TextGoes out.to) (texts_of out.bytes))
      (λ out each. texts_hold (TextGoes out.to) out.bytes (each_unmapped OutGoes (λ text. record out { bytes = text }) _ each))
      (packed messages) (each_unflat OutGoes messages_in (packed messages) inside)

  abbrev PostGoes : End → Packet → Type 0
  PostGoes gateway_end packet = Each (TextGoes packet.to) (texts_of packet.bytes)
  PostGoes agent_end packet = Unit {0}

  abbrev pub Reaches : Posted → Type 0
  Reaches post = PostGoes post.end post.packet

  agent_reaches : (from : SocketAddrV4) (outs : List OutDatagram) → Each Reaches (map (posted_as agent_end from) outs)
  agent_reaches from [] = tt
  agent_reaches from (out ∷ outs) = (tt, agent_reaches from outs)

-- A world

pub record AllReach (setup : Setup) (w : World) : Type 0 where
  pub fits : OwnFits setup.agent.route (gateway_in setup w).endpoints.own
  pub posted : Each (Reaches setup.agent.route) w.posted

abbrev EventGoes : Setup → Effect Machine → Type 0
EventGoes setup is = OwnFits setup.agent.route is.value.endpoints.own × Each (OwnGoes setup.agent.route) (of_line 0 is.sent)

abbrev pub SaysSo : Setup → Sent → Type 0
SaysSo setup one = IsLines one ⊎ IsAmong setup.agent.route one.to

to_agent_reaches : (setup : Setup) (w : World) (event : AgentEvent) → AllReach setup w → AllReach setup (to_agent setup w event)
to_agent_reaches setup w event all = record {
  fits = all.fits;
  posted = each_both (Reaches setup.agent.route) w.posted _ all.posted
      (agent_reaches setup.agent.route (at setup.agent.route 0) (packed (agent_effect (agent_of setup) (agent_in setup w) event).sent));
}

to_gateway_reaches : (setup : Setup) (w : World) (event : GatewayEvent) → Linked setup w → EventGoes setup (effect setup (gateway_in setup w) event)
    → Each (SaysSo setup) (effect setup (gateway_in setup w) event).sent → AllReach setup w → AllReach setup (to_gateway setup w event)
to_gateway_reaches setup w event l goes says all = record {
  fits = subst (λ (m : Machine). OwnFits route m.endpoints.own) (sym (machine_on setup (opening setup) w.gateway_took (event ∷ []) ∙ gateway_alone setup g event)) goes.0;
  posted = each_both (Reaches route) w.posted _ all.posted
      (each_mapped (Reaches route) (posted_as gateway_end (gateway_address setup)) (put_out sent)
      (packed_go route (datagrams_of sent)
      (each_mapped (λ (out : OutDatagram). Goes out.bytes) datagram_of sent (each_from_all IsOut sent (event_goes setup g event l.links.gateway.fits l.links.gateway.kept).sent))
      (each_mapped (λ (out : OutDatagram). TextGoes route out.to out.bytes) datagram_of sent (each_go sent says (each_goes route sent goes.1)))));
} where
  route : Route SocketAddrV4
  route = setup.agent.route

  g : Machine
  g = gateway_in setup w

  sent : List Sent
  sent = (effect setup g event).sent

  each_go : (some : List Sent) → Each (SaysSo setup) some → Each (OwnGoes route) some → Each (λ (one : Sent). TextGoes route one.to (text_of one.said)) some
  each_go [] says goes = tt
  each_go (one ∷ some) says goes = (sent_goes route one says.0 goes.0, each_go some says.1 goes.1)

module _ (setup : Setup) (set_up : IsSetUp setup) where
  abbrev route : Route SocketAddrV4
  route = setup.agent.route

  pub by_lines : (sent : List Sent) → Each IsLines sent → Each (SaysSo setup) sent
  by_lines sent all = each_weaker IsLines (SaysSo setup) (λ one is. inl is) sent all

  pub by_source : (source : SocketAddrV4) (sent : List Sent) → IsAmong route source → Each (IsLinesOr setup set_up source) sent → Each (SaysSo setup) sent
  by_source source sent among all = each_weaker (IsLinesOr setup set_up source) (SaysSo setup) one_so sent all where
    one_so : (one : Sent) → IsLinesOr setup set_up source one → SaysSo setup one
    one_so one (inl is) = inl is
    one_so one (inr same) = inr (subst (IsAmong route) (sym same) among)

  delivered_reaches : (steps : List WorldStep) (number : ℕ) (post : Posted) → steps_are_taken setup world_opening steps ≡ true
      → slice_get (plain_world setup steps).posted number ≡ Some post → AllReach setup (plain_world setup steps)
      → AllReach setup (delivered_from post.end setup (plain_world setup steps) post.packet)
  delivered_reaches steps number post taken found all = by_end post.end refl where
    w : World
    w = plain_world setup steps

    g : Machine
    g = gateway_in setup w

    source : SocketAddrV4
    source = post.packet.sender

    event : GatewayEvent
    event = datagram post.packet.sender post.packet.bytes

    by_gateway : (b : Bool) → post.end ≡ agent_end → AllReach setup (if b then to_gateway setup w event else w)
    by_gateway true from =
        to_gateway_reaches setup w event (world_linked setup steps set_up taken)
        (datagram_goes route setup g source post.packet.bytes (plain_texts setup set_up steps number post taken found from) all.fits)
        (by_source source (effect setup g event).sent
        (subst (IsAmong route) (sym (agent_sender setup steps number post found from)) (first_among route))
        (each_from_all (IsLinesOr setup set_up source) (effect setup g event).sent (datagram_or setup set_up g source post.packet.bytes (plain_stands setup set_up w.gateway_took)))) all
    by_gateway false from = all

    by_agent : (b : Bool) → AllReach setup (if b then to_agent setup w (hears (datagram post.packet.sender post.packet.bytes)) else w)
    by_agent true = to_agent_reaches setup w (hears (datagram post.packet.sender post.packet.bytes)) all
    by_agent false = all

    by_end : (end : End) → post.end ≡ end → AllReach setup (delivered_from end setup w post.packet)
    by_end agent_end from = by_gateway (same_address post.packet.to (gateway_address setup)) from
    by_end gateway_end from = by_agent (is_among setup.agent.route post.packet.to)

  step_reaches : (steps : List WorldStep) (step : WorldStep) → steps_are_taken setup world_opening steps ≡ true → AllReach setup (plain_world setup steps)
      → AllReach setup (went setup (plain_world setup steps) step)
  unfolding went
  step_reaches steps (issuing verb name rest) taken all = to_agent_reaches setup (plain_world setup steps) (issues verb name rest) all
  step_reaches steps (dialling line act) taken all =
      let w = plain_world setup steps in
      let g = gateway_in setup w in
      to_gateway_reaches setup w (phone line act) (world_linked setup steps set_up taken) (act_goes route setup g line act all.fits)
      (by_lines (effect setup g (phone line act)).sent
      (each_from_all IsLines (effect setup g (phone line act)).sent (act_lines setup set_up g line act (plain_stands setup set_up w.gateway_took)))) all
  step_reaches steps (ticking moment) taken all =
      let w = plain_world setup steps in
      let g = gateway_in setup w in
      to_agent_reaches setup (to_gateway setup w (tick moment)) (hears (tick moment))
      (to_gateway_reaches setup w (tick moment) (world_linked setup steps set_up taken) (tick_goes route setup g moment all.fits)
      (by_lines (effect setup g (tick moment)).sent
      (each_from_all IsLines (effect setup g (tick moment)).sent (tick_lines setup set_up g moment (plain_stands setup set_up w.gateway_took)))) all)
  step_reaches steps (delivering number) taken all = by_post (slice_get (plain_world setup steps).posted number) refl where
    by_post : (found : Option Posted) → slice_get (plain_world setup steps).posted number ≡ found → AllReach setup (delivered found setup (plain_world setup steps))
    by_post None none = all
    by_post (Some post) found = delivered_reaches steps number post taken found all

  steps_reach : (before rest : List WorldStep) → steps_are_taken setup world_opening (before ++ rest) ≡ true → AllReach setup (plain_world setup before)
      → AllReach setup (plain_world setup (before ++ rest))
  steps_reach before [] taken all = subst (λ (s : List WorldStep). AllReach setup (plain_world setup s)) (sym (append-nil before)) all
  steps_reach before (step ∷ rest) taken all =
      let order : (before ++ step ∷ []) ++ rest ≡ before ++ step ∷ rest = append_assoc before (step ∷ []) rest in
      subst (λ (s : List WorldStep). AllReach setup (plain_world setup s)) order
      (steps_reach (before ++ step ∷ []) rest (subst (λ (s : List WorldStep). steps_are_taken setup world_opening s ≡ true) (sym order) taken)
      (subst (AllReach setup) (sym (step_more setup before step)) (step_reaches before step (taken_front setup world_opening before (step ∷ rest) taken) all)))

  opening_reaches : AllReach setup (plain_world setup [])
  unfolding world_after machine_after
  opening_reaches = record { fits = record { free = λ serving. refl; flight = tt; entity = λ none. refl }; posted = tt }

  -- What begins of the gateway itself

  module _ (b : Begun) where
    own_said : (owner : Owner) (said : Said) (moment : ℕ) → is_of 0 owner ≡ true → SaysWell setup owner said → OneOf (λ (x : Begun). x ≡ b) (begun_by moment said) → IsTextOf 0 b.text
    own_said owner (command (messages.Command verb id name params body)) moment mine well (inl is) =
        subst (λ (x : Begun). IsTextOf 0 x.text) is (record {
          id = id;
          name = name;
          reads = ap (is_command_as id name) (read_again (messages.Command verb id name params body) well.writable) ∙ same_command id name;
          of = well.id_of ∙ eqb-true well.line 0 (sym (ap (is_of 0) well.owned) ∙ mine);
        })
    own_said owner (command (messages.Command verb id name params body)) moment mine well (inr none) = absurd none
    own_said owner (command (messages.Response code id params body)) moment mine well none = absurd none
    own_said owner (answer response) moment mine well none = absurd none
    own_said owner (again id text) moment mine well none = absurd none
    own_said owner (resent flight) moment mine well none = absurd none
    own_said owner (acknowledgement response) moment mine well none = absurd none

    pub own_text : (sent : List Sent) → Each (IsWell setup) sent → OneOf (λ (x : Begun). x ≡ b) (begun_in (of_line 0 sent)) → IsTextOf 0 b.text
    own_text [] well began = absurd began
    own_text (one ∷ sent) well began = by_test (is_of 0 one.owner) refl began (λ there. own_text sent well.1 there) where
      by_part : is_of 0 one.owner ≡ true → OneOf (λ (x : Begun). x ≡ b) (begun_at one) ⊎ OneOf (λ (x : Begun). x ≡ b) (begun_in (of_line 0 sent))
          → (OneOf (λ (x : Begun). x ≡ b) (begun_in (of_line 0 sent)) → IsTextOf 0 b.text) → IsTextOf 0 b.text
      by_part mine (inl here) on = own_said one.owner one.said one.moment mine well.0 here
      by_part mine (inr there) on = on there

      by_test : (t : Bool) → is_of 0 one.owner ≡ t → OneOf (λ (x : Begun). x ≡ b) (begun_in (if t then one ∷ of_line 0 sent else of_line 0 sent))
          → (OneOf (λ (x : Begun). x ≡ b) (begun_in (of_line 0 sent)) → IsTextOf 0 b.text) → IsTextOf 0 b.text
      by_test true mine some on = by_part mine (one_parted (λ (x : Begun). x ≡ b) (begun_at one) (begun_in (of_line 0 sent)) some) on
      by_test false not some on = on some

  -- so it goes to the agent, each time
  pub own_reaches : (steps : List WorldStep) (b : Begun) → steps_are_taken setup world_opening steps ≡ true → IsOfLine setup (plain_world setup steps) 0 b
      → GoesToAgent setup (plain_world setup steps) b.text
  own_reaches steps b taken of number post found from inside = by_text (texts_of post.packet.bytes) goes inside_one where
    w : World
    w = plain_world setup steps

    all : AllReach setup w
    all = steps_reach [] steps taken opening_reaches

    here : Reaches route post
    here = subst (λ (o : Option Posted). IfSome o (Reaches route)) found (each_at (Reaches route) w.posted number all.posted)

    goes : Each (TextGoes route post.packet.to) (texts_of post.packet.bytes)
    goes = subst (λ (end : End). PostGoes route end post.packet) from here

    inside_one : OneOf (λ (one : List ℕ). one ≡ b.text) (texts_of post.packet.bytes)
    inside_one = one_from_any (λ (one : List ℕ). one ≡ b.text) (texts_of post.packet.bytes) inside

    is : IsTextOf 0 b.text
    is =
        own_text b (sent_of setup w.gateway_took) (each_from_all (IsWell setup) (sent_of setup w.gateway_took) (sent_well setup set_up w.gateway_took))
        (one_from_any (λ (one : Begun). one ≡ b) (begun_in (of_line 0 (sent_of setup w.gateway_took))) of)

    by_text : (texts : List (List ℕ)) → Each (TextGoes route post.packet.to) texts → OneOf (λ (one : List ℕ). one ≡ b.text) texts → is_among route post.packet.to ≡ true
    by_text texts each one =
        one_to (λ (text : List ℕ). TextGoes route post.packet.to text × (text ≡ b.text)) (is_among route post.packet.to ≡ true)
        (λ text both. both.0 is.id is.name (ap (λ (t : List ℕ). is_command_as is.id is.name (read_text t)) both.1 ∙ is.reads) is.of) texts
        (one_of_each (TextGoes route post.packet.to) (λ (text : List ℕ). text ≡ b.text) texts each one)

-- What the gateway of a world says since a front of its steps is posted since.

module _ (setup : Setup) where
  -- what the gateway took and what was posted since, and all that it said since among that
  pub record PostsSince (w next : World) : Type 0 where
    pub events : List GatewayEvent
    pub took : next.gateway_took ≡ w.gateway_took ++ events
    pub more : List Posted
    pub posted : next.posted ≡ w.posted ++ more
    pub all : (text : List ℕ) (moment : ℕ) → OneOf (SaysAt text moment) (sent_from setup (gateway_in setup w) events) → OneOf (HasText text moment) more

  gateway_posts : (w next : World) (event : GatewayEvent) → GatewayHolds setup (own_in setup next) (gateway_in setup next) → PostsSince w next → PostsSince w (to_gateway setup next event)
  gateway_posts w next event holds p = record {
    events = p.events ++ event ∷ [];
    took = ap (λ (x : List GatewayEvent). x ++ event ∷ []) p.took ∙ append_assoc w.gateway_took p.events (event ∷ []);
    more = p.more ++ new;
    posted = ap (λ (x : List Posted). x ++ new) p.posted ∙ append_assoc w.posted p.more new;
    all = λ text moment said. by_part text moment (one_parted (SaysAt text moment) (sent_from setup (gateway_in setup w) p.events) sent (subst (OneOf (SaysAt text moment)) is_said said));
  } where
    sent : List Sent
    sent = (effect setup (gateway_in setup next) event).sent

    new : List Posted
    new = map (posted_as gateway_end (gateway_address setup)) (put_out sent)

    there : machine_after setup (gateway_in setup w) p.events ≡ gateway_in setup next
    there = sym (machine_on setup (opening setup) w.gateway_took p.events) ∙ ap (plain setup) (sym p.took)

    is_said : sent_from setup (gateway_in setup w) (p.events ++ event ∷ []) ≡ sent_from setup (gateway_in setup w) p.events ++ sent
    is_said =
        sent_more setup (gateway_in setup w) p.events event
        ∙ ap (λ (m : Machine). sent_from setup (gateway_in setup w) p.events ++ (effect setup m event).sent) there

    by_part : (text : List ℕ) (moment : ℕ) → OneOf (SaysAt text moment) (sent_from setup (gateway_in setup w) p.events) ⊎ OneOf (SaysAt text moment) sent
        → OneOf (HasText text moment) (p.more ++ new)
    by_part text moment (inl before) = one_before (HasText text moment) p.more new (p.all text moment before)
    by_part text moment (inr now) =
        one_behind (HasText text moment) p.more new (says_out setup sent (event_goes setup (gateway_in setup next) event holds.fits holds.kept).sent text moment now)

  agent_posts : (w next : World) (event : AgentEvent) → PostsSince w next → PostsSince w (to_agent setup next event)
  agent_posts w next event p =
      let grows = agent_grows setup 0 next event in record {
        events = p.events;
        took = p.took;
        more = p.more ++ grows.more;
        posted = grows.posted ∙ ap (λ (x : List Posted). x ++ grows.more) p.posted ∙ append_assoc w.posted p.more grows.more;
        all = λ text moment said. one_before (HasText text moment) p.more grows.more (p.all text moment said);
      }

  delivered_posts : (w next : World) (end : End) (packet : Packet) → GatewayHolds setup (own_in setup next) (gateway_in setup next) → PostsSince w next
      → PostsSince w (delivered_from end setup next packet)
  delivered_posts w next agent_end packet holds p = by_test (same_address packet.to (gateway_address setup)) where
    by_test : (x : Bool) → PostsSince w (if x then to_gateway setup next (datagram packet.sender packet.bytes) else next)
    by_test true = gateway_posts w next (datagram packet.sender packet.bytes) holds p
    by_test false = p
  delivered_posts w next gateway_end packet holds p = by_test (is_among setup.agent.route packet.to) where
    by_test : (x : Bool) → PostsSince w (if x then to_agent setup next (hears (datagram packet.sender packet.bytes)) else next)
    by_test true = agent_posts w next (hears (datagram packet.sender packet.bytes)) p
    by_test false = p

  step_posts : (w next : World) (step : WorldStep) → GatewayHolds setup (own_in setup next) (gateway_in setup next) → PostsSince w next → PostsSince w (went setup next step)
  unfolding went
  step_posts w next (issuing verb name rest) holds p = agent_posts w next (issues verb name rest) p
  step_posts w next (dialling line act) holds p = gateway_posts w next (phone line act) holds p
  step_posts w next (ticking moment) holds p = agent_posts w (to_gateway setup next (tick moment)) (hears (tick moment)) (gateway_posts w next (tick moment) holds p)
  step_posts w next (delivering number) holds p = by_post (slice_get next.posted number) where
    by_post : (found : Option Posted) → PostsSince w (delivered found setup next)
    by_post None = p
    by_post (Some post) = delivered_posts w next post.end post.packet holds p

  module _ (set_up : IsSetUp setup) (w : World) where
    steps_post : (before rest : List WorldStep) → steps_are_taken setup world_opening (before ++ rest) ≡ true → PostsSince w (plain_world setup before) → PostsSince w (plain_world setup (before ++ rest))
    steps_post before [] taken p = subst (λ (x : List WorldStep). PostsSince w (plain_world setup x)) (sym (append-nil before)) p
    steps_post before (step ∷ rest) taken p =
        let order : (before ++ step ∷ []) ++ rest ≡ before ++ step ∷ rest = append_assoc before (step ∷ []) rest in
        let taken_on : steps_are_taken setup world_opening ((before ++ step ∷ []) ++ rest) ≡ true = subst (λ (x : List WorldStep). steps_are_taken setup world_opening x ≡ true) (sym order) taken in
        let first : steps_are_taken setup world_opening before ≡ true = taken_front setup world_opening before (step ∷ rest) taken in
        subst (λ (x : List WorldStep). PostsSince w (plain_world setup x)) order
        (steps_post (before ++ step ∷ []) rest taken_on
        (subst (PostsSince w) (sym (step_more setup before step)) (step_posts w (plain_world setup before) step (world_linked setup before set_up first).links.gateway p)))

  none_since : (w : World) → PostsSince w w
  unfolding sent_from
  none_since w = record {
    events = [];
    took = sym (append-nil w.gateway_took);
    more = [];
    posted = sym (append-nil w.posted);
    all = λ text moment said. absurd said;
  }

  pub posts_since : IsSetUp setup → (before rest : List WorldStep) → steps_are_taken setup world_opening (before ++ rest) ≡ true
      → PostsSince (plain_world setup before) (plain_world setup (before ++ rest))
  posts_since set_up before rest taken = steps_post set_up (plain_world setup before) before rest taken (none_since (plain_world setup before))

  -- of a line: what it said since stands behind what it said before
  pub line_since : (line : ℕ) (w next : World) (p : PostsSince w next)
      → line_says setup line next ≡ line_says setup line w ++ of_line line (sent_from setup (gateway_in setup w) p.events)
  line_since line w next p =
      ap (λ (x : List GatewayEvent). of_line line (sent_of setup x)) p.took
      ∙ ap (of_line line) (sent_on setup (opening setup) w.gateway_took p.events)
      ∙ of_both line (sent_of setup w.gateway_took) (sent_from setup (gateway_in setup w) p.events)
