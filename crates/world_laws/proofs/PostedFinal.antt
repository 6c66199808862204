-- In a world each response that the gateway posts is final, and each that the agent posts is so and not 521: no response asks for an
-- acknowledgement, so none is ever sent (RFC 3435, 2.4 and 3.5.6).
use Rattle.std.proofs.Common.{◌≡◌, ℕ, Bool, true, false, if◌then◌else◌, List, [], ◌∷◌, map, Option, Some, None, inl, refl, subst, ◌≤◌, ◌++◌, sym, ap, ◌∙◌, ◌==◌, inr, append-nil, append_assoc}
use Rattle.std.specs.Prelude.{IfSome, slice_get, Any, is_none, find}
use Rattle.std.specs.List.{list_any}
use Rattle.std.proofs.lemmas.Bool.{eq-eqb, and_parts, eqb-false}
use Rattle.std.proofs.lemmas.List.Folds.{list_any-from_Any}
use Rattle.std.proofs.lemmas.Slice.Eq.{bytes_eq-Decides}
use Rattle.std.specs.declared.net.socket_addr.SocketAddrV4.{SocketAddrV4}
use Rattle.endpoint_names.specs.declared.route.Route.{Route}
use Rattle.endpoint_names.specs.declared.route.Route.TheVariants.{One, Two, Three, Four}
use Rattle.endpoint_names.specs.Route.{at}
use Rattle.transmission.specs.declared.output.OutDatagram.{OutDatagram}
use Rattle.transmission.specs.Packing.{packed, same_address}
use Rattle.plain_machine.specs.declared.setup.Setup.{Setup}
use Rattle.plain_machine.specs.Event.{GatewayEvent, datagram, phone, tick}
use Rattle.plain_machine.specs.Happening.{effect}
use Rattle.plain_machine.specs.Packing.{put_out}
use Rattle.machine_laws.proofs.EachLemmas.{Each, any_from_one, each_at, each_both, each_from_all, each_mapped, each_weaker, is_none-None, one_from_any, one_of_each, one_to, one_before}
use Rattle.call_agent.specs.Hearing.{AgentEvent, agent_effect, hears, issues, agent_refusal, issued_with}
use Rattle.agent_core.specs.declared.packet.End.{End}
use Rattle.agent_core.specs.declared.packet.End.TheVariants.{AgentEnd as agent_end, GatewayEnd as gateway_end}
use Rattle.agent_core.specs.declared.packet.Packet.{Packet}
use Rattle.agent_core.specs.declared.packet.Posted.{Posted}
use Rattle.agent_core.specs.World.{World, WorldStep, agent_in, agent_of, delivered, delivered_from, delivering, dialling, gateway_address, gateway_in, is_among, issuing, plain_world, posted_as, ticking, to_agent, to_gateway, went, world_after, world_opening, now_in, step_refusal, steps_are_taken}
use Rattle.mgcp_text.specs.Reading.{read_text}
use Rattle.transmission.specs.declared.entry.KeptFirst.{KeptFirst}
use Rattle.transmission.specs.Kept.{firsts_in}
use Rattle.transmission.specs.Texts.{texts_of}
use Rattle.plain_machine.specs.Setup.{IsSetUp}
use Rattle.plain_machine.specs.Machine.{Machine, opening}
use Rattle.plain_machine.specs.Message.{Begun, Sent, datagram_of, datagrams_of}
use Rattle.plain_machine.specs.Refusing.{refusal_of, tick_refusal}
use Rattle.plain_machine.proofs.ListLaws.{machine_on}
use Rattle.plain_machine.specs.Lists.{machine_after}
use Rattle.machine_laws.specs.Saying.{begun_in, OneOf}
use Rattle.machine_laws.proofs.CommandLaws.{IsOut}
use Rattle.machine_laws.proofs.GatewayEvents.{EventGoes, Said, event_holds}
use Rattle.machine_laws.proofs.MessageLaws.{event_goes}
use Rattle.call_agent.specs.Agent.{AgentMachine, FinalAnswer, agent_opening}
use Rattle.call_agent.proofs.EventLemmas.{agent_clock, after_on}
use Rattle.world_laws.specs.Reached.{issued_in, own_in}
use Rattle.world_laws.proofs.AgentLaws.{AgentGoesOn, Goes, Holds, Speaks, event_on, never, tick_taken, alone, issued_more}
use Rattle.world_laws.proofs.LinkLaws.{Linked, opening_linked, step_links, never_refused}
use Rattle.world_laws.proofs.WorldLaws.{Holding, agent_taken, gateway_alone, gateway_taken, packed_hold, step_sound, tick_is}
use Rattle.world_laws.specs.Copies.{IsFinal, IsCopy, HasAnswer, IsPlainAnswer}
use Rattle.world_laws.proofs.QuietLemmas.{IsPlainText, OutPlain, agent_plain, event_says, texts_heard}
use Rattle.world_laws.proofs.SaidFinal.{AreFinal, AskNothing, EventSays, IsSaid, SaysFinal, event_final, texts_with}
use Rattle.world_laws.proofs.UnaskedLemmas.{AsksNothing}
use Rattle.world_laws.proofs.AnswersOnce.{answers_stay}
use Rattle.world_laws.proofs.LookLemmas.{found_before}
use Rattle.machine_laws.proofs.FitLemmas.{each_two as each_pair}
use Rattle.world_laws.proofs.FrontLemmas.{both_are as and_from}

-- What an agent of a world posts comes from its first address, and that is one of its addresses.

abbrev pub ComesFrom : Setup → End → Packet → Type 0
ComesFrom setup agent_end packet = packet.sender ≡ at setup.agent.route 0
ComesFrom setup gateway_end packet = packet.sender ≡ gateway_address setup

abbrev pub Comes : Setup → Posted → Type 0
Comes setup post = ComesFrom setup post.end post.packet

gateway_posts : (setup : Setup) (outs : List OutDatagram) → Each (Comes setup) (map (posted_as gateway_end (gateway_address setup)) outs)
gateway_posts setup [] = tt
gateway_posts setup (out ∷ outs) = (refl, gateway_posts setup outs)

agent_posts : (setup : Setup) (outs : List OutDatagram) → Each (Comes setup) (map (posted_as agent_end (at setup.agent.route 0)) outs)
agent_posts setup [] = tt
agent_posts setup (out ∷ outs) = (refl, agent_posts setup outs)

abbrev AllCome : Setup → World → Type 0
AllCome setup w = Each (Comes setup) w.posted

gateway_comes : (setup : Setup) (w : World) (event : GatewayEvent) → AllCome setup w → AllCome setup (to_gateway setup w event)
gateway_comes setup w event all = each_both (Comes setup) w.posted _ all (gateway_posts setup (put_out (effect setup (gateway_in setup w) event).sent))

agent_comes : (setup : Setup) (w : World) (event : AgentEvent) → AllCome setup w → AllCome setup (to_agent setup w event)
agent_comes setup w event all = each_both (Comes setup) w.posted _ all (agent_posts setup (packed (agent_effect (agent_of setup) (agent_in setup w) event).sent))

delivered_comes : (setup : Setup) (w : World) (end : End) (packet : Packet) → AllCome setup w → AllCome setup (delivered_from end setup w packet)
delivered_comes setup w agent_end packet all = by_test (same_address packet.to (gateway_address setup)) where
  by_test : (b : Bool) → AllCome setup (if b then to_gateway setup w (datagram packet.sender packet.bytes) else w)
  by_test true = gateway_comes setup w (datagram packet.sender packet.bytes) all
  by_test false = all
delivered_comes setup w gateway_end packet all = by_test (is_among setup.agent.route packet.to) where
  by_test : (b : Bool) → AllCome setup (if b then to_agent setup w (hears (datagram packet.sender packet.bytes)) else w)
  by_test true = agent_comes setup w (hears (datagram packet.sender packet.bytes)) all
  by_test false = all

step_comes : (setup : Setup) (w : World) (step : WorldStep) → AllCome setup w → AllCome setup (went setup w step)
unfolding went
step_comes setup w (issuing verb name rest) all = agent_comes setup w (issues verb name rest) all
step_comes setup w (dialling line act) all = gateway_comes setup w (phone line act) all
step_comes setup w (ticking moment) all = agent_comes setup (to_gateway setup w (tick moment)) (hears (tick moment)) (gateway_comes setup w (tick moment) all)
step_comes setup w (delivering number) all = by_post (slice_get w.posted number) where
  by_post : (found : Option Posted) → AllCome setup (delivered found setup w)
  by_post None = all
  by_post (Some post) = delivered_comes setup w post.end post.packet all

steps_come : (setup : Setup) (w : World) (steps : List WorldStep) → AllCome setup w → AllCome setup (world_after setup w steps)
unfolding world_after
steps_come setup w [] all = all
steps_come setup w (step ∷ steps) all = steps_come setup (went setup w step) steps (step_comes setup w step all)

-- an agent's packet has the agent's first address
pub agent_sender : (setup : Setup) (steps : List WorldStep) (number : ℕ) (post : Posted) → slice_get (plain_world setup steps).posted number ≡ Some post → post.end ≡ agent_end
    → post.packet.sender ≡ at setup.agent.route 0
agent_sender setup steps number post found sender =
    let w = plain_world setup steps in
    let is : Comes setup post = subst (λ (o : Option Posted). IfSome o (Comes setup)) found (each_at (Comes setup) w.posted number (steps_come setup world_opening steps tt)) in
    subst (λ (end : End). ComesFrom setup end post.packet) sender is

-- and a gateway's has the gateway's
pub gateway_sender : (setup : Setup) (steps : List WorldStep) (number : ℕ) (post : Posted) → slice_get (plain_world setup steps).posted number ≡ Some post → post.end ≡ gateway_end
    → post.packet.sender ≡ gateway_address setup
gateway_sender setup steps number post found sender =
    let w = plain_world setup steps in
    let is : Comes setup post = subst (λ (o : Option Posted). IfSome o (Comes setup)) found (each_at (Comes setup) w.posted number (steps_come setup world_opening steps tt)) in
    subst (λ (end : End). ComesFrom setup end post.packet) sender is

-- the first address is among them

pub address_itself : (a : SocketAddrV4) → same_address a a ≡ true
address_itself a = rw ((bytes_eq-Decides a.ip.octets a.ip.octets).1 refl, eq-eqb a.port a.port refl) refl

-- an address is among those that begin with it
begins : (a : SocketAddrV4) (more : List SocketAddrV4) → list_any (same_address a) (a ∷ more) ≡ true
begins a more =
    list_any-from_Any (same_address a) (a ∷ more) (any_from_one (λ (b : SocketAddrV4). same_address a b ≡ true) (a ∷ more) (inl (address_itself a)))

pub first_among : (route : Route SocketAddrV4) → is_among route (at route 0) ≡ true
unfolding at
first_among (One a) = begins a []
first_among (Two a b) = begins a (b ∷ [])
first_among (Three a b c) = begins a (b ∷ c ∷ [])
first_among (Four a b c d) = begins a (b ∷ c ∷ d ∷ [])

-- what an end posts
abbrev PostsFinal : End → Packet → Type 0
PostsFinal gateway_end packet = Each IsSaid (texts_of packet.bytes)
PostsFinal agent_end packet = Each IsPlainText (texts_of packet.bytes)

abbrev IsFinalPost : Posted → Type 0
IsFinalPost post = PostsFinal post.end post.packet

-- what the gateway keeps, and what both have posted
record AllFinal (setup : Setup) (w : World) : Type 0 where
  kept : AreFinal (firsts_in (gateway_in setup w).history)
  posted : Each IsFinalPost w.posted

-- packed, each text is still so
packed_are : (P : List ℕ → Type 0) (now : ℕ) (messages : List OutDatagram) → Each (λ (out : OutDatagram). Goes out.bytes) messages
    → Each (λ (out : OutDatagram). P out.bytes × (out.moment ≤ now)) messages → Each (λ (out : OutDatagram). Each P (texts_of out.bytes)) (packed messages)
packed_are P now messages goes says =
    let S : List ℕ → ℕ → Type 0 = λ text moment. P text in
    each_weaker (λ (out : OutDatagram). Holding S now out.bytes out.moment) (λ (out : OutDatagram). Each P (texts_of out.bytes))
    (λ out holds. each_weaker (λ (text : List ℕ). P text × (out.moment ≤ now)) P (λ text both. both.0) (texts_of out.bytes) holds) (packed messages) (packed_hold S now messages goes says)

-- An event of either

to_agent_final : (setup : Setup) (w : World) (event : AgentEvent) → Holds (issued_in setup w) (agent_in setup w) → agent_refusal (agent_in setup w) event ≡ None → AskNothing (texts_heard event)
    → AllFinal setup w → AllFinal setup (to_agent setup w event)
to_agent_final setup w event h taken ask all = record {
  kept = all.kept;
  posted = each_both IsFinalPost w.posted _ all.posted
      (each_mapped IsFinalPost (posted_as agent_end (at setup.agent.route 0)) (packed outs)
      (packed_are IsPlainText now outs (each_weaker (Speaks log firsts now) (λ (out : OutDatagram). Goes out.bytes) (λ out speaks. speaks.goes) outs goes.sent)
      (each_pair OutPlain (λ (out : OutDatagram). out.moment ≤ now) outs (event_says (agent_of setup) (issued_in setup w) m event h taken (agent_plain (agent_of setup) w.agent_took) ask)
      (each_weaker (Speaks log firsts now) (λ (out : OutDatagram). out.moment ≤ now) (λ out speaks. speaks.early) outs goes.sent))));
} where
  m : AgentMachine
  m = agent_in setup w

  outs : List OutDatagram
  outs = (agent_effect (agent_of setup) m event).sent

  now : ℕ
  now = agent_clock m.now event

  log : List Begun
  log = issued_in setup w ++ issued_with m event

  firsts : List KeptFirst
  firsts = firsts_in (agent_effect (agent_of setup) m event).machine.history

  goes : AgentGoesOn log m now (agent_effect (agent_of setup) m event)
  goes = event_on (agent_of setup) (issued_in setup w) m event h taken

to_gateway_final : (setup : Setup) (w : World) (event : GatewayEvent) → Linked setup w → refusal_of (gateway_in setup w) event ≡ None → AskNothing (texts_with event) → AllFinal setup w
    → AllFinal setup (to_gateway setup w event)
to_gateway_final setup w event l taken ask all = record {
  kept = subst (λ (x : Machine). AreFinal (firsts_in x.history)) (sym (machine_on setup (opening setup) w.gateway_took (event ∷ []) ∙ gateway_alone setup g event)) says.kept;
  posted = each_both IsFinalPost w.posted _ all.posted
      (each_mapped IsFinalPost (posted_as gateway_end (gateway_address setup)) (put_out sent)
      (packed_are IsSaid now (datagrams_of sent)
      (each_mapped (λ (out : OutDatagram). Goes out.bytes) datagram_of sent (each_from_all IsOut sent (event_goes setup g event l.links.gateway.fits l.links.gateway.kept).sent))
      (each_mapped (λ (out : OutDatagram). IsSaid out.bytes × (out.moment ≤ now)) datagram_of sent
      (each_pair SaysFinal (λ (one : Sent). one.moment ≤ now) sent says.says
      (each_weaker (Said (own_in setup w ++ begun_in sent) (firsts_in (effect setup g event).value.history) now) (λ (one : Sent). one.moment ≤ now) (λ one said. said.1) sent goes.sent_says)))));
} where
  g : Machine
  g = gateway_in setup w

  sent : List Sent
  sent = (effect setup g event).sent

  now : ℕ
  now = (effect setup g event).value.now

  goes : EventGoes setup (own_in setup w) g (effect setup g event)
  goes = event_holds setup (own_in setup w) g event l.links.gateway taken

  says : EventSays (effect setup g event)
  says = event_final setup (own_in setup w) g event l.links.gateway taken all.kept ask

-- A step

delivered_final : (setup : Setup) (w : World) (post : Posted) → Linked setup w → IsFinalPost post → AllFinal setup w → AllFinal setup (delivered_from post.end setup w post.packet)
delivered_final setup w post l is all = by_end post.end post.packet is where
  by_gateway : (b : Bool) (packet : Packet) → PostsFinal agent_end packet → AllFinal setup (if b then to_gateway setup w (datagram packet.sender packet.bytes) else w)
  by_gateway true packet is =
      to_gateway_final setup w (datagram packet.sender packet.bytes) l (never_refused (gateway_in setup w) packet.sender packet.bytes)
      (each_weaker IsPlainText (λ (text : List ℕ). AsksNothing (read_text text)) (λ text plain. plain.1) (texts_of packet.bytes) is) all
  by_gateway false packet is = all

  by_agent : (b : Bool) (packet : Packet) → PostsFinal gateway_end packet → AllFinal setup (if b then to_agent setup w (hears (datagram packet.sender packet.bytes)) else w)
  by_agent true packet is =
      to_agent_final setup w (hears (datagram packet.sender packet.bytes)) l.sound.agrees.agent (never (agent_in setup w) packet.sender packet.bytes)
      (each_weaker IsSaid (λ (text : List ℕ). AsksNothing (read_text text)) (λ text said. said.1) (texts_of packet.bytes) is) all
  by_agent false packet is = all

  by_end : (end : End) (packet : Packet) → PostsFinal end packet → AllFinal setup (delivered_from end setup w packet)
  by_end agent_end packet is = by_gateway (same_address packet.to (gateway_address setup)) packet is
  by_end gateway_end packet is = by_agent (is_among setup.agent.route packet.to) packet is

step_final : (setup : Setup) (w : World) (step : WorldStep) → Linked setup w → step_refusal setup w step ≡ None → AllFinal setup w → AllFinal setup (went setup w step)
unfolding step_refusal went
step_final setup w (issuing verb name rest) l taken all =
    to_agent_final setup w (issues verb name rest) l.sound.agrees.agent (agent_taken (agent_refusal (agent_in setup w) (issues verb name rest)) taken) tt all
step_final setup w (dialling line act) l taken all = to_gateway_final setup w (phone line act) l (gateway_taken (refusal_of (gateway_in setup w) (phone line act)) taken) tt all
step_final setup w (ticking moment) l taken all =
    let may = gateway_taken (refusal_of (gateway_in setup w) (tick moment)) taken in
    let none : tick_refusal (now_in setup w) moment ≡ None = tick_is (gateway_in setup w) moment may in
    to_agent_final setup (to_gateway setup w (tick moment)) (hears (tick moment)) l.sound.agrees.agent
    (tick_taken (agent_in setup w) moment (ap (λ (now : ℕ). tick_refusal now moment) l.sound.clock ∙ none)) tt (to_gateway_final setup w (tick moment) l may tt all)
step_final setup w (delivering number) l taken all = by_post (slice_get w.posted number) (each_at IsFinalPost w.posted number all.posted) where
  by_post : (found : Option Posted) → IfSome found IsFinalPost → AllFinal setup (delivered found setup w)
  by_post None is = all
  by_post (Some post) is = delivered_final setup w post l is all

steps_final : (setup : Setup) (w : World) (steps : List WorldStep) → Linked setup w → steps_are_taken setup w steps ≡ true → AllFinal setup w → AllFinal setup (world_after setup w steps)
unfolding steps_are_taken world_after
steps_final setup w [] l taken all = all
steps_final setup w (step ∷ steps) l taken all =
    let both = and_parts (is_none (step_refusal setup w step)) (steps_are_taken setup (went setup w step) steps) taken in
    let none = is_none-None (step_refusal setup w step) both.0 in
    let next : Linked setup (went setup w step) = record { sound = step_sound setup w step l.sound none; links = step_links setup w step l none } in
    steps_final setup (went setup w step) steps next both.1 (step_final setup w step l none all)

opening_final : (setup : Setup) → AllFinal setup world_opening
unfolding machine_after
opening_final setup = record { kept = tt; posted = tt }

-- each text that an end of a world posts

module _ (setup : Setup) (steps : List WorldStep) (number : ℕ) (post : Posted) (text : List ℕ) (set_up : IsSetUp setup) (taken : steps_are_taken setup world_opening steps ≡ true)
    (found : slice_get (plain_world setup steps).posted number ≡ Some post) (inside : Any (λ (one : List ℕ). one ≡ text) (texts_of post.packet.bytes)) where
  is_final_post : IsFinalPost post
  is_final_post =
      let all = steps_final setup world_opening steps (opening_linked setup set_up) taken (opening_final setup) in
      subst (λ (o : Option Posted). IfSome o IsFinalPost) found (each_at IsFinalPost (plain_world setup steps).posted number all.posted)

  one_inside : (P : List ℕ → Type 0) → Each P (texts_of post.packet.bytes) → P text
  one_inside P texts =
      one_to (λ (one : List ℕ). P one × (one ≡ text)) (P text) (λ one both. subst P both.1 both.0) (texts_of post.packet.bytes)
      (one_of_each P (λ (one : List ℕ). one ≡ text) (texts_of post.packet.bytes) texts (one_from_any (λ (one : List ℕ). one ≡ text) (texts_of post.packet.bytes) inside))

  all_final : (end : End) (packet : Packet) → PostsFinal end packet → Each IsFinal (texts_of packet.bytes)
  all_final gateway_end packet is = each_weaker IsSaid IsFinal (λ one said. said.0) (texts_of packet.bytes) is
  all_final agent_end packet is = each_weaker IsPlainText IsFinal (λ one plain. λ code id params body reads. (plain.0 id code params body reads).0) (texts_of packet.bytes) is

  pub posted_final : IsFinal text
  posted_final = one_inside IsFinal (all_final post.end post.packet is_final_post)

  pub posted_plain : post.end ≡ agent_end → (id : ℕ) → IsPlainAnswer id text
  posted_plain from = (one_inside IsPlainText (subst (λ (end : End). PostsFinal end post.packet) from is_final_post)).0

-- Lists of steps: what was posted and had stays so; and what a packet that is handed over does.

-- One list behind another

pub steps_more : (setup : Setup) (w : World) (a b : List WorldStep) → world_after setup w (a ++ b) ≡ world_after setup (world_after setup w a) b
unfolding world_after
steps_more setup w [] b = refl
steps_more setup w (step ∷ a) b = steps_more setup (went setup w step) a b

pub step_more : (setup : Setup) (steps : List WorldStep) (step : WorldStep) → plain_world setup (steps ++ step ∷ []) ≡ went setup (plain_world setup steps) step
unfolding world_after
step_more setup steps step = steps_more setup world_opening steps (step ∷ [])

pub taken_front : (setup : Setup) (w : World) (a b : List WorldStep) → steps_are_taken setup w (a ++ b) ≡ true → steps_are_taken setup w a ≡ true
unfolding steps_are_taken
taken_front setup w [] b all = refl
taken_front setup w (step ∷ a) b all =
    let both = and_parts (is_none (step_refusal setup w step)) (steps_are_taken setup (went setup w step) (a ++ b)) all in
    and_from (is_none (step_refusal setup w step)) (steps_are_taken setup (went setup w step) a) both.0 (taken_front setup (went setup w step) a b both.1)

-- what the agent becomes with one event more
pub agent_more : (setup : Setup) (w : World) (event : AgentEvent) → agent_in setup (to_agent setup w event) ≡ (agent_effect (agent_of setup) (agent_in setup w) event).machine
agent_more setup w event = after_on (agent_of setup) (agent_opening (agent_of setup)) w.agent_took (event ∷ []) ∙ alone (agent_of setup) (agent_in setup w) event

-- What was posted stays, and an answer too

abbrev pub HasIn : ℕ → Setup → World → Type 0
HasIn id setup w = OneOf (λ (one : FinalAnswer). one.id ≡ id) (agent_in setup w).answers

pub record Grows (setup : Setup) (id : ℕ) (w next : World) : Type 0 where
  pub more : List Posted
  pub posted : next.posted ≡ w.posted ++ more
  pub has : HasIn id setup w → HasIn id setup next
  pub issued : (b : Begun) → OneOf (λ (one : Begun). one ≡ b) (issued_in setup w) → OneOf (λ (one : Begun). one ≡ b) (issued_in setup next)

grows_not : (setup : Setup) (id : ℕ) (w : World) → Grows setup id w w
grows_not setup id w = record { more = []; posted = sym (append-nil w.posted); has = λ has. has; issued = λ b one. one }

grows_through : (setup : Setup) (id : ℕ) (w next last : World) → Grows setup id w next → Grows setup id next last → Grows setup id w last
grows_through setup id w next last one two = record {
  more = one.more ++ two.more;
  posted = two.posted ∙ ap (λ (x : List Posted). x ++ two.more) one.posted ∙ append_assoc w.posted one.more two.more;
  has = λ has. two.has (one.has has);
  issued = λ b is. two.issued b (one.issued b is);
}

pub gateway_grows : (setup : Setup) (id : ℕ) (w : World) (event : GatewayEvent) → Grows setup id w (to_gateway setup w event)
gateway_grows setup id w event = record { more = _; posted = refl; has = λ has. has; issued = λ b one. one }

pub agent_grows : (setup : Setup) (id : ℕ) (w : World) (event : AgentEvent) → Grows setup id w (to_agent setup w event)
agent_grows setup id w event = record {
  more = _;
  posted = refl;
  has = λ has.
      let stay = answers_stay (agent_of setup) w.agent_took (event ∷ []) in
      let same : (agent_in setup (to_agent setup w event)).answers ≡ (agent_in setup w).answers ++ stay.0 =
      ap (λ (m : AgentMachine). m.answers) (after_on (agent_of setup) (agent_opening (agent_of setup)) w.agent_took (event ∷ [])) ∙ stay.1 in
      subst (OneOf (λ (one : FinalAnswer). one.id ≡ id)) (sym same) (one_before (λ (one : FinalAnswer). one.id ≡ id) (agent_in setup w).answers stay.0 has);
  issued = λ b one.
      subst (OneOf (λ (one : Begun). one ≡ b)) (sym (issued_more (agent_of setup) (agent_opening (agent_of setup)) w.agent_took event))
      (one_before (λ (one : Begun). one ≡ b) (issued_in setup w) (issued_with (agent_in setup w) event) one);
}

delivered_grows : (setup : Setup) (id : ℕ) (w : World) (end : End) (packet : Packet) → Grows setup id w (delivered_from end setup w packet)
delivered_grows setup id w agent_end packet = by_test (same_address packet.to (gateway_address setup)) where
  by_test : (b : Bool) → Grows setup id w (if b then to_gateway setup w (datagram packet.sender packet.bytes) else w)
  by_test true = gateway_grows setup id w (datagram packet.sender packet.bytes)
  by_test false = grows_not setup id w
delivered_grows setup id w gateway_end packet = by_test (is_among setup.agent.route packet.to) where
  by_test : (b : Bool) → Grows setup id w (if b then to_agent setup w (hears (datagram packet.sender packet.bytes)) else w)
  by_test true = agent_grows setup id w (hears (datagram packet.sender packet.bytes))
  by_test false = grows_not setup id w

pub step_grows : (setup : Setup) (id : ℕ) (w : World) (step : WorldStep) → Grows setup id w (went setup w step)
unfolding went
step_grows setup id w (issuing verb name rest) = agent_grows setup id w (issues verb name rest)
step_grows setup id w (dialling line act) = gateway_grows setup id w (phone line act)
step_grows setup id w (ticking moment) =
    grows_through setup id w (to_gateway setup w (tick moment)) (to_agent setup (to_gateway setup w (tick moment)) (hears (tick moment)))
    (gateway_grows setup id w (tick moment)) (agent_grows setup id (to_gateway setup w (tick moment)) (hears (tick moment)))
step_grows setup id w (delivering number) = by_post (slice_get w.posted number) where
  by_post : (found : Option Posted) → Grows setup id w (delivered found setup w)
  by_post None = grows_not setup id w
  by_post (Some post) = delivered_grows setup id w post.end post.packet

pub steps_grow : (setup : Setup) (id : ℕ) (w : World) (steps : List WorldStep) → Grows setup id w (world_after setup w steps)
unfolding world_after
steps_grow setup id w [] = grows_not setup id w
steps_grow setup id w (step ∷ steps) =
    grows_through setup id w (went setup w step) (world_after setup (went setup w step) steps) (step_grows setup id w step) (steps_grow setup id (went setup w step) steps)

pub plain_grows : (setup : Setup) (id : ℕ) (steps more : List WorldStep) → Grows setup id (plain_world setup steps) (plain_world setup (steps ++ more))
plain_grows setup id steps more =
    subst (Grows setup id (plain_world setup steps)) (sym (steps_more setup world_opening steps more)) (steps_grow setup id (plain_world setup steps) more)

-- a copy stays the copy that it is
unfoldable pub copy_stays : (setup : Setup) (id : ℕ) (w next : World) (end : End) (text : List ℕ) (number : ℕ) → Grows setup id w next → IsCopy setup w end text number
    → IsCopy setup next end text number
copy_stays setup id w next end text number grows copy = record {
  post = copy.post;
  found = subst (λ (posted : List Posted). slice_get posted number ≡ Some copy.post) (sym grows.posted) (found_before w.posted grows.more number copy.post copy.found);
  sender = copy.sender;
  goes = copy.goes;
  inside = copy.inside;
}

-- one with this id is the answer to it
pub answer_found : (id : ℕ) (answers : List FinalAnswer) → OneOf (λ (one : FinalAnswer). one.id ≡ id) answers
    → (one : FinalAnswer) × (find (λ (answer : FinalAnswer). answer.id == id) answers ≡ Some one)
answer_found id [] one = absurd one
answer_found id (a ∷ answers) one = by_test (a.id == id) refl one (λ there. answer_found id answers there) where
  by_test : (b : Bool) → (a.id == id) ≡ b → OneOf (λ (one : FinalAnswer). one.id ≡ id) (a ∷ answers)
      → (OneOf (λ (one : FinalAnswer). one.id ≡ id) answers → (one : FinalAnswer) × (find (λ (answer : FinalAnswer). answer.id == id) answers ≡ Some one))
      → (one : FinalAnswer) × ((if b then Some a else find (λ (answer : FinalAnswer). answer.id == id) answers) ≡ Some one)
  by_test true same one on = (a, refl)
  by_test false far (inl is) on = absurd (eqb-false a.id id far is)
  by_test false far (inr there) on = on there

pub has_answer : (id : ℕ) (setup : Setup) (w : World) → HasIn id setup w → HasAnswer id (agent_in setup w)
has_answer id setup w has = answer_found id (agent_in setup w).answers has

-- A packet that is handed over

pub handed_to_gateway : (setup : Setup) (w : World) (text : List ℕ) (number : ℕ) (copy : IsCopy setup w agent_end text number)
    → went setup w (delivering number) ≡ to_gateway setup w (datagram copy.post.packet.sender copy.post.packet.bytes)
unfolding went
handed_to_gateway setup w text number copy =
    ap (λ (found : Option Posted). delivered found setup w) copy.found
    ∙ ap (λ (end : End). delivered_from end setup w copy.post.packet) copy.sender
    ∙ ap (λ (b : Bool). if b then to_gateway setup w (datagram copy.post.packet.sender copy.post.packet.bytes) else w) copy.goes

pub handed_to_agent : (setup : Setup) (w : World) (text : List ℕ) (number : ℕ) (copy : IsCopy setup w gateway_end text number)
    → went setup w (delivering number) ≡ to_agent setup w (hears (datagram copy.post.packet.sender copy.post.packet.bytes))
unfolding went
handed_to_agent setup w text number copy =
    ap (λ (found : Option Posted). delivered found setup w) copy.found
    ∙ ap (λ (end : End). delivered_from end setup w copy.post.packet) copy.sender
    ∙ ap (λ (b : Bool). if b then to_agent setup w (hears (datagram copy.post.packet.sender copy.post.packet.bytes)) else w) copy.goes
