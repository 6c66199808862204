-- What comes to the agent of a world: commands of the gateway's own, less than 30,000 ms after they began, and the answers
-- that the gateway keeps; and what the gateway hears are the answers that the agent keeps.
use Rattle.std.proofs.Common.{◌≡◌, ◌≢◌, ℕ, ◌+◌, ◌-◌, ◌<◌, ◌≤◌, Bool, true, false, ◌==◌, ◌&&◌, if◌then◌else◌, List, [], ◌∷◌, ◌++◌, map, Option, Some, None, refl, sym, ap, ◌∙◌, subst, arith, append-nil, append_assoc}
use Rattle.std.specs.Prelude.{All, AllPairs, Any, IfSome, nat_le, find, flat_map, slice_get, is_none}
use Rattle.std.proofs.lemmas.Bool.{and_parts, leb-true, eqb-true}
use Rattle.std.proofs.lemmas.Grind.{flat_map-append}
use Rattle.std.specs.declared.net.socket_addr.SocketAddrV4.{SocketAddrV4}
use Rattle.mgcp_text.specs.declared.message.Param.{Param}
use Rattle.mgcp_text.specs.declared.message.Message.TheVariants as messages
use Rattle.mgcp_text.specs.Reading.{Outcome, message, no_header, bad_version, bad_body, read_text}
use Rattle.transmission.specs.declared.entry.KeptFirst.{KeptFirst}
use Rattle.transmission.specs.Memory.{most_firsts}
use Rattle.transmission.specs.Kept.{firsts_in}
use Rattle.transmission.specs.Looking.{Looked, new, repeat, confirmed, full, look_of}
use Rattle.retransmission.specs.declared.reply.Reply.{Reply}
use Rattle.retransmission.specs.declared.reply.Reply.TheVariants.{Answered, Provisional, Stranger}
use Rattle.retransmission.specs.Flight.{InFlight, reply_by, reply_of, heard}
use Rattle.retransmission.proofs.LifeLaws.{reply_same}
use Rattle.transmission.specs.declared.output.OutDatagram.{OutDatagram}
use Rattle.endpoint_names.specs.Route.{at}
use Rattle.plain_machine.specs.Setup.{IsSetUp}
use Rattle.plain_machine.specs.Event.{GatewayEvent, datagram, phone, tick}
use Rattle.plain_machine.specs.Message.{Begun, Sent, datagram_of, datagrams_of}
use Rattle.plain_machine.specs.Machine.{Machine, opening}
use Rattle.transmission.specs.Texts.{texts_of}
use Rattle.plain_machine.specs.Arriving.{TextArrival, arrival, clock_after, arrivals_at, arrivals_from, arrivals_of}
use Rattle.transmission.specs.Packing.{same_address}
use Rattle.plain_machine.specs.Packing.{put_out}
use Rattle.plain_machine.specs.Refusing.{refusal_of, tick_refusal}
use Rattle.plain_machine.specs.Happening.{effect}
use Rattle.plain_machine.specs.Lists.{machine_after, sent_from, sent_of}
use Rattle.machine_laws.proofs.CommandLaws.{IsOut}
use Rattle.plain_machine.proofs.ListLaws.{machine_on}
use Rattle.plain_machine.proofs.EffectLaws.{effect_now}
use Rattle.machine_laws.proofs.MessageLaws.{event_goes}
use Rattle.plain_machine.specs.declared.setup.Setup.{Setup}
use Rattle.machine_laws.proofs.EachLemmas.{Each, all_from_each, any_from_one, each_at, each_both, each_from_all, each_mapped, each_weaker, is_none-None, one_before, one_weaker}
use Rattle.machine_laws.proofs.GatewayEvents.{EventGoes, GatewayHolds, event_holds, opening_gateway, gateway_forward, AreAnswers, IsAnsweredBy, IsCommand, IsGivenBy, final_answers, final_gives}
use Rattle.machine_laws.proofs.PostLogs.{Logged, WasBegun}
use Rattle.machine_laws.specs.Saying.{HasNumbersLeft, OneOf, Tells, begun_at, begun_in}
use Rattle.call_agent.specs.Hearing.{AgentEvent, agent_after, agent_effect, agent_refusal, handled, handled_as, heard_with, hears, issued_with, issues, took_all}
use Rattle.call_agent.specs.declared.setup.AgentSetup.{AgentSetup}
use Rattle.call_agent.specs.Agent.{AgentMachine, FinalAnswer, agent_opening}
use Rattle.agent_core.specs.declared.packet.End.{End}
use Rattle.agent_core.specs.declared.packet.Packet.{Packet}
use Rattle.agent_core.specs.declared.packet.Posted.{Posted}
use Rattle.agent_core.specs.declared.packet.End.TheVariants.{AgentEnd as agent_end, GatewayEnd as gateway_end}
use Rattle.agent_core.specs.World.{World, WorldStep, agent_in, agent_of, delivered, is_among, delivered_from, delivering, delivery_refusal, dialling, gateway_address, gateway_in, issuing, now_in, plain_world, posted_as, step_refusal, steps_are_taken, ticking, to_agent, to_gateway, went, world_after, world_opening, oldest_packet}
use Rattle.call_agent.specs.Taking.{GatewayCommand, command_of, transacted_by, faulty_command, read_command}
use Rattle.world_laws.specs.Reached.{Reached, heard_in, issued_in, own_in, reached, taken_in}
use Rattle.call_agent.specs.Responding.{replied, responded, responded_to}
use Rattle.call_agent.specs.Flying.{has_id}
use Rattle.call_agent.proofs.EventLemmas.{agent_clock, after_on, forward}
use Rattle.world_laws.proofs.AgentLaws.{Goes, Holds, AgentGoesOn, event_on, alone, never, tick_taken}
use Rattle.world_laws.proofs.ReachedLaws.{executed_each, executed_apart}
use Rattle.world_laws.proofs.WorldLaws.{Holding, hold_on, packed_hold, Came, Comes, Sound, Sends, Posts, texts_came, agent_commands, agent_answers, step_sound, opening_sound, same_issued, arrived_on, gateway_alone, not_late, gateway_taken, agent_taken, tick_is}

-- The packets of the gateway

abbrev pub GatewayPosts : List Begun → List KeptFirst → ℕ → End → Packet → Type 0
GatewayPosts log firsts now gateway_end packet = Holding (Tells log firsts) now packet.bytes packet.moment
GatewayPosts log firsts now agent_end packet = Unit {0}

abbrev pub GatewaySends : List Begun → List KeptFirst → ℕ → Posted → Type 0
GatewaySends log firsts now post = GatewayPosts log firsts now post.end post.packet

-- an answer that the agent has is that of a first with its id
pub record HasAnswer (firsts : List KeptFirst) (one : FinalAnswer) : Type 0 where
  pub first : OneOf (IsAnsweredBy one.id one.text) firsts
  pub params : List Param
  pub body : List ℕ
  pub reads : read_text one.text ≡ message (messages.Response one.code one.id params body)
  pub final : 200 ≤ one.code

-- it has this id, and came less than 40,000 ms before
abbrev pub IsLate : ℕ → ℕ → KeptFirst → Type 0
IsLate id moment first = (first.id ≡ id) × (moment < first.moment + 40000)

-- a final response that arrives answers a first with its id, which came less than 40,000 ms before
abbrev pub ReturnsAs : List KeptFirst → ℕ → Outcome → Type 0
ReturnsAs firsts moment (message (messages.Response code id params body)) = 200 ≤ code → OneOf (IsLate id moment) firsts
ReturnsAs firsts moment (message (messages.Command verb id name params body)) = Unit {0}
ReturnsAs firsts moment no_header = Unit {0}
ReturnsAs firsts moment (bad_version id) = Unit {0}
ReturnsAs firsts moment (bad_body id) = Unit {0}

abbrev pub Returns : List KeptFirst → TextArrival → Type 0
Returns firsts a = ReturnsAs firsts a.moment a.outcome

-- The clock of what an agent hears

pub clock_from : ℕ → List GatewayEvent → ℕ
clock_from now [] = now
clock_from now (event ∷ events) = clock_from (clock_after now event) events

clock_more : (now : ℕ) (es : List GatewayEvent) (e : GatewayEvent) → clock_from now (es ++ e ∷ []) ≡ clock_after (clock_from now es) e
unfolding clock_from
clock_more now [] e = refl
clock_more now (x ∷ es) e = clock_more (clock_after now x) es e

arrivals_more : (now : ℕ) (es : List GatewayEvent) (e : GatewayEvent) → arrivals_from now (es ++ e ∷ []) ≡ arrivals_from now es ++ arrivals_at (clock_from now es) e
unfolding arrivals_from clock_from
arrivals_more now [] e = append-nil (arrivals_at now e)
arrivals_more now (x ∷ es) e =
    ap (λ (rest : List TextArrival). arrivals_at now x ++ rest) (arrivals_more (clock_after now x) es e)
    ∙ sym (append_assoc (arrivals_at now x) (arrivals_from (clock_after now x) es) (arrivals_at (clock_from (clock_after now x) es) e))

-- what arrives at the agent with an event
abbrev pub arrives_with : ℕ → AgentEvent → List TextArrival
arrives_with now (issues verb name rest) = []
arrives_with now (hears event) = arrivals_at now event

pub heard_more : (w : World) (setup : Setup) (event : AgentEvent) → heard_in (to_agent setup w event) ≡ heard_in w ++ heard_with event
heard_more w setup event = flat_map-append heard_with w.agent_took (event ∷ []) ∙ ap (λ (x : List GatewayEvent). heard_in w ++ x) (append-nil (heard_with event))

pub agent_arrivals : (w : World) (setup : Setup) (event : AgentEvent) (now : ℕ) → clock_from 0 (heard_in w) ≡ now
    → arrivals_of (heard_in (to_agent setup w event)) ≡ arrivals_of (heard_in w) ++ arrives_with now event
agent_arrivals w setup event now at = ap arrivals_of (heard_more w setup event) ∙ by_event event where
  by_event : (event : AgentEvent) → arrivals_of (heard_in w ++ heard_with event) ≡ arrivals_of (heard_in w) ++ arrives_with now event
  by_event (issues verb name rest) = ap arrivals_of (append-nil (heard_in w)) ∙ sym (append-nil (arrivals_of (heard_in w)))
  by_event (hears event) = arrivals_more 0 (heard_in w) event ∙ ap (λ (t : ℕ). arrivals_of (heard_in w) ++ arrivals_at t event) at

agent_time : (w : World) (setup : Setup) (event : AgentEvent) (now : ℕ) → clock_from 0 (heard_in w) ≡ now → clock_from 0 (heard_in (to_agent setup w event)) ≡ agent_clock now event
agent_time w setup event now at = ap (clock_from 0) (heard_more w setup event) ∙ by_event event where
  by_event : (event : AgentEvent) → clock_from 0 (heard_in w ++ heard_with event) ≡ agent_clock now event
  by_event (issues verb name rest) = ap (clock_from 0) (append-nil (heard_in w)) ∙ at
  by_event (hears event) = clock_more 0 (heard_in w) event ∙ ap (λ (t : ℕ). clock_after t event) at

-- what came rises in its moments, to this one at most
abbrev pub Rises : ℕ → List Reached → Type 0
Rises now [] = Unit {0}
Rises now (one ∷ more) = (one.asked.moment ≤ now) × (Each (λ (later : Reached). one.asked.moment ≤ later.asked.moment) more × Rises now more)

rises_now : (now later : ℕ) (ones : List Reached) → now ≤ later → Each (λ (one : Reached). one.asked.moment ≡ now) ones → Rises later ones
rises_now now later [] past same = tt
rises_now now later (one ∷ ones) past same = (
  (let here : one.asked.moment ≡ now = same.0 in omega (arith, here, past)),
  (
    each_weaker (λ (x : Reached). x.asked.moment ≡ now) (λ (x : Reached). one.asked.moment ≤ x.asked.moment)
        (λ x there. (let here : one.asked.moment ≡ now = same.0 in omega (arith, here, there))) ones same.1,
    rises_now now later ones past same.1,
  ),
)

rises_on : (now later : ℕ) (some ones : List Reached) → now ≤ later → Rises now some → Each (λ (one : Reached). one.asked.moment ≡ now) ones → Rises later (some ++ ones)
rises_on now later [] ones past rises same = rises_now now later ones past same
rises_on now later (first ∷ some) ones past rises same = (
  (let low : first.asked.moment ≤ now = rises.0 in omega (arith, low, past)),
  (
    each_both (λ (x : Reached). first.asked.moment ≤ x.asked.moment) some ones rises.1.0
        (each_weaker (λ (x : Reached). x.asked.moment ≡ now) (λ (x : Reached). first.asked.moment ≤ x.asked.moment)
        (λ x there. (let low : first.asked.moment ≤ now = rises.0 in omega (arith, low, there))) ones same),
    rises_on now later some ones past rises.1.1 same,
  ),
)

text_now : (now : ℕ) (source : SocketAddrV4) (outcome : Outcome) → Each (λ (one : Reached). one.asked.moment ≡ now) (reached (record { moment = now; source = source; outcome = outcome }))
text_now now source no_header = tt
text_now now source (bad_version id) = (refl, tt)
text_now now source (bad_body id) = (refl, tt)
text_now now source (message (messages.Command verb id name params body)) = (refl, tt)
text_now now source (message (messages.Response code id params body)) = tt

texts_now : (now : ℕ) (source : SocketAddrV4) (texts : List (List ℕ)) → Each (λ (one : Reached). one.asked.moment ≡ now) (flat_map reached (map (arrival now source) texts))
texts_now now source [] = tt
texts_now now source (text ∷ texts) = each_both (λ (one : Reached). one.asked.moment ≡ now) (reached (arrival now source text)) _ (text_now now source (read_text text)) (texts_now now source texts)

event_now : (now : ℕ) (event : AgentEvent) → Each (λ (one : Reached). one.asked.moment ≡ now) (flat_map reached (arrives_with now event))
event_now now (issues verb name rest) = tt
event_now now (hears (datagram source bytes)) = texts_now now source (texts_of bytes)
event_now now (hears (phone line act)) = tt
event_now now (hears (tick moment)) = tt

-- The answers of an agent

pub final_is : (flight : InFlight) (id code : ℕ) → reply_of flight id code ≡ Answered → (flight.id ≡ id) × (200 ≤ code)
final_is flight id code is = by_id (flight.id == id) refl is where
  by_high : (a b : Bool) → nat_le 200 code ≡ a → (if (a && b) then Answered else Stranger) ≡ Answered → 200 ≤ code
  by_high true b high e = leb-true 200 code high
  by_high false b high e = absurd cc

  by_low : (b : Bool) → (if b then Provisional else (if nat_le 200 code && nat_le code 999 then Answered else Stranger)) ≡ Answered → 200 ≤ code
  by_low true e = absurd cc
  by_low false e = by_high (nat_le 200 code) (nat_le code 999) refl e

  by_id : (b : Bool) → (flight.id == id) ≡ b → (if b then reply_by code else Stranger) ≡ Answered → (flight.id ≡ id) × (200 ≤ code)
  by_id true same e = (eqb-true flight.id id same, by_low (nat_le 100 code && nat_le code 199) e)
  by_id false other e = absurd cc

module _ (log : List Begun) (firsts : List KeptFirst) (moment : ℕ) (commands : Each IsCommand log) (kept : AreAnswers firsts) where
  replied_answers : (m : AgentMachine) (flight : InFlight) (code id : ℕ) (params : List Param) (body text : List ℕ) → Each (HasAnswer firsts) m.answers → Tells log firsts text moment
      → read_text text ≡ message (messages.Response code id params body) → (reply : Reply) → reply_of flight id code ≡ reply
      → Each (HasAnswer firsts) (replied reply m (heard flight id code m.now) code text).answers
  replied_answers m flight code id params body text all tells reads Answered is =
      let final = final_is flight id code is in
      let same : (heard flight id code m.now).id ≡ id = (reply_same flight id code m.now).same_id ∙ final.0 in
      let first = final_answers log firsts text moment code id params body commands kept tells reads final.1 in
      let one : FinalAnswer = record { id = (heard flight id code m.now).id; code = code; text = text } in
      each_both (HasAnswer firsts) m.answers (one ∷ []) all (
        record {
          first = subst (λ (i : ℕ). OneOf (IsAnsweredBy i text) firsts) (sym same) first;
          params = params;
          body = body;
          reads = subst (λ (i : ℕ). read_text text ≡ message (messages.Response code i params body)) (sym same) reads;
          final = final.1;
        },
        tt,
      )
  replied_answers m flight code id params body text all tells reads Provisional is = all
  replied_answers m flight code id params body text all tells reads Stranger is = all

  responded_answers : (m : AgentMachine) (source : SocketAddrV4) (code id : ℕ) (params : List Param) (body text : List ℕ) → Each (HasAnswer firsts) m.answers → Tells log firsts text moment
      → read_text text ≡ message (messages.Response code id params body) → Each (HasAnswer firsts) (responded m source code id params text).machine.answers
  unfolding responded
  responded_answers m source code id params body text all tells reads = by_found (find (has_id id) m.flights) where
    by_found : (found : Option InFlight) → Each (HasAnswer firsts) (responded_to found m code id text).answers
    by_found None = all
    by_found (Some flight) = replied_answers m flight code id params body text all tells reads (reply_of flight id code) refl

  transacted_answers : (looked : Looked) (m : AgentMachine) (source : SocketAddrV4) (command : GatewayCommand) → (transacted_by looked m source command).machine.answers ≡ m.answers
  transacted_answers new m source command = refl
  transacted_answers (repeat text) m source command = refl
  transacted_answers confirmed m source command = refl
  transacted_answers full m source command = refl

  handled_answers : (setup : AgentSetup) (m : AgentMachine) (source : SocketAddrV4) (text : List ℕ) (outcome : Outcome) → read_text text ≡ outcome → Each (HasAnswer firsts) m.answers
      → Tells log firsts text moment → Each (HasAnswer firsts) (handled_as (command_of setup outcome) outcome m source text).machine.answers
  handled_answers setup m source text no_header reads all tells = all
  handled_answers setup m source text (bad_version id) reads all tells = subst (Each (HasAnswer firsts)) (sym (transacted_answers (look_of most_firsts m.history id m.now) m source (faulty_command id 528))) all
  handled_answers setup m source text (bad_body id) reads all tells = subst (Each (HasAnswer firsts)) (sym (transacted_answers (look_of most_firsts m.history id m.now) m source (faulty_command id 510))) all
  handled_answers setup m source text (message (messages.Command verb id name params body)) reads all tells =
      subst (Each (HasAnswer firsts)) (sym (transacted_answers (look_of most_firsts m.history id m.now) m source (read_command setup verb id name params))) all
  handled_answers setup m source text (message (messages.Response code id params body)) reads all tells = responded_answers m source code id params body text all tells reads

  texts_answers : (setup : AgentSetup) (m : AgentMachine) (source : SocketAddrV4) (texts : List (List ℕ)) → Each (HasAnswer firsts) m.answers → Each (λ (text : List ℕ). Tells log firsts text moment) texts
      → Each (HasAnswer firsts) (took_all setup m source texts).machine.answers
  unfolding took_all handled
  texts_answers setup m source [] all each = all
  texts_answers setup m source (text ∷ texts) all each =
      texts_answers setup (handled setup m source text).machine source texts (handled_answers setup m source text (read_text text) refl all each.0) each.1

  -- what arrives of it in time returns answers
  text_returns : (now : ℕ) (source : SocketAddrV4) (text : List ℕ) (outcome : Outcome) → read_text text ≡ outcome → now - moment ≤ oldest_packet → Tells log firsts text moment → ReturnsAs firsts now outcome
  text_returns now source text no_header reads soon tells = tt
  text_returns now source text (bad_version id) reads soon tells = tt
  text_returns now source text (bad_body id) reads soon tells = tt
  text_returns now source text (message (messages.Command verb id name params body)) reads soon tells = tt
  text_returns now source text (message (messages.Response code id params body)) reads soon tells = λ high.
      one_weaker (IsGivenBy id text moment) (IsLate id now) (λ first given. (given.0.0, (let young = given.1 in omega (arith, young, soon)))) firsts
      (final_gives log firsts text moment code id params body commands kept tells reads high)

  texts_return : (now : ℕ) (source : SocketAddrV4) (texts : List (List ℕ)) → now - moment ≤ oldest_packet → Each (λ (text : List ℕ). Tells log firsts text moment) texts
      → Each (Returns firsts) (map (arrival now source) texts)
  texts_return now source [] soon each = tt
  texts_return now source (text ∷ texts) soon each = (text_returns now source text (read_text text) refl soon each.0, texts_return now source texts soon each.1)

returns_on : (firsts more : List KeptFirst) (a : TextArrival) → Returns firsts a → Returns (firsts ++ more) a
returns_on firsts more a is = by_outcome a.outcome is where
  by_outcome : (outcome : Outcome) → ReturnsAs firsts a.moment outcome → ReturnsAs (firsts ++ more) a.moment outcome
  by_outcome no_header is = tt
  by_outcome (bad_version id) is = tt
  by_outcome (bad_body id) is = tt
  by_outcome (message (messages.Command verb id name params body)) is = tt
  by_outcome (message (messages.Response code id params body)) is = λ high. one_before (IsLate id a.moment) firsts more (is high)

has_on : (firsts more : List KeptFirst) (one : FinalAnswer) → HasAnswer firsts one → HasAnswer (firsts ++ more) one
has_on firsts more one has = record {
  first = one_before (IsAnsweredBy one.id one.text) firsts more has.first;
  params = has.params;
  body = has.body;
  reads = has.reads;
  final = has.final;
}

-- Both ends

pub record Links (setup : Setup) (w : World) (log : List Begun) (g : Machine) (m : AgentMachine) : Type 0 where
  pub gateway : GatewayHolds setup log g
  pub posted : Each (GatewaySends log (firsts_in g.history) g.now) w.posted
  pub came : Each (Came log) (flat_map reached (arrivals_of (heard_in w)))
  pub answers : Each (HasAnswer (firsts_in g.history)) m.answers
  pub returned : Each (Returns (firsts_in m.history)) (arrivals_of w.gateway_took)
  pub time : clock_from 0 (heard_in w) ≡ m.now
  pub rises : Rises m.now (flat_map reached (arrivals_of (heard_in w)))

pub record Linked (setup : Setup) (w : World) : Type 0 where
  pub sound : Sound setup w
  pub links : Links setup w (own_in setup w) (gateway_in setup w) (agent_in setup w)

log_commands : (setup : Setup) (until : ℕ) (log : List Begun) → Logged setup until log → Each IsCommand log
log_commands setup until log logged = each_weaker (WasBegun until) IsCommand (λ b w. record { name = w.name; reads = w.reads }) log logged.begun

-- the gateway takes an event

pub sent_more : (setup : Setup) (m : Machine) (es : List GatewayEvent) (e : GatewayEvent)
    → sent_from setup m (es ++ e ∷ []) ≡ sent_from setup m es ++ (effect setup (machine_after setup m es) e).sent
unfolding sent_from machine_after
sent_more setup m [] e = append-nil (effect setup m e).sent
sent_more setup m (x ∷ es) e =
    ap (λ (rest : List Sent). (effect setup m x).sent ++ rest) (sent_more setup (effect setup m x).value es e)
    ∙ sym (append_assoc (effect setup m x).sent (sent_from setup (effect setup m x).value es) (effect setup (machine_after setup (effect setup m x).value es) e).sent)

own_more : (setup : Setup) (w : World) (event : GatewayEvent)
    → own_in setup (to_gateway setup w event) ≡ own_in setup w ++ begun_in (effect setup (gateway_in setup w) event).sent
own_more setup w event =
    ap begun_in (sent_more setup (opening setup) w.gateway_took event)
    ∙ flat_map-append begun_at (sent_of setup w.gateway_took) (effect setup (gateway_in setup w) event).sent

gateway_more : (setup : Setup) (w : World) (event : GatewayEvent) → gateway_in setup (to_gateway setup w event) ≡ (effect setup (gateway_in setup w) event).value
gateway_more setup w event = machine_on setup (opening setup) w.gateway_took (event ∷ []) ∙ gateway_alone setup (gateway_in setup w) event

gateway_sends_on : (log more : List Begun) (firsts later : List KeptFirst) (now next : ℕ) → now ≤ next → (post : Posted) → GatewaySends log firsts now post → GatewaySends (log ++ more) (firsts ++ later) next post
gateway_sends_on log more firsts later now next past post sends = by_end post.end post.packet sends where
  by_end : (end : End) (packet : Packet) → GatewayPosts log firsts now end packet → GatewayPosts (log ++ more) (firsts ++ later) next end packet
  by_end agent_end packet sends = tt
  by_end gateway_end packet sends = hold_on log more firsts later now next past packet sends

agent_posts : (log : List Begun) (firsts : List KeptFirst) (now : ℕ) (from : SocketAddrV4) (outs : List OutDatagram) → Each (GatewaySends log firsts now) (map (posted_as agent_end from) outs)
agent_posts log firsts now from [] = tt
agent_posts log firsts now from (out ∷ outs) = (tt, agent_posts log firsts now from outs)

gateway_links : (setup : Setup) (w : World) (event : GatewayEvent) (log : List Begun) (g : Machine) (m : AgentMachine) → gateway_in setup w ≡ g → Links setup w log g m
    → refusal_of g event ≡ None → (effect setup g event).value.now ≡ clock_after g.now event → Each (Returns (firsts_in m.history)) (arrivals_at g.now event)
    → Links setup (to_gateway setup w event) (log ++ begun_in (effect setup g event).sent) (effect setup g event).value m
gateway_links setup w event log g m is l taken now returns = record {
  gateway = goes.holds;
  posted = each_both (GatewaySends log' firsts' g'.now) w.posted _
      (subst (λ (f : List KeptFirst). Each (GatewaySends log' f g'.now) w.posted) (sym goes.grown)
      (each_weaker (GatewaySends log (firsts_in g.history) g.now) (GatewaySends log' (firsts_in g.history ++ goes.more) g'.now)
      (gateway_sends_on log (begun_in (effect setup g event).sent) (firsts_in g.history) goes.more g.now g'.now (let past = gateway_forward g event taken in omega (arith, past, now))) w.posted l.posted))
      (subst (λ (x : Machine). Each (GatewaySends log' firsts' g'.now) (map (posted_as gateway_end (gateway_address setup)) (put_out (effect setup x event).sent))) (sym is)
      (each_mapped (GatewaySends log' firsts' g'.now) (posted_as gateway_end (gateway_address setup)) (put_out (effect setup g event).sent)
      (packed_hold (Tells log' firsts') g'.now (datagrams_of (effect setup g event).sent)
      (each_mapped (λ (out : OutDatagram). Goes out.bytes) datagram_of (effect setup g event).sent
      (each_from_all IsOut (effect setup g event).sent (event_goes setup g event l.gateway.fits l.gateway.kept).sent))
      (each_mapped (λ (out : OutDatagram). Tells log' firsts' out.bytes out.moment × (out.moment ≤ g'.now)) datagram_of (effect setup g event).sent goes.sent_says))));
  came = each_weaker (Came log) (Came log') (λ one c. one_before (Comes one) log (begun_in (effect setup g event).sent) c) (flat_map reached (arrivals_of (heard_in w))) l.came;
  answers = subst (λ (f : List KeptFirst). Each (HasAnswer f) m.answers) (sym goes.grown)
      (each_weaker (HasAnswer (firsts_in g.history)) (HasAnswer (firsts_in g.history ++ goes.more)) (has_on (firsts_in g.history) goes.more) m.answers l.answers);
  returned = subst (Each (Returns (firsts_in m.history))) (sym (arrived_on setup w event))
      (each_both (Returns (firsts_in m.history)) (arrivals_of w.gateway_took) (arrivals_at (now_in setup w) event) l.returned
      (subst (λ (x : Machine). Each (Returns (firsts_in m.history)) (arrivals_at x.now event)) (sym is) returns));
  time = l.time;
  rises = l.rises;
} where
  goes : EventGoes setup log g (effect setup g event)
  goes = event_holds setup log g event l.gateway taken

  g' : Machine
  g' = (effect setup g event).value

  log' : List Begun
  log' = log ++ begun_in (effect setup g event).sent

  firsts' : List KeptFirst
  firsts' = firsts_in (effect setup g event).value.history

-- the agent takes an event

agent_links : (setup : Setup) (w : World) (event : AgentEvent) (log : List Begun) (g : Machine) (m : AgentMachine) (all : List Begun) → Links setup w log g m → Holds all m → agent_refusal m event ≡ None
    → Each (Came log) (flat_map reached (arrives_with m.now event)) → Each (HasAnswer (firsts_in g.history)) (agent_effect (agent_of setup) m event).machine.answers
    → Links setup (to_agent setup w event) log g (agent_effect (agent_of setup) m event).machine
agent_links setup w event log g m all l h taken came answers = record {
  gateway = l.gateway;
  posted = each_both (GatewaySends log (firsts_in g.history) g.now) w.posted _ l.posted (agent_posts log (firsts_in g.history) g.now (at setup.agent.route 0) _);
  came = subst (λ (x : List TextArrival). Each (Came log) (flat_map reached x)) (sym (agent_arrivals w setup event m.now l.time))
      (subst (Each (Came log)) (sym (flat_map-append reached (arrivals_of (heard_in w)) (arrives_with m.now event)))
      (each_both (Came log) (flat_map reached (arrivals_of (heard_in w))) (flat_map reached (arrives_with m.now event)) l.came came));
  answers = answers;
  returned = subst (λ (f : List KeptFirst). Each (Returns f) (arrivals_of w.gateway_took)) (sym goes.grown)
      (each_weaker (Returns (firsts_in m.history)) (Returns (firsts_in m.history ++ goes.more)) (returns_on (firsts_in m.history) goes.more) (arrivals_of w.gateway_took) l.returned);
  time = agent_time w setup event m.now l.time ∙ sym goes.now;
  rises = subst (λ (x : List TextArrival). Rises (agent_effect (agent_of setup) m event).machine.now (flat_map reached x)) (sym (agent_arrivals w setup event m.now l.time))
      (subst (Rises (agent_effect (agent_of setup) m event).machine.now) (sym (flat_map-append reached (arrivals_of (heard_in w)) (arrives_with m.now event)))
      (rises_on m.now (agent_effect (agent_of setup) m event).machine.now (flat_map reached (arrivals_of (heard_in w))) (flat_map reached (arrives_with m.now event))
      (let past = forward m event taken in let now : (agent_effect (agent_of setup) m event).machine.now ≡ agent_clock m.now event = goes.now in omega (arith, past, now)) l.rises (event_now m.now event)));
} where
  goes : AgentGoesOn (all ++ issued_with m event) m (agent_clock m.now event) (agent_effect (agent_of setup) m event)
  goes = event_on (agent_of setup) all m event h taken

-- A step

abbrev LinksIn : Setup → World → Type 0
LinksIn setup w = Links setup w (own_in setup w) (gateway_in setup w) (agent_in setup w)

gateway_linked : (setup : Setup) (w : World) (event : GatewayEvent) → LinksIn setup w → refusal_of (gateway_in setup w) event ≡ None
    → Each (Returns (firsts_in (agent_in setup w).history)) (arrivals_at (now_in setup w) event) → LinksIn setup (to_gateway setup w event)
gateway_linked setup w event l taken returns =
    subst (λ (log : List Begun). Links setup (to_gateway setup w event) log (gateway_in setup (to_gateway setup w event)) (agent_in setup w)) (sym (own_more setup w event))
    (subst (λ (g : Machine). Links setup (to_gateway setup w event) (own_in setup w ++ begun_in (effect setup (gateway_in setup w) event).sent) g (agent_in setup w)) (sym (gateway_more setup w event))
    (gateway_links setup w event (own_in setup w) (gateway_in setup w) (agent_in setup w) refl l taken (effect_now setup (gateway_in setup w) event) returns))

agent_linked : (setup : Setup) (w : World) (event : AgentEvent) → LinksIn setup w → Holds (issued_in setup w) (agent_in setup w) → agent_refusal (agent_in setup w) event ≡ None
    → Each (Came (own_in setup w)) (flat_map reached (arrives_with (agent_in setup w).now event))
    → Each (HasAnswer (firsts_in (gateway_in setup w).history)) (agent_effect (agent_of setup) (agent_in setup w) event).machine.answers → LinksIn setup (to_agent setup w event)
agent_linked setup w event l h taken came answers =
    subst (λ (m : AgentMachine). Links setup (to_agent setup w event) (own_in setup w) (gateway_in setup w) m)
    (sym (after_on (agent_of setup) (agent_opening (agent_of setup)) w.agent_took (event ∷ []) ∙ alone (agent_of setup) (agent_in setup w) event))
    (agent_links setup w event (own_in setup w) (gateway_in setup w) (agent_in setup w) (issued_in setup w) l h taken came answers)

issue_answers : (setup : AgentSetup) (m : AgentMachine) (verb name rest : List ℕ) → (agent_effect setup m (issues verb name rest)).machine.answers ≡ m.answers
unfolding agent_effect
issue_answers setup m verb name rest = refl

tick_answers : (setup : AgentSetup) (m : AgentMachine) (moment : ℕ) → (agent_effect setup m (hears (tick moment))).machine.answers ≡ m.answers
unfolding agent_effect
tick_answers setup m moment = refl

pub datagram_answers : (setup : AgentSetup) (m : AgentMachine) (source : SocketAddrV4) (bytes : List ℕ)
    → (agent_effect setup m (hears (datagram source bytes))).machine ≡ (took_all setup m source (texts_of bytes)).machine
unfolding agent_effect
datagram_answers setup m source bytes = refl

pub never_refused : (m : Machine) (source : SocketAddrV4) (bytes : List ℕ) → refusal_of m (datagram source bytes) ≡ None
unfolding refusal_of
never_refused m source bytes = refl

pub only_tells : (S : List ℕ → Type 0) (moment now : ℕ) (texts : List (List ℕ)) → Each (λ (text : List ℕ). S text × (moment ≤ now)) texts → Each S texts
only_tells S moment now texts each = each_weaker (λ (text : List ℕ). S text × (moment ≤ now)) S (λ text s. s.0) texts each

delivered_links : (setup : Setup) (w : World) (post : Posted) → Linked setup w → now_in setup w - post.packet.moment ≤ oldest_packet
    → Sends (issued_in setup w) (firsts_in (agent_in setup w).history) (agent_in setup w).now post
    → GatewaySends (own_in setup w) (firsts_in (gateway_in setup w).history) (now_in setup w) post → LinksIn setup (delivered_from post.end setup w post.packet)
delivered_links setup w post l late from_agent from_gateway = by_end post.end post.packet late from_agent from_gateway where
  h : Holds (issued_in setup w) (agent_in setup w)
  h = l.sound.agrees.agent

  by_gateway : (b : Bool) (packet : Packet) → now_in setup w - packet.moment ≤ oldest_packet → Posts (issued_in setup w) (firsts_in (agent_in setup w).history) (agent_in setup w).now agent_end packet
      → LinksIn setup (if b then to_gateway setup w (datagram packet.sender packet.bytes) else w)
  by_gateway true packet late sends =
      gateway_linked setup w (datagram packet.sender packet.bytes) l.links (never_refused (gateway_in setup w) packet.sender packet.bytes)
      (texts_return (issued_in setup w) (firsts_in (agent_in setup w).history) packet.moment (agent_commands (issued_in setup w) (agent_in setup w) h) (agent_answers (issued_in setup w) (agent_in setup w) h)
      (now_in setup w) packet.sender (texts_of packet.bytes) late
      (only_tells (λ (text : List ℕ). Tells (issued_in setup w) (firsts_in (agent_in setup w).history) text packet.moment) packet.moment (agent_in setup w).now (texts_of packet.bytes) sends))
  by_gateway false packet late sends = l.links

  commands : Each IsCommand (own_in setup w)
  commands = log_commands setup (now_in setup w) (own_in setup w) l.links.gateway.stands.logged

  by_agent : (b : Bool) (packet : Packet) → now_in setup w - packet.moment ≤ oldest_packet → GatewayPosts (own_in setup w) (firsts_in (gateway_in setup w).history) (now_in setup w) gateway_end packet
      → LinksIn setup (if b then to_agent setup w (hears (datagram packet.sender packet.bytes)) else w)
  by_agent true packet late sends =
      agent_linked setup w (hears (datagram packet.sender packet.bytes)) l.links h (never (agent_in setup w) packet.sender packet.bytes)
      (texts_came (own_in setup w) (firsts_in (gateway_in setup w).history) packet.moment (agent_in setup w).now packet.sender (texts_of packet.bytes) commands l.links.gateway.answers
      (subst (λ (now : ℕ). Holding (Tells (own_in setup w) (firsts_in (gateway_in setup w).history)) now packet.bytes packet.moment) (sym l.sound.clock) sends)
      (let one : (agent_in setup w).now ≡ now_in setup w = l.sound.clock in omega (arith, late, one)))
      (subst (λ (m : AgentMachine). Each (HasAnswer (firsts_in (gateway_in setup w).history)) m.answers) (sym (datagram_answers (agent_of setup) (agent_in setup w) packet.sender packet.bytes))
      (texts_answers (own_in setup w) (firsts_in (gateway_in setup w).history) packet.moment commands l.links.gateway.answers (agent_of setup) (agent_in setup w) packet.sender (texts_of packet.bytes) l.links.answers
      (only_tells (λ (text : List ℕ). Tells (own_in setup w) (firsts_in (gateway_in setup w).history) text packet.moment) packet.moment (now_in setup w) (texts_of packet.bytes) sends)))
  by_agent false packet late sends = l.links

  by_end : (end : End) (packet : Packet) → now_in setup w - packet.moment ≤ oldest_packet → Posts (issued_in setup w) (firsts_in (agent_in setup w).history) (agent_in setup w).now end packet
      → GatewayPosts (own_in setup w) (firsts_in (gateway_in setup w).history) (now_in setup w) end packet → LinksIn setup (delivered_from end setup w packet)
  by_end agent_end packet late sends none = by_gateway (same_address packet.to (gateway_address setup)) packet late sends
  by_end gateway_end packet late none sends = by_agent (is_among setup.agent.route packet.to) packet late sends

pub step_links : (setup : Setup) (w : World) (step : WorldStep) → Linked setup w → step_refusal setup w step ≡ None → LinksIn setup (went setup w step)
unfolding step_refusal went
step_links setup w (issuing verb name rest) l taken =
    agent_linked setup w (issues verb name rest) l.links l.sound.agrees.agent (agent_taken (agent_refusal (agent_in setup w) (issues verb name rest)) taken) tt
    (subst (Each (HasAnswer (firsts_in (gateway_in setup w).history))) (sym (issue_answers (agent_of setup) (agent_in setup w) verb name rest)) l.links.answers)
step_links setup w (dialling line act) l taken =
    gateway_linked setup w (phone line act) l.links (gateway_taken (refusal_of (gateway_in setup w) (phone line act)) taken) tt
step_links setup w (ticking moment) l taken =
    let may = gateway_taken (refusal_of (gateway_in setup w) (tick moment)) taken in
    let none : tick_refusal (now_in setup w) moment ≡ None = tick_is (gateway_in setup w) moment may in
    let first : LinksIn setup (to_gateway setup w (tick moment)) = gateway_linked setup w (tick moment) l.links may tt in
    agent_linked setup (to_gateway setup w (tick moment)) (hears (tick moment)) first l.sound.agrees.agent
    (tick_taken (agent_in setup w) moment (ap (λ (now : ℕ). tick_refusal now moment) l.sound.clock ∙ none)) tt
    (subst (Each (HasAnswer (firsts_in (gateway_in setup (to_gateway setup w (tick moment))).history))) (sym (tick_answers (agent_of setup) (agent_in setup w) moment)) first.answers)
step_links setup w (delivering number) l taken =
    by_post (slice_get w.posted number)
    (each_at (Sends (issued_in setup w) (firsts_in (agent_in setup w).history) (agent_in setup w).now) w.posted number l.sound.agrees.posted)
    (each_at (GatewaySends (own_in setup w) (firsts_in (gateway_in setup w).history) (now_in setup w)) w.posted number l.links.posted) taken where
      by_post : (found : Option Posted) → IfSome found (Sends (issued_in setup w) (firsts_in (agent_in setup w).history) (agent_in setup w).now)
          → IfSome found (GatewaySends (own_in setup w) (firsts_in (gateway_in setup w).history) (now_in setup w)) → delivery_refusal found (now_in setup w) ≡ None → LinksIn setup (delivered found setup w)
      by_post None one two e = l.links
      by_post (Some post) one two e = delivered_links setup w post l (not_late post (now_in setup w) e) one two

steps_linked : (setup : Setup) (w : World) (steps : List WorldStep) → Linked setup w → steps_are_taken setup w steps ≡ true → Linked setup (world_after setup w steps)
unfolding steps_are_taken world_after
steps_linked setup w [] l taken = l
steps_linked setup w (step ∷ steps) l taken =
    let both = and_parts (is_none (step_refusal setup w step)) (steps_are_taken setup (went setup w step) steps) taken in
    let none = is_none-None (step_refusal setup w step) both.0 in
    steps_linked setup (went setup w step) steps (record { sound = step_sound setup w step l.sound none; links = step_links setup w step l none }) both.1

pub opening_linked : (setup : Setup) → IsSetUp setup → Linked setup world_opening
unfolding machine_after sent_from arrivals_from agent_after clock_from
opening_linked setup set_up = record {
  sound = opening_sound setup;
  links = record { gateway = opening_gateway setup set_up; posted = tt; came = tt; answers = tt; returned = tt; time = refl; rises = tt };
}

pub world_linked : (setup : Setup) (steps : List WorldStep) → IsSetUp setup → steps_are_taken setup world_opening steps ≡ true → Linked setup (plain_world setup steps)
world_linked setup steps set_up taken = steps_linked setup world_opening steps (opening_linked setup set_up) taken

-- The agent's answers are those that the gateway gave

pub answers_are_given : (setup : Setup) (steps : List WorldStep) → IsSetUp setup → steps_are_taken setup world_opening steps ≡ true
    → All (λ (one : FinalAnswer). Any (λ (first : KeptFirst). (first.id ≡ one.id) × (first.answer ≡ one.text)) (firsts_in (gateway_in setup (plain_world setup steps)).history)) (agent_in setup (plain_world setup steps)).answers
answers_are_given setup steps set_up taken =
    let w = plain_world setup steps in
    let l = world_linked setup steps set_up taken in
    all_from_each (λ (one : FinalAnswer). Any (IsAnsweredBy one.id one.text) (firsts_in (gateway_in setup w).history)) (agent_in setup w).answers
    (each_weaker (HasAnswer (firsts_in (gateway_in setup w).history)) (λ (one : FinalAnswer). Any (IsAnsweredBy one.id one.text) (firsts_in (gateway_in setup w).history))
    (λ one has. any_from_one (IsAnsweredBy one.id one.text) (firsts_in (gateway_in setup w).history) has.first) (agent_in setup w).answers l.links.answers)

pub answers_are_final : (setup : Setup) (steps : List WorldStep) → IsSetUp setup → steps_are_taken setup world_opening steps ≡ true
    → All (λ (one : FinalAnswer). (params : List Param) × (body : List ℕ) × (200 ≤ one.code) × (read_text one.text ≡ message (messages.Response one.code one.id params body))) (agent_in setup (plain_world setup steps)).answers
answers_are_final setup steps set_up taken =
    let w = plain_world setup steps in
    let l = world_linked setup steps set_up taken in
    all_from_each (λ (one : FinalAnswer). (params : List Param) × (body : List ℕ) × (200 ≤ one.code) × (read_text one.text ≡ message (messages.Response one.code one.id params body))) (agent_in setup w).answers
    (each_weaker (HasAnswer (firsts_in (gateway_in setup w).history)) (λ (one : FinalAnswer). (params : List Param) × (body : List ℕ) × (200 ≤ one.code) × (read_text one.text ≡ message (messages.Response one.code one.id params body)))
    (λ one has. (has.params, has.body, has.final, has.reads)) (agent_in setup w).answers l.links.answers)

-- The agent takes each command of the gateway's own once at most

pub taken_once : (setup : Setup) (steps : List WorldStep) → IsSetUp setup → steps_are_taken setup world_opening steps ≡ true
    → HasNumbersLeft (own_in setup (plain_world setup steps))
    → AllPairs (λ (first later : Reached). first.asked.id ≢ later.asked.id) (taken_in (plain_world setup steps))
taken_once setup steps set_up taken few = λ i j d less within same.
    let w = plain_world setup steps in
    let l = world_linked setup steps set_up taken in
    let log = own_in setup w in
    let arrived = flat_map reached (arrivals_of (heard_in w)) in
    let each = all_from_each (Came log) (taken_in w) (executed_each (Came log) arrived l.links.came) in
    let far = executed_apart arrived i j d less within same in
    let near = same_issued log (l.links.gateway.stands.logged.apart few) _ _ (each i d (omega (arith, less, within))) (each j d within) same in
    absurd (omega (arith, far, near))

pub taken_as_sent : (setup : Setup) (steps : List WorldStep) → IsSetUp setup → steps_are_taken setup world_opening steps ≡ true
    → All (λ (one : Reached). Any (λ (b : Begun). (b.id ≡ one.asked.id) × (one.outcome ≡ read_text b.text)) (own_in setup (plain_world setup steps))) (taken_in (plain_world setup steps))
taken_as_sent setup steps set_up taken =
    let w = plain_world setup steps in
    let l = world_linked setup steps set_up taken in
    let log = own_in setup w in
    all_from_each (λ (one : Reached). Any (λ (b : Begun). (b.id ≡ one.asked.id) × (one.outcome ≡ read_text b.text)) log) (taken_in w)
    (each_weaker (Came log) (λ (one : Reached). Any (λ (b : Begun). (b.id ≡ one.asked.id) × (one.outcome ≡ read_text b.text)) log)
    (λ one came. any_from_one (λ (b : Begun). (b.id ≡ one.asked.id) × (one.outcome ≡ read_text b.text)) log
    (one_weaker (Comes one) (λ (b : Begun). (b.id ≡ one.asked.id) × (one.outcome ≡ read_text b.text)) (λ b c. (c.id, c.read)) log came))
    (taken_in w) (executed_each (Came log) (flat_map reached (arrivals_of (heard_in w))) l.links.came))

-- What the gateway hears as final is the answer to a first of the agent, which came less than 40,000 ms before

pub answered_lately : (setup : Setup) (steps : List WorldStep) → IsSetUp setup → steps_are_taken setup world_opening steps ≡ true
    → All (λ (a : TextArrival). (code id : ℕ) (params : List Param) (body : List ℕ) → a.outcome ≡ message (messages.Response code id params body) → 200 ≤ code
    → Any (IsLate id a.moment) (firsts_in (agent_in setup (plain_world setup steps)).history)) (arrivals_of (plain_world setup steps).gateway_took)
answered_lately setup steps set_up taken =
    let w = plain_world setup steps in
    let l = world_linked setup steps set_up taken in
    let firsts = firsts_in (agent_in setup w).history in
    let Q : TextArrival → Type 0 = λ a. (code id : ℕ) (params : List Param) (body : List ℕ) → a.outcome ≡ message (messages.Response code id params body) → 200 ≤ code → Any (IsLate id a.moment) firsts in
    all_from_each Q (arrivals_of w.gateway_took)
    (each_weaker (Returns firsts) Q
    (λ a returns. λ code id params body is high. any_from_one (IsLate id a.moment) firsts
    (let back : ReturnsAs firsts a.moment (message (messages.Response code id params body)) = subst (ReturnsAs firsts a.moment) is returns in back high))
    (arrivals_of w.gateway_took) l.links.returned)

pub answered_was_taken : (setup : Setup) (steps : List WorldStep) → IsSetUp setup → steps_are_taken setup world_opening steps ≡ true
    → All (λ (a : TextArrival). (code id : ℕ) (params : List Param) (body : List ℕ) → a.outcome ≡ message (messages.Response code id params body) → 200 ≤ code
    → Any (λ (first : KeptFirst). first.id ≡ id) (firsts_in (agent_in setup (plain_world setup steps)).history)) (arrivals_of (plain_world setup steps).gateway_took)
answered_was_taken setup steps set_up taken =
    let w = plain_world setup steps in
    let l = world_linked setup steps set_up taken in
    let firsts = firsts_in (agent_in setup w).history in
    let Q : TextArrival → Type 0 = λ a. (code id : ℕ) (params : List Param) (body : List ℕ) → a.outcome ≡ message (messages.Response code id params body) → 200 ≤ code → Any (λ (first : KeptFirst). first.id ≡ id) firsts in
    all_from_each Q (arrivals_of w.gateway_took)
    (each_weaker (Returns firsts) Q
    (λ a returns. λ code id params body is high. any_from_one (λ (first : KeptFirst). first.id ≡ id) firsts
    (one_weaker (IsLate id a.moment) (λ (first : KeptFirst). first.id ≡ id) (λ first late. late.0) firsts
    (let back : ReturnsAs firsts a.moment (message (messages.Response code id params body)) = subst (ReturnsAs firsts a.moment) is returns in back high)))
    (arrivals_of w.gateway_took) l.links.returned)
