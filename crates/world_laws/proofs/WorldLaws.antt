-- What comes to the gateway of a world: commands that the agent issued, less than 30,000 ms ago, and responses.
use Rattle.std.specs.List.{slice_index_or}
use Rattle.std.proofs.Common.{◌≡◌, ◌≢◌, ℕ, zero, suc, ◌+◌, ◌-◌, ◌<◌, ◌≤◌, Bool, true, false, ◌==◌, if◌then◌else◌, List, [], ◌∷◌, ◌++◌, map, length, Option, Some, None, inl, inr, refl, sym, ap, ◌∙◌, subst, arith}
use Rattle.std.specs.Prelude.{All, AllPairs, Any, IfSome, nat_lt, flat_map, slice_get, is_none}
use Rattle.std.specs.Str.{bytes_eq}
use Rattle.std.proofs.lemmas.Bool.{and_parts, ltb-false}
use Rattle.std.proofs.lemmas.Bool.Decides.{Decides-eqb}
use Rattle.std.proofs.lemmas.Option.{none-some}
use Rattle.std.proofs.lemmas.Grind.{flat_map-append}
use Rattle.std.specs.declared.net.socket_addr.SocketAddrV4.{SocketAddrV4}
use Rattle.mgcp_text.specs.declared.message.Message.TheVariants as messages
use Rattle.mgcp_text.specs.Reading.{Outcome, message, no_header, bad_version, bad_body, read_text}
use Rattle.mgcp_text.specs.Parts.{parts_of}
use Rattle.transmission.specs.declared.output.OutDatagram.{OutDatagram}
use Rattle.endpoint_names.specs.Route.{at}
use Rattle.plain_machine.specs.Event.{GatewayEvent, datagram, phone, tick}
use Rattle.transmission.specs.Texts.{texts_of, largest_datagram}
use Rattle.plain_machine.specs.Arriving.{arrival, clock_after, arrivals_at, arrivals_from, arrivals_of}
use Rattle.plain_machine.specs.Machine.{Machine, opening}
use Rattle.transmission.specs.Packing.{packed, messages_in, same_address}
use Rattle.plain_machine.specs.Packing.{put_out}
use Rattle.plain_machine.specs.Transactions.{asked_as}
use Rattle.machine_rules.specs.declared.refusal.Refusal.{Refusal}
use Rattle.plain_machine.specs.Refusing.{refusal_of, tick_refusal}
use Rattle.plain_machine.specs.Happening.{effect}
use Rattle.plain_machine.specs.Lists.{machine_after}
use Rattle.transmission.proofs.PackingLaws.{IsMessage, packed_messages}
use Rattle.plain_machine.proofs.ListLaws.{arrivals_on, machine_on}
use Rattle.plain_machine.proofs.EffectLaws.{effect_now}
use Rattle.plain_machine.specs.declared.setup.Setup.{Setup}
use Rattle.machine_laws.proofs.EachLemmas.{Each, all_from_each, any_from_one, each_at, each_both, each_mapped, each_unflat, each_unmapped, each_weaker, one_before, one_of_each, one_to, one_weaker, is_none-None}
use Rattle.machine_laws.proofs.GatewayEvents.{AreAnswers, IsCommand, tells_on}
use Rattle.retransmission.specs.Issued.{is_command_as}
use Rattle.plain_machine.specs.Message.{Begun}
use Rattle.machine_laws.specs.Saying.{Gives, Carries, IsAnswerTo, OneOf, Tells}
use Rattle.call_agent.specs.Hearing.{AgentEvent, AgentRefusal, agent_after, agent_effect, agent_refusal, hears, issued_from, issued_with, issues}
use Rattle.call_agent.specs.Agent.{AgentMachine, agent_opening}
use Rattle.agent_core.specs.declared.packet.End.{End}
use Rattle.agent_core.specs.declared.packet.Packet.{Packet}
use Rattle.agent_core.specs.declared.packet.Posted.{Posted}
use Rattle.agent_core.specs.declared.packet.End.TheVariants.{AgentEnd as agent_end, GatewayEnd as gateway_end}
use Rattle.agent_core.specs.World.{World, WorldStep, agent_in, agent_of, agent_refused, delivered, is_among, delivered_from, delivering, delivery_refusal, dialling, gateway_address, gateway_in, gateway_refused, issuing, now_in, packet_too_old, plain_world, posted_as, step_refusal, steps_are_taken, ticking, to_agent, to_gateway, went, world_after, world_opening, oldest_packet}
use Rattle.world_laws.specs.Reached.{Reached, executed_in, issued_in, reached, reached_as}
use Rattle.call_agent.proofs.EventLemmas.{agent_clock, after_on, forward}
use Rattle.world_laws.proofs.AgentLaws.{Goes, Speaks, WasIssued, Fine, Holds, AgentGoesOn, event_on, opening_holds, issued_more, alone, never, tick_taken}
use Rattle.transmission.specs.declared.entry.KeptFirst.{KeptFirst}
use Rattle.transmission.specs.Kept.{firsts_in}
use Rattle.world_laws.proofs.ReachedLaws.{executed_each, executed_apart}
use Rattle.transmission.specs.Memory.{memory_time}

-- The packets of the agent

-- each text of a datagram that was sent at this moment says so
abbrev pub Holding : (List ℕ → ℕ → Type 0) → ℕ → List ℕ → ℕ → Type 0
Holding S now bytes moment = Each (λ text. S text moment × (moment ≤ now)) (texts_of bytes)

pub texts_hold : (P : List ℕ → Type 0) (bytes : List ℕ) → Each P (parts_of bytes) → Each P (texts_of bytes)
unfolding texts_of
texts_hold P bytes all = by_length (nat_lt largest_datagram (length bytes)) where
  by_length : (b : Bool) → Each P (if b then [] else parts_of bytes)
  by_length true = tt
  by_length false = all

-- messages that are packed: each datagram holds texts that say so
pub packed_hold : (S : List ℕ → ℕ → Type 0) (now : ℕ) (messages : List OutDatagram) → Each (λ (sent : OutDatagram). Goes sent.bytes) messages
    → Each (λ (sent : OutDatagram). S sent.bytes sent.moment × (sent.moment ≤ now)) messages → Each (λ (out : OutDatagram). Holding S now out.bytes out.moment) (packed messages)
packed_hold S now messages goes says =
    let Q : OutDatagram → Type 0 = λ sent. S sent.bytes sent.moment × (sent.moment ≤ now) in
    let apart : flat_map messages_in (packed messages) ≡ messages = packed_messages messages (all_from_each IsMessage messages goes) in
    let inside : Each Q (flat_map messages_in (packed messages)) = subst (Each Q) (sym apart) says in
    each_weaker (λ (out : OutDatagram). Each Q (messages_in out)) (λ (out : OutDatagram). Holding S now out.bytes out.moment)
    (λ out each. texts_hold (λ (text : List ℕ). S text out.moment × (out.moment ≤ now)) out.bytes
    (each_unmapped Q (λ text. record out { bytes = text }) (parts_of out.bytes) each))
    (packed messages) (each_unflat Q messages_in (packed messages) inside)

abbrev pub Posts : List Begun → List KeptFirst → ℕ → End → Packet → Type 0
Posts all firsts now agent_end packet = Holding (Tells all firsts) now packet.bytes packet.moment
Posts all firsts now gateway_end packet = Unit {0}

abbrev pub Sends : List Begun → List KeptFirst → ℕ → Posted → Type 0
Sends all firsts now post = Posts all firsts now post.end post.packet

-- What arrives at the gateway

-- a command that arrived is this one, which was issued less than 30,000 ms before
pub record Comes (one : Reached) (b : Begun) : Type 0 where
  pub id : b.id ≡ one.asked.id
  pub read : one.outcome ≡ read_text b.text
  pub since : b.moment ≤ one.asked.moment
  pub within : one.asked.moment < b.moment + memory_time

abbrev pub Came : List Begun → Reached → Type 0
Came all one = OneOf (Comes one) all

-- the agent and what came to the gateway
pub record Agrees (all : List Begun) (m : AgentMachine) (w : World) : Type 0 where
  pub agent : Holds all m
  pub posted : Each (Sends all (firsts_in m.history) m.now) w.posted
  pub came : Each (Came all) (flat_map reached (arrivals_of w.gateway_took))

pub hold_on : (log more : List Begun) (firsts later : List KeptFirst) (now next : ℕ) → now ≤ next → (packet : Packet) → Holding (Tells log firsts) now packet.bytes packet.moment
    → Holding (Tells (log ++ more) (firsts ++ later)) next packet.bytes packet.moment
hold_on log more firsts later now next past packet sends =
    each_weaker (λ (text : List ℕ). Tells log firsts text packet.moment × (packet.moment ≤ now)) (λ (text : List ℕ). Tells (log ++ more) (firsts ++ later) text packet.moment × (packet.moment ≤ next))
    (λ text s. (tells_on log more firsts later text packet.moment s.0, omega (arith, s.1, past))) (texts_of packet.bytes) sends

sends_on : (all more : List Begun) (firsts later : List KeptFirst) (now next : ℕ) → now ≤ next → (post : Posted) → Sends all firsts now post → Sends (all ++ more) (firsts ++ later) next post
sends_on all more firsts later now next past post sends = by_end post.end post.packet sends where
  by_end : (end : End) (packet : Packet) → Posts all firsts now end packet → Posts (all ++ more) (firsts ++ later) next end packet
  by_end gateway_end packet sends = tt
  by_end agent_end packet sends = hold_on all more firsts later now next past packet sends

clock_on : (m : AgentMachine) (event : AgentEvent) → agent_refusal m event ≡ None → m.now ≤ agent_clock m.now event
clock_on m event taken = forward m event taken

-- the agent takes an event

pub agent_agrees : (setup : Setup) (w : World) (event : AgentEvent) → Agrees (issued_in setup w) (agent_in setup w) w → agent_refusal (agent_in setup w) event ≡ None
    → Agrees (issued_in setup (to_agent setup w event)) (agent_in setup (to_agent setup w event)) (to_agent setup w event)
agent_agrees setup w event a taken =
    rw (issued_more (agent_of setup) (agent_opening (agent_of setup)) w.agent_took event, after_on (agent_of setup) (agent_opening (agent_of setup)) w.agent_took (event ∷ []), one_after) (record {
      agent = goes.holds;
      posted = subst (λ (now : ℕ). Each (Sends more after now) (to_agent setup w event).posted) (sym goes.now)
          (each_both (Sends more after then') w.posted _
          (subst (λ (f : List KeptFirst). Each (Sends more f then') w.posted) (sym goes.grown)
          (each_weaker (Sends all (firsts_in m.history) m.now) (Sends more (firsts_in m.history ++ goes.more) then')
          (sends_on all (issued_with m event) (firsts_in m.history) goes.more m.now then' (clock_on m event taken)) w.posted a.posted))
          (each_mapped (Sends more after then') (posted_as agent_end (at setup.agent.route 0)) (packed (agent_effect (agent_of setup) m event).sent)
          (packed_hold (Tells more after) then' (agent_effect (agent_of setup) m event).sent
          (each_weaker (Speaks more after then') (λ (sent : OutDatagram). Goes sent.bytes) (λ sent s. s.goes) (agent_effect (agent_of setup) m event).sent goes.sent)
          (each_weaker (Speaks more after then') (λ (sent : OutDatagram). Tells more after sent.bytes sent.moment × (sent.moment ≤ then'))
          (λ sent s. (s.says, s.early)) (agent_effect (agent_of setup) m event).sent goes.sent))));
      came = each_weaker (Came all) (Came (all ++ issued_with m event)) (λ one is. one_before (Comes one) all (issued_with m event) is) (flat_map reached (arrivals_of w.gateway_took)) a.came;
    }) where
      m : AgentMachine
      m = agent_in setup w

      all : List Begun
      all = issued_in setup w

      more : List Begun
      more = all ++ issued_with m event

      then' : ℕ
      then' = agent_clock m.now event

      after : List KeptFirst
      after = firsts_in (agent_effect (agent_of setup) m event).machine.history

      goes : AgentGoesOn (all ++ issued_with m event) m (agent_clock m.now event) (agent_effect (agent_of setup) m event)
      goes = event_on (agent_of setup) all m event a.agent taken

      one_after : agent_after (agent_of setup) m (event ∷ []) ≡ (agent_effect (agent_of setup) m event).machine
      one_after = alone (agent_of setup) m event

-- the gateway takes an event

pub arrived_on : (setup : Setup) (w : World) (event : GatewayEvent) → arrivals_of (w.gateway_took ++ event ∷ []) ≡ arrivals_of w.gateway_took ++ arrivals_at (now_in setup w) event
arrived_on setup w event = arrivals_on setup (opening setup) w.gateway_took event

gateway_posts : (all : List Begun) (firsts : List KeptFirst) (now : ℕ) (from : SocketAddrV4) (outs : List OutDatagram) → Each (Sends all firsts now) (map (posted_as gateway_end from) outs)
gateway_posts all firsts now from [] = tt
gateway_posts all firsts now from (out ∷ outs) = (tt, gateway_posts all firsts now from outs)

gateway_agrees : (setup : Setup) (w : World) (event : GatewayEvent) (all : List Begun) (m : AgentMachine) → Agrees all m w
    → Each (Came all) (flat_map reached (arrivals_at (now_in setup w) event)) → Agrees all m (to_gateway setup w event)
gateway_agrees setup w event all m a came = record {
  agent = a.agent;
  posted = each_both (Sends all (firsts_in m.history) m.now) w.posted _ a.posted (gateway_posts all (firsts_in m.history) m.now (gateway_address setup) (put_out (effect setup (gateway_in setup w) event).sent));
  came = rw (arrived_on setup w event)
      (rw (flat_map-append reached (arrivals_of w.gateway_took) (arrivals_at (now_in setup w) event))
      (each_both (Came all) (flat_map reached (arrivals_of w.gateway_took)) _ a.came came));
}

-- a text of the agent's arrives

command_came : (all : List Begun) (now : ℕ) (source : SocketAddrV4) (b : Begun) (name : List ℕ) (outcome : Outcome) → is_command_as b.id name outcome ≡ true
    → outcome ≡ read_text b.text → b.moment ≤ now → now < b.moment + memory_time → Each (λ (one : Reached). Comes one b) (map (reached_as outcome) (asked_as source now outcome))
command_came all now source b name no_header is read since within = absurd cc
command_came all now source b name (bad_version id) is read since within = absurd cc
command_came all now source b name (bad_body id) is read since within = absurd cc
command_came all now source b name (message (messages.Response code id params body)) is read since within = absurd cc
command_came all now source b name (message (messages.Command verb id of params body)) is read since within = (
  record {
    id = sym ((Decides-eqb id b.id).0 (and_parts (id == b.id) (bytes_eq of name) is).0);
    read = read;
    since = since;
    within = within;
  },
  tt,
)

each_of_one : (all : List Begun) (b : Begun) (found : List Reached) → ((P : Begun → Type 0) → P b → OneOf P all) → Each (λ (one : Reached). Comes one b) found → Each (Came all) found
each_of_one all b [] is each = tt
each_of_one all b (one ∷ found) is each = (is (Comes one) each.0, each_of_one all b found is each.1)

-- an issued command, and that it is one of them
one_with : (P : Begun → Type 0) (R : Type 0) (all : List Begun) → OneOf P all → ((b : Begun) → P b → ((Q : Begun → Type 0) → Q b → OneOf Q all) → R) → R
one_with P R [] one step = absurd one
one_with P R (b ∷ all) (inl is) step = step b is (λ Q q. inl q)
one_with P R (b ∷ all) (inr one) step = one_with P R all one (λ c p is. step c p (λ Q q. inr (is Q q)))

-- a text that an end says arrives within 10,000 ms
pub text_came : (all : List Begun) (firsts : List KeptFirst) (moment now : ℕ) (source : SocketAddrV4) (text : List ℕ) → Each IsCommand all → AreAnswers firsts → Tells all firsts text moment
    → moment ≤ now → now - moment ≤ oldest_packet → Each (Came all) (reached (arrival now source text))
text_came all firsts moment now source text commands answers (inr (inl answered)) early late =
    one_to (λ (first : KeptFirst). IsAnswerTo first.id first.answer × Gives text moment first) (Each (Came all) (reached (arrival now source text)))
    (λ first both. let reads = sym (ap read_text both.1.0) ∙ both.0.reads in rw reads tt) firsts
    (one_of_each (λ (first : KeptFirst). IsAnswerTo first.id first.answer) (Gives text moment) firsts answers answered)
text_came all firsts moment now source text commands answers (inr (inr is)) early late = rw is.reads tt
text_came all firsts moment now source text commands answers (inl carried) early late =
    one_with (λ (b : Begun). IsCommand b × Carries text moment b) (Each (Came all) (reached (arrival now source text))) all
    (one_of_each IsCommand (Carries text moment) all commands carried)
    (λ b both is. each_of_one all b (reached (arrival now source text)) is
    (let reads : is_command_as b.id both.0.name (read_text text) ≡ true = ap (λ (t : List ℕ). is_command_as b.id both.0.name (read_text t)) both.1.text ∙ both.0.reads in
    let since : b.moment ≤ now = omega (arith, both.1.since, early) in
    let within : now < b.moment + memory_time = omega (arith, both.1.within, early, late) in
    command_came all now source b both.0.name (read_text text) reads (ap read_text both.1.text) since within))

pub texts_came : (all : List Begun) (firsts : List KeptFirst) (moment now : ℕ) (source : SocketAddrV4) (texts : List (List ℕ)) → Each IsCommand all → AreAnswers firsts
    → Each (λ (text : List ℕ). Tells all firsts text moment × (moment ≤ now)) texts → now - moment ≤ oldest_packet → Each (Came all) (flat_map reached (map (arrival now source) texts))
texts_came all firsts moment now source [] commands answers each late = tt
texts_came all firsts moment now source (text ∷ texts) commands answers each late =
    each_both (Came all) (reached (arrival now source text)) _ (text_came all firsts moment now source text commands answers each.0.0 each.0.1 late)
    (texts_came all firsts moment now source texts commands answers each.1 late)

-- what an agent issued are commands, and what it keeps are answers
pub agent_commands : (all : List Begun) (m : AgentMachine) → Holds all m → Each IsCommand all
agent_commands all m h = each_weaker (WasIssued m.now m.next) IsCommand (λ b w. record { name = w.name; reads = w.reads }) all h.issued

pub agent_answers : (all : List Begun) (m : AgentMachine) → Holds all m → AreAnswers (firsts_in m.history)
agent_answers all m h = each_weaker (λ (first : KeptFirst). Fine first.id first.answer) (λ (first : KeptFirst). IsAnswerTo first.id first.answer) (λ first f. f.response) (firsts_in m.history) h.kept

-- A step

-- both ends have one clock
abbrev pub OneClock : Setup → World → Type 0
OneClock setup w = (agent_in setup w).now ≡ now_in setup w

abbrev AgreesIn : Setup → World → Type 0
AgreesIn setup w = Agrees (issued_in setup w) (agent_in setup w) w

delivered_agrees : (setup : Setup) (w : World) (post : Posted) → AgreesIn setup w → OneClock setup w → Sends (issued_in setup w) (firsts_in (agent_in setup w).history) (agent_in setup w).now post
    → now_in setup w - post.packet.moment ≤ oldest_packet → AgreesIn setup (delivered_from post.end setup w post.packet)
delivered_agrees setup w post a one sends late = by_end post.end post.packet sends late where
  by_gateway : (b : Bool) (packet : Packet) → Posts (issued_in setup w) (firsts_in (agent_in setup w).history) (agent_in setup w).now agent_end packet → now_in setup w - packet.moment ≤ oldest_packet
      → AgreesIn setup (if b then to_gateway setup w (datagram packet.sender packet.bytes) else w)
  by_gateway true packet sends late =
      gateway_agrees setup w (datagram packet.sender packet.bytes) (issued_in setup w) (agent_in setup w) a
      (texts_came (issued_in setup w) (firsts_in (agent_in setup w).history) packet.moment (now_in setup w) packet.sender (texts_of packet.bytes)
      (agent_commands (issued_in setup w) (agent_in setup w) a.agent) (agent_answers (issued_in setup w) (agent_in setup w) a.agent)
      (subst (λ (now : ℕ). Holding (Tells (issued_in setup w) (firsts_in (agent_in setup w).history)) now packet.bytes packet.moment) one sends) late)
  by_gateway false packet sends late = a

  by_agent : (b : Bool) (packet : Packet) → AgreesIn setup (if b then to_agent setup w (hears (datagram packet.sender packet.bytes)) else w)
  by_agent true packet = agent_agrees setup w (hears (datagram packet.sender packet.bytes)) a (never (agent_in setup w) packet.sender packet.bytes)
  by_agent false packet = a

  by_end : (end : End) (packet : Packet) → Posts (issued_in setup w) (firsts_in (agent_in setup w).history) (agent_in setup w).now end packet → now_in setup w - packet.moment ≤ oldest_packet
      → AgreesIn setup (delivered_from end setup w packet)
  by_end agent_end packet sends late = by_gateway (same_address packet.to (gateway_address setup)) packet sends late
  by_end gateway_end packet sends late = by_agent (is_among setup.agent.route packet.to) packet

pub not_late : (post : Posted) (now : ℕ) → delivery_refusal (Some post) now ≡ None → now - post.packet.moment ≤ oldest_packet
not_late post now taken = by_test (nat_lt oldest_packet (now - post.packet.moment)) refl taken where
  by_test : (b : Bool) → nat_lt oldest_packet (now - post.packet.moment) ≡ b → (if b then Some packet_too_old else None) ≡ None → now - post.packet.moment ≤ oldest_packet
  by_test true old e = absurd (none-some packet_too_old (sym e))
  by_test false fresh e = ltb-false oldest_packet (now - post.packet.moment) fresh

pub agent_taken : (refusal : Option AgentRefusal) → agent_refused refusal ≡ None → refusal ≡ None
agent_taken None e = refl
agent_taken (Some refusal) e = absurd (none-some _ (sym e))

pub gateway_taken : (refusal : Option Refusal) → gateway_refused refusal ≡ None → refusal ≡ None
gateway_taken None e = refl
gateway_taken (Some refusal) e = absurd (none-some _ (sym e))

pub tick_is : (m : Machine) (moment : ℕ) → refusal_of m (tick moment) ≡ None → tick_refusal m.now moment ≡ None
unfolding refusal_of
tick_is m moment none = none

pub gateway_alone : (setup : Setup) (m : Machine) (event : GatewayEvent) → machine_after setup m (event ∷ []) ≡ (effect setup m event).value
unfolding machine_after
gateway_alone setup m event = refl

pub gateway_clock : (setup : Setup) (w : World) (event : GatewayEvent) → now_in setup (to_gateway setup w event) ≡ clock_after (now_in setup w) event
gateway_clock setup w event =
    ap (λ (m : Machine). m.now) (machine_on setup (opening setup) w.gateway_took (event ∷ []) ∙ gateway_alone setup (gateway_in setup w) event)
    ∙ effect_now setup (gateway_in setup w) event

pub agent_clock_on : (setup : Setup) (w : World) (event : AgentEvent) → Holds (issued_in setup w) (agent_in setup w) → agent_refusal (agent_in setup w) event ≡ None
    → (agent_in setup (to_agent setup w event)).now ≡ agent_clock (agent_in setup w).now event
agent_clock_on setup w event h taken =
    ap (λ (m : AgentMachine). m.now) (after_on (agent_of setup) (agent_opening (agent_of setup)) w.agent_took (event ∷ []) ∙ alone (agent_of setup) (agent_in setup w) event)
    ∙ (event_on (agent_of setup) (issued_in setup w) (agent_in setup w) event h taken).now

-- what holds of a world
pub record Sound (setup : Setup) (w : World) : Type 0 where
  pub agrees : Agrees (issued_in setup w) (agent_in setup w) w
  pub clock : OneClock setup w

delivered_clock : (setup : Setup) (w : World) (post : Posted) → AgreesIn setup w → OneClock setup w → OneClock setup (delivered_from post.end setup w post.packet)
delivered_clock setup w post a one = by_end post.end post.packet where
  by_gateway : (b : Bool) (packet : Packet) → OneClock setup (if b then to_gateway setup w (datagram packet.sender packet.bytes) else w)
  by_gateway true packet = one ∙ sym (gateway_clock setup w (datagram packet.sender packet.bytes))
  by_gateway false packet = one

  by_agent : (b : Bool) (packet : Packet) → OneClock setup (if b then to_agent setup w (hears (datagram packet.sender packet.bytes)) else w)
  by_agent true packet = agent_clock_on setup w (hears (datagram packet.sender packet.bytes)) a.agent (never (agent_in setup w) packet.sender packet.bytes) ∙ one
  by_agent false packet = one

  by_end : (end : End) (packet : Packet) → OneClock setup (delivered_from end setup w packet)
  by_end agent_end packet = by_gateway (same_address packet.to (gateway_address setup)) packet
  by_end gateway_end packet = by_agent (is_among setup.agent.route packet.to) packet

pub step_sound : (setup : Setup) (w : World) (step : WorldStep) → Sound setup w → step_refusal setup w step ≡ None → Sound setup (went setup w step)
unfolding step_refusal went
step_sound setup w (issuing verb name rest) s taken =
    let may = agent_taken (agent_refusal (agent_in setup w) (issues verb name rest)) taken in
    record {
      agrees = agent_agrees setup w (issues verb name rest) s.agrees may;
      clock = agent_clock_on setup w (issues verb name rest) s.agrees.agent may ∙ s.clock;
    }
step_sound setup w (dialling line act) s taken = record {
  agrees = gateway_agrees setup w (phone line act) (issued_in setup w) (agent_in setup w) s.agrees tt;
  clock = s.clock ∙ sym (gateway_clock setup w (phone line act));
}
step_sound setup w (ticking moment) s taken =
    let none : tick_refusal (now_in setup w) moment ≡ None = tick_is (gateway_in setup w) moment (gateway_taken (refusal_of (gateway_in setup w) (tick moment)) taken) in
    let may : agent_refusal (agent_in setup w) (hears (tick moment)) ≡ None =
    tick_taken (agent_in setup w) moment (ap (λ (now : ℕ). tick_refusal now moment) s.clock ∙ none) in
    let first : Agrees (issued_in setup w) (agent_in setup w) (to_gateway setup w (tick moment)) = gateway_agrees setup w (tick moment) (issued_in setup w) (agent_in setup w) s.agrees tt in
    record {
      agrees = agent_agrees setup (to_gateway setup w (tick moment)) (hears (tick moment)) first may;
      clock = agent_clock_on setup (to_gateway setup w (tick moment)) (hears (tick moment)) first.agent may ∙ sym (gateway_clock setup w (tick moment));
    }
step_sound setup w (delivering number) s taken =
    by_post (slice_get w.posted number) (each_at (Sends (issued_in setup w) (firsts_in (agent_in setup w).history) (agent_in setup w).now) w.posted number s.agrees.posted) taken where
      by_post : (found : Option Posted) → IfSome found (Sends (issued_in setup w) (firsts_in (agent_in setup w).history) (agent_in setup w).now) → delivery_refusal found (now_in setup w) ≡ None → Sound setup (delivered found setup w)
      by_post None sends e = s
      by_post (Some post) sends e = record {
        agrees = delivered_agrees setup w post s.agrees s.clock sends (not_late post (now_in setup w) e);
        clock = delivered_clock setup w post s.agrees s.clock;
      }

steps_sound : (setup : Setup) (w : World) (steps : List WorldStep) → Sound setup w → steps_are_taken setup w steps ≡ true → Sound setup (world_after setup w steps)
unfolding steps_are_taken world_after
steps_sound setup w [] s taken = s
steps_sound setup w (step ∷ steps) s taken =
    let both = and_parts (is_none (step_refusal setup w step)) (steps_are_taken setup (went setup w step) steps) taken in
    steps_sound setup (went setup w step) steps (step_sound setup w step s (is_none-None (step_refusal setup w step) both.0)) both.1

pub opening_sound : (setup : Setup) → Sound setup world_opening
unfolding issued_from agent_after machine_after arrivals_from
opening_sound setup = record { agrees = record { agent = opening_holds (agent_of setup); posted = tt; came = tt }; clock = refl }

pub world_sound : (setup : Setup) (steps : List WorldStep) → steps_are_taken setup world_opening steps ≡ true → Sound setup (plain_world setup steps)
world_sound setup steps taken = steps_sound setup world_opening steps (opening_sound setup) taken

-- Each command is executed once at most

head_apart : (all : List Begun) (b : Begun) → AllPairs (λ (a c : Begun). a.id ≢ c.id) (b ∷ all) → (one : Reached) → Came all one → b.id ≢ one.asked.id
head_apart all b apart one came same =
    let any = any_from_one (Comes one) all came in
    let less : suc any.0 < length (b ∷ all) = (let k : any.0 < length all = any.2 in omega arith) in
    let far = apart zero (suc any.0) any.1 (omega arith) less in
    let here : slice_index_or all any.0 any.1 ≡ any.1 = any.3 in
    far (same ∙ sym (ap (λ (c : Begun). c.id) here ∙ any.4.id))

tail_apart : (all : List Begun) (b : Begun) → AllPairs (λ (a c : Begun). a.id ≢ c.id) (b ∷ all) → AllPairs (λ (a c : Begun). a.id ≢ c.id) all
tail_apart all b apart = λ i j d less within. apart (suc i) (suc j) d (omega (arith, less)) (omega (arith, within))

-- two that come from issued commands with one id come within 30,000 ms
pub same_issued : (all : List Begun) → AllPairs (λ (a b : Begun). a.id ≢ b.id) all → (one other : Reached) → Came all one → Came all other → one.asked.id ≡ other.asked.id
    → other.asked.moment - one.asked.moment < memory_time
same_issued [] apart one other came comes same = absurd came
same_issued (b ∷ all) apart one other (inl here) (inl there) same = omega (arith, here.since, there.within)
same_issued (b ∷ all) apart one other (inl here) (inr there) same = absurd (head_apart all b apart other there (here.id ∙ same))
same_issued (b ∷ all) apart one other (inr here) (inl there) same = absurd (head_apart all b apart one here (there.id ∙ sym same))
same_issued (b ∷ all) apart one other (inr here) (inr there) same = same_issued all (tail_apart all b apart) one other here there same

pub once : (setup : Setup) (steps : List WorldStep) → steps_are_taken setup world_opening steps ≡ true
    → AllPairs (λ (first later : Reached). first.asked.id ≢ later.asked.id) (executed_in (plain_world setup steps))
once setup steps taken = λ i j d less within same.
    let w = plain_world setup steps in
    let s = world_sound setup steps taken in
    let all = issued_in setup w in
    let each = all_from_each (Came all) (executed_in w) (executed_each (Came all) (flat_map reached (arrivals_of w.gateway_took)) s.agrees.came) in
    let far = executed_apart (flat_map reached (arrivals_of w.gateway_took)) i j d less within same in
    let near = same_issued all s.agrees.agent.apart _ _ (each i d (omega (arith, less, within))) (each j d within) same in
    absurd (omega (arith, far, near))

pub as_issued : (setup : Setup) (steps : List WorldStep) → steps_are_taken setup world_opening steps ≡ true
    → All (λ (one : Reached). Any (λ (b : Begun). (b.id ≡ one.asked.id) × (one.outcome ≡ read_text b.text)) (issued_in setup (plain_world setup steps))) (executed_in (plain_world setup steps))
as_issued setup steps taken =
    let w = plain_world setup steps in
    let s = world_sound setup steps taken in
    let all = issued_in setup w in
    all_from_each (λ (one : Reached). Any (λ (b : Begun). (b.id ≡ one.asked.id) × (one.outcome ≡ read_text b.text)) all) (executed_in w)
    (each_weaker (Came all) (λ (one : Reached). Any (λ (b : Begun). (b.id ≡ one.asked.id) × (one.outcome ≡ read_text b.text)) all)
    (λ one came. any_from_one (λ (b : Begun). (b.id ≡ one.asked.id) × (one.outcome ≡ read_text b.text)) all
    (one_weaker (Comes one) (λ (b : Begun). (b.id ≡ one.asked.id) × (one.outcome ≡ read_text b.text)) (λ b c. (c.id, c.read)) all came))
    (executed_in w) (executed_each (Came all) (flat_map reached (arrivals_of w.gateway_took)) s.agrees.came))

pub ids_apart : (setup : Setup) (steps : List WorldStep) → steps_are_taken setup world_opening steps ≡ true
    → AllPairs (λ (a b : Begun). a.id ≢ b.id) (issued_in setup (plain_world setup steps))
ids_apart setup steps taken = (world_sound setup steps taken).agrees.agent.apart
