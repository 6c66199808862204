-- A command that the agent issued goes out at its moments, until it has its answer or a provisional response puts it off.
use Rattle.std.proofs.Common.{◌≡◌, ℕ, ◌<◌, ◌≤◌, Bool, true, false, if◌then◌else◌, List, [], length, refl, sym, ap, subst, arith, ◌+◌, ◌∷◌, ◌++◌, map, Option, Some, None, inl, inr, ◌∙◌}
use Rattle.std.specs.Prelude.{All, nat_lt, flat_map, ◌⊎◌, slice_get, nat_le, is_none}
use Rattle.std.proofs.lemmas.Bool.{ltb-true, and_parts, leb-true, leb-false}
use Rattle.mgcp_text.specs.Parts.{parts_of}
use Rattle.transmission.specs.declared.output.OutDatagram.{OutDatagram}
use Rattle.transmission.specs.Texts.{texts_of, largest_datagram}
use Rattle.transmission.specs.Packing.{packed, messages_in, same_address}
use Rattle.transmission.proofs.PackingLaws.{IsMessage, IsWithin, packed_messages, packed_within}
use Rattle.machine_laws.specs.Saying.{OneOf}
use Rattle.machine_laws.proofs.EachLemmas.{each_from_all, one_of_each, one_to, one_unmapped, one_weaker, Each, all_from_each, any_from_one, each_both, each_push, each_weaker, is_none-None, one_before, one_behind, one_mapped, one_from_any}
use Rattle.world_laws.proofs.LookLemmas.{one_unflat, each_two, one_beyond}
use Rattle.std.specs.declared.net.socket_addr.SocketAddrV4.{SocketAddrV4}
use Rattle.mgcp_text.specs.Reading.{read_text}
use Rattle.retransmission.specs.Sends.{most_repeats}
use Rattle.retransmission.specs.Flight.{InFlight}
use Rattle.transmission.specs.Transacting.{message_to}
use Rattle.endpoint_names.specs.Route.{at}
use Rattle.plain_machine.specs.declared.setup.Setup.{Setup}
use Rattle.plain_machine.specs.Setup.{IsSetUp}
use Rattle.plain_machine.specs.Arriving.{TextArrival, arrival, arrivals_of}
use Rattle.plain_machine.specs.Event.{GatewayEvent, datagram, phone, tick}
use Rattle.plain_machine.specs.Refusing.{refusal_of, tick_refusal}
use Rattle.plain_machine.specs.Message.{Begun}
use Rattle.mg_line.specs.declared.phone.Act.{Act}
use Rattle.call_agent.specs.declared.setup.AgentSetup.{AgentSetup}
use Rattle.call_agent.specs.Issuing.{command_text}
use Rattle.call_agent.specs.Agent.{AgentMachine, FinalAnswer, agent_opening}
use Rattle.call_agent.specs.Flying.{pass}
use Rattle.call_agent.specs.Hearing.{AgentEvent, agent_effect, agent_refusal, hears, issued_from, issued_with, issues, took_all}
use Rattle.call_agent.proofs.EventLemmas.{forward}
use Rattle.agent_core.specs.declared.packet.End.{End}
use Rattle.agent_core.specs.declared.packet.End.TheVariants.{AgentEnd as agent_end, GatewayEnd as gateway_end}
use Rattle.agent_core.specs.declared.packet.Packet.{Packet}
use Rattle.agent_core.specs.declared.packet.Posted.{Posted}
use Rattle.agent_core.specs.World.{World, WorldStep, agent_in, agent_of, delivered, delivered_from, delivering, dialling, gateway_address, gateway_in, is_among, issuing, now_in, plain_world, posted_as, step_refusal, steps_are_taken, ticking, to_agent, to_gateway, went, world_after, world_opening}
use Rattle.world_laws.specs.Reached.{heard_in, issued_in}
use Rattle.world_laws.proofs.AgentLaws.{Flies, Holds, WasIssued, event_on, issued_more, never, tick_taken}
use Rattle.machine_laws.proofs.FlightLemmas.{IsSame}
use Rattle.world_laws.proofs.AnswersOnce.{Apart, events_on, opening_single}
use Rattle.world_laws.proofs.LinkLaws.{agent_arrivals, arrives_with, clock_from}
use Rattle.world_laws.proofs.PassLaws.{none_is_due, at_once, offset, offset_first, offset_rises}
use Rattle.world_laws.proofs.WorldLaws.{Sound, agent_taken, gateway_taken, opening_sound, step_sound, tick_is, world_sound, gateway_clock}
use Rattle.world_laws.specs.Copies.{IsIssued, HasAnswer, answer_wait}
use Rattle.world_laws.specs.Chances.{chances, IsSentAfter}
use Rattle.world_laws.proofs.PostedFinal.{Grows, agent_more, gateway_grows, agent_grows, copy_stays, has_answer, address_itself, step_more, steps_more}
use Rattle.world_laws.proofs.ChanceLemmas.{FliesAt, FliesOn, GoesOut, GoOut, IsAt, flies_later, pass_flies}
use Rattle.world_laws.proofs.PutOffLemmas.{NoneProvisional, none_provisional}
use Rattle.world_laws.proofs.QuietLemmas.{IsProvisional, Of, IsUp, Stays, texts_stay}
use Rattle.machine_laws.proofs.GatewayEvents.{gateway_forward}

-- A message that an end sends is in one of the datagrams that go out.

-- the datagram goes where the message goes, at its moment, and has its text
pub record HasMessage (one out : OutDatagram) : Type 0 where
  pub there : out.to ≡ one.to
  pub moment : out.moment ≡ one.moment
  pub inside : OneOf (λ (text : List ℕ). text ≡ one.bytes) (texts_of out.bytes)

-- the texts of what is short enough are its parts
texts_within : (bytes : List ℕ) → length bytes ≤ largest_datagram → parts_of bytes ≡ texts_of bytes
unfolding texts_of
texts_within bytes short = by_test (nat_lt largest_datagram (length bytes)) refl where
  by_test : (b : Bool) → nat_lt largest_datagram (length bytes) ≡ b → parts_of bytes ≡ (if b then [] else parts_of bytes)
  by_test true long = absurd (let more : largest_datagram < length bytes = ltb-true largest_datagram (length bytes) long in omega (arith, more, short))
  by_test false fits = refl

abbrev with_bytes : OutDatagram → List ℕ → OutDatagram
with_bytes out text = record out { bytes = text }

message_is : (one out : OutDatagram) → IsWithin out → OneOf (λ (m : OutDatagram). m ≡ one) (messages_in out) → HasMessage one out
message_is one out short has =
    let texts : OneOf (λ (text : List ℕ). with_bytes out text ≡ one) (parts_of out.bytes) = one_unmapped (λ (m : OutDatagram). m ≡ one) (with_bytes out) (parts_of out.bytes) has in
    record {
      there = one_to (λ (text : List ℕ). with_bytes out text ≡ one) (out.to ≡ one.to) (λ text is. ap (λ (m : OutDatagram). m.to) is) (parts_of out.bytes) texts;
      moment = one_to (λ (text : List ℕ). with_bytes out text ≡ one) (out.moment ≡ one.moment) (λ text is. ap (λ (m : OutDatagram). m.moment) is) (parts_of out.bytes) texts;
      inside = subst (OneOf (λ (text : List ℕ). text ≡ one.bytes)) (texts_within out.bytes short)
          (one_weaker (λ (text : List ℕ). with_bytes out text ≡ one) (λ (text : List ℕ). text ≡ one.bytes) (λ text is. ap (λ (m : OutDatagram). m.bytes) is) (parts_of out.bytes) texts);
    }

pub packed_has : (messages : List OutDatagram) (one : OutDatagram) → All IsMessage messages → OneOf (λ (m : OutDatagram). m ≡ one) messages
    → OneOf (HasMessage one) (packed messages)
packed_has messages one goes has =
    let outs = packed messages in
    let same : flat_map messages_in outs ≡ messages = packed_messages messages goes in
    let inside : OneOf (λ (m : OutDatagram). m ≡ one) (flat_map messages_in outs) = subst (OneOf (λ (m : OutDatagram). m ≡ one)) (sym same) has in
    one_weaker (λ (out : OutDatagram). IsWithin out × OneOf (λ (m : OutDatagram). m ≡ one) (messages_in out)) (HasMessage one)
    (λ out both. message_is one out both.0 both.1) outs
    (one_of_each IsWithin (λ (out : OutDatagram). OneOf (λ (m : OutDatagram). m ≡ one) (messages_in out)) outs
    (each_from_all IsWithin outs (packed_within messages goes)) (one_unflat (λ (m : OutDatagram). m ≡ one) messages_in outs inside))

-- Copies of a command

-- a copy went out at each of its moments up to this one
abbrev Copies : Setup → World → Begun → ℕ → Type 0
Copies setup w b until = (number : ℕ) → number ≤ until → IsSentAfter setup w b (offset number)

-- the command flies with so many repeats, and its copies so far went out; or all of them did, and it was given up
abbrev SentSo : Setup → World → AgentMachine → Begun → Type 0
SentSo setup w m b =
    ((count : ℕ) × FliesAt (gateway_address setup) b count m.flights × (m.now < b.moment + offset (count + 1)) × Copies setup w b count)
    ⊎ (Copies setup w b most_repeats × (b.moment + answer_wait ≤ m.now))

sent_stays : (setup : Setup) (w next : World) (b : Begun) (wait : ℕ) → Grows setup b.id w next → IsSentAfter setup w b wait → IsSentAfter setup next b wait
unfolding copy_stays
sent_stays setup w next b wait grows sent =
    record { number = sent.number; copy = copy_stays setup b.id w next agent_end b.text sent.number grows sent.copy; moment = sent.moment }

so_stays : (setup : Setup) (w next : World) (m : AgentMachine) (b : Begun) → Grows setup b.id w next → SentSo setup w m b → SentSo setup next m b
so_stays setup w next m b grows (inl on) = inl (on.0, on.1, on.2, λ number less. sent_stays setup w next b (offset number) grows (on.3 number less))
so_stays setup w next m b grows (inr gone) = inr (λ number less. sent_stays setup w next b (offset number) grows (gone.0 number less), gone.1)

-- What the agent sends is posted

-- this command is among the texts of a packet that goes to the gateway at this moment
abbrev Carries : Setup → ℕ → List ℕ → Posted → Type 0
Carries setup moment text post =
    (post.end ≡ agent_end) × (post.packet.to ≡ gateway_address setup) × (post.packet.moment ≡ moment) × OneOf (λ (one : List ℕ). one ≡ text) (texts_of post.packet.bytes)

posts_copy : (setup : Setup) (w : World) (event : AgentEvent) (b : Begun) (number : ℕ) → All IsMessage (agent_effect (agent_of setup) (agent_in setup w) event).sent
    → GoesOut (gateway_address setup) b number (agent_effect (agent_of setup) (agent_in setup w) event).sent → IsSentAfter setup (to_agent setup w event) b (offset number)
posts_copy setup w event b number goes out =
    let sent = (agent_effect (agent_of setup) (agent_in setup w) event).sent in
    let moment = b.moment + offset number in
    let one : OutDatagram = message_to (gateway_address setup) moment b.text in
    let from = at setup.agent.route 0 in
    let told = one_beyond (Carries setup moment b.text) w.posted (map (posted_as agent_end from) (packed sent))
    (one_mapped (Carries setup moment b.text) (posted_as agent_end from) (packed sent)
    (one_weaker (HasMessage one) (λ (out : OutDatagram). Carries setup moment b.text (posted_as agent_end from out))
    (λ out has. (refl, has.there, has.moment, has.inside)) (packed sent) (packed_has sent one goes out))) in
    record {
      number = told.0;
      copy = record {
        post = told.1;
        found = told.3;
        sender = told.4.0;
        goes = ap (λ (a : SocketAddrV4). same_address a (gateway_address setup)) told.4.1 ∙ address_itself (gateway_address setup);
        inside = any_from_one (λ (one : List ℕ). one ≡ b.text) (texts_of told.1.packet.bytes) told.4.3;
      };
      moment = told.4.2;
    }

-- An event of the agent's

apart_in : (setup : Setup) (w : World) → Apart (agent_in setup w).flights
apart_in setup w = (events_on (agent_of setup) (agent_opening (agent_of setup)) w.agent_took (opening_single (agent_of setup))).single.apart

pub goes_in : (setup : Setup) (w : World) (event : AgentEvent) → Holds (issued_in setup w) (agent_in setup w) → agent_refusal (agent_in setup w) event ≡ None
    → All IsMessage (agent_effect (agent_of setup) (agent_in setup w) event).sent
goes_in setup w event h taken =
    let goes = event_on (agent_of setup) (issued_in setup w) (agent_in setup w) event h taken in
    let all = issued_in setup w ++ issued_with (agent_in setup w) event in
    let sent = (agent_effect (agent_of setup) (agent_in setup w) event).sent in
    all_from_each IsMessage sent (each_weaker _ IsMessage (λ out s. s.goes) sent goes.sent)

tick_sends : (setup : AgentSetup) (m : AgentMachine) (moment : ℕ) → (agent_effect setup m (hears (tick moment))).sent ≡ (pass m.flights moment).sent
unfolding agent_effect
tick_sends setup m moment = refl

-- the copies up to the one before and those that go out are those up to the other
copies_on : (setup : Setup) (w : World) (moment : ℕ) (b : Begun) (count until : ℕ) → All IsMessage (agent_effect (agent_of setup) (agent_in setup w) (hears (tick moment))).sent
    → Copies setup w b count → GoOut (gateway_address setup) b count until (pass (agent_in setup w).flights moment).sent
    → Copies setup (to_agent setup w (hears (tick moment))) b until
copies_on setup w moment b count until goes copies out = λ number less. by_test number (nat_le number count) refl less where
  by_test : (number : ℕ) (x : Bool) → nat_le number count ≡ x → number ≤ until → IsSentAfter setup (to_agent setup w (hears (tick moment))) b (offset number)
  by_test number true low less =
      sent_stays setup w (to_agent setup w (hears (tick moment))) b (offset number) (agent_grows setup b.id w (hears (tick moment))) (copies number (leb-true number count low))
  by_test number false high less =
      posts_copy setup w (hears (tick moment)) b number goes
      (subst (GoesOut (gateway_address setup) b number) (sym (tick_sends (agent_of setup) (agent_in setup w) moment)) (out number (leb-false number count high) less))

tick_so : (setup : Setup) (w : World) (moment : ℕ) (b : Begun) → All IsMessage (agent_effect (agent_of setup) (agent_in setup w) (hears (tick moment))).sent
    → (agent_in setup w).now ≤ moment → SentSo setup w (agent_in setup w) b
    → SentSo setup (to_agent setup w (hears (tick moment))) (agent_effect (agent_of setup) (agent_in setup w) (hears (tick moment))).machine b
unfolding agent_effect
tick_so setup w moment b goes past (inr gone) =
    inr (λ number less. sent_stays setup w (to_agent setup w (hears (tick moment))) b (offset number) (agent_grows setup b.id w (hears (tick moment))) (gone.0 number less), omega (arith, past, gone.1))
tick_so setup w moment b goes past (inl on) = by_flies (pass_flies (gateway_address setup) b moment on.0 (agent_in setup w).flights (apart_in setup w) on.1) where
  by_flies : FliesOn (gateway_address setup) b on.0 moment (pass (agent_in setup w).flights moment)
      → SentSo setup (to_agent setup w (hears (tick moment))) (agent_effect (agent_of setup) (agent_in setup w) (hears (tick moment))).machine b
  by_flies (inl later) =
      inl (
        later.0,
        later.1,
        flies_later (gateway_address setup) b later.0 moment (pass (agent_in setup w).flights moment).flights (none_is_due (agent_of setup) w.agent_took moment) later.1,
        copies_on setup w moment b on.0 later.0 goes on.3 later.2,
      )
  by_flies (inr all) = inr (copies_on setup w moment b on.0 most_repeats goes on.3 all.0, all.1)

issue_so : (setup : Setup) (w : World) (verb name rest : List ℕ) (b : Begun) → b.id < (agent_in setup w).next → SentSo setup w (agent_in setup w) b
    → SentSo setup w (agent_effect (agent_of setup) (agent_in setup w) (issues verb name rest)).machine b
unfolding agent_effect
issue_so setup w verb name rest b below (inr gone) = inr gone
issue_so setup w verb name rest b below (inl on) = inl (
  on.0,
  record {
    each = each_push (λ (g : InFlight). g.id ≡ b.id → IsAt (gateway_address setup) b on.0 g) (agent_in setup w).flights _ on.1.each (λ same. absurd (omega (arith, below, same)));
    among = one_before (λ (g : InFlight). g.id ≡ b.id) (agent_in setup w).flights _ on.1.among;
    few = on.1.few;
  },
  on.2,
  on.3,
)

-- the answer came, or a provisional response did, or it is sent so
abbrev SentOr : Setup → World → AgentMachine → Begun → Type 0 → Type 0
SentOr setup w m b Put = OneOf (λ (one : FinalAnswer). one.id ≡ b.id) m.answers ⊎ (Put ⊎ SentSo setup w m b)

abbrev IsPutOff : ℕ → TextArrival → Type 0
IsPutOff id a = IsProvisional id a.outcome

datagram_so : (setup : Setup) (w : World) (source : SocketAddrV4) (bytes : List ℕ) (b : Begun) (now : ℕ)
    → (agent_effect (agent_of setup) (agent_in setup w) (hears (datagram source bytes))).machine.now ≡ (agent_in setup w).now → SentSo setup w (agent_in setup w) b
    → SentOr setup w (agent_effect (agent_of setup) (agent_in setup w) (hears (datagram source bytes))).machine b (OneOf (IsPutOff b.id) (map (arrival now source) (texts_of bytes)))
unfolding agent_effect
datagram_so setup w source bytes b now clock (inr gone) = inr (inr (inr (gone.0, omega (arith, clock, gone.1))))
datagram_so setup w source bytes b now clock (inl on) =
    by_texts (texts_stay (gateway_address setup) b on.0 (agent_in setup w).now (agent_of setup) (agent_in setup w) source (texts_of bytes) (record { flies = on.1; clock = refl })) where
      m : AgentMachine
      m = (took_all (agent_of setup) (agent_in setup w) source (texts_of bytes)).machine

      by_texts : Stays (gateway_address setup) b on.0 (agent_in setup w).now (OneOf (λ (text : List ℕ). IsProvisional b.id (read_text text)) (texts_of bytes)) m
          → SentOr setup w m b (OneOf (IsPutOff b.id) (map (arrival now source) (texts_of bytes)))
      by_texts (inl has) = inl has
      by_texts (inr (inl put)) = inr (inl (one_mapped (IsPutOff b.id) (arrival now source) (texts_of bytes) put))
      by_texts (inr (inr still)) = inr (inr (inl (on.0, still.flies, omega (arith, clock, on.2), on.3)))

phone_so : (setup : Setup) (w : World) (line : ℕ) (act : Act) (b : Begun) → SentSo setup w (agent_in setup w) b
    → SentSo setup w (agent_effect (agent_of setup) (agent_in setup w) (hears (phone line act))).machine b
unfolding agent_effect
phone_so setup w line act b s = s

or_stays : (setup : Setup) (w next : World) (m : AgentMachine) (b : Begun) (Put : Type 0) → Grows setup b.id w next → SentOr setup w m b Put → SentOr setup next m b Put
or_stays setup w next m b Put grows (inl has) = inl has
or_stays setup w next m b Put grows (inr (inl put)) = inr (inl put)
or_stays setup w next m b Put grows (inr (inr so)) = inr (inr (so_stays setup w next m b grows so))

event_so : (setup : Setup) (w : World) (event : AgentEvent) (b : Begun) → Holds (issued_in setup w) (agent_in setup w) → agent_refusal (agent_in setup w) event ≡ None
    → b.id < (agent_in setup w).next → (now : ℕ) → SentSo setup w (agent_in setup w) b
    → SentOr setup (to_agent setup w event) (agent_effect (agent_of setup) (agent_in setup w) event).machine b (OneOf (IsPutOff b.id) (arrives_with now event))
event_so setup w (issues verb name rest) b h taken below now s =
    inr (inr (so_stays setup w (to_agent setup w (issues verb name rest)) (agent_effect (agent_of setup) (agent_in setup w) (issues verb name rest)).machine b (agent_grows setup b.id w (issues verb name rest)) (issue_so setup w verb name rest b below s)))
event_so setup w (hears (datagram source bytes)) b h taken below now s =
    or_stays setup w (to_agent setup w (hears (datagram source bytes))) (agent_effect (agent_of setup) (agent_in setup w) (hears (datagram source bytes))).machine b (OneOf (IsPutOff b.id) (map (arrival now source) (texts_of bytes))) (agent_grows setup b.id w (hears (datagram source bytes)))
    (datagram_so setup w source bytes b now (event_on (agent_of setup) (issued_in setup w) (agent_in setup w) (hears (datagram source bytes)) h taken).now s)
event_so setup w (hears (phone line act)) b h taken below now s =
    inr (inr (so_stays setup w (to_agent setup w (hears (phone line act))) (agent_effect (agent_of setup) (agent_in setup w) (hears (phone line act))).machine b (agent_grows setup b.id w (hears (phone line act))) (phone_so setup w line act b s)))
event_so setup w (hears (tick moment)) b h taken below now s =
    inr (inr (tick_so setup w moment b (goes_in setup w (hears (tick moment)) h taken) (forward (agent_in setup w) (hears (tick moment)) taken) s))

-- A command that is issued

-- all ids in flight are below the next
ids_below : (all : List Begun) (m : AgentMachine) → Holds all m → Each (λ (f : InFlight). f.id < m.next) m.flights
ids_below all m h =
    each_weaker (Flies all m.now) (λ (f : InFlight). f.id < m.next)
    (λ f flies. one_to (λ (b : Begun). WasIssued m.now m.next b × IsSame f b) (f.id < m.next)
    (λ b both. let below : b.id < m.next = both.0.below in let same : b.id ≡ f.id = both.1.id in omega (arith, below, same)) all
    (one_of_each (WasIssued m.now m.next) (IsSame f) all h.issued flies.known)) m.flights h.flights

new_so : (setup : Setup) (w : World) (verb name rest : List ℕ) → Holds (issued_in setup w) (agent_in setup w) → agent_refusal (agent_in setup w) (issues verb name rest) ≡ None
    → let m = agent_in setup w in let b : Begun = record { id = m.next; moment = m.now; text = command_text verb m.next name rest } in
    SentSo setup (to_agent setup w (issues verb name rest)) (agent_effect (agent_of setup) m (issues verb name rest)).machine b
unfolding agent_effect
new_so setup w verb name rest h taken =
    let m = agent_in setup w in
    let g = gateway_address setup in
    let text = command_text verb m.next name rest in
    let b : Begun = record { id = m.next; moment = m.now; text = text } in
    let P : InFlight → Type 0 = λ f. f.id ≡ m.next → IsAt g b 0 f in
    inl (
      0,
      record {
        each = each_push P m.flights _
            (each_weaker (λ (f : InFlight). f.id < m.next) P (λ f below. λ same. absurd (omega (arith, below, same))) m.flights (ids_below (issued_in setup w) m h))
            (λ same. record { begins = refl; text = refl; goes = refl; often = refl; next = ap (λ (o : ℕ). m.now + o) (sym offset_first) });
        among = one_behind (λ (f : InFlight). f.id ≡ m.next) m.flights _ (inl refl);
        few = omega arith;
      },
      (let later : offset 1 ≡ 500 = offset_first in omega (arith, later)),
      λ number less. posts_copy setup w (issues verb name rest) b number (goes_in setup w (issues verb name rest) h taken)
          (inl (ap (λ (t : ℕ). message_to g t text) (at_once m.now number less))),
    )

-- Each command that was issued

abbrev SentIn : Setup → World → Begun → Type 0
SentIn setup w b = SentOr setup w (agent_in setup w) b (OneOf (IsPutOff b.id) (arrivals_of (heard_in w)))

abbrev AllSent : Setup → World → Type 0
AllSent setup w = Each (SentIn setup w) (issued_in setup w)

-- what came before came with one event more, and what came with it too
came_before : (setup : Setup) (w : World) (event : AgentEvent) (id : ℕ) → OneOf (IsPutOff id) (arrivals_of (heard_in w)) → OneOf (IsPutOff id) (arrivals_of (heard_in (to_agent setup w event)))
came_before setup w event id put =
    let now = clock_from 0 (heard_in w) in
    subst (OneOf (IsPutOff id)) (sym (agent_arrivals w setup event now refl)) (one_before (IsPutOff id) (arrivals_of (heard_in w)) (arrives_with now event) put)

came_with : (setup : Setup) (w : World) (event : AgentEvent) (id : ℕ) → OneOf (IsPutOff id) (arrives_with (clock_from 0 (heard_in w)) event)
    → OneOf (IsPutOff id) (arrivals_of (heard_in (to_agent setup w event)))
came_with setup w event id put =
    let now = clock_from 0 (heard_in w) in
    subst (OneOf (IsPutOff id)) (sym (agent_arrivals w setup event now refl)) (one_behind (IsPutOff id) (arrivals_of (heard_in w)) (arrives_with now event) put)

one_sent : (setup : Setup) (w : World) (event : AgentEvent) (b : Begun) → Holds (issued_in setup w) (agent_in setup w) → agent_refusal (agent_in setup w) event ≡ None
    → b.id < (agent_in setup w).next → SentIn setup w b → SentIn setup (to_agent setup w event) b
one_sent setup w event b h taken below (inl has) = inl ((agent_grows setup b.id w event).has has)
one_sent setup w event b h taken below (inr (inl put)) = inr (inl (came_before setup w event b.id put))
one_sent setup w event b h taken below (inr (inr so)) =
    by_event (subst (λ (m : AgentMachine). SentOr setup (to_agent setup w event) m b (OneOf (IsPutOff b.id) (arrives_with now event))) (sym (agent_more setup w event))
    (event_so setup w event b h taken below now so)) where
      now : ℕ
      now = clock_from 0 (heard_in w)

      by_event : SentOr setup (to_agent setup w event) (agent_in setup (to_agent setup w event)) b (OneOf (IsPutOff b.id) (arrives_with now event)) → SentIn setup (to_agent setup w event) b
      by_event (inl has) = inl has
      by_event (inr (inl put)) = inr (inl (came_with setup w event b.id put))
      by_event (inr (inr so)) = inr (inr so)

agent_sent : (setup : Setup) (w : World) (event : AgentEvent) → Holds (issued_in setup w) (agent_in setup w) → agent_refusal (agent_in setup w) event ≡ None → AllSent setup w
    → AllSent setup (to_agent setup w event)
agent_sent setup w event h taken all =
    subst (Each (SentIn setup (to_agent setup w event))) (sym (issued_more (agent_of setup) (agent_opening (agent_of setup)) w.agent_took event))
    (each_both (SentIn setup (to_agent setup w event)) (issued_in setup w) (issued_with (agent_in setup w) event)
    (each_weaker (λ (b : Begun). WasIssued (agent_in setup w).now (agent_in setup w).next b × SentIn setup w b) (SentIn setup (to_agent setup w event))
    (λ b both. one_sent setup w event b h taken both.0.below both.1) (issued_in setup w)
    (each_two (WasIssued (agent_in setup w).now (agent_in setup w).next) (SentIn setup w) (issued_in setup w) h.issued all))
    (by_event event taken)) where
      by_event : (e : AgentEvent) → agent_refusal (agent_in setup w) e ≡ None → Each (SentIn setup (to_agent setup w e)) (issued_with (agent_in setup w) e)
      by_event (issues verb name rest) taken =
          let b : Begun = record { id = (agent_in setup w).next; moment = (agent_in setup w).now; text = command_text verb (agent_in setup w).next name rest } in
          (inr (inr (subst (λ (m : AgentMachine). SentSo setup (to_agent setup w (issues verb name rest)) m b) (sym (agent_more setup w (issues verb name rest))) (new_so setup w verb name rest h taken))), tt)
      by_event (hears event) taken = tt

gateway_sent : (setup : Setup) (w : World) (event : GatewayEvent) → AllSent setup w → AllSent setup (to_gateway setup w event)
gateway_sent setup w event all =
    each_weaker (SentIn setup w) (SentIn setup (to_gateway setup w event))
    (λ b so. or_stays setup w (to_gateway setup w event) (agent_in setup w) b (OneOf (IsPutOff b.id) (arrivals_of (heard_in w))) (gateway_grows setup b.id w event) so) (issued_in setup w) all

delivered_sent : (setup : Setup) (w : World) (end : End) (packet : Packet) → Holds (issued_in setup w) (agent_in setup w) → AllSent setup w → AllSent setup (delivered_from end setup w packet)
delivered_sent setup w agent_end packet h all = by_test (same_address packet.to (gateway_address setup)) where
  by_test : (x : Bool) → AllSent setup (if x then to_gateway setup w (datagram packet.sender packet.bytes) else w)
  by_test true = gateway_sent setup w (datagram packet.sender packet.bytes) all
  by_test false = all
delivered_sent setup w gateway_end packet h all = by_test (is_among setup.agent.route packet.to) where
  by_test : (x : Bool) → AllSent setup (if x then to_agent setup w (hears (datagram packet.sender packet.bytes)) else w)
  by_test true = agent_sent setup w (hears (datagram packet.sender packet.bytes)) h (never (agent_in setup w) packet.sender packet.bytes) all
  by_test false = all

step_sent : (setup : Setup) (w : World) (step : WorldStep) → Sound setup w → AllSent setup w → step_refusal setup w step ≡ None → AllSent setup (went setup w step)
unfolding step_refusal went
step_sent setup w (issuing verb name rest) s all taken =
    agent_sent setup w (issues verb name rest) s.agrees.agent (agent_taken (agent_refusal (agent_in setup w) (issues verb name rest)) taken) all
step_sent setup w (dialling line act) s all taken = gateway_sent setup w (phone line act) all
step_sent setup w (ticking moment) s all taken =
    let none : tick_refusal (gateway_in setup w).now moment ≡ None = tick_is (gateway_in setup w) moment (gateway_taken (refusal_of (gateway_in setup w) (tick moment)) taken) in
    agent_sent setup (to_gateway setup w (tick moment)) (hears (tick moment)) s.agrees.agent
    (tick_taken (agent_in setup w) moment (ap (λ (now : ℕ). tick_refusal now moment) s.clock ∙ none)) (gateway_sent setup w (tick moment) all)
step_sent setup w (delivering number) s all taken = by_post (slice_get w.posted number) where
  by_post : (found : Option Posted) → AllSent setup (delivered found setup w)
  by_post None = all
  by_post (Some post) = delivered_sent setup w post.end post.packet s.agrees.agent all

steps_sent : (setup : Setup) (w : World) (steps : List WorldStep) → Sound setup w → AllSent setup w → steps_are_taken setup w steps ≡ true → AllSent setup (world_after setup w steps)
unfolding steps_are_taken world_after
steps_sent setup w [] s all taken = all
steps_sent setup w (step ∷ steps) s all taken =
    let both = and_parts (is_none (step_refusal setup w step)) (steps_are_taken setup (went setup w step) steps) taken in
    let none = is_none-None (step_refusal setup w step) both.0 in
    steps_sent setup (went setup w step) steps (step_sound setup w step s none) (step_sent setup w step s all none) both.1

opening_sent : (setup : Setup) → AllSent setup world_opening
unfolding issued_from
opening_sent setup = tt

world_sent : (setup : Setup) (steps : List WorldStep) → steps_are_taken setup world_opening steps ≡ true → AllSent setup (plain_world setup steps)
world_sent setup steps taken = steps_sent setup world_opening steps (opening_sound setup) (opening_sent setup) taken

-- The eight moments

-- a copy went out so many ms after the first, once it is so late
abbrev SentBy : Setup → World → Begun → ℕ → Type 0
SentBy setup w b wait = b.moment + wait ≤ now_in setup w → IsSentAfter setup w b wait

sent_by : (setup : Setup) (w : World) (b : Begun) (now : ℕ) → now ≡ now_in setup w → (m : AgentMachine) → m.now ≡ now → SentSo setup w m b → (number : ℕ) → number ≤ most_repeats
    → SentBy setup w b (offset number)
sent_by setup w b now at m clock (inr gone) number few past = gone.0 number few
sent_by setup w b now at m clock (inl on) number few past = by_test (nat_le number on.0) refl where
  by_test : (x : Bool) → nat_le number on.0 ≡ x → IsSentAfter setup w b (offset number)
  by_test true low = on.3 number (leb-true number on.0 low)
  by_test false high =
      absurd (
      let above : on.0 < number = leb-false number on.0 high in
      let later : offset (on.0 + 1) ≤ offset number = offset_rises (on.0 + 1) number (omega (arith, above)) in
      let soon : m.now < b.moment + offset (on.0 + 1) = on.2 in
      omega (arith, later, soon, clock, at, past))

pub eight : (P : ℕ → Type 0) → ((number : ℕ) → number ≤ most_repeats → P (offset number)) → Each P chances
unfolding offset
eight P at = (at 0 (omega arith), (at 1 (omega arith), (at 2 (omega arith), (at 3 (omega arith), (at 4 (omega arith), (at 5 (omega arith), (at 6 (omega arith), (at 7 (omega arith), tt))))))))

-- nothing provisional came to the agent of a world
never_put_off : (setup : Setup) (steps : List WorldStep) (id : ℕ) → IsSetUp setup → steps_are_taken setup world_opening steps ≡ true
    → OneOf (IsPutOff id) (arrivals_of (heard_in (plain_world setup steps))) → ⊥
never_put_off setup steps id set_up taken put =
    let arrived = arrivals_of (heard_in (plain_world setup steps)) in
    one_to (λ (a : TextArrival). NoneProvisional a.outcome × IsPutOff id a) ⊥ (λ a both. both.0 id both.1) arrived
    (one_of_each (λ (a : TextArrival). NoneProvisional a.outcome) (IsPutOff id) arrived (none_provisional setup steps set_up taken) put)

one_in : (setup : Setup) (steps : List WorldStep) (b : Begun) → steps_are_taken setup world_opening steps ≡ true → IsIssued setup (plain_world setup steps) b
    → SentIn setup (plain_world setup steps) b
one_in setup steps b taken issued =
    let w = plain_world setup steps in
    one_to (λ (one : Begun). SentIn setup w one × (one ≡ b)) (SentIn setup w b) (λ one both. subst (SentIn setup w) both.1 both.0) (issued_in setup w)
    (one_of_each (SentIn setup w) (λ (one : Begun). one ≡ b) (issued_in setup w) (world_sent setup steps taken) (one_from_any (λ (one : Begun). one ≡ b) (issued_in setup w) issued))

pub sent_eight_times : (setup : Setup) (steps : List WorldStep) (b : Begun) → IsSetUp setup → steps_are_taken setup world_opening steps ≡ true
    → let w = plain_world setup steps in IsIssued setup w b
    → HasAnswer b.id (agent_in setup w) ⊎ All (λ (wait : ℕ). b.moment + wait ≤ now_in setup w → IsSentAfter setup w b wait) chances
sent_eight_times setup steps b set_up taken issued = by_case (one_in setup steps b taken issued) where
  w : World
  w = plain_world setup steps

  by_case : SentIn setup w b → HasAnswer b.id (agent_in setup w) ⊎ All (λ (wait : ℕ). b.moment + wait ≤ now_in setup w → IsSentAfter setup w b wait) chances
  by_case (inl has) = inl (has_answer b.id setup w has)
  by_case (inr (inl put)) = absurd (never_put_off setup steps b.id set_up taken put)
  by_case (inr (inr so)) =
      inr (all_from_each (SentBy setup w b) chances (eight (SentBy setup w b)
      (sent_by setup w b (now_in setup w) refl (agent_in setup w) (world_sound setup steps taken).clock so)))

-- less than `answer_wait` ms after it was issued a command is in flight or answered
pub is_up : (setup : Setup) (steps : List WorldStep) (b : Begun) → IsSetUp setup → steps_are_taken setup world_opening steps ≡ true
    → let w = plain_world setup steps in IsIssued setup w b → now_in setup w < b.moment + answer_wait → Of (IsUp b.id) (agent_in setup w)
is_up setup steps b set_up taken issued soon = by_case (one_in setup steps b taken issued) where
  w : World
  w = plain_world setup steps

  by_case : SentIn setup w b → Of (IsUp b.id) (agent_in setup w)
  by_case (inl has) = inr has
  by_case (inr (inl put)) = absurd (never_put_off setup steps b.id set_up taken put)
  by_case (inr (inr (inl on))) = inl on.1.among
  by_case (inr (inr (inr gone))) =
      absurd (
      let clock : (agent_in setup w).now ≡ now_in setup w = (world_sound setup steps taken).clock in
      omega (arith, gone.1, soon, clock))

-- The clock of a world: a packet that is handed over leaves it, and no step sets it back.

delivered_now : (setup : Setup) (w : World) (end : End) (packet : Packet) → now_in setup (delivered_from end setup w packet) ≡ now_in setup w
delivered_now setup w agent_end packet = by_test (same_address packet.to (gateway_address setup)) where
  by_test : (b : Bool) → now_in setup (if b then to_gateway setup w (datagram packet.sender packet.bytes) else w) ≡ now_in setup w
  by_test true = gateway_clock setup w (datagram packet.sender packet.bytes)
  by_test false = refl
delivered_now setup w gateway_end packet = by_test (is_among setup.agent.route packet.to) where
  by_test : (b : Bool) → now_in setup (if b then to_agent setup w (hears (datagram packet.sender packet.bytes)) else w) ≡ now_in setup w
  by_test true = refl
  by_test false = refl

delivering_now : (setup : Setup) (w : World) (number : ℕ) → now_in setup (went setup w (delivering number)) ≡ now_in setup w
unfolding went
delivering_now setup w number = by_post (slice_get w.posted number) where
  by_post : (found : Option Posted) → now_in setup (delivered found setup w) ≡ now_in setup w
  by_post None = refl
  by_post (Some post) = delivered_now setup w post.end post.packet

-- a packet that is handed over leaves the clock
pub handed_now : (setup : Setup) (steps : List WorldStep) (number : ℕ)
    → now_in setup (plain_world setup (steps ++ delivering number ∷ [])) ≡ now_in setup (plain_world setup steps)
handed_now setup steps number = ap (now_in setup) (step_more setup steps (delivering number)) ∙ delivering_now setup (plain_world setup steps) number

no_later : (a b : ℕ) → a ≡ b → b ≤ a
no_later a b same = omega (arith, same)

step_forward : (setup : Setup) (w : World) (step : WorldStep) → step_refusal setup w step ≡ None → now_in setup w ≤ now_in setup (went setup w step)
unfolding went step_refusal
step_forward setup w (issuing verb name rest) none = omega arith
step_forward setup w (dialling line act) none = no_later _ _ (gateway_clock setup w (phone line act))
step_forward setup w (ticking moment) none =
    subst (λ (n : ℕ). now_in setup w ≤ n) (sym (gateway_clock setup w (tick moment)))
    (gateway_forward (gateway_in setup w) (tick moment) (gateway_taken (refusal_of (gateway_in setup w) (tick moment)) none))
step_forward setup w (delivering number) none = no_later _ _ (delivering_now setup w number)

clock_forward : (setup : Setup) (w : World) (steps : List WorldStep) → steps_are_taken setup w steps ≡ true → now_in setup w ≤ now_in setup (world_after setup w steps)
unfolding steps_are_taken world_after
clock_forward setup w [] taken = omega arith
clock_forward setup w (step ∷ steps) taken =
    let both = and_parts (is_none (step_refusal setup w step)) (steps_are_taken setup (went setup w step) steps) taken in
    let one : now_in setup w ≤ now_in setup (went setup w step) = step_forward setup w step (is_none-None (step_refusal setup w step) both.0) in
    let rest : now_in setup (went setup w step) ≤ now_in setup (world_after setup (went setup w step) steps) = clock_forward setup (went setup w step) steps both.1 in
    omega (arith, one, rest)

taken_behind : (setup : Setup) (w : World) (some more : List WorldStep) → steps_are_taken setup w (some ++ more) ≡ true → steps_are_taken setup (world_after setup w some) more ≡ true
unfolding steps_are_taken world_after
taken_behind setup w [] more taken = taken
taken_behind setup w (step ∷ some) more taken =
    taken_behind setup (went setup w step) some more (and_parts (is_none (step_refusal setup w step)) (steps_are_taken setup (went setup w step) (some ++ more)) taken).1

-- no beginning is later
pub front_forward : (setup : Setup) (some more : List WorldStep) → steps_are_taken setup world_opening (some ++ more) ≡ true → now_in setup (plain_world setup some) ≤ now_in setup (plain_world setup (some ++ more))
front_forward setup some more taken =
    subst (λ (w : World). now_in setup (plain_world setup some) ≤ now_in setup w) (sym (steps_more setup world_opening some more))
    (clock_forward setup (plain_world setup some) more (taken_behind setup world_opening some more taken))
