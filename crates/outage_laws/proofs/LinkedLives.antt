-- A world of lives as it goes on: of each packet of a life that it is one of the life's outputs, of each packet of the agent's that what
-- it answers is recent, and of each command that came to the agent that its life began it, less than 30,000 ms before.
use Rattle.std.proofs.Common.{◌≡◌, ℕ, ◌+◌, ◌-◌, ◌<◌, ◌≤◌, Bool, true, false, if◌then◌else◌, List, [], ◌∷◌, ◌++◌, map, length, Option, Some, None, refl, sym, subst, arith}
use Rattle.std.specs.Prelude.{IfSome, flat_map, nat_lt, option_map, slice_get, is_none}
use Rattle.std.proofs.lemmas.Bool.{and_parts, ltb-true}
use Rattle.std.proofs.lemmas.Option.{none-some}
use Rattle.std.specs.declared.net.socket_addr.SocketAddrV4.{SocketAddrV4}
use Rattle.transmission.specs.declared.output.OutDatagram.{OutDatagram}
use Rattle.transmission.specs.Packing.{packed, same_address}
use Rattle.transmission.specs.Texts.{texts_of}
use Rattle.machine_rules.specs.declared.refusal.Refusal.{Refusal}
use Rattle.plain_machine.specs.declared.setup.Setup.{Setup}
use Rattle.plain_machine.specs.Setup.{IsSetUp, firsts}
use Rattle.plain_machine.specs.Event.{GatewayEvent, datagram, phone, tick}
use Rattle.plain_machine.specs.Arriving.{arrival, clock_after}
use Rattle.plain_machine.specs.Packing.{put_out}
use Rattle.plain_machine.specs.Happening.{effect}
use Rattle.plain_machine.specs.Refusing.{refusal_of, tick_refusal}
use Rattle.plain_machine.specs.Lists.{are_taken, machine_after}
use Rattle.plain_machine.specs.Message.{Begun}
use Rattle.machine_laws.proofs.EachLemmas.{Each, each_at, each_both, each_mapped, each_push, each_weaker, is_none-None}
use Rattle.call_agent.specs.Agent.{AgentMachine}
use Rattle.call_agent.specs.Hearing.{AgentEvent, agent_after, agent_effect, agent_refusal, event_refused, hears, issues}
use Rattle.agent_core.specs.declared.packet.End.{End}
use Rattle.agent_core.specs.declared.packet.Packet.{Packet}
use Rattle.agent_core.specs.declared.packet.Posted.{Posted}
use Rattle.agent_core.specs.declared.packet.End.TheVariants.{AgentEnd as agent_end, GatewayEnd as gateway_end}
use Rattle.agent_core.specs.World.{agent_of, delivering, delivery_refusal, dialling, gateway_address, is_among, issuing, oldest_packet, ticking}
use Rattle.world_laws.specs.Reached.{Reached, issued_in, reached}
use Rattle.world_laws.proofs.AgentLaws.{never}
use Rattle.world_laws.proofs.WorldLaws.{Came, Comes, Holding, agent_taken, gateway_taken, not_late, texts_came}
use Rattle.outage_laws.specs.Lives.{Brought, Life, Letter, LivesWorld, LivesStep, agent_side, agent_then, brought_by, clock_of, gateway_of, handed, handed_from, lived, lived_refusal, lives_after, lives_are_taken, lives_of, lives_opening, new_life, no_such_first, number_of, plain_lives, restarted, restarting, said_to, sent_by, stepping, to_agent_of, to_life}
use Rattle.outage_laws.specs.Apart.{OfLife, begun_of}
use Rattle.outage_laws.proofs.PairLemmas.{Pairs, each_last, of_last, of_life_before, of_life_each, of_life_on, of_life_weaker, of_life_with, pairs_last, pairs_push}
use Rattle.outage_laws.proofs.LifeSays.{IsLife, IsSentBy, event_sends, kept_of, life_answers, life_commands, life_later, life_on, one_begun_on, packet_says, sent_on, tick_moved, IsPlain, packet_plain}
use Rattle.outage_laws.proofs.AnswersSoon.{AnswersSoon, IsRecent, hears_soon, issues_soon, ticks_soon}
use Rattle.outage_laws.proofs.HandedLaws.{Kept, life_agrees, opening_kept, side_clock, step_none, stepped_kept, tick_past, with_event}

-- a packet that was sent by now, of the life that it is of
abbrev pub IsPacketOf : End → ℕ → Posted → Life → Type 0
IsPacketOf gateway_end now post life = IsSentBy post life
IsPacketOf agent_end now post life = Holding (AnswersSoon (begun_of life)) now post.packet.bytes post.packet.moment

abbrev pub IsLetter : List Life → ℕ → Letter → Type 0
IsLetter lives now letter = OfLife (IsPacketOf letter.post.end now letter.post) lives letter.life

-- a command that came to the agent is of the life that it is of
abbrev pub IsBegunBy : Reached → Life → Type 0
IsBegunBy one life = Came (begun_of life) one

abbrev pub IsBrought : List Life → Brought → Type 0
IsBrought lives one = OfLife (IsBegunBy one.reached) lives one.life

-- a life is over before a later one starts
abbrev pub IsOverBefore : Life → Life → Type 0
IsOverBefore earlier later = earlier.start + (gateway_of earlier).now ≤ later.start

pub record Linked (lives : List Life) (now : ℕ) (letters : List Letter) (brought : List Brought) : Type 0 where
  pub each : Each (IsLife now) lives
  pub packets : Each (IsLetter lives now) letters
  pub came : Each (IsBrought lives) brought
  pub follow : Pairs IsOverBefore lives

-- Time goes on

holding_later : (log : List Begun) (now later : ℕ) (bytes : List ℕ) (moment : ℕ) → now ≤ later → Holding (AnswersSoon log) now bytes moment → Holding (AnswersSoon log) later bytes moment
holding_later log now later bytes moment past holds =
    each_weaker (λ (text : List ℕ). AnswersSoon log text moment × (moment ≤ now)) (λ (text : List ℕ). AnswersSoon log text moment × (moment ≤ later))
    (λ text s. (s.0, (let early = s.1 in omega (arith, early, past)))) (texts_of bytes) holds

packet_later : (now later : ℕ) → now ≤ later → (end : End) (post : Posted) (life : Life) → IsPacketOf end now post life → IsPacketOf end later post life
packet_later now later past gateway_end post life is = is
packet_later now later past agent_end post life is = holding_later (begun_of life) now later post.packet.bytes post.packet.moment past is

-- The life that goes on takes an event

packet_on : (now : ℕ) (life : Life) (event : GatewayEvent) (end : End) (post : Posted) → IsPacketOf end now post life → IsPacketOf end now post (with_event life event)
packet_on now life event gateway_end post is = sent_on life event post is
packet_on now life event agent_end post is =
    each_weaker (λ (text : List ℕ). AnswersSoon (begun_of life) text post.packet.moment × (post.packet.moment ≤ now))
    (λ (text : List ℕ). AnswersSoon (begun_of (with_event life event)) text post.packet.moment × (post.packet.moment ≤ now))
    (λ text s. ((λ code id params body reads. one_begun_on (IsRecent id post.packet.moment) life event (s.0 code id params body reads)), s.1)) (texts_of post.packet.bytes) is

pub life_linked : (over : List Life) (life : Life) (event : GatewayEvent) (now later : ℕ) (letters : List Letter) (brought : List Brought) → Linked (over ++ life ∷ []) now letters brought
    → refusal_of (gateway_of life) event ≡ None → now ≤ later → life.start + clock_after (gateway_of life).now event ≤ later
    → Linked (over ++ with_event life event ∷ []) later (letters ++ map (sent_by (length over) life) (put_out (effect life.setup (gateway_of life) event).sent)) brought
life_linked over life event now later letters brought l none past end = record {
  each = each_last (IsLife now) (IsLife later) over life next (λ one is. life_later now later one past is) (λ is. life_on now later life event is none end) l.each;
  packets = each_both (IsLetter (over ++ next ∷ []) later) letters (map (sent_by (length over) life) (put_out (effect life.setup (gateway_of life) event).sent))
      (each_weaker (IsLetter (over ++ life ∷ []) now) (IsLetter (over ++ next ∷ []) later)
      (λ letter is. of_life_on (IsPacketOf letter.post.end now letter.post) (IsPacketOf letter.post.end later letter.post) over life next letter.life
      (λ one packet. packet_later now later past letter.post.end letter.post one packet)
      (λ packet. packet_later now later past letter.post.end letter.post next (packet_on now life event letter.post.end letter.post packet)) is)
      letters l.packets)
      (sends (put_out (effect life.setup (gateway_of life) event).sent) (event_sends (length over) life event));
  came = each_weaker (IsBrought (over ++ life ∷ [])) (IsBrought (over ++ next ∷ []))
      (λ one is. of_life_on (IsBegunBy one.reached) (IsBegunBy one.reached) over life next one.life (λ other came. came) (λ came. one_begun_on (Comes one.reached) life event came) is)
      brought l.came;
  follow = pairs_last IsOverBefore over life next (λ one before. before) l.follow;
} where
  next : Life
  next = with_event life event

  sends : (outs : List OutDatagram) → Each (λ (letter : Letter). IsSentBy letter.post next) (map (sent_by (length over) life) outs)
      → Each (IsLetter (over ++ next ∷ []) later) (map (sent_by (length over) life) outs)
  sends [] all = tt
  sends (out ∷ outs) all = (of_last (IsPacketOf gateway_end later (sent_by (length over) life out).post) over next all.0, sends outs all.1)

-- The agent takes an event

-- what it sends for a life, of which this is known
said_letters : (setup : Setup) (lives : List Life) (number now : ℕ) (outs : List OutDatagram)
    → OfLife (λ (life : Life). Each (λ (out : OutDatagram). Holding (AnswersSoon (begun_of life)) now out.bytes out.moment) outs) lives number
    → Each (IsLetter lives now) (map (said_to setup number) outs)
said_letters setup lives number now outs is =
    each_mapped (IsLetter lives now) (said_to setup number) outs
    (of_life_each (λ (life : Life) (out : OutDatagram). Holding (AnswersSoon (begun_of life)) now out.bytes out.moment) outs lives number is)

-- the clock goes on, and so much was sent and came
agent_linked : (lives : List Life) (now later : ℕ) (letters more : List Letter) (brought new : List Brought) → Linked lives now letters brought → now ≤ later
    → Each (IsLetter lives later) more → Each (IsBrought lives) new → Linked lives later (letters ++ more) (brought ++ new)
agent_linked lives now later letters more brought new l past sends comes = record {
  each = each_weaker (IsLife now) (IsLife later) (λ life is. life_later now later life past is) lives l.each;
  packets = each_both (IsLetter lives later) letters more
      (each_weaker (IsLetter lives now) (IsLetter lives later)
      (λ letter is. of_life_weaker (IsPacketOf letter.post.end now letter.post) (IsPacketOf letter.post.end later letter.post) lives letter.life
      (λ life packet. packet_later now later past letter.post.end letter.post life packet) is) letters l.packets)
      sends;
  came = each_both (IsBrought lives) brought new l.came comes;
  follow = l.follow;
}

abbrev pub LinkedWorld : Setup → LivesWorld → Type 0
LinkedWorld setup w = Linked (lives_of w) (clock_of setup w) w.letters w.brought

last_of : (P : Life → Type 0) (w : LivesWorld) → P w.life → OfLife P (lives_of w) (number_of w)
last_of P w is = of_last P w.over w.life is

issues_linked : (setup : Setup) (w : LivesWorld) (verb name rest : List ℕ) → Kept setup w → LinkedWorld setup w → agent_refusal (agent_then setup w) (issues verb name rest) ≡ None
    → LinkedWorld setup (to_agent_of setup (number_of w) w (issues verb name rest))
issues_linked setup w verb name rest k l taken =
    let event = issues verb name rest in
    let outs = packed (agent_effect (agent_of setup) (agent_then setup w) event).sent in
    subst (λ (now : ℕ). Linked (lives_of w) now (w.letters ++ map (said_to setup (number_of w)) outs) (w.brought ++ [])) (sym (side_clock setup (number_of w) w event k.agrees taken))
    (agent_linked (lives_of w) (clock_of setup w) (clock_of setup w) w.letters (map (said_to setup (number_of w)) outs) w.brought [] l (omega arith)
    (said_letters setup (lives_of w) (number_of w) (clock_of setup w) outs
    (last_of (λ (life : Life). Each (λ (out : OutDatagram). Holding (AnswersSoon (begun_of life)) (clock_of setup w) out.bytes out.moment) outs) w
    (issues_soon (agent_of setup) (issued_in setup (agent_side w)) (begun_of w.life) (agent_then setup w) verb name rest k.agrees.agent taken)))
    tt)

-- at a tick the life that goes on was first
ticks_linked : (setup : Setup) (w : LivesWorld) (moment : ℕ) → Kept setup w → LinkedWorld setup w → agent_refusal (agent_then setup w) (hears (tick moment)) ≡ None
    → tick_refusal (clock_of setup w) moment ≡ None → LinkedWorld setup (to_agent_of setup (number_of w) (to_life w (tick (moment - w.life.start))) (hears (tick moment)))
unfolding refusal_of
ticks_linked setup w moment k l taken none =
    let event = hears (tick moment) in
    let past = tick_past (agent_then setup w) moment taken in
    let one = k.clock in
    let ticked = to_life w (tick (moment - w.life.start)) in
    let outs = packed (agent_effect (agent_of setup) (agent_then setup w) event).sent in
    let first : Linked (lives_of ticked) moment ticked.letters w.brought =
    life_linked w.over w.life (tick (moment - w.life.start)) (clock_of setup w) moment w.letters w.brought l
    (tick_moved w.life.start (gateway_of w.life).now moment (subst (λ (now : ℕ). tick_refusal now moment ≡ None) k.clock none)) past (omega (arith, past, one)) in
    subst (λ (now : ℕ). Linked (lives_of ticked) now (ticked.letters ++ map (said_to setup (number_of w)) outs) (w.brought ++ []))
    (sym (side_clock setup (number_of w) ticked event (life_agrees setup w (tick (moment - w.life.start)) k.agrees) taken))
    (agent_linked (lives_of ticked) moment moment ticked.letters (map (said_to setup (number_of w)) outs) w.brought [] first (omega arith)
    (said_letters setup (lives_of ticked) (number_of w) moment outs
    (last_of (λ (life : Life). Each (λ (out : OutDatagram). Holding (AnswersSoon (begun_of life)) moment out.bytes out.moment) outs) ticked
    (ticks_soon (agent_of setup) (issued_in setup (agent_side w)) (begun_of ticked.life) (agent_then setup w) moment k.agrees.agent taken)))
    tt)

-- A packet is handed over

-- to the agent, of a life that sent it
hears_linked : (setup : Setup) (w : LivesWorld) (number : ℕ) (post : Posted) → Kept setup w → LinkedWorld setup w → OfLife (IsSentBy post) (lives_of w) number
    → clock_of setup w - post.packet.moment ≤ oldest_packet → LinkedWorld setup (to_agent_of setup number w (hears (datagram post.packet.sender post.packet.bytes)))
hears_linked setup w number post k l sent late =
    subst (λ (now' : ℕ). Linked lives now' (w.letters ++ map (said_to setup number) outs) (w.brought ++ map (brought_by number) comes))
    (sym (side_clock setup number w event k.agrees (never (agent_then setup w) post.packet.sender post.packet.bytes)))
    (agent_linked lives now now w.letters (map (said_to setup number) outs) w.brought (map (brought_by number) comes) l (omega arith)
    (said_letters setup lives number now outs
    (of_life_weaker (λ (life : Life). Each IsPlain (texts_of post.packet.bytes) × Each (Came (begun_of life)) comes)
    (λ (life : Life). Each (λ (out : OutDatagram). Holding (AnswersSoon (begun_of life)) now out.bytes out.moment) outs) lives number
    (λ life both. hears_soon (agent_of setup) (issued_in setup (agent_side w)) (begun_of life) (agent_then setup w) post.packet.sender post.packet.bytes k.agrees.agent both.0 both.1) plain))
    (each_mapped (IsBrought lives) (brought_by number) comes (of_life_each (λ (life : Life) (one : Reached). Came (begun_of life) one) comes lives number came))) where
      lives : List Life
      lives = lives_of w

      now : ℕ
      now = clock_of setup w

      event : AgentEvent
      event = hears (datagram post.packet.sender post.packet.bytes)

      outs : List OutDatagram
      outs = packed (agent_effect (agent_of setup) (agent_then setup w) (hears (datagram post.packet.sender post.packet.bytes))).sent

      comes : List Reached
      comes = flat_map reached (map (arrival (clock_of setup w) post.packet.sender) (texts_of post.packet.bytes))

      plain : OfLife (λ (life : Life). Each IsPlain (texts_of post.packet.bytes)
          × Each (Came (begun_of life)) (flat_map reached (map (arrival (clock_of setup w) post.packet.sender) (texts_of post.packet.bytes)))) (lives_of w) number
      plain =
          of_life_weaker (λ (life : Life). IsLife (clock_of setup w) life × IsSentBy post life)
          (λ (life : Life). Each IsPlain (texts_of post.packet.bytes)
          × Each (Came (begun_of life)) (flat_map reached (map (arrival (clock_of setup w) post.packet.sender) (texts_of post.packet.bytes)))) (lives_of w) number
          (λ life both. (
            packet_plain life post both.0.set_up both.1,
            texts_came (begun_of life) (kept_of life) post.packet.moment (clock_of setup w) post.packet.sender (texts_of post.packet.bytes)
                (life_commands (clock_of setup w) life both.0) (life_answers (clock_of setup w) life both.0) (packet_says (clock_of setup w) life post both.0 both.1) late,
          ))
          (of_life_with (IsLife (clock_of setup w)) (IsSentBy post) (lives_of w) number l.each sent)

      came : OfLife (λ (life : Life). Each (Came (begun_of life)) (flat_map reached (map (arrival (clock_of setup w) post.packet.sender) (texts_of post.packet.bytes)))) (lives_of w) number
      came =
          of_life_weaker (λ (life : Life). Each IsPlain (texts_of post.packet.bytes)
          × Each (Came (begun_of life)) (flat_map reached (map (arrival (clock_of setup w) post.packet.sender) (texts_of post.packet.bytes))))
          (λ (life : Life). Each (Came (begun_of life)) (flat_map reached (map (arrival (clock_of setup w) post.packet.sender) (texts_of post.packet.bytes)))) (lives_of w) number
          (λ life both. both.1) plain

pub never_refused : (setup : Setup) (life : Life) (source : SocketAddrV4) (bytes : List ℕ) → refusal_of (gateway_of life) (datagram source bytes) ≡ None
unfolding refusal_of
never_refused setup life source bytes = refl

handed_linked : (setup : Setup) (w : LivesWorld) (letter : Letter) → Kept setup w → LinkedWorld setup w → IsLetter (lives_of w) (clock_of setup w) letter
    → clock_of setup w - letter.post.packet.moment ≤ oldest_packet → LinkedWorld setup (handed_from letter.post.end setup letter.life w letter.post.packet)
handed_linked setup w letter k l is late = by_end letter.post.end is where
  to_gateway : (b : Bool) (packet : Packet) → LinkedWorld setup (if b then to_life w (datagram packet.sender packet.bytes) else w)
  to_gateway false packet = l
  to_gateway true packet =
      life_linked w.over w.life (datagram packet.sender packet.bytes) (clock_of setup w) (clock_of setup w) w.letters w.brought l
      (never_refused setup w.life packet.sender packet.bytes) (omega arith) (let one = k.clock in omega (arith, one))

  to_agent : (b : Bool) → OfLife (IsSentBy letter.post) (lives_of w) letter.life
      → LinkedWorld setup (if b then to_agent_of setup letter.life w (hears (datagram letter.post.packet.sender letter.post.packet.bytes)) else w)
  to_agent false sent = l
  to_agent true sent = hears_linked setup w letter.life letter.post k l sent late

  by_end : (end : End) → OfLife (IsPacketOf end (clock_of setup w) letter.post) (lives_of w) letter.life
      → LinkedWorld setup (handed_from end setup letter.life w letter.post.packet)
  by_end agent_end is = to_gateway (same_address letter.post.packet.to (gateway_address w.life.setup)) letter.post.packet
  by_end gateway_end is =
      to_agent (is_among setup.agent.route letter.post.packet.to)
      (of_life_weaker (IsPacketOf gateway_end (clock_of setup w) letter.post) (IsSentBy letter.post) (lives_of w) letter.life (λ life packet. packet) is)

-- The gateway starts again

at_most : (n : ℕ) → n + 0 ≤ n
at_most n = omega arith

new_is : (setup : Setup) (first now : ℕ) → IsSetUp setup → first < firsts → IsLife now (new_life (record setup { first = first }) now)
unfolding machine_after are_taken
new_is setup first now set_up few = record {
  set_up = record { domain = set_up.domain; agent = set_up.agent; lines = set_up.lines; address = set_up.address; ports = set_up.ports; first = few };
  taken = refl;
  past = at_most now;
}

restarted_linked : (setup : Setup) (w : LivesWorld) (first : ℕ) → IsSetUp setup → first < firsts → LinkedWorld setup w → LinkedWorld setup (restarted setup w first)
restarted_linked setup w first set_up few l =
    let now = clock_of setup w in
    let new = new_life (record setup { first = first }) (clock_of setup w) in
    record {
      each = each_push (IsLife now) (lives_of w) new l.each (new_is setup first (clock_of setup w) set_up few);
      packets = each_weaker (IsLetter (lives_of w) now) (IsLetter (lives_of w ++ new ∷ []) now)
          (λ letter is. of_life_before (IsPacketOf letter.post.end now letter.post) (lives_of w) (new ∷ []) letter.life is) w.letters l.packets;
      came = each_weaker (IsBrought (lives_of w)) (IsBrought (lives_of w ++ new ∷ [])) (λ one is. of_life_before (IsBegunBy one.reached) (lives_of w) (new ∷ []) one.life is) w.brought l.came;
      follow = pairs_push IsOverBefore (lives_of w) new l.follow (each_weaker (IsLife now) (λ (life : Life). IsOverBefore life new) (λ life is. is.past) (lives_of w) l.each);
    }

-- A step

first_is : (first : ℕ) → (if nat_lt first firsts then None else Some no_such_first) ≡ None → first < firsts
first_is first taken = by_test (nat_lt first firsts) refl taken where
  by_test : (b : Bool) → nat_lt first firsts ≡ b → (if b then None else Some no_such_first) ≡ None → first < firsts
  by_test true less e = ltb-true first firsts less
  by_test false more e = absurd (none-some no_such_first (sym e))

pub tick_none : (m : AgentMachine) (moment : ℕ) → agent_refusal m (hears (tick moment)) ≡ None → tick_refusal m.now moment ≡ None
unfolding agent_refusal
tick_none m moment taken = by_refusal (tick_refusal m.now moment) taken where
  by_refusal : (refusal : Option Refusal) → event_refused refusal ≡ None → refusal ≡ None
  by_refusal None e = refl
  by_refusal (Some refusal) e = absurd (none-some _ (sym e))

stepped_linked : (setup : Setup) (w : LivesWorld) (step : LivesStep) → IsSetUp setup → Kept setup w → LinkedWorld setup w → lived_refusal setup w step ≡ None → LinkedWorld setup (lived setup w step)
unfolding lived lived_refusal
stepped_linked setup w (restarting first) set_up k l taken = restarted_linked setup w first set_up (first_is first taken) l
stepped_linked setup w (stepping (issuing verb name rest)) set_up k l taken =
    issues_linked setup w verb name rest k l (agent_taken (agent_refusal (agent_then setup w) (issues verb name rest)) (step_none _ taken))
stepped_linked setup w (stepping (dialling line act)) set_up k l taken =
    life_linked w.over w.life (phone line act) (clock_of setup w) (clock_of setup w) w.letters w.brought l
    (gateway_taken (refusal_of (gateway_of w.life) (phone line act)) (step_none _ taken)) (omega arith) (let one = k.clock in omega (arith, one))
stepped_linked setup w (stepping (ticking moment)) set_up k l taken =
    let may = agent_taken (agent_refusal (agent_then setup w) (hears (tick moment))) (step_none _ taken) in
    ticks_linked setup w moment k l may (tick_none (agent_then setup w) moment may)
stepped_linked setup w (stepping (delivering number)) set_up k l taken =
    by_letter (slice_get w.letters number) (each_at (IsLetter (lives_of w) (clock_of setup w)) w.letters number l.packets) (step_none _ taken) where
      by_letter : (found : Option Letter) → IfSome found (IsLetter (lives_of w) (clock_of setup w))
          → delivery_refusal (option_map (λ (letter : Letter). letter.post) found) (clock_of setup w) ≡ None → LinkedWorld setup (handed found setup w)
      by_letter None is e = l
      by_letter (Some letter) is e = handed_linked setup w letter k l is (not_late letter.post (clock_of setup w) e)

-- what holds of a world of lives
pub record Stands (setup : Setup) (w : LivesWorld) : Type 0 where
  pub kept : Kept setup w
  pub linked : LinkedWorld setup w

pub steps_stand : (setup : Setup) (w : LivesWorld) (steps : List LivesStep) → IsSetUp setup → Stands setup w → lives_are_taken setup w steps ≡ true → Stands setup (lives_after setup w steps)
unfolding lives_are_taken lives_after
steps_stand setup w [] set_up s taken = s
steps_stand setup w (step ∷ steps) set_up s taken =
    let both = and_parts (is_none (lived_refusal setup w step)) (lives_are_taken setup (lived setup w step) steps) taken in
    let none = is_none-None (lived_refusal setup w step) both.0 in
    steps_stand setup (lived setup w step) steps set_up
    (record { kept = stepped_kept setup w step s.kept none; linked = stepped_linked setup w step set_up s.kept s.linked none }) both.1

opening_stands : (setup : Setup) → IsSetUp setup → Stands setup (lives_opening setup)
unfolding machine_after are_taken agent_after
opening_stands setup set_up = record {
  kept = opening_kept setup;
  linked = record { each = (record { set_up = set_up; taken = refl; past = at_most 0 }, tt); packets = tt; came = tt; follow = (tt, tt) };
}

pub lives_stand : (setup : Setup) (steps : List LivesStep) → IsSetUp setup → lives_are_taken setup (lives_opening setup) steps ≡ true → Stands setup (plain_lives setup steps)
lives_stand setup steps set_up taken = steps_stand setup (lives_opening setup) steps set_up (opening_stands setup set_up) taken
