-- Whatever is refused: each packet of a life's is one of its outputs, and each command that came to the agent is one that its life
-- began, where the setup of that life is one as configurations give it.
use Rattle.std.proofs.Common.{◌≡◌, ℕ, ◌-◌, Bool, true, false, ◌==◌, if◌then◌else◌, List, [], ◌∷◌, ◌++◌, map, Option, Some, None, inl, inr, refl, sym, ap, ◌∙◌}
use Rattle.std.specs.Prelude.{All, Any, IfSome, flat_map, slice_get}
use Rattle.std.specs.Str.{bytes_eq}
use Rattle.std.proofs.lemmas.Bool.{and_parts, eqb-true}
use Rattle.std.specs.declared.net.socket_addr.SocketAddrV4.{SocketAddrV4}
use Rattle.mgcp_text.specs.declared.message.Message.TheVariants as messages
use Rattle.mgcp_text.specs.Reading.{Outcome, bad_body, bad_version, message, no_header, read_text}
use Rattle.transmission.specs.declared.output.OutDatagram.{OutDatagram}
use Rattle.transmission.specs.Packing.{packed, same_address}
use Rattle.transmission.specs.Texts.{texts_of}
use Rattle.plain_machine.specs.declared.setup.Setup.{Setup}
use Rattle.plain_machine.specs.Arriving.{TextArrival, arrival}
use Rattle.plain_machine.specs.Event.{GatewayEvent, datagram, phone, tick}
use Rattle.plain_machine.specs.Happening.{effect}
use Rattle.plain_machine.specs.Packing.{put_out}
use Rattle.plain_machine.specs.Setup.{IsSetUp}
use Rattle.plain_machine.specs.Transactions.{asked_as}
use Rattle.retransmission.specs.Issued.{is_command_as}
use Rattle.plain_machine.specs.Message.{Begun}
use Rattle.machine_laws.specs.Saying.{OneOf}
use Rattle.machine_laws.proofs.EachLemmas.{Each, all_from_each, any_from_one, each_at, each_both, each_flat, each_mapped, each_weaker, one_mapped, one_of_each, one_weaker}
use Rattle.machine_laws.proofs.GatewayEvents.{IsCommand}
use Rattle.call_agent.specs.Hearing.{AgentEvent, agent_effect, hears, issues}
use Rattle.agent_core.specs.declared.packet.End.{End}
use Rattle.agent_core.specs.declared.packet.End.TheVariants.{AgentEnd as agent_end, GatewayEnd as gateway_end}
use Rattle.agent_core.specs.declared.packet.Packet.{Packet}
use Rattle.agent_core.specs.declared.packet.Posted.{Posted}
use Rattle.agent_core.specs.World.{agent_of, delivering, dialling, gateway_address, is_among, issuing, ticking}
use Rattle.world_laws.specs.Reached.{Reached, reached, reached_as}
use Rattle.outage_laws.specs.Lives.{Brought, Letter, Life, LivesStep, LivesWorld, agent_then, brought_by, clock_of, comes_with, gateway_of, handed, handed_from, lived, lives_after, lives_of, lives_opening, new_life, number_of, plain_lives, restarted, restarting, said_to, sent_by, stepping, to_agent_of, to_life}
use Rattle.outage_laws.specs.Apart.{OfLife, begun_of, firsts_of_lives, moved, own_of}
use Rattle.outage_laws.proofs.HandedLaws.{with_event}
use Rattle.outage_laws.proofs.HeardLaws.{firsts_each}
use Rattle.outage_laws.proofs.LifeSays.{IsSentBy, event_sends, one_begun_on, sent_on, SaysSo, packet_texts}
use Rattle.outage_laws.proofs.OwnEvents.{IsResponse, all_commands}
use Rattle.outage_laws.proofs.PairLemmas.{of_last, of_life_before, of_life_each, of_life_on, of_life_weaker}

-- A text that comes

-- it is this command
record Matches (one : Reached) (b : Begun) : Type 0 where
  id : b.id ≡ one.asked.id
  read : one.outcome ≡ read_text b.text

abbrev WasSent : Life → Reached → Type 0
WasSent life one = OneOf (Matches one) (begun_of life)

module _ (life : Life) (text : List ℕ) (source : SocketAddrV4) (now : ℕ) where
  -- a command that is read otherwise is none
  command_is : (outcome : Outcome) → read_text text ≡ outcome → OneOf (λ (b : Begun). IsCommand b × (text ≡ b.text)) (own_of life)
      → Each (λ (one : Reached). OneOf (Matches one) (own_of life)) (map (reached_as outcome) (asked_as source now outcome))
  command_is no_header reads one = tt
  command_is (bad_version id) reads one = (
    one_weaker (λ (b : Begun). IsCommand b × (text ≡ b.text)) (Matches _)
        (λ b both. absurd (let e : is_command_as b.id both.0.name (bad_version id) ≡ true = ap (is_command_as b.id both.0.name) (sym reads ∙ ap read_text both.1) ∙ both.0.reads in cc)) (own_of life) one,
    tt,
  )
  command_is (bad_body id) reads one = (
    one_weaker (λ (b : Begun). IsCommand b × (text ≡ b.text)) (Matches _)
        (λ b both. absurd (let e : is_command_as b.id both.0.name (bad_body id) ≡ true = ap (is_command_as b.id both.0.name) (sym reads ∙ ap read_text both.1) ∙ both.0.reads in cc)) (own_of life) one,
    tt,
  )
  command_is (message (messages.Response code id params body)) reads one = tt
  command_is (message (messages.Command verb id name params body)) reads one = (
    one_weaker (λ (b : Begun). IsCommand b × (text ≡ b.text)) (Matches _)
        (λ b both.
        let e : is_command_as b.id both.0.name (message (messages.Command verb id name params body)) ≡ true =
        ap (is_command_as b.id both.0.name) (sym reads ∙ ap read_text both.1) ∙ both.0.reads in
        record { id = sym (eqb-true id b.id (and_parts (id == b.id) (bytes_eq name both.0.name) e).0); read = sym reads ∙ ap read_text both.1 }) (own_of life) one,
    tt,
  )

  -- by the world's clock too
  here : (one : Reached) → OneOf (Matches one) (own_of life) → WasSent life one
  here one own =
      one_mapped (Matches one) (moved life.start) (own_of life)
      (one_weaker (Matches one) (λ (b : Begun). Matches one (moved life.start b)) (λ b m. record { id = m.id; read = m.read }) (own_of life) own)

  text_is : IsSetUp life.setup → SaysSo life text → Each (WasSent life) (reached (arrival now source text))
  text_is set_up (inl one) =
      each_weaker (λ (r : Reached). OneOf (Matches r) (own_of life)) (WasSent life) here (reached (arrival now source text))
      (command_is (read_text text) refl (one_of_each IsCommand (λ (b : Begun). text ≡ b.text) (own_of life) (all_commands life.setup life.took set_up) one))
  text_is set_up (inr response) = let is : IsResponse text = response set_up in rw is.reads tt

-- what is so of each under a condition is so under it of all
guarded : {X : Type 0} (S : Type 0) (P : X → Type 0) (xs : List X) → (S → Each P xs) → Each (λ x. S → P x) xs
guarded S P [] all = tt
guarded S P (x ∷ xs) all = ((λ s. (all s).0), guarded S P xs (λ s. (all s).1))

-- A world

abbrev IsSentWhere : Reached → Life → Type 0
IsSentWhere one life = IsSetUp life.setup → WasSent life one

abbrev IsFrom : End → List Life → Letter → Type 0
IsFrom gateway_end lives letter = OfLife (IsSentBy letter.post) lives letter.life
IsFrom agent_end lives letter = Unit {0}

abbrev LetterFrom : List Life → Letter → Type 0
LetterFrom lives letter = IsFrom letter.post.end lives letter

abbrev CameFrom : List Life → Brought → Type 0
CameFrom lives one = OfLife (IsSentWhere one.reached) lives one.life

record HasSent (lives : List Life) (letters : List Letter) (brought : List Brought) : Type 0 where
  packets : Each (LetterFrom lives) letters
  came : Each (CameFrom lives) brought

-- the life that goes on takes an event

life_takes : (w : LivesWorld) (event : GatewayEvent) → HasSent (lives_of w) w.letters w.brought → HasSent (lives_of (to_life w event)) (to_life w event).letters w.brought
life_takes w event s = record {
  packets = each_both (LetterFrom (w.over ++ next ∷ [])) w.letters (map (sent_by (number_of w) w.life) (put_out (effect w.life.setup (gateway_of w.life) event).sent))
      (each_weaker (LetterFrom (lives_of w)) (LetterFrom (w.over ++ next ∷ [])) (λ letter is. letter_on letter.post.end letter is) w.letters s.packets)
      (sends (put_out (effect w.life.setup (gateway_of w.life) event).sent) (event_sends (number_of w) w.life event));
  came = each_weaker (CameFrom (lives_of w)) (CameFrom (w.over ++ next ∷ []))
      (λ one is. of_life_on (IsSentWhere one.reached) (IsSentWhere one.reached) w.over w.life next one.life (λ other came. came)
      (λ came. λ set_up. one_begun_on (Matches one.reached) w.life event (came set_up)) is)
      w.brought s.came;
} where
  next : Life
  next = with_event w.life event

  letter_on : (end : End) (letter : Letter) → IsFrom end (lives_of w) letter → IsFrom end (w.over ++ next ∷ []) letter
  letter_on gateway_end letter is =
      of_life_on (IsSentBy letter.post) (IsSentBy letter.post) w.over w.life next letter.life (λ one sent. sent) (λ sent. sent_on w.life event letter.post sent) is
  letter_on agent_end letter is = tt

  sends : (outs : List OutDatagram) → Each (λ (letter : Letter). IsSentBy letter.post next) (map (sent_by (number_of w) w.life) outs)
      → Each (LetterFrom (w.over ++ next ∷ [])) (map (sent_by (number_of w) w.life) outs)
  sends [] all = tt
  sends (out ∷ outs) all = (of_last (IsSentBy (sent_by (number_of w) w.life out).post) w.over next all.0, sends outs all.1)

-- the agent takes an event

said_from : (setup : Setup) (lives : List Life) (number : ℕ) (outs : List OutDatagram) → Each (LetterFrom lives) (map (said_to setup number) outs)
said_from setup lives number [] = tt
said_from setup lives number (out ∷ outs) = (tt, said_from setup lives number outs)

agent_takes : (setup : Setup) (number : ℕ) (w : LivesWorld) (event : AgentEvent) → HasSent (lives_of w) w.letters w.brought
    → Each (CameFrom (lives_of w)) (map (brought_by number) (comes_with (clock_of setup w) event))
    → HasSent (lives_of w) (to_agent_of setup number w event).letters (to_agent_of setup number w event).brought
agent_takes setup number w event s comes =
    let outs = packed (agent_effect (agent_of setup) (agent_then setup w) event).sent in
    record {
      packets = each_both (LetterFrom (lives_of w)) w.letters (map (said_to setup number) outs) s.packets (said_from setup (lives_of w) number outs);
      came = each_both (CameFrom (lives_of w)) w.brought (map (brought_by number) (comes_with (clock_of setup w) event)) s.came comes;
    }

-- it hears what a life sent
hears_from : (setup : Setup) (w : LivesWorld) (number : ℕ) (post : Posted) → OfLife (IsSentBy post) (lives_of w) number
    → Each (CameFrom (lives_of w)) (map (brought_by number) (comes_with (clock_of setup w) (hears (datagram post.packet.sender post.packet.bytes))))
hears_from setup w number post sent =
    each_mapped (CameFrom (lives_of w)) (brought_by number) comes
    (of_life_each (λ (life : Life) (one : Reached). IsSentWhere one life) comes (lives_of w) number
    (of_life_weaker (IsSentBy post) (λ (life : Life). Each (λ (one : Reached). IsSentWhere one life) comes) (lives_of w) number
    (λ life is. guarded (IsSetUp life.setup) (WasSent life) comes (λ set_up. come life set_up is)) sent)) where
      comes : List Reached
      comes = flat_map reached (map (arrival (clock_of setup w) post.packet.sender) (texts_of post.packet.bytes))

      come : (life : Life) → IsSetUp life.setup → IsSentBy post life → Each (WasSent life) (flat_map reached (map (arrival (clock_of setup w) post.packet.sender) (texts_of post.packet.bytes)))
      come life set_up is =
          each_flat (WasSent life) reached (map (arrival (clock_of setup w) post.packet.sender) (texts_of post.packet.bytes))
          (each_mapped (λ (a : TextArrival). Each (WasSent life) (reached a)) (arrival (clock_of setup w) post.packet.sender) (texts_of post.packet.bytes)
          (each_weaker (SaysSo life) (λ (text : List ℕ). Each (WasSent life) (reached (arrival (clock_of setup w) post.packet.sender text)))
          (λ text says. text_is life text post.packet.sender (clock_of setup w) set_up says) (texts_of post.packet.bytes) (packet_texts life post set_up is)))

-- A step

abbrev WorldHasSent : LivesWorld → Type 0
WorldHasSent w = HasSent (lives_of w) w.letters w.brought

handed_sent : (setup : Setup) (w : LivesWorld) (letter : Letter) → WorldHasSent w → LetterFrom (lives_of w) letter → WorldHasSent (handed_from letter.post.end setup letter.life w letter.post.packet)
handed_sent setup w letter s is = by_end letter.post.end is where
  to_gateway : (b : Bool) (packet : Packet) → WorldHasSent (if b then to_life w (datagram packet.sender packet.bytes) else w)
  to_gateway false packet = s
  to_gateway true packet = life_takes w (datagram packet.sender packet.bytes) s

  to_agent : (b : Bool) → OfLife (IsSentBy letter.post) (lives_of w) letter.life
      → WorldHasSent (if b then to_agent_of setup letter.life w (hears (datagram letter.post.packet.sender letter.post.packet.bytes)) else w)
  to_agent false sent = s
  to_agent true sent = agent_takes setup letter.life w (hears (datagram letter.post.packet.sender letter.post.packet.bytes)) s (hears_from setup w letter.life letter.post sent)

  by_end : (end : End) → IsFrom end (lives_of w) letter → WorldHasSent (handed_from end setup letter.life w letter.post.packet)
  by_end agent_end is = to_gateway (same_address letter.post.packet.to (gateway_address w.life.setup)) letter.post.packet
  by_end gateway_end is = to_agent (is_among setup.agent.route letter.post.packet.to) is

restarted_sent : (setup : Setup) (w : LivesWorld) (first : ℕ) → WorldHasSent w → WorldHasSent (restarted setup w first)
restarted_sent setup w first s =
    let new = new_life (record setup { first = first }) (clock_of setup w) in
    record {
      packets = each_weaker (LetterFrom (lives_of w)) (LetterFrom (lives_of w ++ new ∷ [])) (λ letter is. before new letter.post.end letter is) w.letters s.packets;
      came = each_weaker (CameFrom (lives_of w)) (CameFrom (lives_of w ++ new ∷ [])) (λ one is. of_life_before (IsSentWhere one.reached) (lives_of w) (new ∷ []) one.life is) w.brought s.came;
    } where
      before : (new : Life) (end : End) (letter : Letter) → IsFrom end (lives_of w) letter → IsFrom end (lives_of w ++ new ∷ []) letter
      before new gateway_end letter is = of_life_before (IsSentBy letter.post) (lives_of w) (new ∷ []) letter.life is
      before new agent_end letter is = tt

step_sent : (setup : Setup) (w : LivesWorld) (step : LivesStep) → WorldHasSent w → WorldHasSent (lived setup w step)
unfolding lived
step_sent setup w (restarting first) s = restarted_sent setup w first s
step_sent setup w (stepping (issuing verb name rest)) s = agent_takes setup (number_of w) w (issues verb name rest) s tt
step_sent setup w (stepping (dialling line act)) s = life_takes w (phone line act) s
step_sent setup w (stepping (ticking moment)) s =
    agent_takes setup (number_of w) (to_life w (tick (moment - w.life.start))) (hears (tick moment)) (life_takes w (tick (moment - w.life.start)) s) tt
step_sent setup w (stepping (delivering number)) s = by_letter (slice_get w.letters number) (each_at (LetterFrom (lives_of w)) w.letters number s.packets) where
  by_letter : (found : Option Letter) → IfSome found (LetterFrom (lives_of w)) → WorldHasSent (handed found setup w)
  by_letter None is = s
  by_letter (Some letter) is = handed_sent setup w letter s is

steps_sent : (setup : Setup) (w : LivesWorld) (steps : List LivesStep) → WorldHasSent w → WorldHasSent (lives_after setup w steps)
unfolding lives_after
steps_sent setup w [] s = s
steps_sent setup w (step ∷ steps) s = steps_sent setup (lived setup w step) steps (step_sent setup w step s)

-- Each first of the agent's is a command of its life

abbrev IsSentAs : Reached → Life → Type 0
IsSentAs one life = IsSetUp life.setup → Any (λ (b : Begun). (b.id ≡ one.asked.id) × (one.outcome ≡ read_text b.text)) (begun_of life)

sent_as : (one : Reached) (life : Life) → IsSentWhere one life → IsSentAs one life
sent_as one life sent = λ set_up.
    let P : Begun → Type 0 = λ b. (b.id ≡ one.asked.id) × (one.outcome ≡ read_text b.text) in
    any_from_one P (begun_of life) (one_weaker (Matches one) P (λ b m. (m.id, m.read)) (begun_of life) (sent set_up))

pub firsts_as_sent : (setup : Setup) (steps : List LivesStep)
    → All (λ (one : Brought). OfLife (λ (life : Life). IsSetUp life.setup → Any (λ (b : Begun). (b.id ≡ one.reached.asked.id) × (one.reached.outcome ≡ read_text b.text)) (begun_of life))
    (lives_of (plain_lives setup steps)) one.life) (firsts_of_lives (plain_lives setup steps))
firsts_as_sent setup steps =
    let w = plain_lives setup steps in
    let s = steps_sent setup (lives_opening setup) steps (record { packets = tt; came = tt }) in
    let P : Brought → Type 0 = λ one. OfLife (IsSentAs one.reached) (lives_of w) one.life in
    all_from_each P (firsts_of_lives w)
    (each_weaker (CameFrom (lives_of w)) P
    (λ one is. of_life_weaker (IsSentWhere one.reached) (IsSentAs one.reached) (lives_of w) one.life (sent_as one.reached) is)
    (firsts_of_lives w) (firsts_each (CameFrom (lives_of w)) w.brought s.came))
