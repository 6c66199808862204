-- What a life sends, by the world's clock: commands of its own, each for less than 20,000 ms, answers that it keeps, and
-- acknowledgements. All of it follows from what a gateway sends with a list of events, taken for the life.
use Rattle.std.proofs.Common.{◌≡◌, ◌≢◌, ℕ, ◌+◌, ◌-◌, ◌<◌, ◌≤◌, ◌^◌, Bool, true, false, ◌||◌, if◌then◌else◌, List, [], ◌∷◌, ◌++◌, map, length, Option, Some, None, inl, inr, refl, sym, ap, ◌∙◌, subst, arith, append-nil}
use Rattle.std.specs.Prelude.{AllPairs, Any, IfSome, flat_map, nat_lt, nat_le}
use Rattle.std.proofs.lemmas.Bool.{le-ltb, leb-false, lt-leb, ltb-false}
use Rattle.std.proofs.lemmas.List.{map-append, length-map, get_or-map}
use Rattle.std.proofs.lemmas.Option.{none-some}
use Rattle.std.proofs.lemmas.Grind.{flat_map-append}
use Rattle.transmission.specs.declared.entry.KeptFirst.{KeptFirst}
use Rattle.transmission.specs.Kept.{firsts_in}
use Rattle.retransmission.specs.Flight.{InFlight}
use Rattle.mgcp_text.specs.Parts.{parts_of}
use Rattle.transmission.specs.declared.output.OutDatagram.{OutDatagram}
use Rattle.transmission.specs.Packing.{messages_in}
use Rattle.machine_rules.specs.declared.refusal.Refusal.TheVariants.{TickTooFar, ClockBack}
use Rattle.plain_machine.specs.declared.endpoint.Endpoint.{Endpoint}
use Rattle.plain_machine.specs.declared.setup.Setup.{Setup}
use Rattle.plain_machine.specs.Setup.{IsSetUp}
use Rattle.plain_machine.specs.Event.{GatewayEvent}
use Rattle.plain_machine.specs.Arriving.{clock_after}
use Rattle.plain_machine.specs.Message.{Begun, Sent, text_of, datagram_of, datagrams_of}
use Rattle.plain_machine.specs.Machine.{Machine, endpoint_at, opening}
use Rattle.plain_machine.specs.Packing.{put_out}
use Rattle.plain_machine.specs.Happening.{effect}
use Rattle.plain_machine.specs.Refusing.{refusal_of, tick_refusal}
use Rattle.plain_machine.specs.Lists.{are_taken, outputs_from, outputs_of, sent_of}
use Rattle.plain_machine.proofs.ListLaws.{outputs_on, taken_on}
use Rattle.machine_laws.specs.Saying.{Gives, Carries, HasNumbersLeft, IsAnswerTo, OneOf, Tells, begun_at, begun_in}
use Rattle.machine_laws.proofs.EachLemmas.{Each, any_from_one, each_mapped, each_unflat, each_unmapped, each_weaker, one_before, one_behind, one_mapped, one_of_each, one_to, one_weaker}
use Rattle.machine_laws.proofs.FlightLemmas.{IsSame}
use Rattle.machine_laws.proofs.GatewayEvents.{Said, all_apart, all_hold, AreAnswers, IsCommand}
use Rattle.machine_laws.proofs.MessageLaws.{sent_as_messages}
use Rattle.machine_laws.proofs.PostLogs.{WasBegun}
use Rattle.agent_core.specs.declared.packet.Posted.{Posted}
use Rattle.world_laws.proofs.LinkLaws.{sent_more}
use Rattle.world_laws.proofs.WorldLaws.{Holding, texts_hold}
use Rattle.outage_laws.specs.Lives.{Life, Letter, gateway_of, sent_by}
use Rattle.outage_laws.specs.Apart.{begun_of, moved, own_of}
use Rattle.outage_laws.proofs.HandedLaws.{life_clock, with_event}
use Rattle.outage_laws.proofs.OwnEvents.{line_in_flight, own_in_flight, IsResponse, IsSaid, all_commands, all_say}
use Rattle.outage_laws.proofs.PairLemmas.{each_among}
use Rattle.mgcp_text.specs.Reading.{read_text}
use Rattle.transmission.specs.Texts.{texts_of}
use Rattle.outage_laws.proofs.PlainAnswers.{asks_of, no_command_asks}

-- what is so of a life by this moment of the world
pub record IsLife (now : ℕ) (life : Life) : Type 0 where
  pub set_up : IsSetUp life.setup
  pub taken : are_taken life.setup (opening life.setup) life.took ≡ true
  pub past : life.start + (gateway_of life).now ≤ now

pub life_later : (now later : ℕ) (life : Life) → now ≤ later → IsLife now life → IsLife later life
life_later now later life on is = record { set_up = is.set_up; taken = is.taken; past = (let was = is.past in omega (arith, was, on)) }

-- it goes on with an event that it doesn't refuse
pub life_on : (now later : ℕ) (life : Life) (event : GatewayEvent) → IsLife now life → refusal_of (gateway_of life) event ≡ None
    → life.start + clock_after (gateway_of life).now event ≤ later → IsLife later (with_event life event)
life_on now later life event is none past = record {
  set_up = is.set_up;
  taken = taken_on life.setup (opening life.setup) life.took event is.taken none;
  past = (let clock = life_clock life event in omega (arith, past, clock));
}

-- a tick that the agent takes is one that a life takes, whose moments count from its start
pub tick_moved : (start now moment : ℕ) → tick_refusal (start + now) moment ≡ None → tick_refusal now (moment - start) ≡ None
tick_moved start now moment taken = by_far (nat_lt (start + now + 1000) moment) (nat_le (2 ^ 62) moment) refl refl taken where
  none_refused : moment ≤ start + now + 1000 → moment < 2 ^ 62 → start + now ≤ moment → tick_refusal now (moment - start) ≡ None
  none_refused near small forward =
      rw (le-ltb (now + 1000) (moment - start) (omega (arith, near, forward)), lt-leb (2 ^ 62) (moment - start) (omega (arith, small)), le-ltb (moment - start) now (omega (arith, forward))) refl

  by_back : (b : Bool) → moment ≤ start + now + 1000 → moment < 2 ^ 62 → nat_lt moment (start + now) ≡ b → (if b then Some ClockBack else None) ≡ None → tick_refusal now (moment - start) ≡ None
  by_back true near small back e = absurd (none-some ClockBack (sym e))
  by_back false near small forward e = none_refused near small (ltb-false moment (start + now) forward)

  by_far : (a b : Bool) → nat_lt (start + now + 1000) moment ≡ a → nat_le (2 ^ 62) moment ≡ b
      → (if a || b then Some TickTooFar else (if nat_lt moment (start + now) then Some ClockBack else None)) ≡ None → tick_refusal now (moment - start) ≡ None
  by_far true b far late e = absurd (none-some TickTooFar (sym e))
  by_far false true near late e = absurd (none-some TickTooFar (sym e))
  by_far false false near early e = by_back (nat_lt moment (start + now)) (ltb-false (start + now + 1000) moment near) (leb-false (2 ^ 62) moment early) refl e

-- By the world's clock

abbrev pub moved_first : ℕ → KeptFirst → KeptFirst
moved_first start first = record first { moment = start + first.moment }

abbrev pub kept_of : Life → List KeptFirst
kept_of life = map (moved_first life.start) (firsts_in (gateway_of life).history)

tells_moved : (start : ℕ) (log : List Begun) (firsts : List KeptFirst) (text : List ℕ) (moment : ℕ) → Tells log firsts text moment
    → Tells (map (moved start) log) (map (moved_first start) firsts) text (start + moment)
tells_moved start log firsts text moment (inl carried) =
    inl (one_mapped (Carries text (start + moment)) (moved start) log
    (one_weaker (Carries text moment) (λ (b : Begun). Carries text (start + moment) (moved start b))
    (λ b c. record { text = c.text; since = (let begun = c.since in omega (arith, begun)); within = (let before = c.within in omega (arith, before)) }) log carried))
tells_moved start log firsts text moment (inr (inl given)) =
    inr (inl (one_mapped (Gives text (start + moment)) (moved_first start) firsts
    (one_weaker (Gives text moment) (λ (first : KeptFirst). Gives text (start + moment) (moved_first start first))
    (λ first gives. (gives.0, (let young = gives.1 in omega (arith, young)))) firsts given)))
tells_moved start log firsts text moment (inr (inr is)) = inr (inr is)

module _ (now : ℕ) (life : Life) (is : IsLife now life) where
  pub life_commands : Each IsCommand (begun_of life)
  life_commands =
      each_mapped IsCommand (moved life.start) (own_of life)
      (each_weaker (WasBegun (gateway_of life).now) (λ (b : Begun). IsCommand (moved life.start b)) (λ b w. record { name = w.name; reads = w.reads }) (own_of life)
      (all_hold life.setup life.took is.set_up is.taken).holds.stands.logged.begun)

  -- all of them began by now
  pub life_past : Each (λ (b : Begun). b.moment ≤ life.start + (gateway_of life).now) (begun_of life)
  life_past =
      each_mapped (λ (b : Begun). b.moment ≤ life.start + (gateway_of life).now) (moved life.start) (own_of life)
      (each_weaker (WasBegun (gateway_of life).now) (λ (b : Begun). life.start + b.moment ≤ life.start + (gateway_of life).now) (λ b w. (let past = w.past in omega (arith, past))) (own_of life)
      (all_hold life.setup life.took is.set_up is.taken).holds.stands.logged.begun)

  pub life_answers : AreAnswers (kept_of life)
  life_answers =
      each_mapped (λ (first : KeptFirst). IsAnswerTo first.id first.answer) (moved_first life.start) (firsts_in (gateway_of life).history)
      (all_hold life.setup life.took is.set_up is.taken).holds.answers

  -- where it has numbers left, no two of its ids are one
  pub life_apart : HasNumbersLeft (own_of life) → AllPairs (λ (a b : Begun). a.id ≢ b.id) (begun_of life)
  life_apart few = λ i j d less within same.
      let apart = all_apart life.setup life.took is.set_up is.taken few in
      let inside : j < length (own_of life) = omega (arith, within, length-map (own_of life) (moved life.start)) in
      apart i j d less inside
      (ap (λ (b : Begun). b.id) (sym (get_or-map (moved life.start) (own_of life) i d d (omega (arith, less, inside)))) ∙ same
      ∙ ap (λ (b : Begun). b.id) (get_or-map (moved life.start) (own_of life) j d d inside))

  abbrev SaysBy : OutDatagram → Type 0
  SaysBy out = Tells (begun_of life) (kept_of life) out.bytes (life.start + out.moment) × (life.start + out.moment ≤ now)

  abbrev pub SaysIn : OutDatagram → Type 0
  SaysIn out = Holding (Tells (begun_of life) (kept_of life)) now out.bytes (life.start + out.moment)

  pub life_says : Each SaysIn (outputs_of life.setup life.took)
  life_says =
      let goes = all_hold life.setup life.took is.set_up is.taken in
      let past = is.past in
      let sent = sent_of life.setup life.took in
      let outs = outputs_of life.setup life.took in
      let says : Each SaysBy (datagrams_of sent) =
      each_mapped SaysBy datagram_of sent
      (each_weaker (Said (own_of life) (firsts_in (gateway_of life).history) (gateway_of life).now) (λ (one : Sent). SaysBy (datagram_of one))
      (λ one said. (tells_moved life.start (own_of life) (firsts_in (gateway_of life).history) (text_of one.said) one.moment said.0, (let early = said.1 in omega (arith, early, past))))
      sent goes.says) in
      let inside : Each SaysBy (flat_map messages_in outs) = subst (Each SaysBy) (sym (sent_as_messages life.setup life.took is.set_up)) says in
      each_weaker (λ (out : OutDatagram). Each SaysBy (messages_in out)) SaysIn
      (λ out each. texts_hold (λ (text : List ℕ). Tells (begun_of life) (kept_of life) text (life.start + out.moment) × (life.start + out.moment ≤ now)) out.bytes
      (each_unmapped SaysBy (λ text. record out { bytes = text }) (parts_of out.bytes) each))
      outs (each_unflat SaysBy messages_in outs inside)

-- What a life has in flight it began

began_so : (life : Life) (pending : Option InFlight) → IfSome pending (λ (message : InFlight). OneOf (IsSame message) (own_of life))
    → IfSome pending (λ (message : InFlight). Any (λ (b : Begun). b.id ≡ message.id) (begun_of life))
began_so life None known = tt
began_so life (Some message) known =
    any_from_one (λ (b : Begun). b.id ≡ message.id) (begun_of life)
    (one_mapped (λ (b : Begun). b.id ≡ message.id) (moved life.start) (own_of life)
    (one_weaker (IsSame message) (λ (b : Begun). b.id ≡ message.id) (λ b same. same.id) (own_of life) known))

pub line_flies : (life : Life) (line : ℕ) (endpoint : Endpoint) → endpoint_at (gateway_of life).endpoints line ≡ Some endpoint
    → IfSome endpoint.post.pending (λ (message : InFlight). Any (λ (b : Begun). b.id ≡ message.id) (begun_of life))
line_flies life line endpoint at = began_so life endpoint.post.pending (line_in_flight life.setup life.took line endpoint at)

pub own_flies : (life : Life) → IfSome (gateway_of life).endpoints.own.pending (λ (message : InFlight). Any (λ (b : Begun). b.id ≡ message.id) (begun_of life))
own_flies life = began_so life (gateway_of life).endpoints.own.pending (own_in_flight life.setup life.took)

-- A packet of a life's

-- it is this datagram, by the world's clock
pub record IsOutput (start : ℕ) (post : Posted) (out : OutDatagram) : Type 0 where
  pub moment : post.packet.moment ≡ start + out.moment
  pub bytes : post.packet.bytes ≡ out.bytes

abbrev pub IsSentBy : Posted → Life → Type 0
IsSentBy post life = OneOf (IsOutput life.start post) (outputs_of life.setup life.took)

pub packet_says : (now : ℕ) (life : Life) (post : Posted) → IsLife now life → IsSentBy post life → Holding (Tells (begun_of life) (kept_of life)) now post.packet.bytes post.packet.moment
packet_says now life post is sent =
    let S = Tells (begun_of life) (kept_of life) in
    one_to (λ (out : OutDatagram). SaysIn now life is out × IsOutput life.start post out) (Holding S now post.packet.bytes post.packet.moment)
    (λ out both. subst (λ (bytes : List ℕ). Holding S now bytes post.packet.moment) (sym both.1.bytes)
    (subst (λ (moment : ℕ). Holding S now out.bytes moment) (sym both.1.moment) both.0))
    (outputs_of life.setup life.took) (one_of_each (SaysIn now life is) (IsOutput life.start post) (outputs_of life.setup life.took) (life_says now life is) sent)

-- A life takes an event

one_output : (setup : Setup) (m : Machine) (event : GatewayEvent) → outputs_from setup m (event ∷ []) ≡ put_out (effect setup m event).sent
unfolding outputs_from
one_output setup m event = append-nil (put_out (effect setup m event).sent)

outputs_more : (life : Life) (event : GatewayEvent)
    → outputs_of life.setup (life.took ++ event ∷ []) ≡ outputs_of life.setup life.took ++ put_out (effect life.setup (gateway_of life) event).sent
outputs_more life event =
    outputs_on life.setup (opening life.setup) life.took (event ∷ [])
    ∙ ap (λ (outs : List OutDatagram). outputs_of life.setup life.took ++ outs) (one_output life.setup (gateway_of life) event)

pub sent_on : (life : Life) (event : GatewayEvent) (post : Posted) → IsSentBy post life → IsSentBy post (with_event life event)
sent_on life event post sent =
    subst (OneOf (IsOutput life.start post)) (sym (outputs_more life event))
    (one_before (IsOutput life.start post) (outputs_of life.setup life.took) (put_out (effect life.setup (gateway_of life) event).sent) sent)

pub event_sends : (number : ℕ) (life : Life) (event : GatewayEvent)
    → Each (λ (letter : Letter). IsSentBy letter.post (with_event life event)) (map (sent_by number life) (put_out (effect life.setup (gateway_of life) event).sent))
event_sends number life event =
    let outs = put_out (effect life.setup (gateway_of life) event).sent in
    each_mapped (λ (letter : Letter). IsSentBy letter.post (with_event life event)) (sent_by number life) outs
    (each_weaker (λ (out : OutDatagram). OneOf (λ (other : OutDatagram). other ≡ out) outs) (λ (out : OutDatagram). IsSentBy (sent_by number life out).post (with_event life event))
    (λ out among. subst (OneOf (IsOutput life.start (sent_by number life out).post)) (sym (outputs_more life event))
    (one_behind (IsOutput life.start (sent_by number life out).post) (outputs_of life.setup life.took) outs
    (one_weaker (λ (other : OutDatagram). other ≡ out) (IsOutput life.start (sent_by number life out).post)
    (λ other same. record { moment = ap (λ (o : OutDatagram). life.start + o.moment) (sym same); bytes = ap (λ (o : OutDatagram). o.bytes) (sym same) }) outs among)))
    outs (each_among outs))

begun_more : (life : Life) (event : GatewayEvent)
    → begun_of (with_event life event) ≡ begun_of life ++ map (moved life.start) (begun_in (effect life.setup (gateway_of life) event).sent)
begun_more life event =
    let sent = (effect life.setup (gateway_of life) event).sent in
    ap (λ (all : List Sent). map (moved life.start) (begun_in all)) (sent_more life.setup (opening life.setup) life.took event)
    ∙ ap (map (moved life.start)) (flat_map-append begun_at (sent_of life.setup life.took) sent)
    ∙ map-append (moved life.start) (own_of life) (begun_in sent)

pub one_begun_on : (P : Begun → Type 0) (life : Life) (event : GatewayEvent) → OneOf P (begun_of life) → OneOf P (begun_of (with_event life event))
one_begun_on P life event one =
    subst (OneOf P) (sym (begun_more life event)) (one_before P (begun_of life) (map (moved life.start) (begun_in (effect life.setup (gateway_of life) event).sent)) one)

-- The texts of a life's packets: of commands that it began, or responses, of which none asks for an acknowledgement, where the setup of
-- the life is one as configurations give it.

abbrev pub SaysSo : Life → List ℕ → Type 0
SaysSo life text = IsSaid life.setup (own_of life) text

life_texts : (life : Life) → IsSetUp life.setup → Each (λ (out : OutDatagram). Each (SaysSo life) (texts_of out.bytes)) (outputs_of life.setup life.took)
life_texts life set_up =
    let sent = sent_of life.setup life.took in
    let outs = outputs_of life.setup life.took in
    let Q : OutDatagram → Type 0 = λ out. SaysSo life out.bytes in
    let inside : Each Q (flat_map messages_in outs) =
    subst (Each Q) (sym (sent_as_messages life.setup life.took set_up)) (each_mapped Q datagram_of sent (all_say life.setup life.took)) in
    each_weaker (λ (out : OutDatagram). Each Q (messages_in out)) (λ (out : OutDatagram). Each (SaysSo life) (texts_of out.bytes))
    (λ out each. texts_hold (SaysSo life) out.bytes (each_unmapped Q (λ text. record out { bytes = text }) (parts_of out.bytes) each)) outs (each_unflat Q messages_in outs inside)

pub packet_texts : (life : Life) (post : Posted) → IsSetUp life.setup → IsSentBy post life → Each (SaysSo life) (texts_of post.packet.bytes)
packet_texts life post set_up sent =
    let S : OutDatagram → Type 0 = λ out. Each (SaysSo life) (texts_of out.bytes) in
    one_to (λ (out : OutDatagram). S out × IsOutput life.start post out) (Each (SaysSo life) (texts_of post.packet.bytes))
    (λ out both. subst (λ (bytes : List ℕ). Each (SaysSo life) (texts_of bytes)) (sym both.1.bytes) both.0)
    (outputs_of life.setup life.took) (one_of_each S (IsOutput life.start post) (outputs_of life.setup life.took) (life_texts life set_up) sent)

-- none asks for an acknowledgement

abbrev pub IsPlain : List ℕ → Type 0
IsPlain text = asks_of (read_text text) ≡ false

text_plain : (life : Life) (text : List ℕ) → IsSetUp life.setup → SaysSo life text → IsPlain text
text_plain life text set_up (inl one) =
    one_to (λ (b : Begun). IsCommand b × (text ≡ b.text)) (IsPlain text)
    (λ b both. ap (λ (t : List ℕ). asks_of (read_text t)) both.1 ∙ no_command_asks b.id both.0.name (read_text b.text) both.0.reads) (own_of life)
    (one_of_each IsCommand (λ (b : Begun). text ≡ b.text) (own_of life) (all_commands life.setup life.took set_up) one)
text_plain life text set_up (inr response) = let is : IsResponse text = response set_up in ap asks_of is.reads ∙ is.plain

pub packet_plain : (life : Life) (post : Posted) → IsSetUp life.setup → IsSentBy post life → Each IsPlain (texts_of post.packet.bytes)
packet_plain life post set_up sent =
    each_weaker (SaysSo life) IsPlain (λ text says. text_plain life text set_up says) (texts_of post.packet.bytes) (packet_texts life post set_up sent)
