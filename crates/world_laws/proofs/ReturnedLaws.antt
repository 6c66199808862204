-- A network that hands each packet over in time brings a response to each command of the gateway's own in twice the time.
use Rattle.std.proofs.Common.{◌≡◌, ℕ, ◌+◌, ◌*◌, ◌≤◌, Bool, true, false, if◌then◌else◌, List, [], ◌∷◌, ◌++◌, Option, Some, None, sym, ap, ◌∙◌, subst, arith, append_assoc}
use Rattle.std.specs.Prelude.{slice_get}
use Rattle.transmission.specs.declared.entry.KeptFirst.{KeptFirst}
use Rattle.transmission.specs.Kept.{firsts_in}
use Rattle.mgcp_text.specs.Reading.{read_text}
use Rattle.transmission.specs.Packing.{same_address}
use Rattle.transmission.specs.Texts.{texts_of}
use Rattle.plain_machine.specs.declared.setup.Setup.{Setup}
use Rattle.plain_machine.specs.Arriving.{TextArrival, arrival, arrivals_at, arrivals_of}
use Rattle.plain_machine.specs.Event.{GatewayEvent, datagram, phone, tick}
use Rattle.plain_machine.specs.Machine.{opening}
use Rattle.plain_machine.specs.Setup.{IsSetUp}
use Rattle.plain_machine.proofs.ListLaws.{arrivals_on}
use Rattle.plain_machine.specs.Message.{Begun}
use Rattle.machine_laws.specs.Saying.{IsAnswerTo, OneOf}
use Rattle.machine_laws.proofs.EachLemmas.{any_from_one, one_before, one_behind, one_from_any, one_mapped, one_of_each, one_to, one_weaker}
use Rattle.call_agent.specs.Hearing.{AgentEvent, hears, issues}
use Rattle.agent_core.specs.declared.packet.End.{End}
use Rattle.agent_core.specs.declared.packet.End.TheVariants.{AgentEnd as agent_end, GatewayEnd as gateway_end}
use Rattle.agent_core.specs.declared.packet.Packet.{Packet}
use Rattle.agent_core.specs.declared.packet.Posted.{Posted}
use Rattle.agent_core.specs.World.{World, WorldStep, agent_in, agent_of, delivered, delivered_from, delivering, dialling, gateway_address, gateway_in, is_among, issuing, now_in, plain_world, steps_are_taken, ticking, to_agent, to_gateway, went, world_after, world_opening}
use Rattle.world_laws.specs.Reached.{issued_in}
use Rattle.world_laws.proofs.WorldLaws.{agent_answers, world_sound}
use Rattle.world_laws.specs.Copies.{IsCopy, IsPlainAnswer}
use Rattle.world_laws.specs.Taking.{IsOwn, IsTaken, agent_history}
use Rattle.world_laws.specs.Fairness.{AgentAlwaysHasRoom, GoesToAgent, IsFair, IsHandedOver}
use Rattle.world_laws.specs.OwnChances.{HasCome, IsResponse}
use Rattle.world_laws.proofs.PostedFinal.{handed_to_gateway, step_more, steps_more, taken_front}
use Rattle.world_laws.proofs.FairLaws.{IsBefore, later_before, stays_found}
use Rattle.world_laws.proofs.QuietLemmas.{HasPlain, agent_plain}
use Rattle.world_laws.proofs.BroughtLaws.{HandsOver, IsBrought, is_brought}

-- What came stays come

module _ (P : TextArrival → Type 0) (setup : Setup) where
  abbrev pub HasOne : World → Type 0
  HasOne w = OneOf P (arrivals_of w.gateway_took)

  gateway_stays : (w : World) (event : GatewayEvent) → HasOne w → HasOne (to_gateway setup w event)
  gateway_stays w event is =
      subst (OneOf P) (sym (arrivals_on setup (opening setup) w.gateway_took event))
      (one_before P (arrivals_of w.gateway_took) (arrivals_at (gateway_in setup w).now event) is)

  pub gateway_comes : (w : World) (event : GatewayEvent) → OneOf P (arrivals_at (gateway_in setup w).now event) → HasOne (to_gateway setup w event)
  gateway_comes w event is =
      subst (OneOf P) (sym (arrivals_on setup (opening setup) w.gateway_took event))
      (one_behind P (arrivals_of w.gateway_took) (arrivals_at (gateway_in setup w).now event) is)

  agent_stays : (w : World) (event : AgentEvent) → HasOne w → HasOne (to_agent setup w event)
  agent_stays w event is = is

  delivered_stays : (w : World) (end : End) (packet : Packet) → HasOne w → HasOne (delivered_from end setup w packet)
  delivered_stays w agent_end packet is = by_test (same_address packet.to (gateway_address setup)) where
    by_test : (x : Bool) → HasOne (if x then to_gateway setup w (datagram packet.sender packet.bytes) else w)
    by_test true = gateway_stays w (datagram packet.sender packet.bytes) is
    by_test false = is
  delivered_stays w gateway_end packet is = by_test (is_among setup.agent.route packet.to) where
    by_test : (x : Bool) → HasOne (if x then to_agent setup w (hears (datagram packet.sender packet.bytes)) else w)
    by_test true = agent_stays w (hears (datagram packet.sender packet.bytes)) is
    by_test false = is

  step_stays : (w : World) (step : WorldStep) → HasOne w → HasOne (went setup w step)
  unfolding went
  step_stays w (issuing verb name rest) is = agent_stays w (issues verb name rest) is
  step_stays w (dialling line act) is = gateway_stays w (phone line act) is
  step_stays w (ticking moment) is = agent_stays (to_gateway setup w (tick moment)) (hears (tick moment)) (gateway_stays w (tick moment) is)
  step_stays w (delivering number) is = by_post (slice_get w.posted number) where
    by_post : (found : Option Posted) → HasOne (delivered found setup w)
    by_post None = is
    by_post (Some post) = delivered_stays w post.end post.packet is

  steps_stay : (w : World) (steps : List WorldStep) → HasOne w → HasOne (world_after setup w steps)
  unfolding world_after
  steps_stay w [] is = is
  steps_stay w (step ∷ steps) is = steps_stay (went setup w step) steps (step_stays w step is)

  pub arrivals_stay : (steps more : List WorldStep) → HasOne (plain_world setup steps) → HasOne (plain_world setup (steps ++ more))
  arrivals_stay steps more is = subst HasOne (sym (steps_more setup world_opening steps more)) (steps_stay (plain_world setup steps) more is)

-- The way back

back_late : (issued within limit sent now : ℕ) → sent ≤ issued + within → issued + within + limit ≤ now → sent + limit ≤ now
back_late issued within limit sent now soon late = omega (arith, soon, late)

there_late : (issued within limit now : ℕ) → issued + within + limit ≤ now → issued + limit ≤ now
there_late issued within limit now late = omega (arith, late)

twice_late : (issued within now : ℕ) → issued + 2 * within ≤ now → issued + within + within ≤ now
twice_late issued within now late = omega (arith, late)

-- the stored answer is a response to it
pub reads_so : (setup : Setup) (first : List WorldStep) (id : ℕ) (text : List ℕ) → steps_are_taken setup world_opening first ≡ true
    → OneOf (λ (one : KeptFirst). (one.id ≡ id) × (one.answer ≡ text)) (firsts_in (agent_history setup (plain_world setup first))) → IsAnswerTo id text
reads_so setup first id text taken stored =
    let after = plain_world setup first in
    let firsts = firsts_in (agent_history setup after) in
    one_to (λ (one : KeptFirst). IsAnswerTo one.id one.answer × ((one.id ≡ id) × (one.answer ≡ text))) (IsAnswerTo id text)
    (λ one both. subst (λ (i : ℕ). IsAnswerTo i text) both.1.0 (subst (IsAnswerTo one.id) both.1.1 both.0)) firsts
    (one_of_each (λ (one : KeptFirst). IsAnswerTo one.id one.answer) (λ (one : KeptFirst). (one.id ≡ id) × (one.answer ≡ text)) firsts
    (agent_answers (issued_in setup after) (agent_in setup after) (world_sound setup first taken).agrees.agent) stored)

-- and a final one, and not 521
pub plain_so : (setup : Setup) (first : List WorldStep) (id : ℕ) (text : List ℕ)
    → OneOf (λ (one : KeptFirst). (one.id ≡ id) × (one.answer ≡ text)) (firsts_in (agent_history setup (plain_world setup first)))
    → IsPlainAnswer id text
plain_so setup first id text stored =
    let firsts = firsts_in (agent_history setup (plain_world setup first)) in
    one_to (λ (one : KeptFirst). HasPlain one × ((one.id ≡ id) × (one.answer ≡ text))) (IsPlainAnswer id text)
    (λ one both. subst (IsPlainAnswer id) both.1.1 (both.0.0 id)) firsts
    (one_of_each HasPlain (λ (one : KeptFirst). (one.id ≡ id) × (one.answer ≡ text)) firsts
    (agent_plain (agent_of setup) (plain_world setup first).agent_took) stored)

-- a response to it, final and not 521, was handed over
pub record IsReturned (setup : Setup) (steps : List WorldStep) (b : Begun) : Type 0 where
  pub before : List WorldStep
  pub number : ℕ
  pub later : List WorldStep
  pub order : steps ≡ (before ++ delivering number ∷ []) ++ later
  pub text : List ℕ
  pub copy : IsCopy setup (plain_world setup before) agent_end text number
  pub reads : IsAnswerTo b.id text
  pub plain : IsPlainAnswer b.id text

module _ (setup : Setup) (steps : List WorldStep) (limit within : ℕ) (b : Begun) (taken : steps_are_taken setup world_opening steps ≡ true) (fair : HandsOver setup steps limit within)
    (late : b.moment + within + limit ≤ now_in setup (plain_world setup steps)) (is : IsBrought setup steps within b) where
  abbrev before : List WorldStep
  before = is.there.before

  abbrev first : List WorldStep
  first = before ++ delivering is.number ∷ []

  front : steps_are_taken setup world_opening first ≡ true
  front = taken_front setup world_opening first is.there.later (subst (λ (s : List WorldStep). steps_are_taken setup world_opening s ≡ true) is.there.order taken)

  abbrev took : IsTaken setup (plain_world setup before) (plain_world setup first) b.id
  took = is.took

  abbrev post : Posted
  post = took.copy.post

  reads : IsAnswerTo b.id took.text
  reads = reads_so setup first b.id took.text front (one_from_any (λ (one : KeptFirst). (one.id ≡ b.id) × (one.answer ≡ took.text)) (firsts_in (agent_history setup (plain_world setup first))) took.stored)

  -- the answer goes out in time
  soon : now_in setup (plain_world setup first) ≡ now_in setup (plain_world setup before) → post.packet.moment ≤ b.moment + within
  soon same =
      let sent : post.packet.moment ≡ now_in setup (plain_world setup first) = took.moment in
      let handed : now_in setup (plain_world setup before) ≤ is.post.packet.moment + within = is.there.soon in
      let moment : is.post.packet.moment ≡ b.moment = is.moment in
      omega (arith, sent, same, handed, moment)

  found : slice_get (plain_world setup steps).posted took.number ≡ Some post
  found =
      subst (λ (s : List WorldStep). slice_get (plain_world setup s).posted took.number ≡ Some post) (sym is.there.order)
      (stays_found setup b.id first is.there.later took.number post took.copy.found)

  plain : IsPlainAnswer b.id took.text
  plain =
      plain_so setup first b.id took.text
      (one_from_any (λ (one : KeptFirst). (one.id ≡ b.id) × (one.answer ≡ took.text))
      (firsts_in (agent_history setup (plain_world setup first))) took.stored)

  -- behind the packet that brought the command
  returns : IsHandedOver setup steps within took.number post → (returned : IsReturned setup steps b) × IsBefore before returned.before
  returns back = (
    record {
      before = back.before;
      number = took.number;
      later = back.later;
      order = back.order;
      text = took.text;
      copy = record { post = post; found = back.sent; sender = took.copy.sender; goes = took.copy.goes; inside = took.copy.inside };
      reads = reads;
      plain = plain;
    },
    later_before setup b.id before back.before (delivering is.number ∷ is.there.later) (delivering took.number ∷ back.later)
        took.number post
        (sym (append_assoc before (delivering is.number ∷ []) is.there.later) ∙ sym is.there.order ∙ back.order
        ∙ append_assoc back.before (delivering took.number ∷ []) back.later)
        took.since back.sent,
  )

  comes_back : now_in setup (plain_world setup first) ≡ now_in setup (plain_world setup before)
      → (returned : IsReturned setup steps b) × IsBefore before returned.before
  comes_back same = returns (fair took.number post found (back_late b.moment within limit post.packet.moment (now_in setup (plain_world setup steps)) (soon same) late))

pub returned_behind : (setup : Setup) (steps : List WorldStep) (limit within : ℕ) (b : Begun)
    → steps_are_taken setup world_opening steps ≡ true → HandsOver setup steps limit within
    → b.moment + within + limit ≤ now_in setup (plain_world setup steps) → (is : IsBrought setup steps within b)
    → (returned : IsReturned setup steps b) × IsBefore is.there.before returned.before
returned_behind setup steps limit within b taken fair late is =
    comes_back setup steps limit within b taken fair late is (ap (now_in setup) is.step)

pub is_returned : (setup : Setup) (steps : List WorldStep) (limit within : ℕ) (b : Begun) → IsSetUp setup → steps_are_taken setup world_opening steps ≡ true → HandsOver setup steps limit within
    → AgentAlwaysHasRoom setup steps → let w = plain_world setup steps in IsOwn setup w b → GoesToAgent setup w b.text
    → b.moment + within + limit ≤ now_in setup w → IsReturned setup steps b
is_returned setup steps limit within b set_up taken fair roomy own goes late =
    let is = is_brought setup steps limit within b set_up taken fair roomy own goes (there_late b.moment within limit (now_in setup (plain_world setup steps)) late) in
    (returned_behind setup steps limit within b taken fair late is).0

-- where it is handed over it comes
pub has_come : (setup : Setup) (steps : List WorldStep) (b : Begun) → IsReturned setup steps b → HasCome (plain_world setup steps) b.id
has_come setup steps b back =
    any_from_one Comes (arrivals_of (plain_world setup steps).gateway_took)
    (subst (λ (s : List WorldStep). HasOne Comes setup (plain_world setup s)) (sym back.order)
    (arrivals_stay Comes setup (back.before ++ delivering back.number ∷ []) back.later
    (subst (HasOne Comes setup) (sym (step_more setup back.before (delivering back.number) ∙ handed_to_gateway setup (plain_world setup back.before) back.text back.number back.copy))
    (gateway_comes Comes setup (plain_world setup back.before) (datagram packet.sender packet.bytes)
    (one_mapped Comes (arrival (gateway_in setup (plain_world setup back.before)).now packet.sender) (texts_of packet.bytes)
    (one_weaker (λ (one : List ℕ). one ≡ back.text) (λ (one : List ℕ). IsResponse b.id (read_text one))
    (λ one same. (back.reads.code, back.reads.params, back.reads.body, ap read_text same ∙ back.reads.reads)) (texts_of packet.bytes)
    (one_from_any (λ (one : List ℕ). one ≡ back.text) (texts_of packet.bytes) back.copy.inside))))))) where
      packet : Packet
      packet = back.copy.post.packet

      Comes : TextArrival → Type 0
      Comes a = IsResponse b.id a.outcome

pub returned_in_time : (setup : Setup) (steps : List WorldStep) (within : ℕ) (b : Begun) → IsSetUp setup → steps_are_taken setup world_opening steps ≡ true → IsFair setup steps within
    → AgentAlwaysHasRoom setup steps → let w = plain_world setup steps in IsOwn setup w b → GoesToAgent setup w b.text
    → b.moment + 2 * within ≤ now_in setup w → HasCome w b.id
returned_in_time setup steps within b set_up taken fair roomy own goes late =
    has_come setup steps b
    (is_returned setup steps within within b set_up taken fair roomy own goes (twice_late b.moment within (now_in setup (plain_world setup steps)) late))
