-- A command that is handed to the gateway is answered at once, and an answer that comes in time is had.
use Rattle.std.proofs.Common.{◌≡◌, ℕ, ◌+◌, ◌<◌, ◌≤◌, true, List, [], ◌∷◌, ◌++◌, map, length, Some, inl, inr, refl, sym, ap, ◌∙◌, subst, append-nil, append_assoc, Bool, false, if◌then◌else◌, Option, None}
use Rattle.std.specs.Prelude.{◌⊎◌, All, slice_get}
use Rattle.std.specs.declared.net.socket_addr.SocketAddrV4.{SocketAddrV4}
use Rattle.mgcp_text.specs.declared.message.Param.{Param}
use Rattle.mgcp_text.specs.declared.message.Message.TheVariants as messages
use Rattle.mgcp_text.specs.Reading.{message, read_text}
use Rattle.transmission.specs.declared.entry.KeptFirst.{KeptFirst}
use Rattle.transmission.specs.declared.entry.Entry.{Entry}
use Rattle.transmission.specs.Arrival.{Arrival}
use Rattle.transmission.specs.Memory.{most_firsts}
use Rattle.transmission.specs.Firsts.{firsts_of}
use Rattle.transmission.specs.Kept.{entries_of, firsts_in}
use Rattle.transmission.specs.declared.output.OutDatagram.{OutDatagram}
use Rattle.transmission.specs.Texts.{texts_of}
use Rattle.transmission.specs.Transacting.{message_to}
use Rattle.transmission.proofs.PackingLaws.{IsMessage}
use Rattle.plain_machine.specs.declared.setup.Setup.{Setup}
use Rattle.plain_machine.specs.Setup.{IsSetUp}
use Rattle.plain_machine.specs.Event.{GatewayEvent, datagram, phone, tick}
use Rattle.plain_machine.specs.Message.{Begun, Sent, datagram_of, datagrams_of}
use Rattle.plain_machine.specs.Machine.{Machine, opening}
use Rattle.plain_machine.specs.Packing.{put_out}
use Rattle.plain_machine.specs.Answering.{took_all}
use Rattle.plain_machine.specs.Happening.{effect}
use Rattle.plain_machine.specs.Lists.{machine_after}
use Rattle.plain_machine.specs.Transactions.{commands_in, commands_with, commands_from, commands_of}
use Rattle.machine_laws.proofs.CommandLaws.{IsOut}
use Rattle.machine_laws.proofs.MessageLaws.{event_goes}
use Rattle.machine_laws.proofs.TransactionLaws.{history_is}
use Rattle.retransmission.specs.Issued.{is_command_as}
use Rattle.machine_laws.specs.Saying.{IsAnswerTo, OneOf}
use Rattle.machine_laws.proofs.EachLemmas.{all_from_each, any_from_one, each_from_all, each_mapped, one_from_any, one_mapped, one_of_each, one_to, one_weaker}
use Rattle.machine_laws.proofs.GatewayEvents.{IsAnsweredBy}
use Rattle.call_agent.specs.Agent.{AgentMachine}
use Rattle.call_agent.specs.Hearing.{AgentEvent, agent_effect, hears, issues}
use Rattle.call_agent.specs.Hearing as hearing
use Rattle.call_agent.specs.declared.setup.AgentSetup.{AgentSetup}
use Rattle.agent_core.specs.declared.packet.Posted.{Posted}
use Rattle.agent_core.specs.declared.packet.End.TheVariants.{AgentEnd as agent_end, GatewayEnd as gateway_end}
use Rattle.agent_core.specs.World.{World, WorldStep, agent_in, agent_of, delivering, gateway_address, gateway_in, is_among, now_in, plain_world, posted_as, steps_are_taken, to_gateway, world_opening, delivered, delivered_from, dialling, issuing, ticking, to_agent, went, world_after}
use Rattle.world_laws.specs.Landing.{is_final}
use Rattle.world_laws.specs.Reached.{issued_in}
use Rattle.world_laws.proofs.AgentLaws.{WasIssued}
use Rattle.world_laws.proofs.WorldLaws.{gateway_clock, world_sound}
use Rattle.world_laws.proofs.LinkLaws.{world_linked}
use Rattle.world_laws.specs.Copies.{IsCopy, IsIssued, answer_wait, gateway_firsts, IsStored, IsConfirmedAmong, HasRoom, IsAnswered, IsFinal, HasAnswer, IsServed}
use Rattle.world_laws.proofs.LookLemmas.{one_beyond}
use Rattle.world_laws.proofs.ChanceLaws.{HasMessage, packed_has, is_up}
use Rattle.world_laws.proofs.StoredLemmas.{IsStoredAs, Says, Answers, AnswersIn, texts_answer, Adds, HasFirst, had_or_said, texts_add}
use Rattle.world_laws.proofs.FinalLemmas.{HasFinal, firsts_final}
use Rattle.world_laws.proofs.PostedFinal.{agent_sender, first_among, HasIn, agent_more, plain_grows, step_more, taken_front, copy_stays, has_answer, handed_to_gateway, handed_to_agent}
use Rattle.world_laws.proofs.QuietLemmas.{Of, HasOne, texts_had}
use Rattle.transmission.specs.Packing.{same_address}
use Rattle.agent_core.specs.declared.packet.End.{End}

-- What is posted of what is said

commands_more : (setup : Setup) (m : Machine) (es : List GatewayEvent) (e : GatewayEvent)
    → commands_from setup m (es ++ e ∷ []) ≡ commands_from setup m es ++ commands_with setup (machine_after setup m es) e
unfolding commands_from machine_after
commands_more setup m [] e = append-nil (commands_with setup m e)
commands_more setup m (x ∷ es) e =
    ap (λ (rest : List Arrival). commands_with setup m x ++ rest) (commands_more setup (effect setup m x).value es e)
    ∙ sym (append_assoc (commands_with setup m x) (commands_from setup (effect setup m x).value es) (commands_with setup (machine_after setup (effect setup m x).value es) e))

-- the firsts with those of one event more
pub firsts_more : (setup : Setup) (w : World) (e : GatewayEvent)
    → gateway_firsts setup (to_gateway setup w e) ≡ firsts_of most_firsts (commands_of setup w.gateway_took ++ commands_with setup (gateway_in setup w) e)
firsts_more setup w e = ap (firsts_of most_firsts) (commands_more setup (opening setup) w.gateway_took e)

-- this text goes to this address at this moment
abbrev Tells : SocketAddrV4 → ℕ → List ℕ → Posted → Type 0
Tells to now text post =
    (post.end ≡ gateway_end) × (post.packet.to ≡ to) × (post.packet.moment ≡ now) × OneOf (λ (one : List ℕ). one ≡ text) (texts_of post.packet.bytes)

posts_it : (from to : SocketAddrV4) (now : ℕ) (text : List ℕ) (sent : List Sent) → All IsOut sent → OneOf (λ (one : Sent). datagram_of one ≡ message_to to now text) sent
    → OneOf (Tells to now text) (map (posted_as gateway_end from) (put_out sent))
posts_it from to now text sent goes said =
    let one : OutDatagram = message_to to now text in
    let messages : All IsMessage (datagrams_of sent) =
    all_from_each IsMessage (datagrams_of sent) (each_mapped IsMessage datagram_of sent (each_from_all IsOut sent goes)) in
    one_mapped (Tells to now text) (posted_as gateway_end from) (put_out sent)
    (one_weaker (HasMessage one) (λ (out : OutDatagram). Tells to now text (posted_as gateway_end from out))
    (λ out has. (refl, has.there, has.moment, has.inside)) (put_out sent)
    (packed_has (datagrams_of sent) one messages (one_mapped (λ (m : OutDatagram). m ≡ one) datagram_of sent said)))

datagram_says : (setup : Setup) (m : Machine) (source : SocketAddrV4) (bytes : List ℕ) → (effect setup m (datagram source bytes)).sent ≡ (took_all setup m source (texts_of bytes)).sent
unfolding effect
datagram_says setup m source bytes = refl

-- what the gateway says to where the agent's packet came from goes to the agent
pub said_answered : (setup : Setup) (steps : List WorldStep) (number id : ℕ) (post : Posted) → IsSetUp setup → steps_are_taken setup world_opening steps ≡ true
    → slice_get (plain_world setup steps).posted number ≡ Some post → post.end ≡ agent_end → (after : World)
    → let w = plain_world setup steps in let m = gateway_in setup w in after ≡ to_gateway setup w (datagram post.packet.sender post.packet.bytes)
    → Says id m.now post.packet.sender (gateway_firsts setup after) (took_all setup m post.packet.sender (texts_of post.packet.bytes)).sent → IsAnswered setup w after id
said_answered setup steps number id post set_up taken found sender after is says = record {
  text = says.text;
  stored = any_from_one (IsStoredAs id says.text) (gateway_firsts setup after) says.stored;
  number = told.0;
  since = told.2;
  copy = record {
    post = told.1;
    found = subst (λ (x : List Posted). slice_get x told.0 ≡ Some told.1) (sym posted) told.3;
    sender = told.4.0;
    goes = ap (is_among setup.agent.route) told.4.1 ∙ among;
    inside = any_from_one (λ (one : List ℕ). one ≡ says.text) (texts_of told.1.packet.bytes) told.4.3;
  };
  moment = told.4.2 ∙ sym now;
} where
  w : World
  w = plain_world setup steps

  m : Machine
  m = gateway_in setup w

  source : SocketAddrV4
  source = post.packet.sender

  e : GatewayEvent
  e = datagram source post.packet.bytes

  sent : List Sent
  sent = (took_all setup m source (texts_of post.packet.bytes)).sent

  now : now_in setup after ≡ m.now
  now = ap (now_in setup) is ∙ gateway_clock setup w e

  holds : All IsOut sent
  holds =
      let linked = world_linked setup steps set_up taken in
      subst (All IsOut) (datagram_says setup m source post.packet.bytes) (event_goes setup m e linked.links.gateway.fits linked.links.gateway.kept).sent

  outs : List Posted
  outs = map (posted_as gateway_end (gateway_address setup)) (put_out sent)

  posted : after.posted ≡ w.posted ++ outs
  posted =
      ap (λ (x : World). x.posted) is
      ∙ ap (λ (said : List Sent). w.posted ++ map (posted_as gateway_end (gateway_address setup)) (put_out said)) (datagram_says setup m source post.packet.bytes)

  among : is_among setup.agent.route source ≡ true
  among = ap (is_among setup.agent.route) (agent_sender setup steps number post found sender) ∙ first_among setup.agent.route

  told : (place : ℕ) × (one : Posted) × (length w.posted ≤ place) × (slice_get (w.posted ++ outs) place ≡ Some one) × Tells source m.now says.text one
  told = one_beyond (Tells source m.now says.text) w.posted outs (posts_it (gateway_address setup) source m.now says.text sent holds says.goes)

-- a command that comes to the gateway is answered at once
gateway_answers : (setup : Setup) (steps : List WorldStep) (number : ℕ) (b : Begun) (name : List ℕ) → IsSetUp setup → steps_are_taken setup world_opening steps ≡ true
    → is_command_as b.id name (read_text b.text) ≡ true → (copy : IsCopy setup (plain_world setup steps) agent_end b.text number) → (after : World)
    → after ≡ to_gateway setup (plain_world setup steps) (datagram copy.post.packet.sender copy.post.packet.bytes)
    → HasRoom (now_in setup after) (gateway_firsts setup after)
    → IsConfirmedAmong b.id (gateway_firsts setup after) ⊎ IsAnswered setup (plain_world setup steps) after b.id
gateway_answers setup steps number b name set_up taken reads copy after is room = by_answers (answers given) where
  w : World
  w = plain_world setup steps

  m : Machine
  m = gateway_in setup w

  source : SocketAddrV4
  source = copy.post.packet.sender

  bytes : List ℕ
  bytes = copy.post.packet.bytes

  now : now_in setup after ≡ m.now
  now = ap (now_in setup) is ∙ gateway_clock setup w (datagram source bytes)

  firsts : gateway_firsts setup after ≡ firsts_of most_firsts (commands_of setup w.gateway_took ++ commands_in setup m source (texts_of bytes))
  firsts = ap (gateway_firsts setup) is ∙ firsts_more setup w (datagram source bytes)

  answers : AnswersIn b.id source m.now (commands_of setup w.gateway_took ++ commands_in setup m source (texts_of bytes)) (took_all setup m source (texts_of bytes)).sent
      → Answers b.id m.now source (gateway_firsts setup after) (took_all setup m source (texts_of bytes)).sent
  answers on =
      subst (λ (f : List Arrival). Answers b.id m.now source f (took_all setup m source (texts_of bytes)).sent) (sym firsts)
      (on (subst (HasRoom m.now) firsts (subst (λ (t : ℕ). HasRoom t (gateway_firsts setup after)) now room)))

  given : AnswersIn b.id source m.now (commands_of setup w.gateway_took ++ commands_in setup m source (texts_of bytes)) (took_all setup m source (texts_of bytes)).sent
  given =
      texts_answer setup m source (texts_of bytes) (commands_of setup w.gateway_took) b.id name b.text (history_is setup w.gateway_took) reads
      (one_from_any (λ (one : List ℕ). one ≡ b.text) (texts_of bytes) copy.inside)

  by_answers : Answers b.id m.now source (gateway_firsts setup after) (took_all setup m source (texts_of bytes)).sent
      → IsConfirmedAmong b.id (gateway_firsts setup after) ⊎ IsAnswered setup w after b.id
  by_answers (inl confirmed) = inl confirmed
  by_answers (inr says) = inr (said_answered setup steps number b.id copy.post set_up taken copy.found copy.sender after is says)

-- what holds of each issued command holds of this one
issued_one : (P : Begun → Type 0) (setup : Setup) (w : World) (b : Begun) → IsIssued setup w b → OneOf (λ (one : Begun). P one × (one ≡ b)) (issued_in setup w) → P b
issued_one P setup w b issued one = one_to (λ (one : Begun). P one × (one ≡ b)) (P b) (λ one both. subst P both.1 both.0) (issued_in setup w) one

pub answered_at_once : (setup : Setup) (steps : List WorldStep) (number : ℕ) (b : Begun) → IsSetUp setup → steps_are_taken setup world_opening (steps ++ delivering number ∷ []) ≡ true
    → let w = plain_world setup steps in let after = plain_world setup (steps ++ delivering number ∷ []) in IsIssued setup w b → IsCopy setup w agent_end b.text number
    → HasRoom (now_in setup after) (gateway_firsts setup after) → IsConfirmedAmong b.id (gateway_firsts setup after) ⊎ IsAnswered setup w after b.id
answered_at_once setup steps number b set_up taken issued copy room =
    let w = plain_world setup steps in
    let front = taken_front setup world_opening steps (delivering number ∷ []) taken in
    let s = world_sound setup steps front in
    let was : WasIssued (agent_in setup w).now (agent_in setup w).next b =
    issued_one (WasIssued (agent_in setup w).now (agent_in setup w).next) setup w b issued
    (one_of_each (WasIssued (agent_in setup w).now (agent_in setup w).next) (λ (one : Begun). one ≡ b) (issued_in setup w) s.agrees.agent.issued
    (one_from_any (λ (one : Begun). one ≡ b) (issued_in setup w) issued)) in
    gateway_answers setup steps number b was.name set_up front was.reads copy (plain_world setup (steps ++ delivering number ∷ []))
    (step_more setup steps (delivering number) ∙ handed_to_gateway setup w b.text number copy) room

-- An answer that comes in time

datagram_takes : (setup : AgentSetup) (m : AgentMachine) (source : SocketAddrV4) (bytes : List ℕ)
    → (agent_effect setup m (hears (datagram source bytes))).machine ≡ (hearing.took_all setup m source (texts_of bytes)).machine
unfolding agent_effect
datagram_takes setup m source bytes = refl

pub had_in : (setup : Setup) (steps : List WorldStep) (number : ℕ) (b : Begun) (text : List ℕ) (code : ℕ) (params : List Param) (body : List ℕ)
    → IsSetUp setup → steps_are_taken setup world_opening (steps ++ delivering number ∷ []) ≡ true → let w = plain_world setup steps in IsIssued setup w b
    → now_in setup w < b.moment + answer_wait → IsCopy setup w gateway_end text number → read_text text ≡ message (messages.Response code b.id params body) → is_final code ≡ true
    → HasIn b.id setup (plain_world setup (steps ++ delivering number ∷ []))
had_in setup steps number b text code params body set_up taken issued soon copy reads final =
    let w = plain_world setup steps in
    let front = taken_front setup world_opening steps (delivering number ∷ []) taken in
    let source = copy.post.packet.sender in
    let bytes = copy.post.packet.bytes in
    let had = texts_had b.id (agent_of setup) (agent_in setup w) source (texts_of bytes) text code params body reads final
    (one_from_any (λ (one : List ℕ). one ≡ text) (texts_of bytes) copy.inside) (is_up setup steps b set_up front issued soon) in
    subst (HasIn b.id setup) (sym (step_more setup steps (delivering number) ∙ handed_to_agent setup w text number copy))
    (subst (Of (HasOne b.id)) (sym (agent_more setup w (hears (datagram source bytes)) ∙ datagram_takes (agent_of setup) (agent_in setup w) source bytes)) had)

pub had_in_time : (setup : Setup) (steps : List WorldStep) (number : ℕ) (b : Begun) (text : List ℕ) (code : ℕ) (params : List Param) (body : List ℕ)
    → IsSetUp setup → steps_are_taken setup world_opening (steps ++ delivering number ∷ []) ≡ true → let w = plain_world setup steps in IsIssued setup w b
    → now_in setup w < b.moment + answer_wait → IsCopy setup w gateway_end text number → read_text text ≡ message (messages.Response code b.id params body) → is_final code ≡ true
    → HasAnswer b.id (agent_in setup (plain_world setup (steps ++ delivering number ∷ [])))
had_in_time setup steps number b text code params body set_up taken issued soon copy reads final =
    has_answer b.id setup (plain_world setup (steps ++ delivering number ∷ [])) (had_in setup steps number b text code params body set_up taken issued soon copy reads final)

-- Both

kept_stored : (id : ℕ) (text : List ℕ) (firsts : List Arrival) → OneOf (IsStoredAs id text) firsts → OneOf (IsAnsweredBy id text) (firsts_in (entries_of firsts))
kept_stored id text [] one = absurd one
kept_stored id text (first ∷ firsts) (inl is) = inl is
kept_stored id text (first ∷ firsts) (inr one) = inr (kept_stored id text firsts one)

-- the stored answer to a command is a response to it
pub stored_is : (setup : Setup) (steps : List WorldStep) (id : ℕ) (text : List ℕ) → IsSetUp setup → steps_are_taken setup world_opening steps ≡ true
    → IsStored id text (gateway_firsts setup (plain_world setup steps)) → IsAnswerTo id text
stored_is setup steps id text set_up taken stored =
    let w = plain_world setup steps in
    let firsts = firsts_in (gateway_in setup w).history in
    let kept : OneOf (IsAnsweredBy id text) firsts =
    subst (λ (history : List Entry). OneOf (IsAnsweredBy id text) (firsts_in history)) (sym (history_is setup w.gateway_took))
    (kept_stored id text (gateway_firsts setup w) (one_from_any (IsStoredAs id text) (gateway_firsts setup w) stored)) in
    one_to (λ (first : KeptFirst). IsAnswerTo first.id first.answer × IsAnsweredBy id text first) (IsAnswerTo id text)
    (λ first both. subst (λ (i : ℕ). IsAnswerTo i text) both.1.0 (subst (IsAnswerTo first.id) both.1.1 both.0)) firsts
    (one_of_each (λ (first : KeptFirst). IsAnswerTo first.id first.answer) (IsAnsweredBy id text) firsts (world_linked setup steps set_up taken).links.gateway.answers kept)

-- and a final one
pub stored_final : (setup : Setup) (steps : List WorldStep) (id : ℕ) (text : List ℕ) → IsStored id text (gateway_firsts setup (plain_world setup steps)) → IsFinal text
stored_final setup steps id text stored =
    let firsts = gateway_firsts setup (plain_world setup steps) in
    one_to (λ (first : Arrival). HasFinal first × IsStoredAs id text first) (IsFinal text) (λ first both. subst IsFinal both.1.1 both.0) firsts
    (one_of_each HasFinal (IsStoredAs id text) firsts (firsts_final setup most_firsts (plain_world setup steps).gateway_took) (one_from_any (IsStoredAs id text) firsts stored))

pub served_by : (setup : Setup) (first : List WorldStep) (b : Begun) (number : ℕ) (text : List ℕ) → IsSetUp setup → steps_are_taken setup world_opening first ≡ true
    → let w = plain_world setup first in IsIssued setup w b → IsCopy setup w gateway_end text number → IsStored b.id text (gateway_firsts setup w) → IsServed setup first b number
served_by setup first b number text set_up taken issued copy stored = λ between later all soon.
    let before = first ++ between in
    let last = before ++ delivering number ∷ [] in
    let w = plain_world setup first in
    let grows = plain_grows setup b.id first between in
    let is = stored_is setup first b.id text set_up taken stored in
    let still : IsIssued setup (plain_world setup before) b =
    any_from_one (λ (one : Begun). one ≡ b) (issued_in setup (plain_world setup before)) (grows.issued b (one_from_any (λ (one : Begun). one ≡ b) (issued_in setup w) issued)) in
    let had = had_in setup before number b text is.code is.params is.body set_up (taken_front setup world_opening last later all) still soon
    (copy_stays setup b.id w (plain_world setup before) gateway_end text number grows copy) is.reads (stored_final setup first b.id text stored is.code b.id is.params is.body is.reads) in
    has_answer b.id setup (plain_world setup (last ++ later)) ((plain_grows setup b.id last later).has had)

pub served : (setup : Setup) (steps : List WorldStep) (number : ℕ) (b : Begun) → IsSetUp setup → steps_are_taken setup world_opening (steps ++ delivering number ∷ []) ≡ true
    → let w = plain_world setup steps in let first = steps ++ delivering number ∷ [] in let after = plain_world setup first in IsIssued setup w b
    → IsCopy setup w agent_end b.text number → HasRoom (now_in setup after) (gateway_firsts setup after)
    → IsConfirmedAmong b.id (gateway_firsts setup after) ⊎ ((answer : IsAnswered setup w after b.id) × IsServed setup first b answer.number)
served setup steps number b set_up taken issued copy room = by_answer (answered_at_once setup steps number b set_up taken issued copy room) where
  first : List WorldStep
  first = steps ++ delivering number ∷ []

  w : World
  w = plain_world setup steps

  after : World
  after = plain_world setup first

  still : IsIssued setup after b
  still =
      any_from_one (λ (one : Begun). one ≡ b) (issued_in setup after)
      ((plain_grows setup b.id steps (delivering number ∷ [])).issued b (one_from_any (λ (one : Begun). one ≡ b) (issued_in setup w) issued))

  by_answer : IsConfirmedAmong b.id (gateway_firsts setup after) ⊎ IsAnswered setup w after b.id
      → IsConfirmedAmong b.id (gateway_firsts setup after) ⊎ ((answer : IsAnswered setup w after b.id) × IsServed setup first b answer.number)
  by_answer (inl confirmed) = inl confirmed
  by_answer (inr answer) = inr (answer, served_by setup first b answer.number answer.text set_up taken still answer.copy answer.stored)

-- Each command that is one of the gateway's firsts was answered when it became one (RFC 3435, 3.5.1).

abbrev pub HasFirstIn : Setup → ℕ → World → Type 0
HasFirstIn setup id w = HasFirst id (gateway_firsts setup w)

-- One step

-- it hands a packet to the gateway, which answers the command then, and the agent takes nothing
record IsNewAt (setup : Setup) (id : ℕ) (w : World) (step : WorldStep) (next : World) : Type 0 where
  number : ℕ
  hands : step ≡ delivering number
  alone : next.agent_took ≡ w.agent_took
  answered : IsAnswered setup w next id

abbrev HadOrNew : Setup → ℕ → World → WorldStep → World → Type 0
HadOrNew setup id w step next = HasFirstIn setup id next → HasFirstIn setup id w ⊎ IsNewAt setup id w step next

none_new : (setup : Setup) (id : ℕ) (w : World) (step : WorldStep) (next : World) → gateway_firsts setup next ≡ gateway_firsts setup w → HadOrNew setup id w step next
none_new setup id w step next same = λ has. inl (subst (HasFirst id) same has)

-- what brings no command leaves the firsts
quiet : (setup : Setup) (w : World) (event : GatewayEvent) → commands_with setup (gateway_in setup w) event ≡ [] → gateway_firsts setup (to_gateway setup w event) ≡ gateway_firsts setup w
quiet setup w event none =
    firsts_more setup w event
    ∙ ap (firsts_of most_firsts) (ap (λ (x : List Arrival). commands_of setup w.gateway_took ++ x) none ∙ append-nil (commands_of setup w.gateway_took))

gateway_new : (setup : Setup) (front : List WorldStep) (number id : ℕ) (post : Posted) → IsSetUp setup → steps_are_taken setup world_opening front ≡ true
    → slice_get (plain_world setup front).posted number ≡ Some post → post.end ≡ agent_end
    → let w = plain_world setup front in HadOrNew setup id w (delivering number) (to_gateway setup w (datagram post.packet.sender post.packet.bytes))
gateway_new setup front number id post set_up taken found sender =
    λ has. by_part (had_or_said id m.now source (gateway_firsts setup w) (gateway_firsts setup next) sent adds has) where
      w : World
      w = plain_world setup front

      m : Machine
      m = gateway_in setup w

      source : SocketAddrV4
      source = post.packet.sender

      next : World
      next = to_gateway setup w (datagram source post.packet.bytes)

      sent : List Sent
      sent = (took_all setup m source (texts_of post.packet.bytes)).sent

      adds : Adds source m.now (gateway_firsts setup w) (gateway_firsts setup next) sent
      adds =
          subst (λ (firsts : List Arrival). Adds source m.now (gateway_firsts setup w) firsts sent) (sym (firsts_more setup w (datagram source post.packet.bytes)))
          (texts_add setup m source (texts_of post.packet.bytes) (commands_of setup w.gateway_took) (history_is setup w.gateway_took))

      by_part : HasFirstIn setup id w ⊎ Says id m.now source (gateway_firsts setup next) sent → HasFirstIn setup id w ⊎ IsNewAt setup id w (delivering number) next
      by_part (inl had) = inl had
      by_part (inr says) =
          inr (record { number = number; hands = refl; alone = refl; answered = said_answered setup front number id post set_up taken found sender next refl says })

delivered_new : (setup : Setup) (front : List WorldStep) (number id : ℕ) (post : Posted) → IsSetUp setup → steps_are_taken setup world_opening front ≡ true
    → slice_get (plain_world setup front).posted number ≡ Some post
    → let w = plain_world setup front in HadOrNew setup id w (delivering number) (delivered_from post.end setup w post.packet)
delivered_new setup front number id post set_up taken found = by_end post.end refl where
  w : World
  w = plain_world setup front

  by_gateway : (b : Bool) → post.end ≡ agent_end → HadOrNew setup id w (delivering number) (if b then to_gateway setup w (datagram post.packet.sender post.packet.bytes) else w)
  by_gateway true sender = gateway_new setup front number id post set_up taken found sender
  by_gateway false sender = none_new setup id w (delivering number) w refl

  by_agent : (b : Bool) → HadOrNew setup id w (delivering number) (if b then to_agent setup w (hears (datagram post.packet.sender post.packet.bytes)) else w)
  by_agent true = none_new setup id w (delivering number) (to_agent setup w (hears (datagram post.packet.sender post.packet.bytes))) refl
  by_agent false = none_new setup id w (delivering number) w refl

  by_end : (end : End) → post.end ≡ end → HadOrNew setup id w (delivering number) (delivered_from end setup w post.packet)
  by_end agent_end sender = by_gateway (same_address post.packet.to (gateway_address setup)) sender
  by_end gateway_end sender = by_agent (is_among setup.agent.route post.packet.to)

step_new : (setup : Setup) (front : List WorldStep) (step : WorldStep) (id : ℕ) → IsSetUp setup → steps_are_taken setup world_opening front ≡ true
    → let w = plain_world setup front in HadOrNew setup id w step (went setup w step)
unfolding went
step_new setup front (issuing verb name rest) id set_up taken =
    let w = plain_world setup front in none_new setup id w (issuing verb name rest) (to_agent setup w (issues verb name rest)) refl
step_new setup front (dialling line act) id set_up taken =
    let w = plain_world setup front in none_new setup id w (dialling line act) (to_gateway setup w (phone line act)) (quiet setup w (phone line act) refl)
step_new setup front (ticking moment) id set_up taken =
    let w = plain_world setup front in
    none_new setup id w (ticking moment) (to_agent setup (to_gateway setup w (tick moment)) (hears (tick moment))) (quiet setup w (tick moment) refl)
step_new setup front (delivering number) id set_up taken = by_post (slice_get (plain_world setup front).posted number) refl where
  by_post : (found : Option Posted) → slice_get (plain_world setup front).posted number ≡ found
      → HadOrNew setup id (plain_world setup front) (delivering number) (delivered found setup (plain_world setup front))
  by_post None is = none_new setup id (plain_world setup front) (delivering number) (plain_world setup front) refl
  by_post (Some post) is = delivered_new setup front number id post set_up taken is

-- All steps

-- one of them hands a packet to the gateway, which answers the command then, and the agent takes nothing
pub record WasAnswered (setup : Setup) (id : ℕ) (steps : List WorldStep) : Type 0 where
  pub before : List WorldStep
  pub number : ℕ
  pub later : List WorldStep
  pub order : steps ≡ (before ++ delivering number ∷ []) ++ later
  pub alone : (plain_world setup (before ++ delivering number ∷ [])).agent_took ≡ (plain_world setup before).agent_took
  pub answered : IsAnswered setup (plain_world setup before) (plain_world setup (before ++ delivering number ∷ [])) id

abbrev OnceAnswered : Setup → ℕ → List WorldStep → Type 0
OnceAnswered setup id steps = HasFirstIn setup id (plain_world setup steps) → WasAnswered setup id steps

still_answered : (setup : Setup) (id : ℕ) (front : List WorldStep) (step : WorldStep) → WasAnswered setup id front → WasAnswered setup id (front ++ step ∷ [])
still_answered setup id front step was = record {
  before = was.before;
  number = was.number;
  later = was.later ++ step ∷ [];
  order = ap (λ (x : List WorldStep). x ++ step ∷ []) was.order ∙ append_assoc (was.before ++ delivering was.number ∷ []) was.later (step ∷ []);
  alone = was.alone;
  answered = was.answered;
}

now_answered : (setup : Setup) (id : ℕ) (front : List WorldStep) (number : ℕ) → let w = plain_world setup front in let next = plain_world setup (front ++ delivering number ∷ []) in
    next.agent_took ≡ w.agent_took → IsAnswered setup w next id → WasAnswered setup id (front ++ delivering number ∷ [])
now_answered setup id front number alone answered =
    record { before = front; number = number; later = []; order = sym (append-nil (front ++ delivering number ∷ [])); alone = alone; answered = answered }

step_answered : (setup : Setup) (id : ℕ) (front : List WorldStep) (step : WorldStep) → IsSetUp setup → steps_are_taken setup world_opening front ≡ true → OnceAnswered setup id front
    → OnceAnswered setup id (front ++ step ∷ [])
step_answered setup id front step set_up taken on =
    λ has. by_case (step_new setup front step id set_up taken (subst (HasFirstIn setup id) (step_more setup front step) has)) where
      w : World
      w = plain_world setup front

      by_case : HasFirstIn setup id w ⊎ IsNewAt setup id w step (went setup w step) → WasAnswered setup id (front ++ step ∷ [])
      by_case (inl had) = still_answered setup id front step (on had)
      by_case (inr new) =
          let same : plain_world setup (front ++ delivering new.number ∷ []) ≡ went setup w step =
          ap (λ (s : WorldStep). plain_world setup (front ++ s ∷ [])) (sym new.hands) ∙ step_more setup front step in
          subst (λ (s : WorldStep). WasAnswered setup id (front ++ s ∷ [])) (sym new.hands)
          (now_answered setup id front new.number (ap (λ (x : World). x.agent_took) same ∙ new.alone) (subst (λ (x : World). IsAnswered setup w x id) (sym same) new.answered))

steps_answered : (setup : Setup) (id : ℕ) (front steps : List WorldStep) → IsSetUp setup → steps_are_taken setup world_opening (front ++ steps) ≡ true → OnceAnswered setup id front
    → OnceAnswered setup id (front ++ steps)
steps_answered setup id front [] set_up taken on = subst (OnceAnswered setup id) (sym (append-nil front)) on
steps_answered setup id front (step ∷ steps) set_up taken on =
    let same : (front ++ step ∷ []) ++ steps ≡ front ++ step ∷ steps = append_assoc front (step ∷ []) steps in
    subst (OnceAnswered setup id) same
    (steps_answered setup id (front ++ step ∷ []) steps set_up (subst (λ (s : List WorldStep). steps_are_taken setup world_opening s ≡ true) (sym same) taken)
    (step_answered setup id front step set_up (taken_front setup world_opening front (step ∷ steps) taken) on))

-- before all steps there is none
none_yet : (setup : Setup) (id : ℕ) → HasFirstIn setup id (plain_world setup []) → ⊥
unfolding world_after commands_from
none_yet setup id has = has

pub was_answered : (setup : Setup) (id : ℕ) (steps : List WorldStep) → IsSetUp setup → steps_are_taken setup world_opening steps ≡ true → HasFirstIn setup id (plain_world setup steps)
    → WasAnswered setup id steps
was_answered setup id steps set_up taken has = steps_answered setup id [] steps set_up taken (λ none. absurd (none_yet setup id none)) has
