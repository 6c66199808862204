-- What comes to each life: commands that the agent issued, less than 30,000 ms before, each by a copy that was handed to that life.
use Rattle.std.proofs.Common.{◌≡◌, ◌≢◌, ℕ, ◌+◌, ◌-◌, ◌<◌, ◌≤◌, Bool, true, false, ◌==◌, if◌then◌else◌, List, [], ◌∷◌, ◌++◌, map, Option, Some, None, inl, inr, refl, sym, ap, ◌∙◌, subst, arith}
use Rattle.std.specs.Prelude.{All, AllPairs, Any, IfSome, flat_map, option_map, slice_get, is_none}
use Rattle.std.specs.Str.{bytes_eq}
use Rattle.std.proofs.lemmas.Bool.{and_parts, eqb-true}
use Rattle.std.proofs.lemmas.List.{map-append}
use Rattle.std.proofs.lemmas.Option.{none-some}
use Rattle.std.proofs.lemmas.Grind.{flat_map-append}
use Rattle.std.specs.declared.net.socket_addr.SocketAddrV4.{SocketAddrV4}
use Rattle.mgcp_text.specs.declared.message.Message.TheVariants as messages
use Rattle.mgcp_text.specs.Reading.{Outcome, message, no_header, bad_version, bad_body, read_text}
use Rattle.transmission.specs.declared.entry.KeptFirst.{KeptFirst}
use Rattle.transmission.specs.Kept.{firsts_in}
use Rattle.transmission.specs.Memory.{memory_time}
use Rattle.transmission.specs.declared.output.OutDatagram.{OutDatagram}
use Rattle.transmission.specs.Texts.{texts_of}
use Rattle.transmission.specs.Packing.{packed, same_address}
use Rattle.endpoint_names.specs.Route.{at}
use Rattle.plain_machine.specs.declared.setup.Setup.{Setup}
use Rattle.plain_machine.specs.Event.{GatewayEvent, datagram, phone, tick}
use Rattle.plain_machine.specs.Arriving.{arrival, clock_after, arrivals_at, arrivals_from, arrivals_of}
use Rattle.plain_machine.specs.Machine.{Machine, opening}
use Rattle.plain_machine.specs.Packing.{put_out}
use Rattle.plain_machine.specs.Happening.{effect}
use Rattle.plain_machine.specs.Lists.{machine_after}
use Rattle.plain_machine.proofs.ListLaws.{arrivals_on, machine_on}
use Rattle.plain_machine.proofs.EffectLaws.{effect_now}
use Rattle.retransmission.specs.Issued.{is_command_as}
use Rattle.plain_machine.specs.Message.{Begun}
use Rattle.machine_laws.specs.Saying.{Gives, Carries, IsAnswerTo, OneOf, Tells}
use Rattle.machine_laws.proofs.EachLemmas.{Each, all_from_each, any_from_one, each_at, each_both, each_mapped, each_push, each_unmapped, each_weaker, is_none-None, one_before, one_behind, one_of_each, one_to, one_weaker}
use Rattle.machine_laws.proofs.GatewayEvents.{AreAnswers, IsCommand}
use Rattle.call_agent.specs.Agent.{AgentMachine, agent_opening}
use Rattle.call_agent.specs.Hearing.{AgentEvent, agent_after, agent_effect, agent_refusal, hears, issued_from, issued_with, issues}
use Rattle.call_agent.proofs.EventLemmas.{agent_clock, tick_forward}
use Rattle.agent_core.specs.declared.packet.End.{End}
use Rattle.agent_core.specs.declared.packet.Packet.{Packet}
use Rattle.agent_core.specs.declared.packet.Posted.{Posted}
use Rattle.agent_core.specs.declared.packet.End.TheVariants.{AgentEnd as agent_end, GatewayEnd as gateway_end}
use Rattle.agent_core.specs.World.{World, agent_in, agent_of, delivering, delivery_refusal, dialling, gateway_address, is_among, issuing, oldest_packet, posted_as, ticking, to_agent, WorldRefusal}
use Rattle.world_laws.specs.Reached.{Reached, issued_in, reached, reached_as}
use Rattle.plain_machine.specs.Transactions.{asked_as}
use Rattle.world_laws.proofs.AgentLaws.{issued_more, never, opening_holds}
use Rattle.world_laws.proofs.ReachedLaws.{executed_apart, executed_each}
use Rattle.world_laws.proofs.WorldLaws.{Agrees, Came, Comes, Posts, Sends, agent_agrees, agent_answers, agent_clock_on, agent_commands, agent_taken, gateway_alone, not_late, same_issued}
use Rattle.outage_laws.specs.Lives.{Life, Letter, LivesWorld, LivesStep, stepping, restarting, agent_side, agent_then, clock_of, gateway_of, handed, handed_from, lived, lived_refusal, lives_after, lives_are_taken, lives_of, lives_opening, new_life, number_of, plain_lives, restarted, said_to, sent_by, step_refused, to_agent_of, to_life}
use Rattle.outage_laws.specs.Apart.{BringsCopy, executed_by}
use Rattle.outage_laws.proofs.PairLemmas.{each_among, each_last, Pairs, pairs_to}
use Rattle.call_agent.specs.declared.setup.AgentSetup.{AgentSetup}
use Rattle.call_agent.proofs.HearingLemmas.{texts_stay}
use Rattle.world_laws.proofs.LinkLaws.{only_tells}

-- a command that arrived at a life is this one, which was issued less than 30,000 ms before, by the world's clock
pub record ComesTo (life : Life) (one : Reached) (b : Begun) : Type 0 where
  pub id : b.id ≡ one.asked.id
  pub read : one.outcome ≡ read_text b.text
  pub since : b.moment ≤ life.start + one.asked.moment
  pub within : life.start + one.asked.moment < b.moment + memory_time
  pub handed : OneOf (BringsCopy b.text) life.took

abbrev pub CameTo : List Begun → Life → Reached → Type 0
CameTo all life one = OneOf (ComesTo life one) all

abbrev pub Executes : List Begun → Life → Type 0
Executes all life = Each (CameTo all life) (flat_map reached (arrivals_of life.took))

abbrev pub with_event : Life → GatewayEvent → Life
with_event life event = record life { took = life.took ++ event ∷ [] }

-- A text of the agent's arrives

module _ (all : List Begun) (life : Life) (text : List ℕ) (moment now : ℕ) (early : moment ≤ life.start + now) (late : (life.start + now) - moment ≤ oldest_packet)
    (here : OneOf (BringsCopy text) life.took) where
  -- it is the command that it carries
  carried_to : (one : Reached) (b : Begun) → b.id ≡ one.asked.id → one.outcome ≡ read_text text → one.asked.moment ≡ now → Carries text moment b → ComesTo life one b
  carried_to one b same reads at is = record {
    id = same;
    read = reads ∙ ap read_text is.text;
    since = (let begun = is.since in omega (arith, begun, early, at));
    within = (let before = is.within in omega (arith, before, early, late, at));
    handed = subst (λ (t : List ℕ). OneOf (BringsCopy t) life.took) is.text here;
  }

  command_comes : (source : SocketAddrV4) (outcome : Outcome) → read_text text ≡ outcome → OneOf (λ (b : Begun). IsCommand b × Carries text moment b) all
      → Each (CameTo all life) (map (reached_as outcome) (asked_as source now outcome))
  command_comes source no_header reads one = tt
  command_comes source (bad_version id) reads one = (
    one_weaker (λ (b : Begun). IsCommand b × Carries text moment b) (ComesTo life _)
        (λ b both. absurd (let e : is_command_as b.id both.0.name (bad_version id) ≡ true = ap (is_command_as b.id both.0.name) (sym reads ∙ ap read_text both.1.text) ∙ both.0.reads in cc)) all one,
    tt,
  )
  command_comes source (bad_body id) reads one = (
    one_weaker (λ (b : Begun). IsCommand b × Carries text moment b) (ComesTo life _)
        (λ b both. absurd (let e : is_command_as b.id both.0.name (bad_body id) ≡ true = ap (is_command_as b.id both.0.name) (sym reads ∙ ap read_text both.1.text) ∙ both.0.reads in cc)) all one,
    tt,
  )
  command_comes source (message (messages.Response code id params body)) reads one = tt
  command_comes source (message (messages.Command verb id name params body)) reads one = (
    one_weaker (λ (b : Begun). IsCommand b × Carries text moment b) (ComesTo life _)
        (λ b both.
        let e : is_command_as b.id both.0.name (message (messages.Command verb id name params body)) ≡ true =
        ap (is_command_as b.id both.0.name) (sym reads ∙ ap read_text both.1.text) ∙ both.0.reads in
        carried_to _ b (sym (eqb-true id b.id (and_parts (id == b.id) (bytes_eq name both.0.name) e).0)) (sym reads) refl both.1) all one,
    tt,
  )

  text_comes : (source : SocketAddrV4) (firsts : List KeptFirst) → Each IsCommand all → AreAnswers firsts → Tells all firsts text moment → Each (CameTo all life) (reached (arrival now source text))
  text_comes source firsts commands answers (inl carried) = command_comes source (read_text text) refl (one_of_each IsCommand (Carries text moment) all commands carried)
  text_comes source firsts commands answers (inr (inl answered)) =
      one_to (λ (first : KeptFirst). IsAnswerTo first.id first.answer × Gives text moment first) (Each (CameTo all life) (reached (arrival now source text)))
      (λ first both. let reads = sym (ap read_text both.1.0) ∙ both.0.reads in rw reads tt) firsts
      (one_of_each (λ (first : KeptFirst). IsAnswerTo first.id first.answer) (Gives text moment) firsts answers answered)
  text_comes source firsts commands answers (inr (inr is)) = rw is.reads tt

-- each of these texts came with the last event
texts_come : (all : List Begun) (firsts : List KeptFirst) (life : Life) (moment now : ℕ) (source : SocketAddrV4) (texts : List (List ℕ)) → Each IsCommand all → AreAnswers firsts
    → moment ≤ life.start + now → (life.start + now) - moment ≤ oldest_packet → Each (λ (text : List ℕ). OneOf (BringsCopy text) life.took) texts
    → Each (λ (text : List ℕ). Tells all firsts text moment) texts → Each (CameTo all life) (flat_map reached (map (arrival now source) texts))
texts_come all firsts life moment now source [] commands answers early late here tells = tt
texts_come all firsts life moment now source (text ∷ texts) commands answers early late here tells =
    each_both (CameTo all life) (reached (arrival now source text)) _ (text_comes all life text moment now early late here.0 source firsts commands answers tells.0)
    (texts_come all firsts life moment now source texts commands answers early late here.1 tells.1)

-- the texts of a datagram came with it
brought_here : (took : List GatewayEvent) (source : SocketAddrV4) (bytes : List ℕ) → Each (λ (text : List ℕ). OneOf (BringsCopy text) (took ++ datagram source bytes ∷ [])) (texts_of bytes)
brought_here took source bytes =
    each_weaker (λ (text : List ℕ). OneOf (λ (one : List ℕ). one ≡ text) (texts_of bytes)) (λ (text : List ℕ). OneOf (BringsCopy text) (took ++ datagram source bytes ∷ []))
    (λ text is. one_behind (BringsCopy text) took (datagram source bytes ∷ []) (inl is)) (texts_of bytes) (each_among (texts_of bytes))

-- A life goes on

comes_on : (life : Life) (event : GatewayEvent) (one : Reached) (b : Begun) → ComesTo life one b → ComesTo (with_event life event) one b
comes_on life event one b c = record { id = c.id; read = c.read; since = c.since; within = c.within; handed = one_before (BringsCopy b.text) life.took (event ∷ []) c.handed }

executes_on : (all : List Begun) (life : Life) (event : GatewayEvent) → Executes all life → Each (CameTo all (with_event life event)) (flat_map reached (arrivals_at (gateway_of life).now event))
    → Executes all (with_event life event)
executes_on all life event old new =
    let next = with_event life event in
    subst (λ x. Each (CameTo all next) (flat_map reached x)) (sym (arrivals_on life.setup (opening life.setup) life.took event))
    (subst (Each (CameTo all next)) (sym (flat_map-append reached (arrivals_of life.took) (arrivals_at (gateway_of life).now event)))
    (each_both (CameTo all next) (flat_map reached (arrivals_of life.took)) (flat_map reached (arrivals_at (gateway_of life).now event))
    (each_weaker (CameTo all life) (CameTo all next) (λ one came. one_weaker (ComesTo life one) (ComesTo next one) (comes_on life event one) all came) (flat_map reached (arrivals_of life.took)) old)
    new))

executes_more : (all more : List Begun) (life : Life) → Executes all life → Executes (all ++ more) life
executes_more all more life old =
    each_weaker (CameTo all life) (CameTo (all ++ more) life) (λ one came. one_before (ComesTo life one) all more came) (flat_map reached (arrivals_of life.took)) old

pub life_clock : (life : Life) (event : GatewayEvent) → (gateway_of (with_event life event)).now ≡ clock_after (gateway_of life).now event
life_clock life event =
    ap (λ (m : Machine). m.now) (machine_on life.setup (opening life.setup) life.took (event ∷ []) ∙ gateway_alone life.setup (gateway_of life) event)
    ∙ effect_now life.setup (gateway_of life) event

-- What is posted

abbrev post_of : Letter → Posted
post_of letter = letter.post

posts_more : (P : Posted → Type 0) (letters more : List Letter) → Each P (map post_of letters) → Each (λ (letter : Letter). P letter.post) more → Each P (map post_of (letters ++ more))
posts_more P letters more old new =
    each_mapped P post_of (letters ++ more) (each_both (λ (letter : Letter). P letter.post) letters more (each_unmapped P post_of letters old) new)

life_posts : (all : List Begun) (firsts : List KeptFirst) (now number : ℕ) (life : Life) (outs : List OutDatagram) → Each (λ (letter : Letter). Sends all firsts now letter.post) (map (sent_by number life) outs)
life_posts all firsts now number life [] = tt
life_posts all firsts now number life (out ∷ outs) = (tt, life_posts all firsts now number life outs)

said_posts : (setup : Setup) (number : ℕ) (outs : List OutDatagram) → map post_of (map (said_to setup number) outs) ≡ map (posted_as agent_end (at setup.agent.route 0)) outs
said_posts setup number [] = refl
said_posts setup number (out ∷ outs) = ap (λ (x : List Posted). posted_as agent_end (at setup.agent.route 0) out ∷ x) (said_posts setup number outs)

-- the agent's side takes an event as in a world
pub side_on : (setup : Setup) (number : ℕ) (w : LivesWorld) (event : AgentEvent) → agent_side (to_agent_of setup number w event) ≡ to_agent setup (agent_side w) event
side_on setup number w event =
    let outs = packed (agent_effect (agent_of setup) (agent_then setup w) event).sent in
    ap (λ (x : List Posted). let side : World = record { gateway_took = []; agent_took = w.agent_took ++ event ∷ []; posted = x } in side)
    (map-append post_of w.letters (map (said_to setup number) outs) ∙ ap (λ (x : List Posted). map post_of w.letters ++ x) (said_posts setup number outs))

-- What is kept

abbrev pub AgreesSide : Setup → LivesWorld → Type 0
AgreesSide setup w = Agrees (issued_in setup (agent_side w)) (agent_then setup w) (agent_side w)

abbrev ExecuteAll : Setup → LivesWorld → Type 0
ExecuteAll setup w = Each (Executes (issued_in setup (agent_side w))) (lives_of w)

abbrev pub HaveOneClock : Setup → LivesWorld → Type 0
HaveOneClock setup w = clock_of setup w ≡ w.life.start + (gateway_of w.life).now

pub record Kept (setup : Setup) (w : LivesWorld) : Type 0 where
  pub agrees : AgreesSide setup w
  pub lives : ExecuteAll setup w
  pub clock : HaveOneClock setup w

-- the life that goes on takes an event
pub life_agrees : (setup : Setup) (w : LivesWorld) (event : GatewayEvent) → AgreesSide setup w → AgreesSide setup (to_life w event)
life_agrees setup w event a = record {
  agent = a.agent;
  posted = posts_more (Sends (issued_in setup (agent_side w)) (firsts_in (agent_then setup w).history) (agent_then setup w).now) w.letters _ a.posted
      (life_posts (issued_in setup (agent_side w)) (firsts_in (agent_then setup w).history) (agent_then setup w).now (number_of w) w.life (put_out (effect w.life.setup (gateway_of w.life) event).sent));
  came = a.came;
}

life_executes : (setup : Setup) (w : LivesWorld) (event : GatewayEvent) → ExecuteAll setup w
    → Each (CameTo (issued_in setup (agent_side w)) (with_event w.life event)) (flat_map reached (arrivals_at (gateway_of w.life).now event)) → ExecuteAll setup (to_life w event)
life_executes setup w event old new =
    let all = issued_in setup (agent_side w) in
    each_last (Executes all) (Executes all) w.over w.life (with_event w.life event) (λ life is. is) (λ is. executes_on all w.life event is new) old

-- the agent takes an event
pub side_agrees : (setup : Setup) (number : ℕ) (w : LivesWorld) (event : AgentEvent) → AgreesSide setup w → agent_refusal (agent_then setup w) event ≡ None → AgreesSide setup (to_agent_of setup number w event)
side_agrees setup number w event a taken =
    subst (λ (side : World). Agrees (issued_in setup side) (agent_in setup side) side) (sym (side_on setup number w event)) (agent_agrees setup (agent_side w) event a taken)

side_executes : (setup : Setup) (number : ℕ) (w : LivesWorld) (event : AgentEvent) → ExecuteAll setup w → ExecuteAll setup (to_agent_of setup number w event)
side_executes setup number w event old =
    subst (λ (all : List Begun). Each (Executes all) (lives_of w)) (sym (issued_more (agent_of setup) (agent_opening (agent_of setup)) w.agent_took event))
    (each_weaker (Executes (issued_in setup (agent_side w))) (Executes (issued_in setup (agent_side w) ++ issued_with (agent_then setup w) event))
    (executes_more (issued_in setup (agent_side w)) (issued_with (agent_then setup w) event)) (lives_of w) old)

pub side_clock : (setup : Setup) (number : ℕ) (w : LivesWorld) (event : AgentEvent) → AgreesSide setup w → agent_refusal (agent_then setup w) event ≡ None
    → clock_of setup (to_agent_of setup number w event) ≡ agent_clock (clock_of setup w) event
side_clock setup number w event a taken = agent_clock_on setup (agent_side w) event a.agent taken

-- A packet is handed over

-- where there are texts they were sent by now; where there are none it doesn't matter
texts_come_now : (all : List Begun) (firsts : List KeptFirst) (life : Life) (moment now world : ℕ) (source : SocketAddrV4) (texts : List (List ℕ)) → Each IsCommand all → AreAnswers firsts
    → world ≡ life.start + now → world - moment ≤ oldest_packet → Each (λ (text : List ℕ). OneOf (BringsCopy text) life.took) texts
    → Each (λ (text : List ℕ). Tells all firsts text moment × (moment ≤ world)) texts → Each (CameTo all life) (flat_map reached (map (arrival now source) texts))
texts_come_now all firsts life moment now world source [] commands answers clock late here tells = tt
texts_come_now all firsts life moment now world source (text ∷ texts) commands answers clock late here tells =
    texts_come all firsts life moment now source (text ∷ texts) commands answers (let early = tells.0.1 in omega (arith, early, clock)) (omega (arith, late, clock)) here
    (only_tells (λ (one : List ℕ). Tells all firsts one moment) moment world (text ∷ texts) tells)

module _ (setup : Setup) (w : LivesWorld) (k : Kept setup w) where
  abbrev its_issued : List Begun
  its_issued = issued_in setup (agent_side w)

  abbrev its_firsts : List KeptFirst
  its_firsts = firsts_in (agent_then setup w).history

  to_gateway_kept : (b : Bool) (packet : Packet) → Posts its_issued its_firsts (clock_of setup w) agent_end packet → clock_of setup w - packet.moment ≤ oldest_packet
      → Kept setup (if b then to_life w (datagram packet.sender packet.bytes) else w)
  to_gateway_kept false packet sends late = k
  to_gateway_kept true packet sends late =
      let event = datagram packet.sender packet.bytes in
      record {
        agrees = life_agrees setup w event k.agrees;
        lives = life_executes setup w event k.lives
            (texts_come_now its_issued its_firsts (with_event w.life event) packet.moment (gateway_of w.life).now (clock_of setup w) packet.sender (texts_of packet.bytes)
            (agent_commands its_issued (agent_then setup w) k.agrees.agent) (agent_answers its_issued (agent_then setup w) k.agrees.agent) k.clock late
            (brought_here w.life.took packet.sender packet.bytes) sends);
        clock = k.clock ∙ ap (λ (now : ℕ). w.life.start + now) (sym (life_clock w.life event));
      }

  to_agent_kept : (b : Bool) (number : ℕ) (packet : Packet) → Kept setup (if b then to_agent_of setup number w (hears (datagram packet.sender packet.bytes)) else w)
  to_agent_kept false number packet = k
  to_agent_kept true number packet =
      let event = hears (datagram packet.sender packet.bytes) in
      let may = never (agent_then setup w) packet.sender packet.bytes in
      record {
        agrees = side_agrees setup number w event k.agrees may;
        lives = side_executes setup number w event k.lives;
        clock = side_clock setup number w event k.agrees may ∙ k.clock;
      }

  handed_kept : (end : End) (number : ℕ) (packet : Packet) → Posts its_issued its_firsts (clock_of setup w) end packet → clock_of setup w - packet.moment ≤ oldest_packet → Kept setup (handed_from end setup number w packet)
  handed_kept agent_end number packet sends late = to_gateway_kept (same_address packet.to (gateway_address w.life.setup)) packet sends late
  handed_kept gateway_end number packet sends late = to_agent_kept (is_among setup.agent.route packet.to) number packet

-- A step

pub step_none : (refusal : Option WorldRefusal) → step_refused refusal ≡ None → refusal ≡ None
step_none None e = refl
step_none (Some refusal) e = absurd (none-some _ (sym e))

pub tick_past : (m : AgentMachine) (moment : ℕ) → agent_refusal m (hears (tick moment)) ≡ None → m.now ≤ moment
unfolding agent_refusal
tick_past m moment taken = tick_forward m.now moment taken

no_more : (n : ℕ) → n ≡ n + 0
no_more n = omega arith

restarted_kept : (setup : Setup) (w : LivesWorld) (first : ℕ) → Kept setup w → Kept setup (restarted setup w first)
unfolding machine_after arrivals_from
restarted_kept setup w first k = record {
  agrees = k.agrees;
  lives = each_push (Executes (issued_in setup (agent_side w))) (lives_of w) (new_life (record setup { first = first }) (clock_of setup w)) k.lives tt;
  clock = no_more (clock_of setup w);
}

pub stepped_kept : (setup : Setup) (w : LivesWorld) (step : LivesStep) → Kept setup w → lived_refusal setup w step ≡ None → Kept setup (lived setup w step)
unfolding lived lived_refusal
stepped_kept setup w (restarting first) k taken = restarted_kept setup w first k
stepped_kept setup w (stepping (issuing verb name rest)) k taken =
    let may = agent_taken (agent_refusal (agent_then setup w) (issues verb name rest)) (step_none _ taken) in
    record {
      agrees = side_agrees setup (number_of w) w (issues verb name rest) k.agrees may;
      lives = side_executes setup (number_of w) w (issues verb name rest) k.lives;
      clock = side_clock setup (number_of w) w (issues verb name rest) k.agrees may ∙ k.clock;
    }
stepped_kept setup w (stepping (dialling line act)) k taken = record {
  agrees = life_agrees setup w (phone line act) k.agrees;
  lives = life_executes setup w (phone line act) k.lives tt;
  clock = k.clock ∙ ap (λ (now : ℕ). w.life.start + now) (sym (life_clock w.life (phone line act)));
}
stepped_kept setup w (stepping (ticking moment)) k taken =
    let may = agent_taken (agent_refusal (agent_then setup w) (hears (tick moment))) (step_none _ taken) in
    let event = tick (moment - w.life.start) in
    let first = life_agrees setup w event k.agrees in
    let past = tick_past (agent_then setup w) moment may in
    let one = k.clock in
    record {
      agrees = side_agrees setup (number_of w) (to_life w event) (hears (tick moment)) first may;
      lives = side_executes setup (number_of w) (to_life w event) (hears (tick moment)) (life_executes setup w event k.lives tt);
      clock = side_clock setup (number_of w) (to_life w event) (hears (tick moment)) first may
          ∙ (let back : moment ≡ w.life.start + (moment - w.life.start) = omega (arith, past, one) in back)
          ∙ ap (λ (now : ℕ). w.life.start + now) (sym (life_clock w.life event));
    }
stepped_kept setup w (stepping (delivering number)) k taken =
    by_letter (slice_get w.letters number)
    (each_at (λ (letter : Letter). Sends (issued_in setup (agent_side w)) (firsts_in (agent_then setup w).history) (agent_then setup w).now letter.post) w.letters number
    (each_unmapped (Sends (issued_in setup (agent_side w)) (firsts_in (agent_then setup w).history) (agent_then setup w).now) post_of w.letters k.agrees.posted))
    (step_none _ taken) where
      by_letter : (found : Option Letter)
          → IfSome found (λ (letter : Letter). Sends (issued_in setup (agent_side w)) (firsts_in (agent_then setup w).history) (agent_then setup w).now letter.post)
          → delivery_refusal (option_map post_of found) (clock_of setup w) ≡ None → Kept setup (handed found setup w)
      by_letter None sends e = k
      by_letter (Some letter) sends e = handed_kept setup w k letter.post.end letter.life letter.post.packet sends (not_late letter.post (clock_of setup w) e)

steps_kept : (setup : Setup) (w : LivesWorld) (steps : List LivesStep) → Kept setup w → lives_are_taken setup w steps ≡ true → Kept setup (lives_after setup w steps)
unfolding lives_are_taken lives_after
steps_kept setup w [] k taken = k
steps_kept setup w (step ∷ steps) k taken =
    let both = and_parts (is_none (lived_refusal setup w step)) (lives_are_taken setup (lived setup w step) steps) taken in
    steps_kept setup (lived setup w step) steps (stepped_kept setup w step k (is_none-None (lived_refusal setup w step) both.0)) both.1

pub opening_kept : (setup : Setup) → Kept setup (lives_opening setup)
unfolding issued_from agent_after machine_after arrivals_from
opening_kept setup = record {
  agrees = record { agent = opening_holds (agent_of setup); posted = tt; came = tt };
  lives = (tt, tt);
  clock = refl;
}

pub lives_kept : (setup : Setup) (steps : List LivesStep) → lives_are_taken setup (lives_opening setup) steps ≡ true → Kept setup (plain_lives setup steps)
lives_kept setup steps taken = steps_kept setup (lives_opening setup) steps (opening_kept setup) taken

-- In each life each command is executed once at most

-- what came to a life, by the world's clock
abbrev shifted : ℕ → Reached → Reached
shifted start one = record one { asked = record one.asked { moment = start + one.asked.moment } }

came_shifted : (all : List Begun) (life : Life) (one : Reached) → CameTo all life one → Came all (shifted life.start one)
came_shifted all life one came =
    one_weaker (ComesTo life one) (Comes (shifted life.start one)) (λ b c. record { id = c.id; read = c.read; since = c.since; within = c.within }) all came

executed_once : (all : List Begun) (life : Life) → AllPairs (λ (a b : Begun). a.id ≢ b.id) all → Executes all life
    → AllPairs (λ (first later : Reached). first.asked.id ≢ later.asked.id) (executed_by life)
executed_once all life apart executes = λ i j d less within same.
    let arrived = flat_map reached (arrivals_of life.took) in
    let each = all_from_each (CameTo all life) (executed_by life) (executed_each (CameTo all life) arrived executes) in
    let far = executed_apart arrived i j d less within same in
    let near = same_issued all apart _ _ (came_shifted all life _ (each i d (omega (arith, less, within)))) (came_shifted all life _ (each j d within)) same in
    absurd (omega (arith, far, near))

pub each_executes_once : (setup : Setup) (steps : List LivesStep) → lives_are_taken setup (lives_opening setup) steps ≡ true
    → All (λ (life : Life). AllPairs (λ (first later : Reached). first.asked.id ≢ later.asked.id) (executed_by life)) (lives_of (plain_lives setup steps))
each_executes_once setup steps taken =
    let w = plain_lives setup steps in
    let k = lives_kept setup steps taken in
    let all = issued_in setup (agent_side w) in
    all_from_each (λ (life : Life). AllPairs (λ (first later : Reached). first.asked.id ≢ later.asked.id) (executed_by life)) (lives_of w)
    (each_weaker (Executes all) (λ (life : Life). AllPairs (λ (first later : Reached). first.asked.id ≢ later.asked.id) (executed_by life))
    (λ life executes. executed_once all life k.agrees.agent.apart executes) (lives_of w) k.lives)

-- and only where a copy of it was handed to that life

abbrev IsHanded : List Begun → Life → Reached → Type 0
IsHanded all life one = Any (λ (b : Begun). (b.id ≡ one.asked.id) × (one.outcome ≡ read_text b.text) × Any (BringsCopy b.text) life.took) all

handed_there : (all : List Begun) (life : Life) (one : Reached) → CameTo all life one → IsHanded all life one
handed_there all life one came =
    let P : Begun → Type 0 = λ b. (b.id ≡ one.asked.id) × (one.outcome ≡ read_text b.text) × Any (BringsCopy b.text) life.took in
    any_from_one P all (one_weaker (ComesTo life one) P (λ b c. (c.id, c.read, any_from_one (BringsCopy b.text) life.took c.handed)) all came)

pub each_was_handed : (setup : Setup) (steps : List LivesStep) → lives_are_taken setup (lives_opening setup) steps ≡ true
    → All (λ (life : Life). All (λ (one : Reached). Any (λ (b : Begun). (b.id ≡ one.asked.id) × (one.outcome ≡ read_text b.text) × Any (BringsCopy b.text) life.took)
    (issued_in setup (agent_side (plain_lives setup steps)))) (executed_by life)) (lives_of (plain_lives setup steps))
each_was_handed setup steps taken =
    let w = plain_lives setup steps in
    let k = lives_kept setup steps taken in
    let all = issued_in setup (agent_side w) in
    all_from_each (λ (life : Life). All (IsHanded all life) (executed_by life)) (lives_of w)
    (each_weaker (Executes all) (λ (life : Life). All (IsHanded all life) (executed_by life))
    (λ life executes. all_from_each (IsHanded all life) (executed_by life)
    (each_weaker (CameTo all life) (IsHanded all life) (handed_there all life) (executed_by life)
    (executed_each (CameTo all life) (flat_map reached (arrivals_of life.took)) executes)))
    (lives_of w) k.lives)

-- No id is issued twice, whatever an agent takes: each is greater than those before it.

next_on : (setup : AgentSetup) (m : AgentMachine) (event : AgentEvent) → m.next ≤ (agent_effect setup m event).machine.next
unfolding agent_effect
next_on setup m (issues verb name rest) = omega arith
next_on setup m (hears (datagram source bytes)) = let same = (texts_stay setup m source (texts_of bytes)).next in omega (arith, same)
next_on setup m (hears (phone line act)) = omega arith
next_on setup m (hears (tick moment)) = omega arith

-- with what an agent issues it has one id fewer
next_more : (setup : AgentSetup) (m : AgentMachine) (verb name rest : List ℕ) → (agent_effect setup m (issues verb name rest)).machine.next ≡ m.next + 1
unfolding agent_effect
next_more setup m verb name rest = omega arith

ids_from : (setup : AgentSetup) (m : AgentMachine) (events : List AgentEvent) → Each (λ (b : Begun). m.next ≤ b.id) (issued_from setup m events)
unfolding issued_from
ids_from setup m [] = tt
ids_from setup m (issues verb name rest ∷ events) =
    let next = (agent_effect setup m (issues verb name rest)).machine in
    let more = next_more setup m verb name rest in (
      omega arith,
      each_weaker (λ (b : Begun). next.next ≤ b.id) (λ (b : Begun). m.next ≤ b.id) (λ b least. omega (arith, least, more)) (issued_from setup next events) (ids_from setup next events),
    )
ids_from setup m (hears event ∷ events) =
    let next = (agent_effect setup m (hears event)).machine in
    let on = next_on setup m (hears event) in
    each_weaker (λ (b : Begun). next.next ≤ b.id) (λ (b : Begun). m.next ≤ b.id) (λ b least. omega (arith, least, on)) (issued_from setup next events) (ids_from setup next events)

ids_apart : (setup : AgentSetup) (m : AgentMachine) (events : List AgentEvent) → Pairs (λ (a b : Begun). a.id ≢ b.id) (issued_from setup m events)
unfolding issued_from
ids_apart setup m [] = tt
ids_apart setup m (issues verb name rest ∷ events) =
    let next = (agent_effect setup m (issues verb name rest)).machine in
    let more = next_more setup m verb name rest in (
      each_weaker (λ (b : Begun). next.next ≤ b.id) (λ (b : Begun). m.next ≢ b.id) (λ b least. λ same. absurd (omega (arith, least, more, same))) (issued_from setup next events)
          (ids_from setup next events),
      ids_apart setup next events,
    )
ids_apart setup m (hears event ∷ events) = ids_apart setup (agent_effect setup m (hears event)).machine events

pub no_id_twice : (setup : Setup) (steps : List LivesStep) → AllPairs (λ (a b : Begun). a.id ≢ b.id) (issued_in setup (agent_side (plain_lives setup steps)))
no_id_twice setup steps =
    let all = issued_in setup (agent_side (plain_lives setup steps)) in
    pairs_to (λ (a b : Begun). a.id ≢ b.id) all (ids_apart (agent_of setup) (agent_opening (agent_of setup)) (plain_lives setup steps).agent_took)
