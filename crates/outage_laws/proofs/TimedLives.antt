-- Where no step is refused, each life took its events one after the other, and is over before a later one starts.
use Rattle.std.proofs.Common.{◌≡◌, ℕ, ◌+◌, ◌-◌, ◌≤◌, Bool, true, false, if◌then◌else◌, List, [], ◌∷◌, ◌++◌, Option, Some, None, refl, sym, subst, arith}
use Rattle.std.specs.Prelude.{slice_get, is_none}
use Rattle.std.proofs.lemmas.Bool.{and_parts}
use Rattle.transmission.specs.Packing.{same_address}
use Rattle.plain_machine.specs.declared.setup.Setup.{Setup}
use Rattle.plain_machine.specs.Arriving.{clock_after}
use Rattle.plain_machine.specs.Event.{GatewayEvent, datagram, phone, tick}
use Rattle.plain_machine.specs.Lists.{are_taken, machine_after}
use Rattle.plain_machine.specs.Machine.{opening}
use Rattle.plain_machine.specs.Refusing.{refusal_of, tick_refusal}
use Rattle.plain_machine.proofs.ListLaws.{taken_on}
use Rattle.plain_machine.specs.Message.{Begun}
use Rattle.machine_laws.proofs.EachLemmas.{Each, each_mapped, each_push, each_weaker, is_none-None}
use Rattle.call_agent.specs.Hearing.{AgentEvent, agent_after, agent_refusal, hears, issues}
use Rattle.call_agent.proofs.EventLemmas.{agent_clock, forward}
use Rattle.agent_core.specs.declared.packet.End.{End}
use Rattle.agent_core.specs.declared.packet.End.TheVariants.{AgentEnd as agent_end, GatewayEnd as gateway_end}
use Rattle.agent_core.specs.declared.packet.Packet.{Packet}
use Rattle.agent_core.specs.World.{delivering, dialling, gateway_address, is_among, issuing, ticking}
use Rattle.world_laws.proofs.AgentLaws.{never}
use Rattle.world_laws.proofs.WorldLaws.{agent_taken, gateway_taken}
use Rattle.outage_laws.specs.Lives.{Letter, Life, LivesStep, LivesWorld, agent_then, clock_of, gateway_of, handed, handed_from, lived, lived_refusal, lives_after, lives_are_taken, lives_of, lives_opening, new_life, number_of, plain_lives, restarted, restarting, stepping, to_agent_of, to_life}
use Rattle.outage_laws.specs.Apart.{begun_of, moved, own_of}
use Rattle.outage_laws.proofs.HandedLaws.{Kept, life_agrees, life_clock, opening_kept, side_clock, step_none, stepped_kept, tick_past, with_event}
use Rattle.outage_laws.proofs.LifeSays.{tick_moved}
use Rattle.outage_laws.proofs.LinkedLives.{IsOverBefore, never_refused, tick_none}
use Rattle.outage_laws.proofs.OwnEvents.{all_began}
use Rattle.outage_laws.proofs.PairLemmas.{Pairs, each_last, pairs_last, pairs_push}

-- by this moment of the world
pub record IsTimed (now : ℕ) (life : Life) : Type 0 where
  pub taken : are_taken life.setup (opening life.setup) life.took ≡ true
  pub past : life.start + (gateway_of life).now ≤ now

-- all of a life's commands began by now
pub life_began : (now : ℕ) (life : Life) → IsTimed now life → Each (λ (b : Begun). b.moment ≤ life.start + (gateway_of life).now) (begun_of life)
life_began now life is =
    each_mapped (λ (b : Begun). b.moment ≤ life.start + (gateway_of life).now) (moved life.start) (own_of life)
    (each_weaker (λ (b : Begun). b.moment ≤ (gateway_of life).now) (λ (b : Begun). life.start + b.moment ≤ life.start + (gateway_of life).now) (λ b by. omega (arith, by)) (own_of life)
    (all_began life.setup life.took is.taken))

pub record Timed (lives : List Life) (now : ℕ) : Type 0 where
  pub each : Each (IsTimed now) lives
  pub follow : Pairs IsOverBefore lives

timed_later : (now later : ℕ) (life : Life) → now ≤ later → IsTimed now life → IsTimed later life
timed_later now later life on is = record { taken = is.taken; past = (let was = is.past in omega (arith, was, on)) }

time_goes_on : (lives : List Life) (now later : ℕ) → now ≤ later → Timed lives now → Timed lives later
time_goes_on lives now later on t = record { each = each_weaker (IsTimed now) (IsTimed later) (λ life is. timed_later now later life on is) lives t.each; follow = t.follow }

-- the life that goes on takes an event that it doesn't refuse
life_timed : (over : List Life) (life : Life) (event : GatewayEvent) (now later : ℕ) → Timed (over ++ life ∷ []) now → refusal_of (gateway_of life) event ≡ None → now ≤ later
    → life.start + clock_after (gateway_of life).now event ≤ later → Timed (over ++ with_event life event ∷ []) later
life_timed over life event now later t none on past = record {
  each = each_last (IsTimed now) (IsTimed later) over life (with_event life event) (λ one is. timed_later now later one on is)
      (λ is. record {
        taken = taken_on life.setup (opening life.setup) life.took event is.taken none;
        past = (let clock = life_clock life event in omega (arith, past, clock));
      }) t.each;
  follow = pairs_last IsOverBefore over life (with_event life event) (λ one before. before) t.follow;
}

abbrev pub TimedWorld : Setup → LivesWorld → Type 0
TimedWorld setup w = Timed (lives_of w) (clock_of setup w)

-- the agent takes one that it doesn't refuse
agent_timed : (setup : Setup) (number : ℕ) (w : LivesWorld) (event : AgentEvent) → Kept setup w → TimedWorld setup w → agent_refusal (agent_then setup w) event ≡ None
    → TimedWorld setup (to_agent_of setup number w event)
agent_timed setup number w event k t taken =
    subst (Timed (lives_of w)) (sym (side_clock setup number w event k.agrees taken))
    (time_goes_on (lives_of w) (clock_of setup w) (agent_clock (clock_of setup w) event) (forward (agent_then setup w) event taken) t)

-- at a tick the life that goes on was first
ticks_timed : (setup : Setup) (w : LivesWorld) (moment : ℕ) → Kept setup w → TimedWorld setup w → agent_refusal (agent_then setup w) (hears (tick moment)) ≡ None
    → tick_refusal (clock_of setup w) moment ≡ None → TimedWorld setup (to_agent_of setup (number_of w) (to_life w (tick (moment - w.life.start))) (hears (tick moment)))
unfolding refusal_of
ticks_timed setup w moment k t taken none =
    let event = tick (moment - w.life.start) in
    let past = tick_past (agent_then setup w) moment taken in
    let one = k.clock in
    subst (Timed (lives_of (to_life w event))) (sym (side_clock setup (number_of w) (to_life w event) (hears (tick moment)) (life_agrees setup w event k.agrees) taken))
    (life_timed w.over w.life event (clock_of setup w) moment t
    (tick_moved w.life.start (gateway_of w.life).now moment (subst (λ (now : ℕ). tick_refusal now moment ≡ None) k.clock none)) past (omega (arith, past, one)))

handed_timed : (setup : Setup) (w : LivesWorld) (letter : Letter) → Kept setup w → TimedWorld setup w → TimedWorld setup (handed_from letter.post.end setup letter.life w letter.post.packet)
handed_timed setup w letter k t = by_end letter.post.end where
  to_gateway : (b : Bool) (packet : Packet) → TimedWorld setup (if b then to_life w (datagram packet.sender packet.bytes) else w)
  to_gateway false packet = t
  to_gateway true packet =
      life_timed w.over w.life (datagram packet.sender packet.bytes) (clock_of setup w) (clock_of setup w) t (never_refused setup w.life packet.sender packet.bytes) (omega arith)
      (let one = k.clock in omega (arith, one))

  to_agent : (b : Bool) (packet : Packet) → TimedWorld setup (if b then to_agent_of setup letter.life w (hears (datagram packet.sender packet.bytes)) else w)
  to_agent false packet = t
  to_agent true packet = agent_timed setup letter.life w (hears (datagram packet.sender packet.bytes)) k t (never (agent_then setup w) packet.sender packet.bytes)

  by_end : (end : End) → TimedWorld setup (handed_from end setup letter.life w letter.post.packet)
  by_end agent_end = to_gateway (same_address letter.post.packet.to (gateway_address w.life.setup)) letter.post.packet
  by_end gateway_end = to_agent (is_among setup.agent.route letter.post.packet.to) letter.post.packet

-- The gateway starts again

at_most : (n : ℕ) → n + 0 ≤ n
at_most n = omega arith

restarted_timed : (setup : Setup) (w : LivesWorld) (first : ℕ) → TimedWorld setup w → TimedWorld setup (restarted setup w first)
unfolding machine_after are_taken
restarted_timed setup w first t =
    let now = clock_of setup w in
    let new = new_life (record setup { first = first }) now in
    record {
      each = each_push (IsTimed now) (lives_of w) new t.each (record { taken = refl; past = at_most now });
      follow = pairs_push IsOverBefore (lives_of w) new t.follow (each_weaker (IsTimed now) (λ (life : Life). IsOverBefore life new) (λ life is. is.past) (lives_of w) t.each);
    }

-- A step

step_timed : (setup : Setup) (w : LivesWorld) (step : LivesStep) → Kept setup w → TimedWorld setup w → lived_refusal setup w step ≡ None → TimedWorld setup (lived setup w step)
unfolding lived lived_refusal
step_timed setup w (restarting first) k t taken = restarted_timed setup w first t
step_timed setup w (stepping (issuing verb name rest)) k t taken =
    agent_timed setup (number_of w) w (issues verb name rest) k t (agent_taken (agent_refusal (agent_then setup w) (issues verb name rest)) (step_none _ taken))
step_timed setup w (stepping (dialling line act)) k t taken =
    life_timed w.over w.life (phone line act) (clock_of setup w) (clock_of setup w) t (gateway_taken (refusal_of (gateway_of w.life) (phone line act)) (step_none _ taken)) (omega arith)
    (let one = k.clock in omega (arith, one))
step_timed setup w (stepping (ticking moment)) k t taken =
    let may = agent_taken (agent_refusal (agent_then setup w) (hears (tick moment))) (step_none _ taken) in
    ticks_timed setup w moment k t may (tick_none (agent_then setup w) moment may)
step_timed setup w (stepping (delivering number)) k t taken = by_letter (slice_get w.letters number) where
  by_letter : (found : Option Letter) → TimedWorld setup (handed found setup w)
  by_letter None = t
  by_letter (Some letter) = handed_timed setup w letter k t

steps_timed : (setup : Setup) (w : LivesWorld) (steps : List LivesStep) → Kept setup w → TimedWorld setup w → lives_are_taken setup w steps ≡ true → TimedWorld setup (lives_after setup w steps)
unfolding lives_are_taken lives_after
steps_timed setup w [] k t taken = t
steps_timed setup w (step ∷ steps) k t taken =
    let both = and_parts (is_none (lived_refusal setup w step)) (lives_are_taken setup (lived setup w step) steps) taken in
    let none = is_none-None (lived_refusal setup w step) both.0 in
    steps_timed setup (lived setup w step) steps (stepped_kept setup w step k none) (step_timed setup w step k t none) both.1

opening_timed : (setup : Setup) → TimedWorld setup (lives_opening setup)
unfolding machine_after are_taken agent_after
opening_timed setup = record { each = (record { taken = refl; past = at_most 0 }, tt); follow = (tt, tt) }

pub lives_timed : (setup : Setup) (steps : List LivesStep) → lives_are_taken setup (lives_opening setup) steps ≡ true → TimedWorld setup (plain_lives setup steps)
lives_timed setup steps taken = steps_timed setup (lives_opening setup) steps (opening_kept setup) (opening_timed setup) taken
