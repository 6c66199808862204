-- What agents and worlds stand for that share a list; and their clocks.
use Rattle.std.proofs.Common.{◌≡◌, ◌≢◌, ℕ, ◌<◌, ◌^◌, true, List, [], ◌∷◌, Option, Some, None, refl, sym, subst, ap, ◌∙◌, append-nil, arith}
use Rattle.std.specs.Prelude.{is_none}
use Rattle.std.proofs.lemmas.Bool.{and_parts}
use Rattle.transmission.specs.Recalling.{Recalls}
use Rattle.transmission.proofs.RecallLaws.{recalls_back, recalls_through}
use Rattle.plain_machine.specs.declared.setup.Setup.{Setup}
use Rattle.machine_rules.specs.declared.refusal.Refusal.{Refusal}
use Rattle.plain_machine.specs.Event.{datagram, phone, tick}
use Rattle.plain_machine.specs.Machine.{opening}
use Rattle.plain_machine.specs.Refusing.{tick_refusal}
use Rattle.transmission.specs.Texts.{texts_of}
use Rattle.machine_laws.proofs.MessageLaws.{ticks_below, clock_below}
use Rattle.gateway_core.proofs.SharedLists.{stands_shared}
use Rattle.call_agent.specs.declared.setup.AgentSetup.{AgentSetup}
use Rattle.call_agent.specs.Agent.{AgentMachine, agent_opening}
use Rattle.call_agent.specs.Hearing.{AgentEvent, issues, hears, AgentRefusal, agent_effect, agent_refusal, event_refused, agent_after, plain_agent}
use Rattle.call_agent.specs.AgentAlike.{AgentAlike, with_history}
use Rattle.call_agent.specs.AgentStands.{AgentState, AgentStands, agent_takes}
use Rattle.call_agent.proofs.HearingLemmas.{texts_stay}
use Rattle.agent_core.specs.World.{WorldStep, agent_of, world_opening, steps_are_taken, plain_world, gateway_in, agent_in}
use Rattle.agent_core.specs.WorldStands.{WorldState, Keeps, WorldStands, WorldTook, WorldStoppedAt, steps_before}
use Rattle.agent_core.specs.declared.step.Step.{Step}
use Rattle.agent_core.specs.declared.step.StepRefusal.TheVariants.{OutOfMemory}
use Rattle.agent_core.specs.declared.step.WorldStopped.{WorldStopped}
use Rattle.agent_core.proofs.RunLemmas.{stop_took}

-- Shared lists

agent_shared : (k k' m n : AgentMachine) → AgentAlike k m → AgentAlike k' m → AgentAlike k' n → AgentAlike k n
agent_shared k k' m n a b c =
    let both : with_history k m.history ≡ with_history k' m.history = sym a.same ∙ b.same in
    let same : k'.now ≡ k.now = ap (λ (x : AgentMachine). x.now) (sym both) in
    record {
      same = c.same ∙ sym (ap (λ (x : AgentMachine). with_history x n.history) both);
      history = recalls_through k.history k'.history n.history k.now
          (recalls_through k.history m.history k'.history k.now a.history
          (recalls_back k'.history m.history k.now (subst (λ (t : ℕ). Recalls k'.history m.history t) same b.history)))
          (subst (λ (t : ℕ). Recalls k'.history n.history t) same c.history);
    }

pub agents_share : (a a' : AgentState) (before events : List AgentEvent) → a'.setup ≡ a.setup → AgentStands a before → AgentStands a' before → AgentStands a' events → AgentStands a events
agents_share a a' before events same s s' t = record {
  taken = subst (λ (x : AgentSetup). agent_takes x (agent_opening x) events ≡ true) same t.taken;
  alike = agent_shared a.machine a'.machine (plain_agent a.setup before) (plain_agent a.setup events) s.alike
      (subst (λ (x : AgentSetup). AgentAlike a'.machine (plain_agent x before)) same s'.alike)
      (subst (λ (x : AgentSetup). AgentAlike a'.machine (plain_agent x events)) same t.alike);
}

pub worlds_share : (w w' : WorldState) (before steps : List WorldStep) → w'.gateway.setup ≡ w.gateway.setup → WorldStands w before → WorldStands w' before → WorldStands w' steps → WorldStands w steps
worlds_share w w' before steps same s s' t =
    let here : Keeps w (plain_world w.gateway.setup before) = s.keeps in
    let there : Keeps w' (plain_world w.gateway.setup before) = subst (λ (x : Setup). Keeps w' (plain_world x before)) same s'.keeps in
    let other : Keeps w' (plain_world w.gateway.setup steps) = subst (λ (x : Setup). Keeps w' (plain_world x steps)) same t.keeps in
    let who : w'.agent.setup ≡ w.agent.setup = there.who ∙ ap (λ (x : Setup). agent_of x) same ∙ sym here.who in
    record {
      taken = subst (λ (x : Setup). steps_are_taken x world_opening steps ≡ true) same t.taken;
      keeps = record {
        gateway = stands_shared w.gateway w'.gateway (plain_world w.gateway.setup before).gateway_took (plain_world w.gateway.setup steps).gateway_took same
            here.gateway there.gateway other.gateway;
        agent = agents_share w.agent w'.agent (plain_world w.gateway.setup before).agent_took (plain_world w.gateway.setup steps).agent_took who
            here.agent there.agent other.agent;
        posted = here.posted ∙ sym there.posted ∙ other.posted;
        who = here.who;
        fresh = here.fresh;
      };
    }

-- what a world that took nothing stood for it stands for
pub still_stands : (w w' : WorldState) (steps : List WorldStep) → WorldTook w [] w' → WorldStands w steps → WorldStands w' steps
still_stands w w' steps took s = rw (append-nil steps) at (took.stands steps s)

-- so does one that stopped at its first step
pub stopped_at_once : (w w' : WorldState) (given : List Step) (stopped : WorldStopped) → WorldStoppedAt w given w' stopped → stopped.refusal ≢ OutOfMemory → stopped.place ≡ 0 → WorldTook w [] w'
stopped_at_once w w' given stopped stops other first =
    subst (λ (n : ℕ). WorldTook w (steps_before given n) w') first (stop_took w w' given stopped stops other)

-- Clocks

none_there : (o : Option AgentRefusal) → is_none o ≡ true → o ≡ None
none_there None is = refl
none_there (Some refusal) is = absurd cc

tick_taken : (o : Option Refusal) → event_refused o ≡ None → o ≡ None
tick_taken None is = refl
tick_taken (Some refusal) is = absurd cc

agent_below : (setup : AgentSetup) (m : AgentMachine) (event : AgentEvent) → m.now < 2 ^ 62 → agent_refusal m event ≡ None → (agent_effect setup m event).machine.now < 2 ^ 62
unfolding agent_effect agent_refusal
agent_below setup m (issues verb name rest) lt none = lt
agent_below setup m (hears (datagram source bytes)) lt none = rw (texts_stay setup m source (texts_of bytes)).now lt
agent_below setup m (hears (phone line act)) lt none = lt
agent_below setup m (hears (tick moment)) lt none = ticks_below m.now moment (tick_taken (tick_refusal m.now moment) none)

pub agent_clock_below : (setup : AgentSetup) (m : AgentMachine) (events : List AgentEvent) → m.now < 2 ^ 62 → agent_takes setup m events ≡ true → (agent_after setup m events).now < 2 ^ 62
unfolding agent_after agent_takes
agent_clock_below setup m [] lt taken = lt
agent_clock_below setup m (event ∷ events) lt taken =
    let parts = and_parts (is_none (agent_refusal m event)) (agent_takes setup (agent_effect setup m event).machine events) taken in
    agent_clock_below setup (agent_effect setup m event).machine events (agent_below setup m event lt (none_there (agent_refusal m event) parts.0)) parts.1

pub world_gateway_below : (w : WorldState) (steps : List WorldStep) → WorldStands w steps → (gateway_in w.gateway.setup (plain_world w.gateway.setup steps)).now < 2 ^ 62
world_gateway_below w steps s =
    clock_below w.gateway.setup (opening w.gateway.setup) (plain_world w.gateway.setup steps).gateway_took (omega arith) s.keeps.gateway.taken

pub world_agent_below : (w : WorldState) (steps : List WorldStep) → WorldStands w steps → (agent_in w.gateway.setup (plain_world w.gateway.setup steps)).now < 2 ^ 62
world_agent_below w steps s =
    let took = (plain_world w.gateway.setup steps).agent_took in
    agent_clock_below (agent_of w.gateway.setup) (agent_opening (agent_of w.gateway.setup)) took (omega arith)
    (subst (λ (x : AgentSetup). agent_takes x (agent_opening x) took ≡ true) s.keeps.who s.keeps.agent.taken)
