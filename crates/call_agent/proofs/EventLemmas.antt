-- An agent's clock, and lists of events.
use Rattle.std.proofs.Common.{◌≡◌, ℕ, ◌+◌, ◌^◌, ◌≤◌, Bool, true, false, ◌||◌, if◌then◌else◌, List, [], ◌∷◌, ◌++◌, Some, None, refl, sym, arith}
use Rattle.std.specs.Prelude.{nat_lt, nat_le}
use Rattle.std.proofs.lemmas.Bool.{ltb-false}
use Rattle.std.proofs.lemmas.Option.{none-some}
use Rattle.machine_rules.specs.declared.refusal.Refusal.TheVariants.{ClockBack, TickTooFar}
use Rattle.plain_machine.specs.Refusing.{tick_refusal}
use Rattle.plain_machine.specs.Arriving.{clock_after}
use Rattle.plain_machine.specs.Event.{datagram, phone, tick}
use Rattle.call_agent.specs.declared.setup.AgentSetup.{AgentSetup}
use Rattle.call_agent.specs.Agent.{AgentMachine}
use Rattle.call_agent.specs.Hearing.{AgentEvent, agent_after, agent_effect, agent_refusal, event_refused, hears, issues}

pub tick_forward : (now moment : ℕ) → event_refused (tick_refusal now moment) ≡ None → now ≤ moment
tick_forward now moment taken = by_far (nat_lt (now + 1000) moment || nat_le (2 ^ 62) moment) taken where
  by_back : (b : Bool) → nat_lt moment now ≡ b → event_refused (if b then Some ClockBack else None) ≡ None → now ≤ moment
  by_back true back e = absurd (none-some _ (sym e))
  by_back false forward e = ltb-false moment now forward

  by_far : (b : Bool) → event_refused (if b then Some TickTooFar else (if nat_lt moment now then Some ClockBack else None)) ≡ None → now ≤ moment
  by_far true e = absurd (none-some _ (sym e))
  by_far false e = by_back (nat_lt moment now) refl e

-- the clock after an event
abbrev pub agent_clock : ℕ → AgentEvent → ℕ
agent_clock now (issues verb name rest) = now
agent_clock now (hears event) = clock_after now event

pub forward : (m : AgentMachine) (event : AgentEvent) → agent_refusal m event ≡ None → m.now ≤ agent_clock m.now event
unfolding agent_refusal
forward m (issues verb name rest) taken = omega arith
forward m (hears (datagram source bytes)) taken = omega arith
forward m (hears (phone line act)) taken = omega arith
forward m (hears (tick moment)) taken = tick_forward m.now moment taken

-- one list of events after the other
pub after_on : (setup : AgentSetup) (m : AgentMachine) (es fs : List AgentEvent) → agent_after setup m (es ++ fs) ≡ agent_after setup (agent_after setup m es) fs
unfolding agent_after
after_on setup m [] fs = refl
after_on setup m (e ∷ es) fs = after_on setup (agent_effect setup m e).machine es fs
