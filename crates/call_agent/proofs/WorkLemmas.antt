-- What goes out with an event, and how it ends.
use Rattle.std.proofs.Common.{◌≡◌, Bool, true, false, ◌==◌, List, [], length, Option, Some, None, refl, sym, ◌∙◌, ap}
use Rattle.std.specs.Prelude.{is_none}
use Rattle.machine_rules.specs.declared.refusal.Refusal.{Refusal}
use Rattle.machine_rules.specs.declared.refusal.Refusal.TheVariants.{OutOfMemory}
use Rattle.plain_machine.specs.Event.{GatewayEvent, datagram, phone, tick}
use Rattle.plain_machine.specs.Refusing.{ends}
use Rattle.transmission.specs.declared.output.OutDatagram.{OutDatagram}
use Rattle.transmission.specs.Packing.{packed}
use Rattle.transmission.specs.Texts.{texts_of}
use Rattle.call_agent.specs.declared.setup.AgentSetup.{AgentSetup}
use Rattle.call_agent.specs.declared.state.State.{State}
use Rattle.call_agent.specs.Agent.{AgentMachine, AgentEffect}
use Rattle.call_agent.specs.Flying.{first_flight, if_due}
use Rattle.call_agent.specs.Hearing.{AgentEnds, agent_effect, agent_takes_none, hearing_refusal, hears, took_all}
use Rattle.call_agent.specs.State.{kept_in, purged_in, PutsOut, Went}
use Rattle.call_agent.proofs.PassLemmas.{passes_nothing}

none_there : {A : Type 0} (found : Option A) → is_none found ≡ true → found ≡ None
none_there None e = refl
none_there (Some x) e = absurd cc

-- what takes no memory sends nothing
free_silent : (setup : AgentSetup) (m : AgentMachine) (event : GatewayEvent) → agent_takes_none m event ≡ true → (agent_effect setup m (hears event)).sent ≡ []
unfolding agent_effect took_all texts_of
free_silent setup m (datagram source bytes) free = rw free refl
free_silent setup m (phone line act) free = refl
free_silent setup m (tick moment) free = rw (passes_nothing m.flights moment (none_there (if_due moment (first_flight m.flights)) free)) refl

-- nothing is to go out
pub puts_nothing : (effect : AgentEffect) (was is : State) (sent out : List OutDatagram) → sent ≡ [] → out ≡ [] → Went effect was is [] sent → PutsOut effect is out
puts_nothing effect was is sent out none empty went =
    let silent : effect.sent ≡ [] = sym went.sent ∙ none in
    record { machine = went.machine; outputs = empty ∙ ap packed (sym silent) }

-- memory is refused to what is to go out
pub ends_for_memory : (setup : AgentSetup) (event : GatewayEvent) (was is : State) (sent : List OutDatagram) (given : Option Refusal) → (length sent == 0) ≡ false
    → given ≡ Some OutOfMemory → AgentEnds (kept_in was) event None → Went (agent_effect setup (kept_in was) (hears event)) was is [] sent → AgentEnds (kept_in was) event given
ends_for_memory setup event was is sent given some wants e went = rw wants (by_free (hearing_refusal (kept_in was) event) (agent_takes_none (kept_in was) event) refl e) where
  by_free : (refusal : Option Refusal) (free : Bool) → agent_takes_none (kept_in was) event ≡ free → ends refusal free None → ends refusal free (Some OutOfMemory)
  by_free (Some refusal) free is_free fine = absurd cc
  by_free None false is_free fine = refl
  by_free None true is_free fine =
      let silent : sent ≡ [] = went.sent ∙ free_silent setup (kept_in was) event is_free in
      let no : true ≡ false = rw silent at some in
      absurd cc

-- a purge changes no end
pub ends_purged : (k : AgentMachine) (event : GatewayEvent) (given : Option Refusal) → AgentEnds (purged_in k) event given → AgentEnds k event given
ends_purged k (datagram source bytes) given e = e
ends_purged k (phone line act) given e = e
ends_purged k (tick moment) given e = e
