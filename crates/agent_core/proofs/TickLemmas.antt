-- A tick comes to both ends of a world.
use Rattle.std.proofs.Common.{◌≡◌, ℕ, List, [], ◌∷◌, Option, Some, None, refl, ap, ◌∙◌, subst}
use Rattle.std.specs.Prelude.{OnOk, Result, Ok, Err}
use Rattle.std.specs.declared.net.socket_addr.SocketAddrV4.{SocketAddrV4}
use Rattle.endpoint_names.specs.Route.{at}
use Rattle.plain_machine.specs.declared.setup.Setup.{Setup}
use Rattle.machine_rules.specs.declared.refusal.Refusal.{Refusal}
use Rattle.plain_machine.specs.Event.{GatewayEvent, tick}
use Rattle.plain_machine.specs.Refusing.{refusal_of}
use Rattle.plain_machine.specs.Lists.{plain}
use Rattle.transmission.specs.declared.output.OutDatagram.{OutDatagram}
use Rattle.gateway_core.specs.GatewayState.{GatewayState}
use Rattle.gateway_core.specs.Stands.{Stands, Took}
use Rattle.agent_core.specs.declared.packet.End.{End}
use Rattle.agent_core.specs.declared.packet.End.TheVariants.{GatewayEnd, AgentEnd}
use Rattle.agent_core.specs.declared.step.StepRefusal.{StepRefusal}
use Rattle.call_agent.specs.Hearing.{hears}
use Rattle.agent_core.specs.World.{ticking, gateway_address, gateway_refused, gateway_in, to_gateway, to_agent, step_refusal, went}
use Rattle.call_agent.specs.AgentStands.{AgentTook}
use Rattle.agent_core.specs.WorldStands.{WorldState, Keeps}
use Rattle.agent_core.specs.WorldWork.{EndStops, Goes}
use Rattle.agent_core.specs.WorldTicks.{GatewayTicks, AgentTicks}
use Rattle.agent_core.proofs.EndLemmas.{Posts, told_gateway, told_agent}

pub gateway_ticks : (w w' : WorldState) (moment : ℕ) (end : End) (sender : SocketAddrV4) (out : List OutDatagram) → Took w.gateway (tick moment ∷ []) w'.gateway [] out
    → w'.agent ≡ w.agent → end ≡ GatewayEnd → sender ≡ gateway_address w.gateway.setup → Posts w w' end sender out → GatewayTicks w moment w'
gateway_ticks w w' moment end sender out took same from by posts = record {
  setup = took.setup;
  keeps = λ world k. told_gateway w.gateway.setup w w' world (tick moment) end sender out refl took same from by posts k;
}

pub agent_ticks : (w w' : WorldState) (moment : ℕ) (end : End) (sender : SocketAddrV4) (out : List OutDatagram) → AgentTook w.agent (hears (tick moment)) w'.agent out
    → w'.gateway ≡ w.gateway → end ≡ AgentEnd → sender ≡ at w.agent.setup.own 0 → Posts w w' end sender out → AgentTicks w moment w'
agent_ticks w w' moment end sender out took same from by posts = record {
  setup = ap (λ (g : GatewayState). g.setup) same;
  keeps = λ world k. told_agent w.gateway.setup w w' world (hears (tick moment)) end sender out refl took same from by posts k;
}

not_refused : (refusal : Option Refusal) → EndStops refusal None → gateway_refused refusal ≡ None
not_refused None e = refl
not_refused (Some refusal) e = absurd cc

-- both did
pub both_tick : (w mid w' : WorldState) (moment : ℕ) → GatewayTicks w moment mid
    → ((before : List GatewayEvent) → Stands w.gateway before → EndStops (refusal_of (plain w.gateway.setup before) (tick moment)) None)
    → AgentTicks mid moment w' → Goes w (ticking moment) w'
unfolding step_refusal went
both_tick w mid w' moment first ends next = record {
  setup = next.setup ∙ first.setup;
  keeps = λ world k. (
    not_refused (refusal_of (gateway_in w.gateway.setup world) (tick moment)) (ends world.gateway_took k.gateway),
    subst (λ (s : Setup). Keeps w' (to_agent s (to_gateway w.gateway.setup world (tick moment)) (hears (tick moment)))) first.setup
        (next.keeps (to_gateway w.gateway.setup world (tick moment)) (first.keeps world k)),
  );
}

pub both_ticked : (w mid w' : WorldState) (moment : ℕ) (result : Result (Unit {0}) StepRefusal) → GatewayTicks w moment mid
    → ((before : List GatewayEvent) → Stands w.gateway before → EndStops (refusal_of (plain w.gateway.setup before) (tick moment)) None)
    → OnOk result (AgentTicks mid moment w') → OnOk result (Goes w (ticking moment) w')
both_ticked w mid w' moment (Ok x) first ends next = both_tick w mid w' moment first ends next
both_ticked w mid w' moment (Err refusal) first ends next = tt
