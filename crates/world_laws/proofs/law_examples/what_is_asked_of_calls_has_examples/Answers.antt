use Rattle.std.proofs.Common.{ℕ, List, [], Some, refl, subst, arith}
use Rattle.std.specs.Prelude.{slice_get}
use Rattle.plain_machine.specs.Example.{two_lines}
use Rattle.plain_machine.specs.Refusing.{tick_refusal}
use Rattle.gateway_core.proofs.StandLemmas.{stands_for_nothing}
use Rattle.call_agent.proofs.StandLemmas.{stands_for_none}
use Rattle.agent_core.specs.declared.packet.Posted.{Posted}
use Rattle.agent_core.specs.declared.step.StepRefusal.TheVariants.{NoSuchPacket, OutOfMemory}
use Rattle.agent_core.specs.World.{delivering, delivery_refusal, gateway_refused, now_in, ticking}
use Rattle.agent_core.specs.WorldStands.{StepEnds}
use Rattle.agent_core.specs.WorldWork.{Ends}
use Rattle.agent_core.proofs.RunLemmas.{stop_cause, took_nothing}
use Rattle.world_laws.specs.LawExample.{opened_world}
use Rattle.world_laws.proofs.Computing.{on_examples}
use Rattle.world_laws.proofs.ExampleLemmas.{two_lines_set_up}
use Rattle.world_laws.proofs.law_examples.what_is_asked_of_calls_has_examples.Goals as goal

-- there is no packet
no_packet : Ends opened_world (delivering 0) (Some NoSuchPacket)
unfolding on_examples
no_packet plain keeps = subst (λ (posted : List Posted). StepEnds (delivery_refusal (slice_get posted 0) (now_in two_lines plain)) (Some NoSuchPacket)) keeps.posted refl

-- the clock may go on by 1 ms, but for want of memory
no_memory : Ends opened_world (ticking 1) (Some OutOfMemory)
unfolding on_examples
no_memory plain keeps = subst (λ (now : ℕ). StepEnds (gateway_refused (tick_refusal now 1)) (Some OutOfMemory)) keeps.gateway.alike.now refl

pub returns : goal.returns
unfolding on_examples
returns c = record {
  stands = record {
    taken = refl;
    keeps = record {
      gateway = stands_for_nothing opened_world.gateway two_lines_set_up refl refl refl;
      agent = stands_for_none opened_world.agent refl;
      posted = refl;
      who = refl;
      fresh = refl;
    };
  };
  took = took_nothing opened_world;
  stopped = record {
    place = λ fresh. omega arith;
    before = λ before stands. refl;
    leaves = took_nothing opened_world;
    cause = λ before stands. stop_cause opened_world opened_world [] before (delivering 0) (Some NoSuchPacket) (took_nothing opened_world) stands no_packet;
  };
  wanted = record {
    place = λ fresh. omega arith;
    before = λ before stands. refl;
    leaves = refl;
    cause = λ before stands. stop_cause opened_world opened_world [] before (ticking 1) (Some OutOfMemory) (took_nothing opened_world) stands no_memory;
  };
  fresh = refl;
}
