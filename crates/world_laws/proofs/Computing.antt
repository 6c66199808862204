-- The definitions opened, so that worked examples compute.
use Rattle.std.specs.Prelude.{⊤}
use Rattle.plain_machine.proofs.Computing.{on_examples as machine_examples}
use Rattle.call_agent.specs.Flying.{first_flight, with_flight, without_flight, passed, pass}
use Rattle.call_agent.specs.Responding.{responded}
use Rattle.call_agent.specs.Hearing.{handled, took_all, agent_effect, agent_refusal, agent_after, issued_from}
use Rattle.world_laws.specs.Landing.{landing_in, landing_from}
use Rattle.agent_core.specs.World.{went, step_refusal, world_after, steps_are_taken}
use Rattle.world_laws.specs.Reached.{executed_with}
use Rattle.call_agent.specs.AgentStands.{agent_takes}
use Rattle.world_laws.specs.Course.{course_in, course_from}

unfoldable pub on_examples : ⊤
unfolding machine_examples first_flight with_flight without_flight passed pass responded handled took_all agent_effect agent_refusal agent_after issued_from landing_in landing_from went step_refusal world_after steps_are_taken executed_with agent_takes course_in course_from
on_examples = tt
