use Rattle.agent_core.specs.WorldStands.{WorldTook, steps_before}
use Rattle.agent_core.proofs.world.world_run.Given as goal

abbrev pub invariant-loop-place : goal.invariant-loop-place
invariant-loop-place l = WorldTook l.fn.world (steps_before l.steps l.place) l.world
