use Rattle.agent_core.specs.World.{delivering, world_opening}
use Rattle.std.specs.Prelude.{[], ◌∷◌}
use Rattle.world_laws.proofs.PostedFinal.{posted_final, taken_front}
use Rattle.world_laws.proofs.ServedLaws.{had_in_time}
use Rattle.world_laws.proofs.delivery_laws.an_answer_that_comes_in_time_is_had.Goals as goal

pub returns : goal.returns
returns c = λ setup steps number b text code params body run issued soon copy reads.
    had_in_time setup steps number b text code params body run.0 run.1 issued soon copy reads
    (posted_final setup steps number copy.post text run.0 (taken_front setup world_opening steps (delivering number ∷ []) run.1) copy.found copy.inside code b.id params body reads)
