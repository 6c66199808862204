use Rattle.call_agent.proofs.StandLemmas.{step_sound, step_goes, step_stays}
use Rattle.call_agent.proofs.working.step_state.Goals as goal

pub returns-clause-sound : goal.returns-clause-sound
returns-clause-sound c = step_sound _ _ _ _ _ c.requires c.attempt.ensures.ends c.attempt.ensures.all

pub returns-clause-ok : goal.returns-clause-ok
returns-clause-ok c = λ m a. step_goes _ _ m _ _ _ c.attempt.ensures.ends c.attempt.ensures.all a

pub returns-clause-err : goal.returns-clause-err
returns-clause-err c = λ m a. step_stays _ m _ _ _ c.attempt.ensures.all a
