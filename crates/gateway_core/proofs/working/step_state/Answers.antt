use Rattle.gateway_core.proofs.StandLemmas.{step_sound, step_goes, step_told, step_account, step_stays, step_silent}
use Rattle.gateway_core.proofs.working.step_state.Goals as goal

pub returns-clause-sound : goal.returns-clause-sound
returns-clause-sound c = step_sound _ _ _ _ _ _ _ c.requires c.attempt.ensures.ends c.attempt.ensures.all

pub returns-clause-ok : goal.returns-clause-ok
returns-clause-ok c = λ m a. step_goes _ _ m _ _ _ _ _ c.attempt.ensures.ends c.attempt.ensures.all a

pub returns-clause-told : goal.returns-clause-told
returns-clause-told c = λ m a. step_told _ _ m _ _ _ c.attempt.ensures.told a

pub returns-clause-err : goal.returns-clause-err
returns-clause-err c = λ m a. step_stays _ m _ _ _ _ _ c.attempt.ensures.all a

pub returns-clause-no_outputs : goal.returns-clause-no_outputs
returns-clause-no_outputs c = step_silent _ _ _ _ _ _ c.attempt.ensures.all

pub returns-clause-account : goal.returns-clause-account
returns-clause-account c = λ m a. step_account _ _ m _ _ _ _ c.attempt.ensures.ends c.attempt.ensures.labels c.attempt.ensures.given_up a
