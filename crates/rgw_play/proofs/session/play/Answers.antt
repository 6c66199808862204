use Rattle.rgw_scripts.proofs.JudgedLemmas.{explains_whole, plays_whole}
use Rattle.rgw_play.proofs.session.play.Goals as goal

pub returns-clause-explained : goal.returns-clause-explained
returns-clause-explained g c = explains_whole _ c.in-Err.fault c.in_ok-input.input.items c.in_ok-input.ensures.ok (rw c.deref.ensures.value at c.in-Err.ensures.explained)

pub returns-in-Ok-clause-written : goal.returns-in-Ok-clause-written
returns-in-Ok-clause-written g c = plays_whole _ c.in_ok-input.input.items _ _ _ _ c.in_ok-input.ensures.ok (rw c.deref.ensures.value at c.in-Ok.ensures.written)
