use Rattle.rgw_scripts.proofs.JudgedLemmas.{explains_link_whole, plays_whole}
use Rattle.rgw_play.proofs.session.carry.Goals as goal

pub returns-clause-explained : goal.returns-clause-explained
returns-clause-explained g c = explains_link_whole _ c.in-Err-carry_input.fault c.in-Ok.input.items c.in-Ok.ensures.ok (rw c.deref.ensures.value at c.in-Err-carry_input.ensures.explained)

pub returns-in-Ok-carry_input-clause-written : goal.returns-in-Ok-carry_input-clause-written
returns-in-Ok-carry_input-clause-written g c = plays_whole _ c.in-Ok.input.items _ _ _ _ c.in-Ok.ensures.ok (rw c.deref.ensures.value at c.in-Ok-carry_input.ensures.written)
