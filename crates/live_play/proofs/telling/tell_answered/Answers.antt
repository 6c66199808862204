use Rattle.live_play.proofs.RunLemmas.{if_so, told_so}
use Rattle.live_play.proofs.telling.tell_answered.Goals as goal

pub returns-then-is_telling-clause-told : goal.returns-then-is_telling-clause-told
returns-then-is_telling-clause-told g c = told_so _ _ _ _ (rw (c.new-text.ensures) at c.put_answered.ensures.text) c.tell_trace.ensures

pub returns-then-is_telling-clause-script : goal.returns-then-is_telling-clause-script
returns-then-is_telling-clause-script g c = if_so _ _ c.put_answered.ensures.script
