use Rattle.live_play.proofs.RunLemmas.{if_so, told_so}
use Rattle.live_play.proofs.telling.tell_act.Goals as goal

pub returns-clause-told : goal.returns-clause-told
returns-clause-told g c = told_so _ _ _ _ (rw (c.new-text.ensures) at c.put_act.ensures.text) c.tell_trace.ensures

pub returns-clause-script : goal.returns-clause-script
returns-clause-script g c = if_so _ _ c.put_act.ensures.script
