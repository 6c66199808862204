use Rattle.live_play.proofs.RunLemmas.{if_so, told_so}
use Rattle.live_play.proofs.telling.tell_datagram.Goals as goal

pub returns-clause-told : goal.returns-clause-told
returns-clause-told g c = told_so _ _ _ _ (rw (c.new-text.ensures) at c.put_datagram.ensures.text) c.tell_trace.ensures

pub returns-clause-script : goal.returns-clause-script
returns-clause-script g c = if_so _ _ c.put_datagram.ensures.script
