use Rattle.live_play.proofs.RunLemmas.{told_so, if_so}
use Rattle.live_play.proofs.play.LivePlay.end.Goals as goal

pub returns-then-is_telling-clause-told : goal.returns-then-is_telling-clause-told
returns-then-is_telling-clause-told g c = told_so _ _ _ _ (rw (c.new-text.ensures) at c.put_clock.ensures.text) c.tell_trace.ensures

pub returns-then-is_telling-clause-script : goal.returns-then-is_telling-clause-script
returns-then-is_telling-clause-script g c = if_so _ _ c.put_clock.ensures.script
