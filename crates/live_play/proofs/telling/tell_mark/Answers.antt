use Rattle.live_play.proofs.RunLemmas.{told_so}
use Rattle.live_play.proofs.telling.tell_mark.Goals as goal

pub returns-then-is_telling : goal.returns-then-is_telling
returns-then-is_telling g c = told_so _ _ _ _ (rw (c.new-text.ensures) at c.put_mark.ensures) c.tell_trace.ensures
