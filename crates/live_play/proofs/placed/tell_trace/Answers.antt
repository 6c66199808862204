use Rattle.std.proofs.Common.{◌∙◌}
use Rattle.live_play.proofs.RunLemmas.{ends_all, told_so}
use Rattle.live_play.proofs.placed.tell_trace.Goals as goal

pub returns-in-Ok : goal.returns-in-Ok
returns-in-Ok g c = told_so _ _ _ _ (c.as_slice.ensures.value ∙ c.in-Ok.ensures) c.tell.ensures

pub returns-in-Err : goal.returns-in-Err
returns-in-Err g c = ends_all _ _ _ c.break_off.ensures
