use Rattle.digit_map.proofs.DraftLaws.{position_added, end_added}
use Rattle.digit_map.proofs.draft.add_string.Goals as goal

pub loop-position-preserved : goal.loop-position-preserved
loop-position-preserved c =
    position_added _ _ _ _ _ _ _ _ c.in_ok-push.ensures.items c.place_before.ensures (rw c.is_repeated.ensures at c.both-live.ensures)
    (rw c.in-Some.ensures.steps at c.loop-position.invariant)

pub returns : goal.returns
returns c = end_added _ _ _ _ _ c.in_ok-push-2.ensures.items c.place_at_end.ensures (rw c.in-None.ensures.steps.0 at c.loop-position.invariant)
