use Rattle.line_changes.specs.Changes.{ended}
use Rattle.line_changes.proofs.PuttingLemmas.{put_one, put_each}
use Rattle.line_changes.proofs.changing.put_ended.Goals as goal

pub loop-active-preserved : goal.loop-active-preserved
loop-active-preserved c =
    put_one (ended c.args.are.now) c.args.were.now c.loop-active.active-index _ _ _ _ c.loop-active-test.true c.in_ok-put_if_ended.ensures c.loop-active.invariant

pub returns : goal.returns
returns c = put_each (ended c.args.are.now) c.args.were.now c.loop-active.active-index _ _ c.loop-active-test.false c.loop-active.invariant
