use Rattle.line_changes.specs.Changes.{begun}
use Rattle.line_changes.proofs.PuttingLemmas.{put_one, put_each}
use Rattle.line_changes.proofs.changing.put_begun.Goals as goal

pub loop-active-preserved : goal.loop-active-preserved
loop-active-preserved c =
    put_one (begun c.args.were.now) c.args.are.now c.loop-active.active-index _ _ _ _ c.loop-active-test.true c.in_ok-put_if_begun.ensures c.loop-active.invariant

pub returns : goal.returns
returns c = put_each (begun c.args.were.now) c.args.are.now c.loop-active.active-index _ _ c.loop-active-test.false c.loop-active.invariant
