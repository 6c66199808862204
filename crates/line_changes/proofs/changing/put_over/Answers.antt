use Rattle.line_changes.specs.Changes.{over}
use Rattle.line_changes.proofs.PuttingLemmas.{put_one, put_each}
use Rattle.line_changes.proofs.changing.put_over.Goals as goal

pub loop-connection-preserved : goal.loop-connection-preserved
loop-connection-preserved c =
    put_one (over c.args.are.now) c.args.were.now c.loop-connection.connection-index _ _ _ _ c.loop-connection-test.true c.in_ok-put_if_over.ensures c.loop-connection.invariant

pub returns : goal.returns
returns c = put_each (over c.args.are.now) c.args.were.now c.loop-connection.connection-index _ _ c.loop-connection-test.false c.loop-connection.invariant
