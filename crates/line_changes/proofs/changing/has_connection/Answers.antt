use Rattle.line_changes.specs.Changes.{is_same_connection}
use Rattle.line_changes.specs.declared.seen.SeenConnection.{SeenConnection}
use Rattle.line_changes.proofs.PuttingLemmas.{is_there, is_not_here, is_nowhere}
use Rattle.line_changes.proofs.changing.has_connection.Goals as goal

pub returns-then-is_same_connection : goal.returns-then-is_same_connection
returns-then-is_same_connection c =
    is_there (λ (other : SeenConnection). is_same_connection other c.args.connection) c.args.list.now c.loop-other.other-index _ _ _ c.loop-other-test.true c.is_same_connection.ensures c.if-is_same_connection.true c.loop-other.invariant

pub loop-other-preserved : goal.loop-other-preserved
loop-other-preserved c =
    is_not_here (λ (other : SeenConnection). is_same_connection other c.args.connection) c.args.list.now c.loop-other.other-index _ _ _ c.loop-other-test.true c.is_same_connection.ensures c.if-is_same_connection.false c.loop-other.invariant

pub returns : goal.returns
returns c = is_nowhere (λ (other : SeenConnection). is_same_connection other c.args.connection) c.args.list.now c.loop-other.other-index _ c.loop-other-test.false c.loop-other.invariant
