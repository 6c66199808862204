use Rattle.std.proofs.Common.{◌==◌}
use Rattle.line_changes.specs.declared.seen.SeenConnection.{SeenConnection}
use Rattle.line_changes.proofs.PuttingLemmas.{is_there, is_not_here, is_nowhere}
use Rattle.line_changes.proofs.changing.has_number.Goals as goal

pub returns-then-is_numbered : goal.returns-then-is_numbered
returns-then-is_numbered c =
    is_there (λ (other : SeenConnection). other.number == c.args.number) c.args.list.now c.loop-other.other-index _ _ _ c.loop-other-test.true c.is_numbered.ensures c.if-is_numbered.true c.loop-other.invariant

pub loop-other-preserved : goal.loop-other-preserved
loop-other-preserved c =
    is_not_here (λ (other : SeenConnection). other.number == c.args.number) c.args.list.now c.loop-other.other-index _ _ _ c.loop-other-test.true c.is_numbered.ensures c.if-is_numbered.false c.loop-other.invariant

pub returns : goal.returns
returns c = is_nowhere (λ (other : SeenConnection). other.number == c.args.number) c.args.list.now c.loop-other.other-index _ c.loop-other-test.false c.loop-other.invariant
