use Rattle.line_changes.specs.Changes.{is_same_active}
use Rattle.events_and_signals.specs.declared.active.ActiveSignal.{ActiveSignal}
use Rattle.line_changes.proofs.PuttingLemmas.{is_there, is_not_here, is_nowhere}
use Rattle.line_changes.proofs.changing.has_active.Goals as goal

pub returns-then-is_same_active : goal.returns-then-is_same_active
returns-then-is_same_active c =
    is_there (λ (other : ActiveSignal). is_same_active other c.args.active) c.args.list.now c.loop-other.other-index _ _ _ c.loop-other-test.true c.is_same_active.ensures c.if-is_same_active.true c.loop-other.invariant

pub loop-other-preserved : goal.loop-other-preserved
loop-other-preserved c =
    is_not_here (λ (other : ActiveSignal). is_same_active other c.args.active) c.args.list.now c.loop-other.other-index _ _ _ c.loop-other-test.true c.is_same_active.ensures c.if-is_same_active.false c.loop-other.invariant

pub returns : goal.returns
returns c = is_nowhere (λ (other : ActiveSignal). is_same_active other c.args.active) c.args.list.now c.loop-other.other-index _ c.loop-other-test.false c.loop-other.invariant
