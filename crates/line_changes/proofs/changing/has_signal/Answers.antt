use Rattle.packages.specs.Looking.{is_same_signal}
use Rattle.events_and_signals.specs.declared.active.ActiveSignal.{ActiveSignal}
use Rattle.line_changes.proofs.PuttingLemmas.{is_there, is_not_here, is_nowhere}
use Rattle.line_changes.proofs.changing.has_signal.Goals as goal

pub returns-then-is_of : goal.returns-then-is_of
returns-then-is_of c =
    is_there (λ (other : ActiveSignal). is_same_signal other.signal c.args.signal) c.args.list.now c.loop-other.other-index _ _ _ c.loop-other-test.true c.is_of.ensures c.if-is_of.true c.loop-other.invariant

pub loop-other-preserved : goal.loop-other-preserved
loop-other-preserved c =
    is_not_here (λ (other : ActiveSignal). is_same_signal other.signal c.args.signal) c.args.list.now c.loop-other.other-index _ _ _ c.loop-other-test.true c.is_of.ensures c.if-is_of.false c.loop-other.invariant

pub returns : goal.returns
returns c = is_nowhere (λ (other : ActiveSignal). is_same_signal other.signal c.args.signal) c.args.list.now c.loop-other.other-index _ c.loop-other-test.false c.loop-other.invariant
