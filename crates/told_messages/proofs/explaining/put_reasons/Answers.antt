use Rattle.told_messages.specs.Explaining.{reason_text}
use Rattle.told_messages.proofs.PuttingLemmas.{put_each}
use Rattle.told_messages.proofs.explaining.put_reasons.Goals as goal

pub returns : goal.returns
returns c =
    put_each (reason_text c.args.stamp) c.args.outcomes.now c.loop-outcome.outcome-index _ _ c.loop-outcome-test.false c.loop-outcome.invariant
