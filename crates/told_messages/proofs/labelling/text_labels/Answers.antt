use Rattle.std.proofs.Common.{◌∙◌, ap}
use Rattle.told_messages.specs.Labelling.{text_label}
use Rattle.told_messages.proofs.PuttingLemmas.{label_one, label_each}
use Rattle.told_messages.proofs.labelling.text_labels.Goals as goal

pub loop-outcome-preserved : goal.loop-outcome-preserved
loop-outcome-preserved c =
    label_one text_label c.args.outcomes.now c.loop-outcome.outcome-index _ _ _ _ _ c.loop-outcome-test.true
    (c.text_label.ensures ∙ ap text_label c.outcome-item.is) c.in_ok-push.ensures.items c.loop-outcome.invariant

pub returns : goal.returns
returns c = label_each text_label c.args.outcomes.now c.loop-outcome.outcome-index _ _ c.loop-outcome-test.false c.loop-outcome.invariant
