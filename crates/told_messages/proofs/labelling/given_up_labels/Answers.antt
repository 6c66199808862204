use Rattle.std.proofs.Common.{◌∙◌, ap}
use Rattle.told_messages.specs.Labelling.{given_up_label}
use Rattle.told_messages.proofs.PuttingLemmas.{label_one, label_each}
use Rattle.told_messages.proofs.labelling.given_up_labels.Goals as goal

pub loop-command-preserved : goal.loop-command-preserved
loop-command-preserved c =
    label_one given_up_label c.args.given_up.now c.loop-command.command-index _ _ _ _ _ c.loop-command-test.true
    (c.given_up_label.ensures ∙ ap given_up_label c.command-item.is) c.in_ok-push.ensures.items c.loop-command.invariant

pub returns : goal.returns
returns c = label_each given_up_label c.args.given_up.now c.loop-command.command-index _ _ c.loop-command-test.false c.loop-command.invariant
