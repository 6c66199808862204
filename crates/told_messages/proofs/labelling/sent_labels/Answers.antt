use Rattle.std.proofs.Common.{◌∙◌, ap}
use Rattle.told_messages.specs.Labelling.{sent_label}
use Rattle.told_messages.proofs.PuttingLemmas.{label_one, label_each}
use Rattle.told_messages.proofs.labelling.sent_labels.Goals as goal

pub loop-message-preserved : goal.loop-message-preserved
loop-message-preserved c =
    label_one sent_label c.args.messages.now c.loop-message.message-index _ _ _ _ _ c.loop-message-test.true
    (c.sent_label.ensures ∙ ap sent_label c.message-item.is) c.in_ok-push.ensures.items c.loop-message.invariant

pub returns : goal.returns
returns c = label_each sent_label c.args.messages.now c.loop-message.message-index _ _ c.loop-message-test.false c.loop-message.invariant
