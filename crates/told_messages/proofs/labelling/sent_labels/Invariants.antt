use Rattle.std.proofs.Common.{◌≡◌, ◌++◌, drop, map}
use Rattle.told_messages.specs.Labelling.{sent_label}
use Rattle.told_messages.proofs.labelling.sent_labels.Given as goal

abbrev pub invariant-loop-message : goal.invariant-loop-message
invariant-loop-message l = l.labels.items ++ map sent_label (drop l.message-index l.messages) ≡ map sent_label l.messages
