use Rattle.std.proofs.Common.{◌≡◌, ◌++◌, drop, map}
use Rattle.told_messages.specs.Labelling.{text_label}
use Rattle.told_messages.proofs.labelling.text_labels.Given as goal

abbrev pub invariant-loop-outcome : goal.invariant-loop-outcome
invariant-loop-outcome l = l.labels.items ++ map text_label (drop l.outcome-index l.outcomes) ≡ map text_label l.outcomes
