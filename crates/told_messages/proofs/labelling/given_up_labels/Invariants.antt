use Rattle.std.proofs.Common.{◌≡◌, ◌++◌, drop, map}
use Rattle.told_messages.specs.Labelling.{given_up_label}
use Rattle.told_messages.proofs.labelling.given_up_labels.Given as goal

abbrev pub invariant-loop-command : goal.invariant-loop-command
invariant-loop-command l = l.labels.items ++ map given_up_label (drop l.command-index l.given_up) ≡ map given_up_label l.given_up
