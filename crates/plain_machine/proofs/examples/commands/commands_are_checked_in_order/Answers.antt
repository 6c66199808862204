use Rattle.std.proofs.Common.{refl}
use Rattle.plain_machine.proofs.Computing.{on_examples}
use Rattle.plain_machine.proofs.examples.commands.commands_are_checked_in_order.Goals as goal

-- all computed at once

pub returns : goal.returns
unfolding on_examples
returns c = record {
  verb = refl;
  other_verb = refl;
  verb_and_wildcard = refl;
  any = refl;
  all = refl;
  complicated = refl;
  critical = refl;
  «package» = refl;
  ignored = refl;
  ignored_before_items = refl;
  ignored_sign = refl;
  foreign = refl;
  twice = refl;
  unreadable = refl;
  lines_before_values = refl;
  description = refl;
  confirming = refl;
}
