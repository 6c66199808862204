use Rattle.std.proofs.Common.{refl}
use Rattle.plain_machine.proofs.Computing.{on_examples}
use Rattle.plain_machine.proofs.examples.several_addresses.messages_go_to_the_addresses_in_turn.Goals as goal

-- all computed at once

pub returns : goal.returns
unfolding on_examples
returns c = record {
  two = refl;
  three = refl;
  four = refl;
  next = refl;
}
