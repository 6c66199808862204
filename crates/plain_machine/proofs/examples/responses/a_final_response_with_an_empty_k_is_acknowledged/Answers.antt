use Rattle.std.proofs.Common.{refl}
use Rattle.plain_machine.proofs.Computing.{on_examples}
use Rattle.plain_machine.proofs.examples.responses.a_final_response_with_an_empty_k_is_acknowledged.Goals as goal

-- all computed at once

pub returns : goal.returns
unfolding on_examples
returns c = record {
  both = refl;
  answered = refl;
  source = refl;
  not_in_flight = refl;
  no_line = refl;
  least_code = refl;
  greatest_code = refl;
  provisional = refl;
  an_acknowledgement = refl;
  absent = refl;
  an_item = refl;
  unreadable = refl;
  first_k = refl;
  second_k = refl;
  empty = refl;
}
