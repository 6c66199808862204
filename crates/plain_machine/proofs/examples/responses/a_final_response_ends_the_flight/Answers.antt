use Rattle.std.proofs.Common.{refl}
use Rattle.plain_machine.proofs.Computing.{on_examples}
use Rattle.plain_machine.proofs.examples.responses.a_final_response_ends_the_flight.Goals as goal

-- all computed at once

pub returns : goal.returns
unfolding on_examples
returns c = record {
  flight = refl;
  state = refl;
  nothing_after = refl;
  after_repeats = refl;
  greatest_code = refl;
  error = refl;
  from_elsewhere = refl;
  twice = refl;
  others = refl;
  no_history = refl;
  clock = refl;
}
