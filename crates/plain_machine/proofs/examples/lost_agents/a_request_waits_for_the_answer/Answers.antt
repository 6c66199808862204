use Rattle.std.proofs.Common.{refl}
use Rattle.plain_machine.proofs.Computing.{on_examples}
use Rattle.plain_machine.proofs.examples.lost_agents.a_request_waits_for_the_answer.Goals as goal

-- all computed at once

pub returns : goal.returns
unfolding on_examples
returns c = record {
  waits = refl;
  state = refl;
  renewed = refl;
  in_flight = refl;
  before_giving_up = refl;
  nothing_quarantined = refl;
}
