use Rattle.std.proofs.Common.{refl}
use Rattle.plain_machine.proofs.Computing.{on_examples}
use Rattle.plain_machine.proofs.examples.calls.a_request_comes_with_connections.Goals as goal

-- all computed at once

pub returns : goal.returns
unfolding on_examples
returns c = record {
  done = refl;
  answer = refl;
  refused = refl;
  undone = refl;
  encoding = refl;
  first = refl;
  deletion = refl;
  entity = refl;
}
