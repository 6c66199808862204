use Rattle.std.proofs.Common.{refl}
use Rattle.plain_machine.proofs.Computing.{on_examples}
use Rattle.plain_machine.proofs.examples.active_signals.an_entity_is_set_by_a_request.Goals as goal

-- all computed at once

pub returns : goal.returns
unfolding on_examples
returns c = record {
  given = refl;
  stays = refl;
  other = refl;
  refused = refl;
}
