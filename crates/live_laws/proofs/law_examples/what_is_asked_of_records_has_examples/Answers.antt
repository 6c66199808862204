use Rattle.std.proofs.Common.{refl}
use Rattle.live_laws.proofs.Computing.{on_examples}
use Rattle.live_laws.proofs.law_examples.what_is_asked_of_records_has_examples.Goals as goal

-- all computed at once

pub returns : goal.returns
unfolding on_examples
returns c = record {
  asks = refl;
  asked = refl;
  creates = refl;
  bare = refl;
  request = refl;
  unsuccessful = refl;
  request_then = refl;
  wanted = refl;
  deletion = refl;
  not_deleted = refl;
  creation = refl;
  change = refl;
}
