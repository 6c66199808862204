use Rattle.std.proofs.Common.{refl}
use Rattle.outage_laws.proofs.Computing.{on_examples}
use Rattle.outage_laws.proofs.life_examples.numbers_that_begin_otherwise_are_heard.Goals as goal

-- all computed at once

pub returns : goal.returns
unfolding on_examples
returns c = record {
  taken = refl;
  firsts = refl;
  told = refl;
  texts = refl;
  owners = refl;
  began = refl;
  moments = refl;
}
