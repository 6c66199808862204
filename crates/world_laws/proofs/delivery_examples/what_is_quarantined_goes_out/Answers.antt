use Rattle.std.proofs.Common.{[], ◌∷◌, ◌++◌, refl, arith}
use Rattle.plain_machine.specs.Event.{tick}
use Rattle.plain_machine.specs.Example.{ready, response, two_lines}
use Rattle.world_laws.specs.DeliveryExample.{freed, held, in_step}
use Rattle.world_laws.proofs.Computing.{on_examples}
use Rattle.world_laws.proofs.FrontLemmas.{answered_within, asked_within, not_answered}
use Rattle.world_laws.proofs.delivery_examples.what_is_quarantined_goes_out.Goals as goal

pub returns : goal.returns
unfolding on_examples
returns c = record {
  held = refl;
  unasked = refl;
  unanswered = refl;
  round = refl;
  other_order = refl;
  out = refl;
  answered_in_time = answered_within two_lines 1 (ready ++ held) freed 0 refl;
  asked_in_time = asked_within two_lines 1 (ready ++ held) freed 0 refl;
  begins = refl;
  ends = refl;
  not_answered = not_answered two_lines 1 (ready ++ held) (in_step 8 ∷ tick 1001 ∷ []) (in_step 8 ∷ tick 1001 ∷ []) [] 0 refl refl;
  not_serving = not_answered two_lines 1 [] [] [] [] 1000 refl refl;
  not_asked = λ asked. asked (response 200 10000000 ∷ []) (tick 1500 ∷ []) [] _ refl refl refl (omega arith) refl;
  most = refl;
  of_telephone = refl;
}
