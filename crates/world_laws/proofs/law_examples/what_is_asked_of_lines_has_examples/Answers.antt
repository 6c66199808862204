use Rattle.std.proofs.Common.{◌≡◌, List, length, refl, ap, arith}
use Rattle.packages.specs.declared.handling.Notifying.TheVariants.{Loop, Step}
use Rattle.packages.specs.declared.observed.Observed.{Observed}
use Rattle.world_laws.proofs.AskingLemmas.{notifies_each}
use Rattle.world_laws.proofs.Computing.{on_examples}
use Rattle.world_laws.proofs.law_examples.what_is_asked_of_lines_has_examples.Goals as goal

pub returns : goal.returns
unfolding on_examples
returns c = record {
  line = refl;
  told_once = refl;
  collected = λ is. absurd (let less : 2 ≡ 1 = ap (λ (events : List Observed). length events) is in omega (arith, less));
  line_in_step = refl;
  in_step = (refl, (refl, tt));
  in_loop = λ is. (let clash : Loop ≡ Step = is.0 in cc);
  once = (refl, (refl, tt));
  two = refl;
  keeps = record { asked = notifies_each _ refl refl; untimed = refl; accumulated = refl; of_phone = tt; normal = λ is. refl };
  none_lost = refl;
  asks = record { requested = notifies_each _ refl refl; quarantined = refl };
  due = refl;
  untouched = record { untimed = refl; accumulated = refl; quarantined = refl };
  due_untouched = refl;
  rests = record { step = refl; waits = tt; renewed = refl };
}
