use Rattle.std.proofs.Common.{◌≡◌, true, false, refl}
use Rattle.world_laws.proofs.Computing.{on_examples}
use Rattle.world_laws.proofs.dialled_examples.a_line_in_step_notifies_once.Goals as goal

pub returns : goal.returns
unfolding on_examples
returns c = record {
  step = refl;
  once = (refl, tt);
  in_loop = λ once. (let clash : true ≡ false = once.1.0 in cc);
  notified = λ once. (let clash : true ≡ false = once.0 in cc);
}
