use Rattle.std.proofs.Common.{◌≡◌, false, true, refl}
use Rattle.live_laws.proofs.Computing.{on_examples}
use Rattle.live_laws.proofs.call_record_examples.a_line_is_connected_with_a_description.Goals as goal

pub returns : goal.returns
unfolding on_examples
returns c = record {
  connected = (refl, refl);
  not_joined = λ is. (let clash : false ≡ true = is.1 in cc);
  another_call = λ is. (let clash : false ≡ true = is.0 in cc);
  unknown = λ is. (let clash : false ≡ true = is.0 in cc);
}
