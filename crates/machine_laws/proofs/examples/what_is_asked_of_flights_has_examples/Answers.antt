use Rattle.std.proofs.Common.{◌≡◌, inl, refl, arith}
use Rattle.retransmission.specs.declared.reply.Reply.TheVariants.{Answered, Provisional, Stranger}
use Rattle.machine_laws.proofs.IsolationComputing.{on_examples}
use Rattle.machine_laws.proofs.examples.what_is_asked_of_flights_has_examples.Goals as goal

pub returns : goal.returns
unfolding on_examples
returns c = record {
  waits = (refl, refl);
  flies = refl;
  other_id = λ is. (let clash : Stranger ≡ Answered = is in cc);
  own_flies = refl;
  provisional = λ is. (let clash : Provisional ≡ Answered = is in cc);
  below = omega arith;
  own_id = omega arith;
  later = omega arith;
  within = omega arith;
  began = record { place = 5; since = omega arith; few = omega arith; behind = inl refl };
  again = record { place = 5; since = omega arith; few = omega arith; behind = inl refl };
}
