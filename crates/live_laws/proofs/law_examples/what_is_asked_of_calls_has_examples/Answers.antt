use Rattle.std.proofs.Common.{◌≡◌, ◌<◌, ℕ, Option, Some, refl, ap, arith}
use Rattle.std.specs.Option.{unwrap_or}
use Rattle.std.proofs.lemmas.Bool.{leb-true}
use Rattle.live_laws.proofs.Computing.{on_examples}
use Rattle.live_laws.proofs.law_examples.what_is_asked_of_calls_has_examples.Goals as goal

-- another line is named than line 2, or none
not_line_2 : (named : Option ℕ) → unwrap_or named 0 < 2 → named ≡ Some 2 → ⊥
not_line_2 named less two = absurd (let same : unwrap_or named 0 ≡ 2 = ap (λ (o : Option ℕ). unwrap_or o 0) two in omega (arith, less, same))

pub returns : goal.returns
unfolding on_examples
returns c = record {
  in_call = refl;
  rests = refl;
  quiet = refl;
  three = leb-true _ _ refl;
  none_put_off = refl;
  rests_then = refl;
  none_flies = refl;
  none_due = refl;
  flies = refl;
  called = refl;
  creates = refl;
  describes = refl;
  asks_nothing = refl;
  waits = refl;
  talks = refl;
  first_done = refl;
  first_none = refl;
  second_done = refl;
  second_none = refl;
  apart = record { itself = λ is. absurd (omega (arith, is)); was = λ is. absurd (not_line_2 _ (omega arith) is); then_is = λ is. absurd (not_line_2 _ (omega arith) is) };
  apart_too = record { itself = λ is. absurd (omega (arith, is)); was = λ is. absurd (not_line_2 _ (omega arith) is); then_is = λ is. absurd (not_line_2 _ (omega arith) is) };
}
