use Rattle.std.proofs.Common.{◌≡◌, ℕ, ◌+◌, false, true, inl, inr, refl, arith}
use Rattle.std.specs.Prelude.{◌⊎◌}
use Rattle.live_laws.proofs.Computing.{on_examples}
use Rattle.live_laws.proofs.call_record_examples.what_is_put_off_is_one_more.Goals as goal

neither : (before now : ℕ) → (now ≡ before → ⊥) → (now ≡ before) ⊎ (true ≡ false) → ⊥
neither before now not (inl is) = not is
neither before now not (inr is) = (let clash : true ≡ false = is in cc)

pub returns : goal.returns
unfolding on_examples
returns c = record {
  first = inl refl;
  second = λ is. neither 1 2 (λ same. absurd (omega (arith, same))) is;
  not_put_off = λ is. neither 1 0 (λ same. absurd (omega (arith, same))) is;
  otherwise = inr refl;
}
