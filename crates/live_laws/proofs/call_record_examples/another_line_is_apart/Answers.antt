use Rattle.std.proofs.Common.{◌≡◌, ℕ, true, Option, None, Some, refl, sym, ap, ◌∙◌, arith}
use Rattle.std.specs.Option.{unwrap_or}
use Rattle.call_processing.specs.Exchange.{phase_of}
use Rattle.call_processing.specs.Phases.{named_by}
use Rattle.call_processing.specs.declared.command.Command.{Command}
use Rattle.call_processing.specs.declared.command.Command.TheVariants.{Create}
use Rattle.live_laws.specs.CallExample.{ready, ring, then_is}
use Rattle.live_laws.proofs.Computing.{on_examples}
use Rattle.live_laws.proofs.call_record_examples.another_line_is_apart.Goals as goal

pub returns-clause-itself : goal.returns-clause-itself
unfolding on_examples
returns-clause-itself c = λ is. is.itself refl

pub returns-clause-then : goal.returns-clause-then
unfolding on_examples
returns-clause-then c = λ is. is.then_is refl

pub returns-clause-before : goal.returns-clause-before
unfolding on_examples
returns-clause-before c = λ is. is.was refl

named_then : named_by (phase_of (then_is ring) 0) ≡ Some 1
unfolding on_examples
named_then = refl

named_at_first : named_by (phase_of ready 0) ≡ None
unfolding on_examples
named_at_first = refl

one_and_two : ◌≡◌ {A = Option ℕ} (Some 1) (Some 2) → ⊥
one_and_two same =
    (let clash : ◌≡◌ {A = ℕ} 1 2 = ap (λ (o : Option ℕ). unwrap_or o 0) same in
    absurd (omega (arith, clash)))

none_and_two : ◌≡◌ {A = Option ℕ} None (Some 2) → ⊥
none_and_two same = (let clash : ◌≡◌ {A = Option ℕ} None (Some 2) = same in cc)

pub returns-clause-third : goal.returns-clause-third
returns-clause-third c = record {
  itself = λ same. absurd (omega (arith, same));
  was = λ same. one_and_two (sym named_then ∙ same);
  then_is = λ same. none_and_two (sym named_at_first ∙ same);
}

pub returns-clause-owed : goal.returns-clause-owed
unfolding on_examples
returns-clause-owed c = λ is. (let clash : ◌≡◌ {A = Option Command} (Some (Create 1 true)) None = is.owed in cc)
