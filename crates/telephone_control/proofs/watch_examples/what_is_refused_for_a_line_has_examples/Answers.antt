use Rattle.std.proofs.Common.{◌≡◌, ◌⊎◌, ℕ, zero, suc, [], take, Some, inl, inr, sym, ap, ◌∙◌}
use Rattle.std.specs.Option.{unwrap_or}
use Rattle.line_changes.specs.Example.{resting, lifted}
use Rattle.line_changes.specs.Telling.{Told, with_changes}
use Rattle.telephone_control.specs.Watching.{changes_behind}
use Rattle.telephone_control.proofs.Computing.{on_examples}
use Rattle.telephone_control.proofs.watch_examples.what_is_refused_for_a_line_has_examples.Goals as goal

pub returns-clause-seen : goal.returns-clause-seen
returns-clause-seen c = λ was is refuses. refuses.kept

-- of one change none is told, or that one
one_or_none : (count number : ℕ) → number ≡ (with_changes 0 1 (record { number = 7; text = [] }) (take count (changes_behind (Some lifted) resting))).number
    → (number ≡ 7) ⊎ (number ≡ 8)
unfolding on_examples
one_or_none zero number is = inl is
one_or_none (suc zero) number is = inr is
one_or_none (suc (suc count)) number is = inr is

-- of no change none is
none_told : (count number : ℕ) → number ≡ (with_changes 0 1 (record { number = 7; text = [] }) (take count (changes_behind (Some resting) resting))).number
    → number ≡ 7
unfolding on_examples
none_told zero number is = is
none_told (suc count) number is = is

pub returns-clause-numbers : goal.returns-clause-numbers
unfolding on_examples
returns-clause-numbers c = λ was is items told refuses. elim refuses.number [
  | inl same ↦ inl (same ∙ ap (λ (t : Told). t.number) told)
  | inr some ↦
      let seen : some.0 ≡ resting = ap (λ o. unwrap_or o resting) (sym some.2) in
      one_or_none some.1 is.told.number (rw (seen, items, told) at some.3)
]

pub returns-clause-unchanged : goal.returns-clause-unchanged
unfolding on_examples
returns-clause-unchanged c = λ was is items told refuses. elim refuses.number [
  | inl same ↦ same ∙ ap (λ (t : Told). t.number) told
  | inr some ↦
      let seen : some.0 ≡ resting = ap (λ o. unwrap_or o resting) (sym some.2) in
      none_told some.1 is.told.number (rw (seen, items, told) at some.3)
]
