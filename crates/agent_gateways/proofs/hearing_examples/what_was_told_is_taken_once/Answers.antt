use Rattle.std.proofs.Common.{ℕ, [], ◌∷◌, length, drop, ◌==◌, refl, sym, ap, subst}
use Rattle.std.specs.Prelude.{not, true}
use Rattle.agent_gateways.specs.Taking.{HearsIf}
use Rattle.agent_gateways.proofs.hearing_examples.what_was_told_is_taken_once.Goals as goal

pub returns-clause-told : goal.returns-clause-told
returns-clause-told c = λ gateway station after one two was is observed taken hears after_is. (
  one ∷ two ∷ [],
  observed,
  sym (ap (λ (count : ℕ). not (length (drop count (one ∷ two ∷ [])) == 0)) taken),
  subst (λ (count : ℕ). HearsIf true [] 3 (drop count (one ∷ two ∷ [])) was is) (sym taken) hears,
  after_is,
)

pub returns-clause-not_again : goal.returns-clause-not_again
returns-clause-not_again c = λ gateway station one office observed taken. (
  one ∷ [],
  observed,
  sym (ap (λ (count : ℕ). not (length (drop count (one ∷ [])) == 0)) taken),
  refl,
  refl,
)

pub returns-clause-nothing : goal.returns-clause-nothing
returns-clause-nothing c = λ gateway station after was is takes. (takes.3, takes.4)
