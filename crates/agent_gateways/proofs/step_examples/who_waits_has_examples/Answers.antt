use Rattle.std.proofs.Common.{◌≡◌, Bool, true, false, List, ℕ, [], ◌∷◌, refl, sym, ap, ◌∙◌, true≢false}
use Rattle.line_control.specs.Waiting.{waits}
use Rattle.agent_gateways.proofs.step_examples.who_waits_has_examples.Goals as goal

among : (is_all : Bool) → waits (3 ∷ []) is_all 3 ≡ true
among true = refl
among false = refl

pub returns-clause-among : goal.returns-clause-among
returns-clause-among c = λ office some.
    ap (λ (places : List ℕ). waits places office.value.worklist.is_all 3) some ∙ among office.value.worklist.is_all

pub returns-clause-nobody : goal.returns-clause-nobody
returns-clause-nobody c = λ office none not_all so.
    true≢false (sym so ∙ ap (λ (places : List ℕ). waits places office.value.worklist.is_all 3) none ∙ ap (λ (all : Bool). waits [] all 3) not_all)
