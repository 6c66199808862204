use Rattle.std.proofs.Common.{[], ◌∷◌, inl, inr, refl}
use Rattle.line_control.specs.Duties.{begun, lost, new_care, outlived}
use Rattle.line_control.specs.Example.{deleted_later, deleted_now}
use Rattle.agent_gateways.specs.Example.{wake_at}
use Rattle.agent_gateways.proofs.Computing.{on_examples}
use Rattle.agent_gateways.proofs.StepExampleLemmas.{answers_so}
use Rattle.agent_gateways.proofs.step_examples.what_an_answer_does_has_examples.Goals as goal

pub returns-clause-put_off : goal.returns-clause-put_off
unfolding on_examples
returns-clause-put_off c = λ gateway after was is clock cares wakes same kept held.
    answers_so 0 500 400 [] gateway after was is (begun new_care ∷ []) (deleted_later ∷ []) (wake_at 700 1 ∷ []) (wake_at 700 1 ∷ wake_at 1500 0 ∷ [])
    clock cares wakes same kept held (deleted_later ∷ [], (refl, refl), inl (refl, refl))

pub returns-clause-refused : goal.returns-clause-refused
unfolding on_examples
returns-clause-refused c = λ gateway after was is clock cares wakes same kept held.
    answers_so 0 500 400 [] gateway after was is (begun new_care ∷ []) (deleted_now ∷ []) (wake_at 700 1 ∷ []) (wake_at 700 1 ∷ [])
    clock cares wakes same kept held (deleted_later ∷ [], (refl, refl), inr (refl, refl))

pub returns-clause-outlived : goal.returns-clause-outlived
unfolding on_examples
returns-clause-outlived c = λ gateway after was is clock cares wakes same kept held.
    answers_so 0 500 400 [] gateway after was is (outlived (begun new_care) ∷ []) (lost (outlived (begun new_care)) ∷ []) [] []
    clock cares wakes same kept held (lost (outlived (begun new_care)) ∷ [], (refl, refl), (refl, refl))
