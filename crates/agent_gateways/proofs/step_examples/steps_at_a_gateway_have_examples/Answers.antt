use Rattle.std.proofs.Common.{[], ◌∷◌, refl, sym, ◌∙◌}
use Rattle.agent_gateways.specs.Example.{wake_at}
use Rattle.agent_gateways.proofs.StepExampleLemmas.{behind_so}
use Rattle.agent_gateways.proofs.step_examples.steps_at_a_gateway_have_examples.Goals as goal

pub returns-clause-woken : goal.returns-clause-woken
returns-clause-woken c = λ was is clock wakes later left.
    (later ∙ sym clock, left ∙ sym (behind_so was 700 (wake_at 700 0 ∷ wake_at 900 1 ∷ []) clock wakes))

pub returns-clause-none_woken : goal.returns-clause-none_woken
returns-clause-none_woken c = λ was wakes. (refl, wakes ∙ sym (behind_so was was.ticked [] refl wakes))
