use Rattle.std.proofs.Common.{◌≡◌, ⊎_elim}
use Rattle.call_agent.specs.declared.issuing.IssueFault.TheVariants.{OutOfMemory, NoMoreIds, BadCommand}
use Rattle.agent_gateways.proofs.step_examples.what_a_typed_command_means_has_examples.Goals as goal

pub returns-clause-only_memory : goal.returns-clause-only_memory
returns-clause-only_memory c = λ fails. absurd cc

pub returns-clause-not_bad : goal.returns-clause-not_bad
returns-clause-not_bad c = λ fails.
    ⊎_elim (λ (e : BadCommand ≡ NoMoreIds). absurd cc) (λ (e : BadCommand ≡ OutOfMemory). absurd cc) fails

pub returns-clause-ids_left : goal.returns-clause-ids_left
returns-clause-ids_left c = λ fails.
    ⊎_elim (λ (e : NoMoreIds ≡ BadCommand). absurd cc) (λ (e : NoMoreIds ≡ OutOfMemory). absurd cc) fails
