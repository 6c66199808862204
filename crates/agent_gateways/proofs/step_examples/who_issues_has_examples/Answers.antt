use Rattle.std.proofs.Common.{◌≡◌, Option, Result, Err, refl, subst}
use Rattle.call_agent.specs.declared.issuing.Issued.{Issued}
use Rattle.call_agent.specs.declared.issuing.IssueFault.{IssueFault}
use Rattle.call_agent.specs.declared.issuing.IssueFault.TheVariants as faults
use Rattle.call_agent.specs.Issuing.{IssueRefusal}
use Rattle.agent_gateways.specs.Issuing.{FailsBy}
use Rattle.agent_gateways.specs.TypedCommands.{typed_fault}
use Rattle.agent_gateways.specs.declared.typed.TypedFault.TheVariants.{Unknown}
use Rattle.agent_gateways.proofs.IssueLemmas.{for_memory}
use Rattle.agent_gateways.proofs.step_examples.who_issues_has_examples.Goals as goal

-- nothing is issued, for this
abbrev not_issued : IssueFault → Result Issued IssueFault
not_issued fault = Err fault

-- no reason of an agent's is that a text is no command at all
no_reason : (reason : IssueFault) → Unknown ≡ typed_fault reason → ⊥
no_reason faults.OutOfMemory same = absurd cc
no_reason faults.NoMoreIds same = absurd cc
no_reason faults.BadCommand same = absurd cc

pub returns-clause-at_place : goal.returns-clause-at_place
returns-clause-at_place c = λ one two three. (refl, refl)

pub returns-clause-gone : goal.returns-clause-gone
returns-clause-gone c = λ one two gone. gone

pub returns-clause-by_its_gateway : goal.returns-clause-by_its_gateway
returns-clause-by_its_gateway c = λ order fault was is issues. issues

pub returns-clause-not_there : goal.returns-clause-not_there
returns-clause-not_there c = λ order fault was gone. gone

pub returns-clause-bad : goal.returns-clause-bad
returns-clause-bad c = λ order is. refl

pub returns-clause-not_for_ids : goal.returns-clause-not_for_ids
returns-clause-not_for_ids c = λ order is refused.
    let bad : not_issued faults.NoMoreIds ≡ not_issued faults.BadCommand = refused in absurd cc

pub returns-clause-for_memory : goal.returns-clause-for_memory
returns-clause-for_memory c = λ gateway events stands. for_memory _

pub returns-clause-without_reason : goal.returns-clause-without_reason
returns-clause-without_reason c = λ gateway events stands none fails.
    let only : faults.NoMoreIds ≡ faults.OutOfMemory
    = subst (λ (refusal : Option IssueRefusal). FailsBy refusal faults.NoMoreIds) none (fails events stands) in absurd cc

pub returns-clause-before : goal.returns-clause-before
returns-clause-before c = λ gateways. (refl, refl)

pub returns-clause-before_all : goal.returns-clause-before_all
returns-clause-before_all c = λ were are before. before.1

pub returns-clause-not_before : goal.returns-clause-not_before
returns-clause-not_before c = λ were are before.
    let only : faults.NoMoreIds ≡ faults.OutOfMemory = before.0 in absurd cc

pub returns-clause-of_agent : goal.returns-clause-of_agent
returns-clause-of_agent c = λ gateway. (faults.OutOfMemory, refl, λ events stands. for_memory _)

pub returns-clause-not_of_agent : goal.returns-clause-not_of_agent
returns-clause-not_of_agent c = λ gateway agent. no_reason agent.0 agent.1

pub returns-clause-named : goal.returns-clause-named
returns-clause-named c = λ issued was is named. named.0

pub returns-clause-to_no_line : goal.returns-clause-to_no_line
returns-clause-to_no_line c = λ issued was is named. named.1

pub returns-clause-not_named : goal.returns-clause-not_named
returns-clause-not_named c = λ fault was is named. named.2
