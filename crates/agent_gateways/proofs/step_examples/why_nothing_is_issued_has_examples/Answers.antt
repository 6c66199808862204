use Rattle.std.proofs.Common.{◌≡◌, Option, Result, Err, ⊎_elim, inr, refl, subst}
use Rattle.call_agent.specs.declared.issuing.Issued.{Issued}
use Rattle.call_agent.specs.declared.issuing.IssueFault.{IssueFault}
use Rattle.call_agent.specs.declared.issuing.IssueFault.TheVariants.{OutOfMemory, NoMoreIds, BadCommand}
use Rattle.call_agent.specs.Issuing.{IssueRefusal}
use Rattle.agent_gateways.specs.Issuing.{FailsBy, RefusedBefore}
use Rattle.agent_gateways.proofs.step_examples.why_nothing_is_issued_has_examples.Goals as goal

-- nothing is issued, for this
abbrev not_issued : IssueFault → Result Issued IssueFault
not_issued fault = Err fault

pub returns-clause-without_reason : goal.returns-clause-without_reason
returns-clause-without_reason c = λ order was is events stands none refused.
    let only : BadCommand ≡ OutOfMemory
    = subst (λ (refusal : Option IssueRefusal). FailsBy refusal BadCommand) none (refused.0 events stands) in absurd cc

pub returns-clause-ids_are_left : goal.returns-clause-ids_are_left
returns-clause-ids_are_left c = λ order was is events stands bad refused.
    ⊎_elim (λ (e : NoMoreIds ≡ BadCommand). absurd cc) (λ (e : NoMoreIds ≡ OutOfMemory). absurd cc)
    (subst (λ (refusal : Option IssueRefusal). FailsBy refusal NoMoreIds) bad (refused.0 events stands))

pub returns-clause-stays : goal.returns-clause-stays
returns-clause-stays c = λ order fault was is refused. refused.1

pub returns-clause-none_flies : goal.returns-clause-none_flies
returns-clause-none_flies c = λ order fault was is refused. refused.2

pub returns-clause-no_line_for_want_of_ids : goal.returns-clause-no_line_for_want_of_ids
returns-clause-no_line_for_want_of_ids c = λ order gateways refused.
    let bad : not_issued NoMoreIds ≡ not_issued BadCommand = refused in absurd cc

pub returns-clause-before : goal.returns-clause-before
returns-clause-before c = λ station order gateways. inr (refl, refl)

pub returns-clause-before_anything : goal.returns-clause-before_anything
returns-clause-before_anything c = λ station were are before. before.1

pub returns-clause-no_other : goal.returns-clause-no_other
returns-clause-no_other c = λ station were are before.
    let only : BadCommand ≡ OutOfMemory = before.0 in absurd cc

pub returns-clause-not_given_up : goal.returns-clause-not_given_up
returns-clause-not_given_up c = λ order were are refused.
    ⊎_elim (λ (e : not_issued NoMoreIds ≡ not_issued BadCommand). absurd cc)
    (λ (before : RefusedBefore NoMoreIds were are). let only : NoMoreIds ≡ OutOfMemory = before.0 in absurd cc) refused
