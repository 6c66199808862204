use Rattle.std.proofs.Common.{true, arith, refl, subst}
use Rattle.std.specs.Prelude.{IfSome}
use Rattle.endpoint_names.specs.declared.name.Pattern.TheVariants.{One}
use Rattle.call_processing.specs.Exchange.{ExchangeState, phase_of}
use Rattle.call_processing.specs.Phases.{named_by}
use Rattle.line_control.specs.Waiting.{IsWaiting}
use Rattle.agent_gateways.specs.Steps.{exchange_announced}
use Rattle.agent_gateways.proofs.step_examples.who_waits_behind_a_step_has_examples.Goals as goal

pub returns-clause-none : goal.returns-clause-none
returns-clause-none c = λ is none. none

pub returns-clause-lost : goal.returns-clause-lost
returns-clause-lost c = λ was lost. lost

pub returns-clause-shown : goal.returns-clause-shown
returns-clause-shown c = λ was is shown. shown.1

pub returns-clause-sent : goal.returns-clause-sent
returns-clause-sent c = λ was is sent. sent.1

pub returns-clause-not_sent : goal.returns-clause-not_sent
returns-clause-not_sent c = λ was is sent. sent.1

pub returns-clause-waits_on : goal.returns-clause-waits_on
returns-clause-waits_on c = λ was is waits. waits

pub returns-clause-told_of : goal.returns-clause-told_of
returns-clause-told_of c = λ was is told. told.1

pub returns-clause-answered : goal.returns-clause-answered
returns-clause-answered c = λ gateway after was is answers. answers.1

pub returns-clause-meant : goal.returns-clause-meant
returns-clause-meant c = λ was is touches. touches

pub returns-clause-not_meant : goal.returns-clause-not_meant
returns-clause-not_meant c = λ was is same. same

pub returns-clause-announced : goal.returns-clause-announced
returns-clause-announced c = λ was is announces. announces.1.meant 1 (omega arith) refl

pub returns-clause-left : goal.returns-clause-left
unfolding exchange_announced
returns-clause-left c = λ was is so touches.
    subst
    (λ (exchange : ExchangeState). IfSome (named_by (phase_of (exchange_announced true (One 2) 0 1 exchange) 1))
    (λ other. IsWaiting is.worklist other))
    so (touches.left 1 (omega arith) refl)

pub returns-clause-others : goal.returns-clause-others
returns-clause-others c = λ was is touches. touches.others
