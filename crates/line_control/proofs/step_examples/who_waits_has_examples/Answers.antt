use Rattle.std.proofs.Common.{Bool, ap, subst}
use Rattle.std.specs.Prelude.{IfSome}
use Rattle.call_processing.specs.Exchange.{ExchangeState, phase_of}
use Rattle.call_processing.specs.Phases.{named_by}
use Rattle.line_control.specs.declared.worklist.Worklist.{Worklist}
use Rattle.line_control.specs.Waiting.{waits, IsWaiting}
use Rattle.line_control.proofs.step_examples.who_waits_has_examples.Goals as goal

pub returns-clause-itself : goal.returns-clause-itself
returns-clause-itself c = λ was is touches. touches.itself

pub returns-clause-left : goal.returns-clause-left
returns-clause-left c = λ was is so touches.
    subst (λ (exchange : ExchangeState). IfSome (named_by (phase_of exchange 1)) (λ other. IsWaiting is.worklist other)) so touches.left

pub returns-clause-joined : goal.returns-clause-joined
returns-clause-joined c = λ was is so touches.
    subst (λ (exchange : ExchangeState). IfSome (named_by (phase_of exchange 1)) (λ other. IsWaiting is.worklist other)) so touches.joined

pub returns-clause-others : goal.returns-clause-others
returns-clause-others c = λ was is all touches.
    touches.others.0 5 (ap (λ (is_all : Bool). waits was.worklist.waiting.items is_all 5) all)

pub returns-clause-settled : goal.returns-clause-settled
returns-clause-settled c = λ was is touches. ap (λ (list : Worklist). list.settled) touches.others.1

pub returns-clause-settles_all : goal.returns-clause-settles_all
returns-clause-settles_all c = λ was is touches. ap (λ (list : Worklist). list.settles_all) touches.others.1

pub returns-clause-begins : goal.returns-clause-begins
returns-clause-begins c = λ was is settles. settles.settled

pub returns-clause-begins_all : goal.returns-clause-begins_all
returns-clause-begins_all c = λ was is settles. (settles.all, settles.none_waits, settles.not_all)
