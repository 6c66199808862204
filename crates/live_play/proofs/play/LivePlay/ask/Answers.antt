use Rattle.std.proofs.Common.{◌≡◌, refl, subst}
use Rattle.gateway_core.specs.GatewayState.{GatewayState}
use Rattle.traces.specs.Writing.{Input, typed}
use Rattle.live_play.specs.Running.{IsAnswer}
use Rattle.live_play.proofs.RunLemmas.{answers_so, goes_on_answered, stays}
use Rattle.live_play.proofs.play.LivePlay.ask.Goals as goal

pub returns-in_err-put_answer-clause-ran : goal.returns-in_err-put_answer-clause-ran
returns-in_err-put_answer-clause-ran g c = λ handed. stays (λ (input : Input). input ≡ typed c.args.text.now) _

pub returns-clause-answered : goal.returns-clause-answered
returns-clause-answered g c =
    λ handed. answers_so _ _ c.args.text.now c.args.line c.put_answer.new.out.items c.requires
    (subst (λ (gateway : GatewayState). IsAnswer gateway c.args.line c.put_answer.new.out.items) c.deref.ensures c.in_ok-put_answer.ensures)
    refl refl (rw (c.as_slice-printed.ensures.value) at c.tell_answered.ensures.told) c.tell_answered.ensures.script

pub returns-clause-ran : goal.returns-clause-ran
returns-clause-ran g c =
    λ handed. goes_on_answered (λ (input : Input). input ≡ typed c.args.text.now) _ _ c.args.text.now c.args.line c.put_answer.new.out.items refl
    (returns-clause-answered g c handed)
