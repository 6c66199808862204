use Rattle.std.proofs.Common.{◌≡◌, refl}
use Rattle.plain_machine.specs.Event.{phone}
use Rattle.traces.specs.Writing.{Input, typed}
use Rattle.live_play.specs.Running.{live}
use Rattle.live_play.proofs.RunLemmas.{takes_so, goes_on_by, refuses_so, goes_on_refused, says_act, ends_as_told, told_nothing}
use Rattle.live_play.proofs.play.LivePlay.act.Goals as goal

pub returns-in-Ok-clause-outlet : goal.returns-in-Ok-clause-outlet
returns-in-Ok-clause-outlet g c =
    takes_so g.O.Outlet.turns g.O.Outlet.hands _
    (live c.take.new.gateway.value c.tell_act-told.new.script (g.T.Teller.told c.tell_act-told.new.teller) (g.O.Outlet.handed c.args.out.now)) _ _ _ c.take.new.gateway.value
    (typed c.args.text.now) (phone c.args.line c.args.act) _ c.as_slice-sent.result.now (says_act c.args.text.now c.args.line c.args.act c.requires) tt c.in-Ok.ensures.ok refl c.as_slice-sent.ensures c.in-Ok.ensures.ends refl
    c.tell_act-told.ensures.told c.tell_act-told.ensures.script c.hand_out.ensures.handed

pub returns-in-Ok-clause-taken : goal.returns-in-Ok-clause-taken
returns-in-Ok-clause-taken g c = (returns-in-Ok-clause-outlet g c).takes

pub returns-in-Ok-clause-ran : goal.returns-in-Ok-clause-ran
returns-in-Ok-clause-ran g c =
    goes_on_by (λ (input : Input). input ≡ typed c.args.text.now) _ _ (typed c.args.text.now) (phone c.args.line c.args.act) refl (returns-in-Ok-clause-taken g c)

pub returns-in-Err-clause-refused : goal.returns-in-Err-clause-refused
returns-in-Err-clause-refused g c =
    refuses_so _ _ c.args.text.now (phone c.args.line c.args.act) c.in-Err.refusal c.refuse.result c.refuse.new.printed.items (says_act c.args.text.now c.args.line c.args.act c.requires)
    tt c.in-Err.ensures.err c.in-Err.ensures.ends refl c.refuse.ensures

pub returns-in-Err-clause-ran : goal.returns-in-Err-clause-ran
returns-in-Err-clause-ran g c =
    goes_on_refused (λ (input : Input). input ≡ typed c.args.text.now) _ _ c.args.text.now (phone c.args.line c.args.act) c.refuse.result
    c.refuse.new.printed.items refl
    (returns-in-Err-clause-refused g c)

pub returns-in-Ok-clause-ends : goal.returns-in-Ok-clause-ends
returns-in-Ok-clause-ends g c = λ before stands possible. c.in-Ok.ensures.ends before stands

pub returns-in-Err-clause-ends : goal.returns-in-Err-clause-ends
returns-in-Err-clause-ends g c = λ before stands possible.
    ends_as_told _ _ c.args.text.now c.refuse.new.printed.items c.in-Err.refusal c.refuse.result _ _ _ _ possible (c.in-Err.ensures.ends before stands) c.refuse.ensures

pub returns-in-Err-clause-unheard : goal.returns-in-Err-clause-unheard
returns-in-Err-clause-unheard g c = told_nothing c.args.text.now c.refuse.new.printed.items c.in-Err.refusal c.refuse.result _ _ _ _ c.refuse.ensures
