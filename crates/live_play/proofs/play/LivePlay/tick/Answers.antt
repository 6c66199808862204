use Rattle.std.proofs.Common.{◌≡◌, refl}
use Rattle.plain_machine.specs.Event.{tick}
use Rattle.traces.specs.Writing.{Input, passed}
use Rattle.live_play.specs.Running.{live}
use Rattle.live_play.proofs.RunLemmas.{ran_nothing, takes_so, goes_on_by}
use Rattle.live_play.proofs.play.LivePlay.tick.Goals as goal

pub returns-in-Ok-clause-outlet : goal.returns-in-Ok-clause-outlet
returns-in-Ok-clause-outlet g c =
    takes_so g.O.Outlet.turns g.O.Outlet.hands _
    (live c.take.new.gateway.value c.tell_tick-told.new.script (g.T.Teller.told c.tell_tick-told.new.teller) (g.O.Outlet.handed c.args.out.now)) _ _ _ c.take.new.gateway.value
    (passed c.args.moment) (tick c.args.moment) _ c.as_slice-sent.result.now refl tt c.in-Ok.ensures.ok refl c.as_slice-sent.ensures c.in-Ok.ensures.ends refl
    c.tell_tick-told.ensures.told c.tell_tick-told.ensures.script c.hand_out.ensures.handed

pub returns-in-Ok-clause-taken : goal.returns-in-Ok-clause-taken
returns-in-Ok-clause-taken g c = (returns-in-Ok-clause-outlet g c).takes

pub returns-in-Ok-clause-ran : goal.returns-in-Ok-clause-ran
returns-in-Ok-clause-ran g c = goes_on_by (λ (input : Input). input ≡ passed c.args.moment) _ _ (passed c.args.moment) (tick c.args.moment) refl (returns-in-Ok-clause-taken g c)

pub returns-in-Err-clause-refused : goal.returns-in-Err-clause-refused
returns-in-Err-clause-refused g c = ran_nothing _ _ c.in-Err.ensures.err refl refl refl
