use Rattle.std.proofs.Common.{◌≡◌, refl}
use Rattle.plain_machine.specs.Event.{datagram}
use Rattle.traces.specs.Writing.{Input, arrived}
use Rattle.live_play.specs.Running.{live}
use Rattle.live_play.proofs.RunLemmas.{ran_nothing, takes_so, goes_on_by}
use Rattle.live_play.proofs.play.LivePlay.datagram.Goals as goal

pub returns-in-Ok-clause-outlet : goal.returns-in-Ok-clause-outlet
returns-in-Ok-clause-outlet g c =
    takes_so g.O.Outlet.turns g.O.Outlet.hands _
    (live c.take.new.gateway.value c.tell_datagram-told.new.script (g.T.Teller.told c.tell_datagram-told.new.teller) (g.O.Outlet.handed c.args.out.now)) _ _ _ c.take.new.gateway.value
    (arrived c.args.source c.args.bytes.now) (datagram c.args.source c.args.bytes.now) _ c.as_slice-sent.result.now refl tt c.in-Ok.ensures.ok refl c.as_slice-sent.ensures c.in-Ok.ensures.ends refl
    c.tell_datagram-told.ensures.told c.tell_datagram-told.ensures.script c.hand_out.ensures.handed

pub returns-in-Ok-clause-taken : goal.returns-in-Ok-clause-taken
returns-in-Ok-clause-taken g c = (returns-in-Ok-clause-outlet g c).takes

pub returns-in-Ok-clause-ran : goal.returns-in-Ok-clause-ran
returns-in-Ok-clause-ran g c =
    goes_on_by (λ (input : Input). input ≡ arrived c.args.source c.args.bytes.now) _ _ (arrived c.args.source c.args.bytes.now) (datagram c.args.source c.args.bytes.now) refl
    (returns-in-Ok-clause-taken g c)

pub returns-in-Err-clause-refused : goal.returns-in-Err-clause-refused
returns-in-Err-clause-refused g c = ran_nothing _ _ c.in-Err.ensures.err refl refl refl
