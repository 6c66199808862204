use Rattle.std.proofs.Common.{◌≤◌, inr, refl, arith}
use Rattle.live_play.proofs.RunLemmas.{one_handed, one_marked}
use Rattle.live_play.proofs.handing.hand.Goals as goal

pub returns-then-place-lt-FIRST_UNREAD-clause-handed : goal.returns-then-place-lt-FIRST_UNREAD-clause-handed
returns-then-place-lt-FIRST_UNREAD-clause-handed g c =
    λ gateway script before messages here own. one_marked g.O.Outlet.hands _ _ c.args.out.now c.hand.new.self c.args.datagram.now messages c.args.own.now
    c.in-Some.mark before c.args.place here own c.if-place-lt-FIRST_UNREAD.true (rw (c.as_bytes.ensures) at c.in-Some.ensures.hands) refl
    (rw (c.as_bytes.ensures) at c.hand.ensures.handed) c.tell_mark.ensures refl

pub returns-else-place-lt-FIRST_UNREAD-clause-handed : goal.returns-else-place-lt-FIRST_UNREAD-clause-handed
returns-else-place-lt-FIRST_UNREAD-clause-handed g c =
    let high : 1000000000000000000 ≤ c.args.place = omega (arith, c.if-place-lt-FIRST_UNREAD.false) in
    λ gateway script before messages here own. one_handed g.O.Outlet.hands _ _ _ _ c.args.datagram.now messages c.args.own.now _ before c.args.place here own
    (rw (c.as_bytes.ensures) at c.in-Some.ensures.hands) (inr (high, refl)) refl (rw (c.as_bytes.ensures) at c.hand.ensures.handed) refl refl

pub returns-in-None-clause-handed : goal.returns-in-None-clause-handed
returns-in-None-clause-handed g c =
    λ gateway script before messages here own. one_handed g.O.Outlet.hands _ _ _ _ c.args.datagram.now messages c.args.own.now _ before c.args.place here own
    (rw (c.as_bytes.ensures) at c.in-None.ensures.hands) refl refl (rw (c.as_bytes.ensures) at c.hand.ensures.handed) refl refl
