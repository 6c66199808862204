use Rattle.std.proofs.Common.{◌≡◌, ◌+◌, refl, ◌∙◌, arith, take_all}
use Rattle.live_play.proofs.RunLemmas.{none_handed, one_more, left_behind}
use Rattle.live_play.proofs.handing.hand_all.Goals as goal

pub loop-datagram-init : goal.loop-datagram-init
loop-datagram-init g c = record {
  place = refl;
  left = refl;
  handed = λ gateway script. none_handed g.O.Outlet.hands _ _ _;
  came = refl;
}

pub loop-datagram-preserved : goal.loop-datagram-preserved
loop-datagram-preserved g c =
    let so_far = c.loop-datagram.invariant in
    let here = so_far.place in
    let inside = c.loop-datagram-test.true in
    let capped = c.saturating_add-place.ensures in
    let next : c.saturating_add-place.result ≡ c.loop-datagram.datagram-index + 1 = omega (arith, here, inside, capped) in
    record {
      place = next;
      left = left_behind _ _ _ _ _ _ inside so_far.left (rw (c.datagram-item.is) at c.split_sent.ensures.others);
      handed = λ gateway script. one_more g.O.Outlet.hands _ _ _ _ _ _ _ _ _ _ _ inside so_far.left (so_far.handed gateway script)
          (rw (c.datagram-item.is) at (c.hand.ensures.handed gateway script c.loop-datagram.datagram-index _ next c.split_sent.ensures.own));
      came = c.hand.ensures.came ∙ so_far.came;
    }

pub returns-clause-handed : goal.returns-clause-handed
returns-clause-handed g c =
    λ gateway script. rw (take_all c.loop-datagram.datagram-index c.args.datagrams.now (omega (arith, c.loop-datagram-test.false))) at (c.loop-datagram.invariant.handed gateway script)
