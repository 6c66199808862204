use Rattle.std.proofs.Common.{refl}
use Rattle.live_agent.proofs.TickingLemmas.{waked_more}
use Rattle.live_agent.proofs.session.wake_each.Goals as goal

pub loop-place-init : goal.loop-place-init
loop-place-init c = refl

pub loop-place-preserved : goal.loop-place-preserved
loop-place-preserved c =
    waked_more c.loop-place.place c.args.board.now c.loop-place.board c.wake.new.board c.loop-place.invariant c.wake.ensures
