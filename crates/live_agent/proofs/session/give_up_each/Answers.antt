use Rattle.std.proofs.Common.{refl}
use Rattle.live_agent.proofs.TickingLemmas.{gave_more}
use Rattle.live_agent.proofs.session.give_up_each.Goals as goal

pub loop-place-init : goal.loop-place-init
loop-place-init g c = (refl, refl)

pub loop-place-preserved : goal.loop-place-preserved
loop-place-preserved g c =
    gave_more g.S.Surroundings.around c.loop-place.place c.args.board.now c.loop-place.board c.give_up.new.board c.args.wire.now c.loop-place.wire c.give_up.new.wire
    c.loop-place.invariant c.give_up.ensures
