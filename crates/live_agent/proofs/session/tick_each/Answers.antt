use Rattle.std.proofs.Common.{refl}
use Rattle.live_agent.proofs.TickingLemmas.{ticked_more}
use Rattle.live_agent.proofs.session.tick_each.Goals as goal

pub loop-place-init : goal.loop-place-init
loop-place-init g c = (refl, refl)

pub loop-place-preserved : goal.loop-place-preserved
loop-place-preserved g c =
    ticked_more g.S.Surroundings.around c.args.to c.loop-place.place c.args.board.now c.loop-place.board c.tick-outputs.new.self c.args.wire.now c.loop-place.wire
    c.send_outputs.new.wire c.loop-place.invariant (record {
      outputs = c.tick-outputs.result;
      went_on = c.send_outputs.result;
      took = c.tick-outputs.ensures.took;
      stays = c.tick-outputs.ensures.err;
      ends = c.tick-outputs.ensures.ends;
      nobody = c.tick-outputs.ensures.nobody;
      own = c.tick-outputs.ensures.own;
      clock = c.tick-outputs.ensures.clock;
      others = c.tick-outputs.ensures.others;
      rest = c.tick-outputs.ensures.rest;
      goes = c.send_outputs.ensures;
    })
