use Rattle.std.proofs.Common.{refl}
use Rattle.std.specs.Box.{with_value}
use Rattle.live_agent.proofs.SettlingLemmas.{shown_more}
use Rattle.live_agent.proofs.session.show_each.Goals as goal

pub loop-index-init : goal.loop-index-init
loop-index-init g c = (refl, refl)

pub loop-index-preserved : goal.loop-index-preserved
loop-index-preserved g c =
    shown_more c.loop-index.index c.args.board.now c.loop-index.board c.show.new.self c.args.wire.now c.loop-index.wire
    (record c.loop-index.wire { journal = with_value c.loop-index.wire.journal c.show.new.journal })
    c.loop-index.invariant (record {
      told = rw (c.deref_mut.ensures.value) at c.show.ensures.told;
      office = c.show.ensures.office;
      rest = c.show.ensures.rest;
      leaves = refl;
    })
