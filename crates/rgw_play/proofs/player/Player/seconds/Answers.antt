use Rattle.rgw_scripts.specs.Moves.{pass}
use Rattle.rgw_play.proofs.PlayLemmas.{moved_nothing, moved_again}
use Rattle.rgw_play.proofs.player.Player.seconds.Goals as goal

pub loop-init : goal.loop-init
loop-init g c = moved_nothing c.args.self.now

pub loop-preserved : goal.loop-preserved
loop-preserved g c = moved_again _ _ _ (pass 1000) c.loop.counter c.loop.invariant c.in_ok-tick.ensures
