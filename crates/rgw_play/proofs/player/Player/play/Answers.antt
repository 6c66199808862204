use Rattle.rgw_play.proofs.PlayLemmas.{moved_nothing, moved_step}
use Rattle.rgw_play.proofs.player.Player.play.Goals as goal

pub loop-step-init : goal.loop-step-init
loop-step-init g c = moved_nothing c.args.self.now

pub loop-step-preserved : goal.loop-step-preserved
loop-step-preserved g c = moved_step _ _ _ c.args.steps.now c.loop-step.step-index c.step-item.result c.loop-step-test.true c.step-item.is c.loop-step.invariant c.in_ok-step.ensures
