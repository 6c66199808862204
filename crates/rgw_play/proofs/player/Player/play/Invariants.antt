use Rattle.std.proofs.Common.{take}
use Rattle.rgw_scripts.specs.Moves.{all_moves}
use Rattle.rgw_play.specs.Player.{Moved}
use Rattle.rgw_play.proofs.player.Player.play.Given as goal

abbrev pub invariant-loop-step : goal.invariant-loop-step
invariant-loop-step g l = Moved l.fn.self (all_moves (take l.step-index l.steps)) l.self
