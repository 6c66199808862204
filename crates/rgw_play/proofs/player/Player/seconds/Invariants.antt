use Rattle.std.specs.Prelude.{replicate}
use Rattle.rgw_scripts.specs.Moves.{pass}
use Rattle.rgw_play.specs.Player.{Moved}
use Rattle.rgw_play.proofs.player.Player.seconds.Given as goal

abbrev pub invariant-loop : goal.invariant-loop
invariant-loop g l = Moved l.fn.self (replicate l.counter (pass 1000)) l.self
