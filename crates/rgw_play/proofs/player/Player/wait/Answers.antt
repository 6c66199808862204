use Rattle.rgw_play.proofs.PlayLemmas.{on_ok, waited}
use Rattle.rgw_play.proofs.player.Player.wait.Goals as goal

pub returns : goal.returns
returns g c = on_ok c.tick.result (waited _ _ _ c.args.by c.if-by-eq0.false c.in_ok-seconds.ensures) c.tick.ensures
