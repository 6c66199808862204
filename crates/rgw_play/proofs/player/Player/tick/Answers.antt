use Rattle.rgw_play.proofs.PlayLemmas.{on_ok, passed}
use Rattle.rgw_play.proofs.player.Player.tick.Goals as goal

pub returns : goal.returns
returns g c = on_ok c.event.result (passed _ _ c.args.by c.now.result c.saturating_add-moment.result c.now.ensures.value c.now.ensures.below c.saturating_add-moment.ensures) c.event.ensures
