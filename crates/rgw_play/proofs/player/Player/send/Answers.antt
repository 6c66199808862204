use Rattle.std.proofs.Common.{sym, add-zero}
use Rattle.rgw_scripts.specs.Moves.{sends, printed, is_refused}
use Rattle.rgw_play.proofs.PlayLemmas.{prints_one}
use Rattle.rgw_play.proofs.player.Player.send.Goals as goal

pub returns-clause-printed : goal.returns-clause-printed
unfolding printed is_refused
returns-clause-printed g c = prints_one _ _ (sends c.args.outputs.now) (rw c.as_slice.ensures at c.in_ok-put_datagrams.ensures.ok) (sym (add-zero c.args.self.now.refused))
