use Rattle.std.proofs.Common.{refl, sym, add-zero}
use Rattle.rgw_scripts.specs.Moves.{tells, printed, is_refused}
use Rattle.rgw_play.proofs.PlayLemmas.{prints_one, told_moved}
use Rattle.rgw_play.proofs.player.Player.tell.Goals as goal

pub returns : goal.returns
unfolding printed is_refused
returns c =
    told_moved _ _ c.args.line c.status_of-status.result refl c.requires.low c.requires.high c.status_of-status.ensures
    (prints_one _ _ (tells c.status_of-status.result) c.in_ok-put_line.ensures.ok (sym (add-zero c.args.self.now.refused)))
