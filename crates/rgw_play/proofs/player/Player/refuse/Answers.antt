use Rattle.std.proofs.Common.{refl}
use Rattle.rgw_scripts.specs.Moves.{refuses, printed, is_refused}
use Rattle.rgw_play.proofs.PlayLemmas.{prints_one}
use Rattle.rgw_play.proofs.player.Player.refuse.Goals as goal

pub returns-clause-printed : goal.returns-clause-printed
unfolding printed is_refused
returns-clause-printed c = prints_one _ _ (refuses c.args.refusal) c.in_ok-put_refusal.ensures.ok refl
