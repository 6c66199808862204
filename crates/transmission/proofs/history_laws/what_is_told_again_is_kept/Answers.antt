use Rattle.transmission.proofs.LookLaws.{repeat_kept}
use Rattle.transmission.proofs.history_laws.what_is_told_again_is_kept.Goals as goal

pub returns : goal.returns
returns c = repeat_kept
