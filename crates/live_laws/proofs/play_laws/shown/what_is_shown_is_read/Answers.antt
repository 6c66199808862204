use Rattle.live_laws.proofs.PieceLaws.{reads_shown}
use Rattle.live_laws.proofs.play_laws.shown.what_is_shown_is_read.Goals as goal

pub returns : goal.returns
returns c = reads_shown
