use Rattle.live_laws.proofs.ReadingLaws.{at_again}
use Rattle.live_laws.proofs.play_laws.lines.moments_are_read_again.Goals as goal

pub returns : goal.returns
returns c = at_again
