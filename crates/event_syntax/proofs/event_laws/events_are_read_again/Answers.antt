use Rattle.event_syntax.proofs.DetectLaws.{detected_again}
use Rattle.event_syntax.proofs.event_laws.events_are_read_again.Goals as goal

pub returns : goal.returns
returns c = detected_again
