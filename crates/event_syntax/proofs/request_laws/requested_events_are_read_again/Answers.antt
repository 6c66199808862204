use Rattle.event_syntax.proofs.RequestLaws.{requested_again}
use Rattle.event_syntax.proofs.request_laws.requested_events_are_read_again.Goals as goal

pub returns : goal.returns
returns c = requested_again
