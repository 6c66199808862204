use Rattle.events_and_signals.proofs.GivenLaws.{none_lost_from}
use Rattle.events_and_signals.proofs.quarantine_laws.nothing_is_lost_while_there_is_room.Goals as goal

pub returns : goal.returns
returns c = none_lost_from
