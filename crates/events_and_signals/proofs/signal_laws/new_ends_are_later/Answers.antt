use Rattle.events_and_signals.proofs.RequestLaws.{among-later}
use Rattle.events_and_signals.proofs.signal_laws.new_ends_are_later.Goals as goal

pub returns : goal.returns
returns c = among-later
