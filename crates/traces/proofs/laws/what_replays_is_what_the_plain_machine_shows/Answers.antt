use Rattle.traces.proofs.RunLaws.{what_replays_is_shown}
use Rattle.traces.proofs.laws.what_replays_is_what_the_plain_machine_shows.Goals as goal

pub returns : goal.returns
returns c = what_replays_is_shown
