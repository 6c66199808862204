use Rattle.live_laws.proofs.LiveLaws.{desk_replays}
use Rattle.live_laws.proofs.play_laws.desks.the_trace_of_a_desk_replays.Goals as goal

pub returns : goal.returns
returns c = desk_replays
