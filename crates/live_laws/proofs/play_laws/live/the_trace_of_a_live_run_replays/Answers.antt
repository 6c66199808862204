use Rattle.live_laws.proofs.LiveLaws.{live_text, live_replays}
use Rattle.live_laws.proofs.play_laws.live.the_trace_of_a_live_run_replays.Goals as goal

pub returns-clause-text : goal.returns-clause-text
returns-clause-text c = live_text

pub returns-clause-replays : goal.returns-clause-replays
returns-clause-replays c = live_replays
