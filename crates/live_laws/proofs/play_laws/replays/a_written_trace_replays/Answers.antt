use Rattle.live_laws.proofs.ReplayLaws.{reads_back}
use Rattle.live_laws.proofs.play_laws.replays.a_written_trace_replays.Goals as goal

pub returns : goal.returns
returns c = reads_back
