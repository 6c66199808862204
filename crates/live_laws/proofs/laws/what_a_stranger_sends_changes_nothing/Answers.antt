use Rattle.live_play.proofs.RunLemmas.{handed_known}
use Rattle.live_laws.proofs.LiveLaws.{are_from}
use Rattle.live_laws.proofs.laws.what_a_stranger_sends_changes_nothing.Goals as goal

pub returns : goal.returns
returns c = λ admission was is entries came missing before were are went stands had has. (
  are_from admission missing came entries went.events,
  went.ran.play before stands,
  went.ran.stands before stands,
  handed_known was.live is.live entries were are went.ran had has,
)
