use Rattle.live_laws.proofs.HandedLaws.{told_with_its_datagram}
use Rattle.live_laws.proofs.play_laws.messages.each_message_is_told_with_its_datagram.Goals as goal

pub returns : goal.returns
returns c = told_with_its_datagram
