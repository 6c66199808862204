use Rattle.mgcp_text.proofs.GroupLaws.{packed-together}
use Rattle.mgcp_text.proofs.laws.texts_that_have_room_together_share_a_datagram.Goals as goal

pub returns : goal.returns
returns c = packed-together
