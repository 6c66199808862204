use Rattle.mgcp_text.proofs.PackingLaws.{packed-push}
use Rattle.mgcp_text.proofs.laws.a_datagram_ends_only_where_the_next_text_had_no_room.Goals as goal

pub returns : goal.returns
returns c = packed-push
