use Rattle.mgcp_text.proofs.PackingLaws.{within-packed}
use Rattle.mgcp_text.proofs.laws.each_datagram_is_within_the_limit.Goals as goal

pub returns : goal.returns
returns c = within-packed
