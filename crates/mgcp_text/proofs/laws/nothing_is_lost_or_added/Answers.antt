use Rattle.mgcp_text.proofs.PackingLaws.{joined-packed}
use Rattle.mgcp_text.proofs.laws.nothing_is_lost_or_added.Goals as goal

pub returns : goal.returns
returns c = joined-packed
