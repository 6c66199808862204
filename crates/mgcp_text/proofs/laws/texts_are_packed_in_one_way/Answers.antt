use Rattle.mgcp_text.proofs.GroupLaws.{packing_some, packing_only}
use Rattle.mgcp_text.proofs.laws.texts_are_packed_in_one_way.Goals as goal

pub returns-clause-some : goal.returns-clause-some
returns-clause-some c = packing_some

pub returns-clause-only : goal.returns-clause-only
returns-clause-only c = packing_only
