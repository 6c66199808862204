use Rattle.mgcp_text.proofs.PartingLaws.{parting_some, parting_only}
use Rattle.mgcp_text.proofs.laws.a_datagram_is_parted_in_one_way.Goals as goal

pub returns-clause-some : goal.returns-clause-some
returns-clause-some c = parting_some

pub returns-clause-only : goal.returns-clause-only
returns-clause-only c = parting_only
