use Rattle.mgcp_text.proofs.PartingLaws.{parts-parts, short-parts_of}
use Rattle.mgcp_text.proofs.laws.a_part_is_whole.Goals as goal

pub returns-clause-itself : goal.returns-clause-itself
returns-clause-itself c = parts-parts

pub returns-clause-short : goal.returns-clause-short
returns-clause-short c = short-parts_of
