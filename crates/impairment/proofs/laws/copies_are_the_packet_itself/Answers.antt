use Rattle.impairment.proofs.PassingLaws.{copies_are_copies}
use Rattle.impairment.proofs.laws.copies_are_the_packet_itself.Goals as goal

pub returns : goal.returns
returns c = copies_are_copies
