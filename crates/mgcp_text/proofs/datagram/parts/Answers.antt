use Rattle.mgcp_text.proofs.PartingLaws.{parting_some, length-parts_of}
use Rattle.mgcp_text.proofs.datagram.parts.Goals as goal

pub returns-clause-parted : goal.returns-clause-parted
returns-clause-parted c = parting_some c.args.datagram.now

pub returns-clause-few : goal.returns-clause-few
returns-clause-few c = length-parts_of c.args.datagram.now
