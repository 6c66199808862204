use Rattle.log_format.proofs.PacketLaws.{as_long}
use Rattle.log_format.proofs.capture_laws.a_packet_is_as_long_as_it_says.Goals as goal

pub returns : goal.returns
returns c = as_long
