use Rattle.log_format.proofs.ChecksumLaws.{receiver}
use Rattle.log_format.proofs.capture_laws.a_receiver_finds_the_header_right.Goals as goal

pub returns : goal.returns
returns c = receiver
