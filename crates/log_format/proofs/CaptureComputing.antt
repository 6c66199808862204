-- The definitions opened, so that worked examples compute.
use Rattle.std.specs.Prelude.{⊤}
use Rattle.log_format.specs.Checksum.{checksum_of}
use Rattle.log_format.specs.Packet.{ipv4_header, udp_header, ipv4_packet}
use Rattle.log_format.specs.File.{file_head, record_head, record_of}

unfoldable pub on_examples : ⊤
unfolding checksum_of ipv4_header udp_header ipv4_packet file_head record_head record_of
on_examples = tt
