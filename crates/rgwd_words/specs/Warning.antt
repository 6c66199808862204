-- What is right, but may be meant otherwise.
use Rattle.std.specs.Prelude.{ℕ, ◌+◌, ◌*◌, ◌==◌, ◌&&◌, nat_le, nat_lt, Bool, slice_index}
use Rattle.std.specs.declared.net.ipv4_addr.Ipv4Addr.{Ipv4Addr}
use Rattle.plain_machine.specs.declared.setup.Setup.{Setup}

-- no other machine reaches this address (RFC 1122, 3.2.1.3)
abbrev pub is_here : Ipv4Addr → Bool
is_here host = slice_index host.octets 0 == 127

-- a line has four places for connections, and each an even port and the odd one behind it
abbrev pub covers : Setup → ℕ → Bool
covers setup port = nat_le setup.media_base port && nat_lt port (setup.media_base + 8 * setup.names.lines)
