-- Who is sent what in the worked examples.
use Rattle.std.specs.Prelude.{ℕ, [], ◌∷◌}
use Rattle.std.specs.declared.net.socket_addr.SocketAddrV4.{SocketAddrV4}
use Rattle.gateway_core.specs.declared.sent.SentMessage.{SentMessage}
use Rattle.plain_machine.specs.declared.label.What.{What}
use Rattle.plain_machine.specs.declared.label.Whose.{Whose}
use Rattle.plain_machine.specs.declared.label.Whose.TheVariants.{Nobody}

-- 10.0.0.last:2727
abbrev pub host : ℕ → SocketAddrV4
host last = record { ip = record { octets = 10 ∷ 0 ∷ 0 ∷ last ∷ [] }; port = 2727 }

-- a message there that is this
abbrev pub said : SocketAddrV4 → What → SentMessage
said to what = record { to = to; moment = 1000; label = record { whose = Nobody; what = what; id = 7 }; size = 0 }

-- a message to 10.0.0.9 of this, that is this
abbrev pub said_of : Whose → What → SentMessage
said_of whose what = record { to = host 9; moment = 1000; label = record { whose = whose; what = what; id = 7 }; size = 0 }
