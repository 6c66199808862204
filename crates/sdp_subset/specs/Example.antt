-- What the worked examples speak of.
use Rattle.std.specs.Prelude.{ℕ, List, [], ◌∷◌, ◌++◌, codes, replicate, Option, Some, None}
use Rattle.std.specs.declared.net.ipv4_addr.Ipv4Addr.{Ipv4Addr}
use Rattle.sdp_subset.specs.declared.session.Session.{Session}
use Rattle.sdp_subset.specs.Reading.{session_of}

-- an address of the examples
abbrev pub host : ℕ → Ipv4Addr
host n = record { octets = 10 ∷ 0 ∷ 0 ∷ n ∷ [] }

-- a stream that a host offers
abbrev pub offered : ℕ → ℕ → List ℕ → Session
offered n port payloads = record { origin = None; address = host n; port = port; payloads = payloads; ptime = None }

-- what is read where a stream of payload type 0 at port 4000 is offered, and its host is this one
abbrev pub from_host : ℕ → Option Session
from_host n = Some (offered n 4000 (0 ∷ []))

-- what is read of this audio line, beside a host
abbrev pub read_with_audio : List ℕ → Option Session
read_with_audio line = session_of (codes "v=0\nc=IN IP4 10.0.0.1\n" ++ line)

-- what is read of this connection line, beside a stream
abbrev pub read_with_connection : List ℕ → Option Session
read_with_connection line = session_of (codes "v=0\nm=audio 4000 RTP/AVP 0\n" ++ line)

-- the session with an origin
abbrev pub originated : ℕ → ℕ → Session → Session
originated number version session = record session { origin = Some (record { number = number; version = version }) }

-- the session with a packet time
abbrev pub timed : ℕ → Session → Session
timed ms session = record session { ptime = Some ms }

-- a session whose numbers are the greatest, with so many payload types
abbrev pub greatest : ℕ → Session
greatest count = record {
  origin = Some (record { number = 4294967295; version = 4294967295 });
  address = record { octets = 255 ∷ 255 ∷ 255 ∷ 255 ∷ [] };
  port = 65535;
  payloads = replicate count 127;
  ptime = Some 65535;
}
