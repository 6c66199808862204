-- How a session is written (RFC 2327, 6; RFC 3435, 3.4): single spaces, each line with CRLF.
use Rattle.std.specs.Prelude.{◌≡◌, ◌≤◌, ℕ, true, codes, decimal, List, [], ◌∷◌, ◌++◌, length, map, Option, Some, None}
use Rattle.std.specs.List.{AllByRecursion, flat_map, join_with_byte}
use Rattle.std.specs.declared.net.ipv4_addr.Ipv4Addr.{Ipv4Addr}
use Rattle.mg_bytes.specs.Lines.{ended}
use Rattle.mg_bytes.specs.Bytes.{space, full_stop}
use Rattle.sdp_subset.specs.declared.session.Origin.{Origin}
use Rattle.sdp_subset.specs.declared.session.Session.{Session}
use Rattle.sdp_subset.specs.Payloads.{are_payloads}

-- `a.b.c.d`
abbrev pub address_text : Ipv4Addr → List ℕ
address_text address = join_with_byte full_stop (map decimal address.octets)

-- the origin, with its number and version (RFC 2327, 6, `o=`)
unfoldable pub origin_line : Origin → Ipv4Addr → List ℕ
origin_line origin address =
    codes "o=- " ++ (decimal origin.number
    ++ ((space ∷ decimal origin.version) ++ (codes " IN IP4 " ++ address_text address)))

-- the origin and an empty name, where there is an origin
abbrev pub origin_lines : Option Origin → Ipv4Addr → List (List ℕ)
origin_lines None address = []
origin_lines (Some origin) address = origin_line origin address ∷ codes "s=-" ∷ []

-- where the stream is received
unfoldable pub connection_line : Ipv4Addr → List ℕ
connection_line address = codes "c=IN IP4 " ++ address_text address

-- a session without bounds in time, where there is an origin
abbrev pub time_lines : Option Origin → List (List ℕ)
time_lines None = []
time_lines (Some origin) = codes "t=0 0" ∷ []

-- each payload type after a space
abbrev pub payloads_text : List ℕ → List ℕ
payloads_text payloads = flat_map (λ payload. space ∷ decimal payload) payloads

-- the stream: its port and its payload types
unfoldable pub audio_line : ℕ → List ℕ → List ℕ
audio_line port payloads = codes "m=audio " ++ (decimal port ++ (codes " RTP/AVP" ++ payloads_text payloads))

-- the time of a packet in ms
unfoldable pub ptime_line : ℕ → List ℕ
ptime_line ms = codes "a=ptime:" ++ decimal ms

abbrev pub ptime_lines : Option ℕ → List (List ℕ)
ptime_lines None = []
ptime_lines (Some ms) = ptime_line ms ∷ []

-- the lines of a session, in the order that RFC 2327, 6, gives
unfoldable pub session_lines : Session → List (List ℕ)
session_lines session =
    codes "v=0" ∷ (origin_lines session.origin session.address ++ (connection_line session.address
    ∷ (time_lines session.origin ++ (audio_line session.port session.payloads ∷ ptime_lines session.ptime))))

-- the text of a session
unfoldable pub session_text : Session → List ℕ
session_text session = flat_map ended (session_lines session)

-- what is read of a session that was written: neither an origin nor a packet time is read
abbrev pub as_read : Session → Session
as_read session = record session { origin = None; ptime = None }

-- what every session is: an address of four octets, a port, and payload types
pub record IsSession (session : Session) : Type 0 where
  pub four : length session.address.octets ≡ 4
  pub each : AllByRecursion (λ octet. octet ≤ 255) session.address.octets
  pub low : session.port ≤ 65535
  pub types : are_payloads session.payloads ≡ true
