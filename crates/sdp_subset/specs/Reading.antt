-- What a text is read as, as a function, so that it computes. `Spelling` says the same as a relation.
use Rattle.std.specs.Prelude.{ℕ, ◌&&◌, nat_le, codes, if◌then◌else◌, List, [], ◌∷◌, Option, Some, None, Result, Ok, Err}
use Rattle.std.specs.Str.{bytes_eq}
use Rattle.std.specs.declared.net.ipv4_addr.Ipv4Addr.{Ipv4Addr}
use Rattle.mg_bytes.specs.Address.{ipv4_of}
use Rattle.mg_bytes.specs.Lines.{lines_of}
use Rattle.mg_bytes.specs.Numbers.{decimal_of}
use Rattle.mg_bytes.specs.Option.{◌>>=◌}
use Rattle.mg_bytes.specs.Words.{words}
use Rattle.sdp_subset.specs.declared.audio.Audio.{Audio}
use Rattle.sdp_subset.specs.declared.fault.SdpFault.{SdpFault}
use Rattle.sdp_subset.specs.declared.fault.SdpFault.TheVariants.{OutOfMemory, NotInSubset}
use Rattle.sdp_subset.specs.declared.session.Session.{Session}
use Rattle.sdp_subset.specs.Payloads.{is_payload, payloads_from}
use Rattle.sdp_subset.specs.Fields.{are_fields, has_version, from_audio, connection_of}

abbrev pub port_from : ℕ → Option ℕ
port_from n = if nat_le n 65535 then Some n else None

-- a port from 0 to 65535
abbrev pub port_of : List ℕ → Option ℕ
port_of text = decimal_of text >>= port_from

abbrev pub payload_from : ℕ → Option ℕ
payload_from n = if is_payload n then Some n else None

-- a payload type
abbrev pub payload_of : List ℕ → Option ℕ
payload_of text = decimal_of text >>= payload_from

-- the payload types of words, one each
unfoldable pub each_payload : List (List ℕ) → Option (List ℕ)
each_payload [] = Some []
each_payload (text ∷ texts) = do
  payload ← payload_of text
  payloads ← each_payload texts
  Some (payload ∷ payloads)

-- 1 to 32 payload types
unfoldable pub payloads_of : List (List ℕ) → Option (List ℕ)
payloads_of texts = each_payload texts >>= payloads_from

-- what a port and payload types make
abbrev pub stream_from : List ℕ → List (List ℕ) → Option Audio
stream_from port numbers = do
  port ← port_of port
  payloads ← payloads_of numbers
  Some (record { port = port; payloads = payloads })

abbrev pub audio_from : List (List ℕ) → Option Audio
audio_from [] = None
audio_from (media ∷ []) = None
audio_from (media ∷ port ∷ []) = None
audio_from (media ∷ port ∷ protocol ∷ numbers) =
    if bytes_eq media (codes "m=audio") && bytes_eq protocol (codes "RTP/AVP") then stream_from port numbers else None

-- `m=audio port RTP/AVP` and the payload types
unfoldable pub audio_of : List ℕ → Option Audio
audio_of line = audio_from (words line)

abbrev pub address_from : List (List ℕ) → Option Ipv4Addr
address_from [] = None
address_from (network ∷ []) = None
address_from (network ∷ kind ∷ []) = None
address_from (network ∷ kind ∷ address ∷ []) =
    if bytes_eq network (codes "c=IN") && bytes_eq kind (codes "IP4") then ipv4_of address else None
address_from (network ∷ kind ∷ address ∷ more ∷ others) = None

-- `c=IN IP4` and the address
unfoldable pub address_of : List ℕ → Option Ipv4Addr
address_of line = address_from (words line)

-- what an audio line and its connection line say, among these lines
unfoldable pub session_with : List (List ℕ) → List ℕ → List (List ℕ) → Option Session
session_with lines line after = do
  audio ← audio_of line
  connection ← connection_of lines after
  address ← address_of connection
  Some (record { origin = None; address = address; port = audio.port; payloads = audio.payloads; ptime = None })

abbrev pub session_at : List (List ℕ) → List (List ℕ) → Option Session
session_at lines [] = None
session_at lines (line ∷ after) = session_with lines line after

abbrev pub session_in : List (List ℕ) → Option Session
session_in lines = if has_version lines && are_fields lines then session_at lines (from_audio lines) else None

-- the session that a text describes, if it is in the subset
unfoldable pub session_of : List ℕ → Option Session
session_of text = session_in (lines_of text)

-- what a reader answers that takes no memory
abbrev pub answer_of : Option Session → Result Session SdpFault
answer_of None = Err NotInSubset
answer_of (Some session) = Ok session

-- the session that a reader answered, if any
abbrev pub session_read : Result Session SdpFault → Option Session
session_read (Ok session) = Some session
session_read (Err OutOfMemory) = None
session_read (Err NotInSubset) = None

-- a fault's number, from 1
abbrev pub sdp_fault_number : SdpFault → ℕ
sdp_fault_number OutOfMemory = 1
sdp_fault_number NotInSubset = 2
