-- What a text describes, in the words of its lines (RFC 2327, 6; RFC 3435, 3.4): each text has one outcome.
-- That one audio stream at an IPv4 address is understood, and nothing else, is this gateway's profile.
use Rattle.std.specs.Prelude.{◌≡◌, ◌≤◌, ◌⊎◌, ℕ, true, false, codes, List, [], ◌∷◌, ◌++◌, length, map, Option, Some, None}
use Rattle.std.specs.List.{AllByRecursion}
use Rattle.std.specs.declared.net.ipv4_addr.Ipv4Addr.{Ipv4Addr}
use Rattle.mg_bytes.specs.Address.{ipv4_of}
use Rattle.mg_bytes.specs.Lines.{lines_of}
use Rattle.mg_bytes.specs.Numbers.{decimal_of}
use Rattle.mg_bytes.specs.Words.{words}
use Rattle.sdp_subset.specs.declared.session.Session.{Session}
use Rattle.sdp_subset.specs.Fields.{is_field, is_media, is_audio, is_connection}

-- a letter, `=` and text
abbrev pub IsField : List ℕ → Type 0
IsField line = is_field line ≡ true

abbrev pub IsEmpty : List ℕ → Type 0
IsEmpty line = line ≡ []

abbrev pub IsNoAudio : List ℕ → Type 0
IsNoAudio line = is_audio line ≡ false

-- neither a media line nor a connection line
abbrev pub IsAside : List ℕ → Type 0
IsAside line = (is_media line ≡ false) × (is_connection line ≡ false)

-- the lines are `v=0`, further fields, and perhaps empty lines at the end
pub record IsDescription (lines : List (List ℕ)) : Type 0 where
  pub fields : List (List ℕ)
  pub empty : List (List ℕ)
  pub parts : lines ≡ codes "v=0" ∷ (fields ++ empty)
  pub each : AllByRecursion IsField fields
  pub dropped : AllByRecursion IsEmpty empty

-- the first audio line, and the lines after it
pub record HasAudio (lines : List (List ℕ)) (line : List ℕ) (after : List (List ℕ)) : Type 0 where
  pub before : List (List ℕ)
  pub parts : lines ≡ before ++ (line ∷ after)
  pub begins : is_audio line ≡ true
  pub first : AllByRecursion IsNoAudio before

-- the first connection line, which has no media line before it
pub record HasConnection (lines : List (List ℕ)) (line : List ℕ) : Type 0 where
  pub before : List (List ℕ)
  pub after : List (List ℕ)
  pub parts : lines ≡ before ++ (line ∷ after)
  pub begins : is_connection line ≡ true
  pub first : AllByRecursion IsAside before

-- there is no such line
abbrev pub HasNoConnection : List (List ℕ) → Type 0
HasNoConnection lines = (line : List ℕ) → HasConnection lines line → ⊥

-- the connection line that is used: the audio line's own, which stands after it and before any later media line, or
-- where there is none the session's, which stands before any media line
abbrev pub IsUsed : List (List ℕ) → List (List ℕ) → List ℕ → Type 0
IsUsed lines after line = HasConnection after line ⊎ (HasNoConnection after × HasConnection lines line)

-- `m=audio port RTP/AVP` and 1 to 32 payload types
pub record IsAudioLine (line : List ℕ) (port : ℕ) (payloads : List ℕ) : Type 0 where
  pub port_text : List ℕ
  pub numbers : List (List ℕ)
  pub spelled : words line ≡ codes "m=audio" ∷ port_text ∷ codes "RTP/AVP" ∷ numbers
  pub is_port : decimal_of port_text ≡ Some port
  pub low : port ≤ 65535
  pub each : map decimal_of numbers ≡ map Some payloads
  pub some : 1 ≤ length payloads
  pub few : length payloads ≤ 32
  pub small : AllByRecursion (λ payload. payload ≤ 127) payloads

-- `c=IN IP4` and an address
pub record IsConnectionLine (line : List ℕ) (address : Ipv4Addr) : Type 0 where
  pub address_text : List ℕ
  pub spelled : words line ≡ codes "c=IN" ∷ codes "IP4" ∷ address_text ∷ []
  pub is_address : ipv4_of address_text ≡ Some address

-- the text describes this session, of which it says neither an origin nor a packet time
pub record Describes (text : List ℕ) (session : Session) : Type 0 where
  pub audio : List ℕ
  pub after : List (List ℕ)
  pub connection : List ℕ
  pub description : IsDescription (lines_of text)
  pub first_audio : HasAudio (lines_of text) audio after
  pub used : IsUsed (lines_of text) after connection
  pub stream : IsAudioLine audio session.port session.payloads
  pub place : IsConnectionLine connection session.address
  pub no_origin : session.origin ≡ None
  pub no_ptime : session.ptime ≡ None

-- what a text is read as: a session that it describes, or nothing where it describes none
abbrev pub Reads : List ℕ → Option Session → Type 0
Reads text (Some session) = Describes text session
Reads text None = (session : Session) → Describes text session → ⊥
