-- The codecs of a connection (RFC 3435, 2.3.5 and 3.4; RFC 3551, 6). That there are two, and which comes first by the
-- encoding of the line, is this gateway's profile.
use Rattle.std.specs.Prelude.{ℕ, Bool, true, false, nat_eq, if◌then◌else◌, List, [], ◌∷◌, codes, Option, Some, None}
use Rattle.std.specs.List.{list_any}
use Rattle.mg_bytes.specs.Case.{same_but_case}
use Rattle.connections.specs.declared.codec.Codec.{Codec}
use Rattle.connections.specs.declared.codec.Codec.TheVariants.{Pcmu, Pcma}
use Rattle.connections.specs.declared.codec.Codecs.{Codecs}
use Rattle.connections.specs.declared.codec.Codecs.TheVariants.{Only, Both}
use Rattle.connections.specs.declared.codec.Encoding.{Encoding}
use Rattle.connections.specs.declared.codec.Encoding.TheVariants.{Mu, A}

-- the payload type of a codec (RFC 3551, 6, table 4)
abbrev pub payload_type : Codec → ℕ
payload_type Pcmu = 0
payload_type Pcma = 8

-- the other one of the two
abbrev pub other_than : Codec → Codec
other_than Pcmu = Pcma
other_than Pcma = Pcmu

abbrev pub is_same_codec : Codec → Codec → Bool
is_same_codec Pcmu Pcmu = true
is_same_codec Pcma Pcma = true
is_same_codec Pcmu Pcma = false
is_same_codec Pcma Pcmu = false

abbrev pub are_same_codecs : Codecs → Codecs → Bool
are_same_codecs (Only codec) (Only other) = is_same_codec codec other
are_same_codecs (Both first) (Both other) = is_same_codec first other
are_same_codecs (Only codec) (Both other) = false
are_same_codecs (Both first) (Only other) = false

-- the codecs, the first first
abbrev pub listed : Codecs → List Codec
listed (Only codec) = codec ∷ []
listed (Both first) = first ∷ other_than first ∷ []

abbrev pub listed_or_none : Option Codecs → List Codec
listed_or_none None = []
listed_or_none (Some codecs) = listed codecs

-- the codecs where none are asked for: both, that of the line's encoding first
abbrev pub codecs_by : Encoding → Codecs
codecs_by Mu = Both Pcmu
codecs_by A = Both Pcma

-- a description offers a codec by its payload type
abbrev pub offers : List ℕ → Codec → Bool
offers payloads codec = list_any (λ payload. nat_eq payload (payload_type codec)) payloads

-- what is left of both, by whether the first and whether the other is offered
abbrev pub left_of_both : Bool → Bool → Codec → Option Codecs
left_of_both true true first = Some (Both first)
left_of_both true false first = Some (Only first)
left_of_both false true first = Some (Only (other_than first))
left_of_both false false first = None

-- those of the list that are offered, in its order; nothing where none is
abbrev pub offered_of : List ℕ → Codecs → Option Codecs
offered_of payloads (Only codec) = if offers payloads codec then Some (Only codec) else None
offered_of payloads (Both first) = left_of_both (offers payloads first) (offers payloads (other_than first)) first

-- The spelling of an encoding and of codecs

abbrev pub codec_named : List ℕ → Option Codec
codec_named name =
    if same_but_case name (codes "PCMU") then Some Pcmu else
    (if same_but_case name (codes "PCMA") then Some Pcma else None)

abbrev pub codec_name : Codec → List ℕ
codec_name Pcmu = codes "PCMU"
codec_name Pcma = codes "PCMA"

-- the value of B: `e:mu` or `e:A` (RFC 3435, 2.3.2 and 3.2.2)
abbrev pub encoding_named : List ℕ → Option Encoding
encoding_named value =
    if same_but_case value (codes "e:mu") then Some Mu else
    (if same_but_case value (codes "e:A") then Some A else None)

abbrev pub encoding_text : Encoding → List ℕ
encoding_text Mu = codes "e:mu"
encoding_text A = codes "e:A"
