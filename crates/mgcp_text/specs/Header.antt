-- The header line of a message: of a command (RFC 3435, 3.2.1) its verb, transaction id, endpoint name, `MGCP` and version;
-- of a response (3.3) its return code, transaction id and perhaps a comment.
use Rattle.std.specs.Prelude.{ℕ, ◌&&◌, ◌==◌, nat_le, Bool, codes, if◌then◌else◌, List, [], ◌∷◌, length, Option, Some, None, option_map}
use Rattle.std.specs.List.{list_all}
use Rattle.std.specs.Char.{is_ascii_alphanumeric}
use Rattle.std.specs.Str.{bytes_eq}
use Rattle.mg_bytes.specs.Option.{◌>>=◌}
use Rattle.mg_bytes.specs.Case.{same_but_case}
use Rattle.mg_bytes.specs.Numbers.{decimal_of}
use Rattle.mgcp_text.specs.declared.message.Verb.{Verb}
use Rattle.mgcp_text.specs.declared.message.Verb.TheVariants.{Epcf, Rqnt, Ntfy, Crcx, Mdcx, Dlcx, Auep, Aucx, Rsip, Other}
use Rattle.mgcp_text.specs.declared.header.Start.{Start}
use Rattle.mgcp_text.specs.declared.header.Start.TheVariants as starts
use Rattle.mgcp_text.specs.declared.header.Header.{Header}

-- four letters or digits (RFC 3435, 3.2.1.1; that a digit may come first is this gateway's profile)
abbrev pub is_verb_word : List ℕ → Bool
is_verb_word word = length word == 4 && list_all is_ascii_alphanumeric word

-- the verbs, one a row (RFC 3435, 3.2.1.1)
abbrev pub verbs : List (List ℕ × Verb)
verbs =
    (codes "EPCF", Epcf)
    ∷ (codes "RQNT", Rqnt)
    ∷ (codes "NTFY", Ntfy)
    ∷ (codes "CRCX", Crcx)
    ∷ (codes "MDCX", Mdcx)
    ∷ (codes "DLCX", Dlcx)
    ∷ (codes "AUEP", Auep)
    ∷ (codes "AUCX", Aucx)
    ∷ (codes "RSIP", Rsip)
    ∷ []

-- the verb of the first row with this word, without case; a word in no row is another verb
abbrev pub verb_in : List (List ℕ × Verb) → List ℕ → Verb
verb_in [] word = Other
verb_in (row ∷ rows) word = if same_but_case word row.0 then row.1 else verb_in rows word

unfoldable pub verb_of : List ℕ → Verb
verb_of word = verb_in verbs word

abbrev pub command_verb : List ℕ → Option Verb
command_verb word = if is_verb_word word then Some (verb_of word) else None

abbrev pub id_from : ℕ → Option ℕ
id_from n = if n == 0 then None else Some n

-- a transaction id: 1 to 9 digits with a value of at least 1 (RFC 3435, 3.2.1.2)
unfoldable pub id_of : List ℕ → Option ℕ
id_of word = if nat_le (length word) 9 then decimal_of word >>= id_from else None

-- a return code: three digits (RFC 3435, 2.4)
abbrev pub return_code : List ℕ → Option ℕ
return_code word = if length word == 3 then decimal_of word else None

abbrev pub start_from : Option ℕ → List ℕ → Option Start
start_from None word = option_map starts.Command (command_verb word)
start_from (Some code) word = Some (starts.Response code)

-- what the first word says: a return code begins a response, and a verb a command
unfoldable pub start_of : List ℕ → Option Start
start_of word = start_from (return_code word) word

-- what the first word of a line says, the id that is the second, and the words after them
unfoldable pub header_of : List (List ℕ) → Option Header
header_of [] = None
header_of (kind ∷ []) = None
header_of (kind ∷ number ∷ rest) = do
  start ← start_of kind
  id ← id_of number
  Some (record { start = start; id = id; rest = rest })

-- the words after the id of a command: an endpoint name, a protocol and its version
pub record HeaderTail : Type 0 where
  pub name : List ℕ
  pub protocol : List ℕ
  pub version : List ℕ

-- the first three of the words after the id, where there are three; later ones are ignored
abbrev pub tail_of : List (List ℕ) → Option HeaderTail
tail_of (name ∷ protocol ∷ version ∷ more) =
    Some (record { name = name; protocol = protocol; version = version })
tail_of _ = None

-- the protocol that this gateway speaks: `MGCP`, without case, and `1.0` (RFC 3435, 3.2.1.4)
abbrev pub is_version : List ℕ → List ℕ → Bool
is_version protocol version =
    same_but_case protocol (codes "MGCP") && bytes_eq version (codes "1.0")
