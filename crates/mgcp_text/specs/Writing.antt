-- What is written of a message (RFC 3435, 3.2 and 3.3): single spaces, each line with CRLF.
use Rattle.std.specs.Prelude.{ℕ, ◌+◌, ◌/◌, ◌%◌, ◌&&◌, ◌||◌, ◌==◌, not, nat_le, Bool, true, codes, decimal, if◌then◌else◌, List, [], ◌∷◌, ◌++◌}
use Rattle.std.specs.List.{list_all, list_any, flat_map}
use Rattle.std.specs.Str.{bytes_eq}
use Rattle.mg_bytes.specs.Bytes.{space, digit_zero, colon}
use Rattle.mg_bytes.specs.Blanks.{is_blank, trimmed}
use Rattle.mg_bytes.specs.Lines.{cut, lines_of, is_line_feed, is_dot_line, crlf, ended}
use Rattle.mgcp_text.specs.declared.message.Verb.{Verb}
use Rattle.mgcp_text.specs.declared.message.Verb.TheVariants.{Epcf, Rqnt, Ntfy, Crcx, Mdcx, Dlcx, Auep, Aucx, Rsip, Other}
use Rattle.mgcp_text.specs.declared.message.Param.{Param}
use Rattle.mgcp_text.specs.declared.message.Message.{Message}
use Rattle.mgcp_text.specs.declared.message.Message.TheVariants.{Command, Response}
use Rattle.mgcp_text.specs.Parameter.{is_code}
use Rattle.mg_bytes.specs.Lists.{is_empty}
use Rattle.mgcp_text.specs.Reading.{is_empty_line}

-- a verb's word, in upper case (RFC 3435, 3.2.1.1); of another verb the word isn't known
abbrev pub verb_text : Verb → List ℕ
verb_text Epcf = codes "EPCF"
verb_text Rqnt = codes "RQNT"
verb_text Ntfy = codes "NTFY"
verb_text Crcx = codes "CRCX"
verb_text Mdcx = codes "MDCX"
verb_text Dlcx = codes "DLCX"
verb_text Auep = codes "AUEP"
verb_text Aucx = codes "AUCX"
verb_text Rsip = codes "RSIP"
verb_text Other = []

-- `verb id name MGCP 1.0`
unfoldable pub command_line : Verb → ℕ → List ℕ → List ℕ
command_line verb id name = verb_text verb ++ ((space ∷ decimal id) ++ ((space ∷ name) ++ codes " MGCP 1.0"))

-- a return code in its three digits
abbrev pub code_text : ℕ → List ℕ
code_text code =
    (digit_zero + code / 100) ∷ (digit_zero + code / 10 % 10) ∷ (digit_zero + code % 10) ∷ []

-- the comment after a code
abbrev pub comment : ℕ → List ℕ
comment code = if code == 200 || code == 250 then codes " OK" else []

-- `code id`, with ` OK` after 200 and 250
unfoldable pub response_line : ℕ → ℕ → List ℕ
response_line code id = code_text code ++ (space ∷ decimal id) ++ comment code

abbrev pub value_text : List ℕ → List ℕ
value_text [] = []
value_text (b ∷ bs) = space ∷ b ∷ bs

-- `code: value`, or `code:` where the value is empty
unfoldable pub param_line : Param → List ℕ
param_line param = param.code ++ (colon ∷ value_text param.value)

-- an empty line and the description, where there is one
abbrev pub body_text : List ℕ → List ℕ
body_text [] = []
body_text (b ∷ bs) = crlf ++ (b ∷ bs)

-- a header line, a line for each parameter, and the description
abbrev pub text_with : List ℕ → List Param → List ℕ → List ℕ
text_with line params body = ended line ++ flat_map (λ param. ended (param_line param)) params ++ body_text body

-- the text of a message
unfoldable pub written : Message → List ℕ
written (Command verb id name params body) = text_with (command_line verb id name) params body
written (Response code id params body) = text_with (response_line code id) params body

-- What can be written

-- a code, and a value of one line without blanks round it
abbrev pub is_writable_param : Param → Bool
is_writable_param param =
    is_code param.code && not (list_any is_line_feed param.value)
    && bytes_eq (trimmed param.value) param.value

-- a description: none, or lines that are not all empty, each with CRLF and without blanks at its ends, and
-- none of them a single dot (RFC 3435, 3.5.5)
unfoldable pub is_writable_body : List ℕ → Bool
is_writable_body [] = true
is_writable_body (b ∷ bs) =
    bytes_eq (flat_map ended (lines_of (b ∷ bs))) (b ∷ bs)
    && not (list_all is_empty_line (cut (b ∷ bs))) && not (list_any is_dot_line (cut (b ∷ bs)))

-- a transaction id (RFC 3435, 3.2.1.2)
unfoldable pub is_id : ℕ → Bool
is_id id = nat_le 1 id && nat_le id 999999999

-- a verb whose word is known
abbrev pub is_known : Verb → Bool
is_known verb = not (is_empty (verb_text verb))

-- an endpoint name that is one word of one line
abbrev pub is_writable_name : List ℕ → Bool
is_writable_name name = not (is_empty name) && not (list_any is_blank name) && not (list_any is_line_feed name)

-- a command with a known verb, a transaction id and a name, or a response with a code of three digits and a transaction
-- id, whose parameters and description can be written
unfoldable pub is_writable : Message → Bool
is_writable (Command verb id name params body) =
    is_known verb && is_id id && is_writable_name name && list_all is_writable_param params && is_writable_body body
is_writable (Response code id params body) =
    is_id id && nat_le code 999 && list_all is_writable_param params && is_writable_body body
