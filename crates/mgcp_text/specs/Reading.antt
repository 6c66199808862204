-- What a text is read as, as a function, so that it computes. `Spelling` says the same as a relation.
use Rattle.std.specs.Prelude.{◌≡◌, ⊤, ℕ, Bool, true, false, ◌&&◌, not, ◌++◌, if◌then◌else◌, List, [], ◌∷◌, Option, Some, None, is_some, Result, Ok, Err, option_and_then, option_map}
use Rattle.std.specs.List.{concat, list_all}
use Rattle.mg_bytes.specs.Lists.{is_empty}
use Rattle.mg_bytes.specs.Checks.{unless, checked, given}
use Rattle.mg_bytes.specs.Lines.{cut, line_of}
use Rattle.mg_bytes.specs.Words.{words}
use Rattle.mgcp_text.specs.declared.message.Verb.{Verb}
use Rattle.mgcp_text.specs.declared.message.Param.{Param}
use Rattle.mgcp_text.specs.declared.message.Message.{Message}
use Rattle.mgcp_text.specs.declared.message.Message.TheVariants.{Command, Response}
use Rattle.mgcp_text.specs.declared.message.TextFault.{TextFault}
use Rattle.mgcp_text.specs.declared.message.TextFault.TheVariants.{OutOfMemory, NoHeader, BadVersion, BadBody}
use Rattle.mgcp_text.specs.declared.header.Start.{Start}
use Rattle.mgcp_text.specs.declared.header.Start.TheVariants as starts
use Rattle.mgcp_text.specs.declared.header.Header.{Header}
use Rattle.mgcp_text.specs.Header.{tail_of, header_of, is_version}
use Rattle.mgcp_text.specs.Parameter.{param_of}

-- what a text can be read as
pub data Outcome : Type 0 where
  message : Message → Outcome
  no_header : Outcome
  bad_version : ℕ → Outcome
  bad_body : ℕ → Outcome

-- the transaction id of what was read, if it has one
abbrev pub id_in : Outcome → Option ℕ
id_in (message (Command verb id name params body)) = Some id
id_in (message (Response code id params body)) = Some id
id_in no_header = None
id_in (bad_version id) = Some id
id_in (bad_body id) = Some id

-- the return code of what was read, if it is a response
abbrev pub code_in : Outcome → Option ℕ
code_in (message (Command verb id name params body)) = None
code_in (message (Response code id params body)) = Some code
code_in no_header = None
code_in (bad_version id) = None
code_in (bad_body id) = None

-- what a reader answered, unless memory was refused
abbrev pub outcome_of : Result Message TextFault → Option Outcome
outcome_of (Ok m) = Some (message m)
outcome_of (Err OutOfMemory) = None
outcome_of (Err NoHeader) = Some no_header
outcome_of (Err (BadVersion id)) = Some (bad_version id)
outcome_of (Err (BadBody id)) = Some (bad_body id)

-- the piece is an empty line, or one of blanks
abbrev pub is_empty_line : List ℕ → Bool
is_empty_line piece = is_empty (line_of piece)

-- the pieces from the first line on that isn't empty
unfoldable pub skip_empty : List (List ℕ) → List (List ℕ)
skip_empty [] = []
skip_empty (piece ∷ pieces) = if is_empty_line piece then skip_empty pieces else piece ∷ pieces

abbrev pub put_front : List Param → List Param × List (List ℕ) → List Param × List (List ℕ)
put_front front read = (front ++ read.0, read.1)

-- the parameters up to the first empty line, and the pieces after it; none where another line stands there
unfoldable pub params_of : List (List ℕ) → Option (List Param × List (List ℕ))
params_of [] = Some ([], [])
params_of (piece ∷ pieces) =
    if is_empty_line piece then Some ([], pieces) else
    option_and_then (λ param. option_map (put_front (param ∷ [])) (params_of pieces))
    (param_of (line_of piece))

-- what was read of a line is put before the rest, and a line that is no parameter is skipped
abbrev pub put_read : Option Param → List Param × List (List ℕ) → List Param × List (List ℕ)
put_read None read = read
put_read (Some param) read = put_front (param ∷ []) read

-- the same of a response, where other lines may stand among the parameters: all parameters are kept
unfoldable pub some_params_of : List (List ℕ) → List Param × List (List ℕ)
some_params_of [] = ([], [])
some_params_of (piece ∷ pieces) =
    if is_empty_line piece then ([], pieces) else put_read (param_of (line_of piece)) (some_params_of pieces)

-- the text of the pieces, or none where each is an empty line
unfoldable pub description_of : List (List ℕ) → List ℕ
description_of pieces = if list_all is_empty_line pieces then [] else concat pieces

-- the message, or what is read in its place
abbrev pub read_as : Result Message Outcome → Outcome
read_as (Ok said) = message said
read_as (Err fault) = fault

-- a command whose header begins with this verb and id, goes on with these words, and has these pieces after it.
-- The first of its faults counts: too few words, another protocol or version, a line that is no parameter.
unfoldable pub command_from : Verb → ℕ → List (List ℕ) → List (List ℕ) → Outcome
command_from verb id rest pieces = read_as
    (given (tail_of rest) (bad_body id) (λ tail.
    checked (unless (is_version tail.protocol tail.version) (bad_version id))
    (given (params_of pieces) (bad_body id) (λ read.
    Ok (Command verb id tail.name read.0 (description_of read.1))))))

-- a response whose header has this return code and id, and these pieces after it: it has no fault
unfoldable pub response_from : ℕ → ℕ → List (List ℕ) → Outcome
response_from code id pieces =
    let read = some_params_of pieces in message (Response code id read.0 (description_of read.1))

-- a message, by what its header begins with: the further words of a response's header are ignored
abbrev pub message_from : Start → ℕ → List (List ℕ) → List (List ℕ) → Outcome
message_from (starts.Command verb) id rest pieces = command_from verb id rest pieces
message_from (starts.Response code) id rest pieces = response_from code id pieces

abbrev pub header_from : Option Header → List (List ℕ) → Outcome
header_from None pieces = no_header
header_from (Some h) pieces = message_from h.start h.id h.rest pieces

abbrev pub outcome_from : List (List ℕ) → Outcome
outcome_from [] = no_header
outcome_from (piece ∷ pieces) = header_from (header_of (words (line_of piece))) pieces

-- what a text is read as
unfoldable pub read_text : List ℕ → Outcome
read_text text = outcome_from (skip_empty (cut text))

-- Want of memory

-- to read parameters takes memory where the first piece is one
abbrev pub has_params : List (List ℕ) → Bool
has_params [] = false
has_params (piece ∷ pieces) = not (is_empty_line piece) && is_some (param_of (line_of piece))

-- to read a text takes memory for its parameters alone
abbrev pub takes_memory : Outcome → Bool
takes_memory no_header = false
takes_memory (bad_version id) = false
takes_memory (bad_body id) = true
takes_memory (message (Command verb id name params body)) = not (is_empty params)
takes_memory (message (Response code id params body)) = not (is_empty params)

-- a reader stops for want of memory only where it takes any
abbrev pub ReadsForMemory : Bool → Result Message TextFault → Type 0
ReadsForMemory takes (Ok said) = ⊤
ReadsForMemory takes (Err OutOfMemory) = takes ≡ true
ReadsForMemory takes (Err NoHeader) = ⊤
ReadsForMemory takes (Err (BadVersion id)) = ⊤
ReadsForMemory takes (Err (BadBody id)) = ⊤
