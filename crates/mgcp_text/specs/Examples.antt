-- What the worked examples share.
use Rattle.std.specs.Prelude.{ℕ, Bool, List, [], ◌∷◌, codes}
use Rattle.mgcp_text.specs.declared.message.Verb.{Verb}
use Rattle.mgcp_text.specs.declared.message.Verb.TheVariants.{Auep, Crcx}
use Rattle.mgcp_text.specs.declared.message.Param.{Param}
use Rattle.mgcp_text.specs.declared.message.Message.TheVariants.{Command, Response}
use Rattle.mgcp_text.specs.declared.confirmation.IdRange.{IdRange}
use Rattle.mgcp_text.specs.declared.confirmation.KValue.{KValue}
use Rattle.mgcp_text.specs.Reading.{Outcome, message}
use Rattle.mgcp_text.specs.Confirmation.{k_of}
use Rattle.mgcp_text.specs.Writing.{written, is_writable}

-- a parameter
abbrev pub param : List ℕ → List ℕ → Param
param code value = record { code = code; value = value }

-- an audit of an endpoint, without parameters
abbrev pub audit : ℕ → List ℕ → Outcome
audit id name = message (Command Auep id name [] [])

-- the transaction 9 that makes a connection on `x`, with these parameters and this description
abbrev pub creation : List Param → List ℕ → Outcome
creation params body = message (Command Crcx 9 (codes "x") params body)

-- a response
abbrev pub response : ℕ → ℕ → List Param → List ℕ → Outcome
response code id params body = message (Response code id params body)

-- what a K parameter of this value confirms
abbrev pub confirmed : List ℕ → KValue
confirmed value = k_of (param (codes "K") value ∷ [])

-- the ids from a first to a last
abbrev pub range : ℕ → ℕ → IdRange
range first last = record { first = first; last = last }

-- responses of a code alone, of one parameter, and of a description: whether they can be written
abbrev pub is_writable_code : ℕ → ℕ → Bool
is_writable_code code id = is_writable (Response code id [] [])

abbrev pub is_writable_with : List ℕ → List ℕ → Bool
is_writable_with code value = is_writable (Response 200 1 (param code value ∷ []) [])

abbrev pub is_writable_text : List ℕ → Bool
is_writable_text body = is_writable (Response 200 1 [] body)

-- the text of the transaction 7 of this verb on `x`
abbrev pub command_text : Verb → List ℕ
command_text verb = written (Command verb 7 (codes "x") [] [])

-- commands without parameters: whether they can be written
abbrev pub is_writable_command : Verb → ℕ → List ℕ → Bool
is_writable_command verb id name = is_writable (Command verb id name [] [])
