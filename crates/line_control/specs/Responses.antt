-- What a final response to a command of the exchange says became of it.
use Rattle.std.specs.Prelude.{ℕ, Bool, true, false, ◌&&◌, nat_lt, if◌then◌else◌, codes, List, [], ◌∷◌, Option, Some, None}
use Rattle.mg_bytes.specs.Numbers.{identifier_of}
use Rattle.mgcp_text.specs.declared.message.Param.{Param}
use Rattle.mgcp_text.specs.declared.message.Message.TheVariants as messages
use Rattle.mgcp_text.specs.Message.{param_at}
use Rattle.mgcp_text.specs.Reading.{Outcome as Read, message, no_header, bad_version, bad_body, read_text}
use Rattle.call_processing.specs.declared.command.Command.{Command}
use Rattle.call_processing.specs.declared.command.Command.TheVariants.{Ask, Create, Modify, Delete}
use Rattle.call_processing.specs.declared.command.Outcome.{Outcome}
use Rattle.call_processing.specs.declared.command.Outcome.TheVariants.{Created, Answered, GivenUp}

abbrev pub creates : Option Command → Bool
creates None = false
creates (Some (Ask asked)) = false
creates (Some (Create call joined)) = true
creates (Some (Modify call)) = false
creates (Some (Delete call)) = false

abbrev pub connection_at : Option Param → Option (List ℕ)
connection_at None = None
connection_at (Some param) = identifier_of param.value

-- the connection that an answer names
abbrev pub connection_in : List Param → Option (List ℕ)
connection_in params = connection_at (param_at (codes "I") params)

-- what CRCX created, where its answer names a connection and describes it; else its return code alone is known
abbrev pub created : ℕ → Option (List ℕ) → List ℕ → Outcome
created code None body = Answered code
created code (Some connection) [] = Answered code
created code (Some connection) (byte ∷ bytes) = Created connection (byte ∷ bytes)

-- the answer says what was created: it isn't refused
abbrev pub is_creation : ℕ → Option Command → Bool
is_creation code flight = nat_lt code 300 && creates flight

-- what CRCX created, by what its answer was read as; one that can't be read says nothing, so that the connection is deleted again
abbrev pub created_by : ℕ → Read → Outcome
created_by code (message (messages.Response of id params body)) = created code (connection_in params) body
created_by code (message (messages.Command verb id name params body)) = Answered code
created_by code no_header = GivenUp
created_by code (bad_version id) = GivenUp
created_by code (bad_body id) = GivenUp

-- what became of the command in flight, by the text of the response with this code
abbrev pub outcome_by : ℕ → Option Command → List ℕ → Outcome
outcome_by code flight text = if is_creation code flight then created_by code (read_text text) else Answered code
