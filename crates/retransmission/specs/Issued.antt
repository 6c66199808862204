-- A command that was issued: what is read as one, and the answer to it (RFC 3435, 3.2.1 and 3.5).
use Rattle.std.specs.Prelude.{ℕ, ◌==◌, ◌&&◌, Bool, false, List, find, option_map, Option}
use Rattle.std.specs.Str.{bytes_eq}
use Rattle.mgcp_text.specs.declared.message.Message.TheVariants as messages
use Rattle.mgcp_text.specs.Reading.{Outcome, message, no_header, bad_version, bad_body}
use Rattle.retransmission.specs.declared.issued.Answer.{Answer}
use Rattle.retransmission.specs.declared.issued.Answered.{Answered}

-- it was read as a command with this id and this name
abbrev pub is_command_as : ℕ → List ℕ → Outcome → Bool
is_command_as id name (message (messages.Command verb other of params body)) = other == id && bytes_eq of name
is_command_as id name (message (messages.Response code other params body)) = false
is_command_as id name no_header = false
is_command_as id name (bad_version other) = false
is_command_as id name (bad_body other) = false

-- the answer to the command with this id, once there is one
abbrev pub answered_with : ℕ → List Answered → Option Answer
answered_with id answers = option_map (λ one. one.answer) (find (λ one. one.id == id) answers)
