-- An answer to a command (RFC 3435, 3.3): a response that has no transaction id yet.
use Rattle.std.specs.Prelude.{◌≡◌, ◌≤◌, ℕ, true, List, []}
use Rattle.std.specs.List.{list_all}
use Rattle.mgcp_text.specs.declared.message.Param.{Param}
use Rattle.mgcp_text.specs.declared.message.Message.{Message}
use Rattle.mgcp_text.specs.declared.message.Message.TheVariants.{Response}
use Rattle.mgcp_text.specs.Writing.{is_writable_param, is_writable_body}

-- a return code, parameters and a description
pub record AnswerContent : Type 0 where
  pub code : ℕ
  pub params : List Param
  pub body : List ℕ

-- an answer of its code alone
abbrev pub plain_code : ℕ → AnswerContent
plain_code code = record { code = code; params = []; body = [] }

-- what holds of every answer: it can be written
pub record IsAnswer (answer : AnswerContent) : Type 0 where
  pub three_digits : answer.code ≤ 999
  pub each : list_all is_writable_param answer.params ≡ true
  pub whole : is_writable_body answer.body ≡ true

-- the response that an answer is in the transaction with this id
abbrev pub response_of : ℕ → AnswerContent → Message
response_of id answer = Response answer.code id answer.params answer.body
