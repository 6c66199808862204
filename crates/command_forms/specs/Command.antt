-- What is read of a command (RFC 3435, 3.2).
use Rattle.std.specs.Prelude.{ℕ, List, Option, Some, None}
use Rattle.mgcp_text.specs.declared.message.Verb.{Verb}
use Rattle.mgcp_text.specs.declared.message.Param.{Param}
use Rattle.mgcp_text.specs.declared.message.Message.{Message}
use Rattle.mgcp_text.specs.declared.message.Message.TheVariants as messages

-- its verb, the name of the endpoint, the parameters, and the text behind them, which is empty where there is none
pub record Command : Type 0 where
  pub verb : Verb
  pub name : List ℕ
  pub params : List Param
  pub body : List ℕ

-- the command that a message is, if it is one
abbrev pub command_in : Message → Option Command
command_in (messages.Command verb id name params body) =
    Some (record { verb = verb; name = name; params = params; body = body })
command_in (messages.Response code id params body) = None
