-- What is told of what came at the last event, and of what was given up at it, in numbers.
use Rattle.std.specs.Prelude.{ℕ, Bool, true, false, Option, Some, None, slice_get}
use Rattle.mgcp_text.specs.declared.message.Verb.{Verb}
use Rattle.command_forms.specs.declared.refused.FaultyPart.{FaultyPart}
use Rattle.command_forms.specs.declared.refused.FaultyPart.TheVariants as parts
use Rattle.plain_machine.specs.declared.given_up.GivenUpCommand.{GivenUpCommand}
use Rattle.gateway_core.specs.declared.outcome.Reply.{Reply}
use Rattle.gateway_core.specs.declared.outcome.Reply.TheVariants.{First, Again, Silence, NoRoom}
use Rattle.gateway_core.specs.declared.outcome.TextOutcome.{TextOutcome}
use Rattle.gateway_core.specs.declared.outcome.TextOutcome.TheVariants.{NoMessage, Command, Response}
use Rattle.rgw_c.specs.declared.instance.Instance.{Instance}
use Rattle.rgw_c.specs.declared.structs.OutcomeTold.{OutcomeTold}
use Rattle.rgw_c.specs.declared.structs.GivenUpTold.{GivenUpTold}
use Rattle.rgw_c.specs.declared.numbers.TheConstants.{NOT_OPEN}
use Rattle.rgw_c.specs.Account.{verb_number}
use Rattle.rgw_c.specs.Telling.{found_number}

-- What came

-- a verb that couldn't be read is 0, as none of them is
abbrev pub verb_read : Option Verb → ℕ
verb_read None = 0
verb_read (Some verb) = verb_number verb

-- what of a command is at fault: nothing that is known, its verb, its endpoint's name, a parameter line, a parameter that is missing or
-- its value, or the description of the remote end
abbrev pub fault_number : Option FaultyPart → ℕ
fault_number None = 0
fault_number (Some parts.Verb) = 1
fault_number (Some parts.Name) = 2
fault_number (Some (parts.Line number)) = 3
fault_number (Some (parts.Missing letter)) = 4
fault_number (Some (parts.Value letter)) = 5
fault_number (Some parts.Description) = 6

-- which line that is, or which parameter, by its letter; else 0
abbrev pub fault_place : Option FaultyPart → ℕ
fault_place None = 0
fault_place (Some parts.Verb) = 0
fault_place (Some parts.Name) = 0
fault_place (Some (parts.Line number)) = number
fault_place (Some (parts.Missing letter)) = letter
fault_place (Some (parts.Value letter)) = letter
fault_place (Some parts.Description) = 0

-- a text that is no command, and what it got
abbrev pub no_command : ℕ → ℕ → OutcomeTold
no_command came got = record { place = 0; id = 0; came = came; verb = 0; got = got; code = 0; fault = 0 }

-- a command, what it got, the return code of its answer, and what of it is at fault
abbrev pub command_with : Option Verb → ℕ → ℕ → ℕ → Option FaultyPart → OutcomeTold
command_with verb id got code at = record {
  place = fault_place at;
  id = id;
  came = 2;
  verb = verb_read verb;
  got = got;
  code = code;
  fault = fault_number at;
}

-- a command gets an answer, its stored answer once more, or silence: its answer was confirmed, or there is no room for it
abbrev pub command_told : Option Verb → ℕ → Reply → OutcomeTold
command_told verb id (First code at) = command_with verb id 1 code at
command_told verb id (Again code) = command_with verb id 2 code None
command_told verb id Silence = command_with verb id 3 0 None
command_told verb id NoRoom = command_with verb id 4 0 None

-- no message, a command, or a response, which an acknowledgement may have got
abbrev pub outcome_of : TextOutcome → OutcomeTold
outcome_of NoMessage = no_command 1 0
outcome_of (Command verb id reply) = command_told verb id reply
outcome_of (Response id false) = no_command 3 0
outcome_of (Response id true) = no_command 3 5

-- an index of what an open handle holds
abbrev pub outcome_at : Option Instance → ℕ → Option TextOutcome
outcome_at None index = None
outcome_at (Some is) index = slice_get is.gateway.outcomes index

abbrev pub outcome_number : Option Instance → ℕ → ℕ
outcome_number None index = NOT_OPEN
outcome_number (Some is) index = found_number (slice_get is.gateway.outcomes index)

-- What was given up

abbrev pub given_up_of : GivenUpCommand → GivenUpTold
given_up_of command =
    record { moment = command.moment; id = command.id; line = command.line; verb = verb_number command.verb }

abbrev pub given_up_at : Option Instance → ℕ → Option GivenUpCommand
given_up_at None index = None
given_up_at (Some is) index = slice_get is.gateway.account.given_up index

abbrev pub given_up_number : Option Instance → ℕ → ℕ
given_up_number None index = NOT_OPEN
given_up_number (Some is) index = found_number (slice_get is.gateway.account.given_up index)
