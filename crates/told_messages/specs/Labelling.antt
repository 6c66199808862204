-- What the page is told of messages: of the texts that came, of what is sent, and of what is given up.
use Rattle.std.specs.Prelude.{ℕ, Option, Some, None}
use Rattle.gateway_core.specs.declared.outcome.Reply.{Reply}
use Rattle.gateway_core.specs.declared.outcome.Reply.TheVariants as replies
use Rattle.gateway_core.specs.declared.outcome.TextOutcome.{TextOutcome}
use Rattle.gateway_core.specs.declared.outcome.TextOutcome.TheVariants as texts
use Rattle.page_state.specs.declared.label.MessageKind.{MessageKind}
use Rattle.page_state.specs.declared.label.MessageKind.TheVariants as kinds
use Rattle.page_state.specs.declared.label.MessageLabel.{MessageLabel}
use Rattle.plain_machine.specs.declared.given_up.GivenUpCommand.{GivenUpCommand}
use Rattle.gateway_core.specs.declared.sent.SentMessage.{SentMessage}
use Rattle.plain_machine.specs.declared.label.What.{What}
use Rattle.plain_machine.specs.declared.label.What.TheVariants as whats
use Rattle.plain_machine.specs.declared.label.Whose.{Whose}
use Rattle.plain_machine.specs.declared.label.Whose.TheVariants as owners
use Rattle.plain_machine.specs.Labelling.{send_of}

-- a text that came: whose it is isn't told
abbrev pub label_of_text : MessageKind → Option ℕ → Option ℕ → MessageLabel
label_of_text kind id code = record { kind = kind; line = None; id = id; code = code; send = None }

-- a command, by what it gets
abbrev pub command_label : ℕ → Reply → MessageLabel
command_label id (replies.First code fault) = label_of_text kinds.New (Some id) (Some code)
command_label id (replies.Again code) = label_of_text kinds.Repeat (Some id) (Some code)
command_label id replies.Silence = label_of_text kinds.Confirmed (Some id) None
command_label id replies.NoRoom = label_of_text kinds.Lost (Some id) None

abbrev pub text_label : TextOutcome → MessageLabel
text_label texts.NoMessage = label_of_text kinds.Unreadable None None
text_label (texts.Command verb id reply) = command_label id reply
text_label (texts.Response id asked) = label_of_text kinds.Response (Some id) None

-- whose line a message is of that is sent
abbrev pub line_of : Whose → Option ℕ
line_of (owners.AnswerOf line) = line
line_of (owners.OwnOf line) = Some line
line_of owners.Nobody = None

abbrev pub kind_of : What → MessageKind
kind_of (whats.Answer code) = kinds.Answer
kind_of (whats.Again code) = kinds.Again
kind_of (whats.Command verb) = kinds.Command
kind_of (whats.Resent verb send) = kinds.Resent
kind_of whats.Acknowledgement = kinds.Acknowledgement

abbrev pub code_of : What → Option ℕ
code_of (whats.Answer code) = Some code
code_of (whats.Again code) = Some code
code_of (whats.Command verb) = None
code_of (whats.Resent verb send) = None
code_of whats.Acknowledgement = None

abbrev pub sent_label : SentMessage → MessageLabel
sent_label message = record {
  kind = kind_of message.label.what;
  line = line_of message.label.whose;
  id = Some message.label.id;
  code = code_of message.label.what;
  send = Some (send_of message.label.what);
}

abbrev pub given_up_label : GivenUpCommand → MessageLabel
given_up_label given_up =
    record { kind = kinds.GivenUp; line = Some given_up.line; id = Some given_up.id; code = None; send = None }
