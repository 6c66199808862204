-- What is told of a message that was sent, in numbers.
use Rattle.std.specs.Prelude.{ℕ, Option, Some, None, slice_get}
use Rattle.std.specs.Net.Addr.{ipv4_bits}
use Rattle.std.specs.Net.Socket.{v4_ip, v4_port}
use Rattle.mgcp_text.specs.declared.message.Verb.{Verb}
use Rattle.mgcp_text.specs.declared.message.Verb.TheVariants.{Epcf, Rqnt, Ntfy, Crcx, Mdcx, Dlcx, Auep, Aucx, Rsip, Other}
use Rattle.plain_machine.specs.declared.label.Whose.{Whose}
use Rattle.plain_machine.specs.declared.label.Whose.TheVariants.{AnswerOf, OwnOf, Nobody}
use Rattle.plain_machine.specs.declared.label.What.{What}
use Rattle.plain_machine.specs.declared.label.What.TheVariants.{Answer, Again, Command, Resent, Acknowledgement}
use Rattle.gateway_core.specs.declared.sent.SentMessage.{SentMessage}
use Rattle.plain_machine.specs.Labelling.{send_of}
use Rattle.rgw_c.specs.declared.instance.Instance.{Instance}
use Rattle.rgw_c.specs.declared.structs.Message.{Message}
use Rattle.rgw_c.specs.declared.numbers.TheConstants.{NOT_OPEN}
use Rattle.rgw_c.specs.Telling.{found_number}

-- the verbs, in the order of RFC 3435, 3.2.1.1; 0 is none of them
abbrev pub verb_number : Verb → ℕ
verb_number Epcf = 1
verb_number Rqnt = 2
verb_number Ntfy = 3
verb_number Crcx = 4
verb_number Mdcx = 5
verb_number Dlcx = 6
verb_number Auep = 7
verb_number Aucx = 8
verb_number Rsip = 9
verb_number Other = 0

-- nobody's, an answer, or of its own
abbrev pub whose_number : Whose → ℕ
whose_number Nobody = 0
whose_number (AnswerOf line) = 1
whose_number (OwnOf line) = 2

-- no line is 0, and so is the gateway itself
abbrev pub line_answered : Option ℕ → ℕ
line_answered None = 0
line_answered (Some line) = line

abbrev pub line_of : Whose → ℕ
line_of Nobody = 0
line_of (AnswerOf line) = line_answered line
line_of (OwnOf line) = line

abbrev pub what_number : What → ℕ
what_number (Answer code) = 1
what_number (Again code) = 2
what_number (Command verb) = 3
what_number (Resent verb send) = 4
what_number Acknowledgement = 5

-- the return code of an answer, else 0
abbrev pub code_of : What → ℕ
code_of (Answer code) = code
code_of (Again code) = code
code_of (Command verb) = 0
code_of (Resent verb send) = 0
code_of Acknowledgement = 0

-- the verb of a command, else 0
abbrev pub verb_of : What → ℕ
verb_of (Answer code) = 0
verb_of (Again code) = 0
verb_of (Command verb) = verb_number verb
verb_of (Resent verb send) = verb_number verb
verb_of Acknowledgement = 0

abbrev pub message_of : SentMessage → Message
message_of sent = record {
  moment = sent.moment;
  host = ipv4_bits (v4_ip sent.to);
  id = sent.label.id;
  port = v4_port sent.to;
  whose = whose_number sent.label.whose;
  line = line_of sent.label.whose;
  what = what_number sent.label.what;
  code = code_of sent.label.what;
  verb = verb_of sent.label.what;
  send = send_of sent.label.what;
}

-- an index of what an open handle holds
abbrev pub message_number : Option Instance → ℕ → ℕ
message_number None index = NOT_OPEN
message_number (Some is) index = found_number (slice_get is.gateway.account.sent index)

abbrev pub message_at : Option Instance → ℕ → Option SentMessage
message_at None index = None
message_at (Some is) index = slice_get is.gateway.account.sent index
