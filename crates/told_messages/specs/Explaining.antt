-- What the log says of commands that weren't done.
use Rattle.std.specs.Prelude.{ℕ, nat_le, ◌==◌, if◌then◌else◌, List, [], Option, Some, None}
use Rattle.command_forms.specs.declared.refused.FaultyPart.{FaultyPart}
use Rattle.command_forms.specs.Explaining.{explanation_of}
use Rattle.log_format.specs.declared.note.Note.TheVariants as notes
use Rattle.log_format.specs.declared.stamp.Stamp.{Stamp}
use Rattle.log_format.specs.Lines.{note_line, refused_line}
use Rattle.transmission.specs.Memory.{most_firsts}
use Rattle.gateway_core.specs.declared.outcome.Reply.{Reply}
use Rattle.gateway_core.specs.declared.outcome.Reply.TheVariants.{First, Again, Silence, NoRoom}
use Rattle.gateway_core.specs.declared.outcome.TextOutcome.{TextOutcome}
use Rattle.gateway_core.specs.declared.outcome.TextOutcome.TheVariants.{NoMessage, Command, Response}

-- the least return code that refuses a command (RFC 3435, 2.4)
abbrev pub least_refusal : ℕ
least_refusal = 400

-- a command that comes before the gateway serves is refused for that (RFC 3435, 2.4): nothing of it is at fault
abbrev pub not_ready : ℕ
not_ready = 405

-- a command is refused: what of it is at fault is told, where that is known, or the code alone
abbrev pub refused_text : Stamp → ℕ → ℕ → Option FaultyPart → List ℕ
refused_text stamp id code None = note_line stamp (notes.Refused id code)
refused_text stamp id code (Some at) =
    if code == not_ready then note_line stamp (notes.Refused id code)
    else refused_line stamp id (explanation_of (record { code = code; at = at }))

abbrev pub reply_text : Stamp → ℕ → Reply → List ℕ
reply_text stamp id (First code fault) = if nat_le least_refusal code then refused_text stamp id code fault else []
reply_text stamp id (Again code) = []
reply_text stamp id Silence = note_line stamp (notes.Unanswered id)
reply_text stamp id NoRoom = note_line stamp (notes.NoRoom most_firsts)

-- A command that is refused is told of where it is new, and a repeat where it isn't answered, since its answer was confirmed
-- (RFC 3435, 3.5.1). So is one that is lost, since as many as are remembered are young.
unfoldable pub reason_text : Stamp → TextOutcome → List ℕ
reason_text stamp NoMessage = []
reason_text stamp (Command verb id reply) = reply_text stamp id reply
reason_text stamp (Response id is_acknowledged) = []
