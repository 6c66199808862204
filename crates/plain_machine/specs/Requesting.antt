-- A deed on the lines that a command is for (RFC 3435, 2.3.2, 2.3.3, 2.3.5 to 2.3.7, 2.3.9 and 3.2.1.3): on all of them,
-- or on none.
use Rattle.std.specs.Prelude.{ℕ, Bool, if◌then◌else◌, List, [], ◌∷◌, ◌++◌, find, map, filter, Option, Some, None, option_map, option_and_then, Result, Ok, Err}
use Rattle.std.specs.List.{list_any}
use Rattle.std.specs.Option.{unwrap_or}
use Rattle.std.specs.Result.{result_err}
use Rattle.mg_bytes.specs.Checks.{first_fault}
use Rattle.mgcp_text.specs.declared.message.Param.{Param}
use Rattle.mgcp_text.specs.Answer.{AnswerContent, plain_code}
use Rattle.endpoint_names.specs.declared.entity.Entity.{Entity}
use Rattle.connections.specs.declared.codec.Encoding.{Encoding}
use Rattle.connections.specs.Places.{is_free}
use Rattle.connections.specs.Standing.{Left, left_by}
use Rattle.command_forms.specs.declared.forms.Target.{Target}
use Rattle.command_forms.specs.declared.forms.Target.TheVariants.{One, All, Any}
use Rattle.command_forms.specs.Meaning.{is_for}
use Rattle.mg_line.specs.Request.{Request}
use Rattle.mg_line.specs.Line.{LineState, LineDone}
use Rattle.mg_line.specs.Requesting.{refusal_of, asked}
use Rattle.plain_machine.specs.declared.setup.Setup.{Setup}
use Rattle.plain_machine.specs.declared.endpoint.Endpoint.{Endpoint}
use Rattle.command_forms.specs.declared.forms.Deed.{Deed}
use Rattle.plain_machine.specs.Effect.{Effect}
use Rattle.plain_machine.specs.Notifying.{noted}
use Rattle.plain_machine.specs.Machine.{Endpoints, endpoint_at, on_lines, numbered}
use Rattle.plain_machine.specs.Done.{Done, only_answer}
use Rattle.plain_machine.specs.Reporting.{name_of_line}
use Rattle.plain_machine.specs.Connecting.{Shown, nothing_shown, done_code, connected}

-- what becomes of the connections of a line; an encoding that is given counts already (RFC 3435, 2.3.2)
abbrev pub encoding_with : Deed → Endpoint → Encoding
encoding_with deed endpoint = unwrap_or deed.encoding endpoint.encoding

abbrev pub connected_on : Deed → Endpoint → Result (Left Shown) ℕ
connected_on deed endpoint = connected deed.connections (encoding_with deed endpoint) endpoint.connections

-- whether the lines refuse it

-- the code with which a line refuses it, by its connections first; where nothing is requested no request is refused
abbrev pub refusal_by : Deed → Endpoint → Option ℕ
refusal_by deed endpoint = first_fault (result_err (connected_on deed endpoint)
    ∷ option_and_then (refusal_of endpoint.line) deed.request ∷ [])

-- if it is for that line
abbrev pub refusal_on : Target → Deed → ℕ × Endpoint → Option ℕ
refusal_on lines deed one = if is_for lines one.0 then refusal_by deed one.1 else None

-- the code of the least line that refuses it
unfoldable pub refused_by : Endpoints → Target → Deed → Option ℕ
refused_by endpoints lines deed = first_fault (map (refusal_on lines deed) (numbered endpoints))

-- the numbers of the lines that it is for
abbrev pub lines_meant : Endpoints → Target → List ℕ
lines_meant endpoints lines = filter (is_for lines) (map (λ one. one.0) (numbered endpoints))

-- what it does where none refuses it

-- a notified entity that is given is the line's from now on (RFC 3435, 2.3.3)
abbrev pub with_entity : Option Entity → Endpoint → Endpoint
with_entity entity endpoint =
    record endpoint { post = record endpoint.post { entity = unwrap_or entity endpoint.post.entity } }

-- and so is an encoding; then come the connections
abbrev pub with_connections : Deed → Endpoint → Endpoint
with_connections deed endpoint = record endpoint {
  encoding = encoding_with deed endpoint;
  connections = left_by endpoint.connections (connected_on deed endpoint);
}

-- what the line does that is asked; where nothing is requested it stays, and has nothing to tell
abbrev pub asked_if : Option Request → LineState → ℕ → LineDone
asked_if None line moment = record { line = line; notice = None }
asked_if (Some request) line moment = asked line request moment

-- the deed on an endpoint at this moment: entity and encoding, then connections, then the request; what its line has to tell
-- goes to the entity that it now has
unfoldable pub deed_on : Setup → Deed → ℕ → ℕ → Endpoint → Effect Endpoint
deed_on setup deed moment line endpoint =
    noted setup line moment (with_connections deed (with_entity deed.entity endpoint)) (asked_if deed.request endpoint.line moment)

-- on each line that it is for, in the order of their numbers
abbrev pub deed_on_all : Setup → Endpoints → Target → Deed → ℕ → Effect Endpoints
deed_on_all setup endpoints lines deed moment = on_lines (lines_meant endpoints lines) endpoints (deed_on setup deed moment)

-- what it is answered

abbrev pub shown_by : Result (Left Shown) ℕ → Shown
shown_by (Ok done) = done.answer
shown_by (Err code) = nothing_shown

abbrev pub shown_on : Option Endpoint → Deed → Shown
shown_on None deed = nothing_shown
shown_on (Some endpoint) deed = shown_by (connected_on deed endpoint)

-- of one line what is to be told of its connections; of all lines, of which no connection is named, nothing
unfoldable pub shown_of : Endpoints → Target → Deed → Shown
shown_of endpoints (One line) deed = shown_on (endpoint_at endpoints line) deed
shown_of endpoints All deed = nothing_shown
shown_of endpoints Any deed = nothing_shown

-- with these further parameters
abbrev pub answer_with : List Param → Deed → Shown → AnswerContent
answer_with more deed shown =
    record { code = done_code deed.connections; params = shown.params ++ more; body = shown.body }

abbrev pub unless_refused : Option ℕ → Endpoints → Done → Done
unless_refused None endpoints done = done
unless_refused (Some code) endpoints done = only_answer endpoints (plain_code code)

-- a deed at this moment: the code of the least line that refuses it, and then nothing is done; else it is done on each
abbrev pub deed_done : Setup → Endpoints → Target → List Param → Deed → ℕ → Done
deed_done setup endpoints lines more deed moment =
    unless_refused (refused_by endpoints lines deed) endpoints (record {
      told = deed_on_all setup endpoints lines deed moment;
      answer = answer_with more deed (shown_of endpoints lines deed);
    })

-- Any one line is the least that has a place for one more connection (this gateway's profile); none is 410, and no other
-- is asked where that one refuses

abbrev pub has_place : ℕ × Endpoint → Bool
has_place one = list_any is_free one.1.connections.places

unfoldable pub line_with_place : Endpoints → Option ℕ
line_with_place endpoints = option_map (λ one. one.0) (find has_place (numbered endpoints))

-- it is named in the answer (RFC 3435, 2.3.5: SpecificEndpointId)
abbrev pub done_there : Option ℕ → Setup → Endpoints → Deed → ℕ → Done
done_there None setup endpoints deed moment = only_answer endpoints (plain_code 410)
done_there (Some line) setup endpoints deed moment =
    deed_done setup endpoints (One line) (name_of_line setup line ∷ []) deed moment

-- a deed for such lines at this moment
abbrev pub done_for : Setup → Endpoints → Target → Deed → ℕ → Done
done_for setup endpoints (One line) deed moment = deed_done setup endpoints (One line) [] deed moment
done_for setup endpoints All deed moment = deed_done setup endpoints All [] deed moment
done_for setup endpoints Any deed moment = done_there (line_with_place endpoints) setup endpoints deed moment
