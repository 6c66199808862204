-- What a response does to a command of the gateway's own, which its id joins it to (RFC 3435, 3.2.1.2, 3.5, 4.4.1, 4.4.6
-- and 4.4.7).
use Rattle.std.specs.Prelude.{ℕ, ◌==◌, codes, if◌then◌else◌, List, [], ◌∷◌, Option, Some, option_and_then}
use Rattle.std.specs.declared.net.socket_addr.SocketAddrV4.{SocketAddrV4}
use Rattle.endpoint_names.specs.declared.entity.Entity.{Entity}
use Rattle.endpoint_names.specs.Entity.{entity_of}
use Rattle.mgcp_text.specs.declared.message.Message.TheVariants as messages
use Rattle.mgcp_text.specs.declared.message.Param.{Param}
use Rattle.mgcp_text.specs.Message.{param_at}
use Rattle.command_forms.specs.declared.forms.Target.TheVariants.{All}
use Rattle.transmission.specs.Acknowledging.{asks_for_acknowledgement}
use Rattle.mg_line.specs.Answering.{answered}
use Rattle.mg_line.specs.Opening.{opened}
use Rattle.retransmission.specs.declared.heard.Heard.{Heard}
use Rattle.retransmission.specs.declared.heard.Heard.TheVariants.{Nothing, PutOff, Redirected, Answered}
use Rattle.plain_machine.specs.declared.response.Response.{Response}
use Rattle.plain_machine.specs.declared.setup.Setup.{Setup}
use Rattle.plain_machine.specs.declared.endpoint.Endpoint.{Endpoint}
use Rattle.plain_machine.specs.Effect.{Effect, silently, behind, afterwards}
use Rattle.plain_machine.specs.Message.{of_none, acknowledgement, Sent}
use Rattle.plain_machine.specs.Posting.{line_of_id}
use Rattle.plain_machine.specs.Notifying.{posted, noted}
use Rattle.plain_machine.specs.Announcing.{heard_on, replied, replied_on}
use Rattle.plain_machine.specs.Machine.{Endpoints, on_own, on_line, on_lines}
use Rattle.plain_machine.specs.Requesting.{with_entity, lines_meant}

-- The acknowledgement

-- it goes to where the response came from, whether or not a command with that id is in flight
abbrev pub acknowledged : ℕ → SocketAddrV4 → ℕ → ℕ → List Param → List Sent
acknowledged moment source code id params =
    if asks_for_acknowledgement code params
    then (record { to = source; moment = moment; owner = of_none; said = acknowledgement (messages.Response 0 id [] []) }) ∷ []
    else []

-- What it says

-- whom its first N names, if that can be read (RFC 3435, 3.2.2: NotifiedEntity)
abbrev pub entity_in : Setup → List Param → Option Entity
entity_in setup params = option_and_then (λ param. entity_of setup.names.table param.value) (param_at (codes "N") params)

abbrev pub response_with : Setup → ℕ → ℕ → List Param → Response
response_with setup id code params = record { id = id; code = code; entity = entity_in setup params }

-- What it does on a line

-- the answer lets the line go on, after its post: it notifies whom the answer names
abbrev pub goes_on_with : Effect Endpoint → Setup → ℕ → ℕ → Effect Endpoint
goes_on_with first setup line moment = noted setup line moment first.value (answered first.value.line moment)

abbrev pub responded_as : Heard → Setup → ℕ → ℕ → Response → Endpoint → Effect Endpoint
responded_as Nothing setup line moment response endpoint = silently endpoint
responded_as PutOff setup line moment response endpoint =
    posted endpoint (replied PutOff setup line moment response endpoint.post)
responded_as (Redirected agent) setup line moment response endpoint =
    posted endpoint (replied (Redirected agent) setup line moment response endpoint.post)
responded_as (Answered agent) setup line moment response endpoint =
    goes_on_with (posted endpoint (replied (Answered agent) setup line moment response endpoint.post)) setup line moment

unfoldable pub responded_on : Setup → ℕ → ℕ → Response → Endpoint → Effect Endpoint
responded_on setup line moment response endpoint =
    responded_as (heard_on endpoint.post response) setup line moment response endpoint

-- What it does to the gateway itself, and then to all lines

-- the lines too have another notified entity
unfoldable pub redirected_on : Entity → ℕ → Endpoint → Effect Endpoint
redirected_on agent line endpoint = silently (with_entity (Some agent) endpoint)

-- the gateway serves from now on: a line notifies whom the answer names, and its quarantined events occur (RFC 3435, 4.4.1)
unfoldable pub opened_on : Option Entity → Setup → ℕ → ℕ → Endpoint → Effect Endpoint
opened_on agent setup moment line endpoint =
    noted setup line moment (with_entity agent endpoint) (opened endpoint.line moment)

-- on each line, in the order of their numbers
abbrev pub on_all : Endpoints → (ℕ → Endpoint → Effect Endpoint) → Effect Endpoints
on_all endpoints turn = on_lines (lines_meant endpoints All) endpoints turn

abbrev pub lines_told : Heard → Setup → ℕ → Endpoints → Effect Endpoints
lines_told Nothing setup moment endpoints = silently endpoints
lines_told PutOff setup moment endpoints = silently endpoints
lines_told (Redirected agent) setup moment endpoints = on_all endpoints (redirected_on agent)
lines_told (Answered agent) setup moment endpoints = on_all endpoints (opened_on agent setup moment)

-- the gateway's own post first
abbrev pub own_heard : Setup → Endpoints → ℕ → Response → Effect Endpoints
own_heard setup endpoints moment response =
    afterwards (on_own endpoints (replied_on setup 0 moment response))
    (λ next. lines_told (heard_on endpoints.own response) setup moment next)

-- A response comes

-- what it does to the line of its id; id 0 to 9,999,999 are the gateway's own
abbrev pub responded : Setup → Endpoints → ℕ → Response → Effect Endpoints
responded setup endpoints moment response =
    if line_of_id response.id == 0 then own_heard setup endpoints moment response
    else on_line endpoints (line_of_id response.id) (responded_on setup (line_of_id response.id) moment response)

-- a response from this address: its acknowledgement goes out before anything else that it causes
abbrev pub heard_from : Setup → Endpoints → ℕ → SocketAddrV4 → ℕ → ℕ → List Param → Effect Endpoints
heard_from setup endpoints moment source code id params =
    behind (acknowledged moment source code id params) (responded setup endpoints moment (response_with setup id code params))
