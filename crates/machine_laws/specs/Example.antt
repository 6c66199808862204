-- What the worked examples of the laws speak of.
use Rattle.std.specs.Prelude.{ℕ, zero, suc, List, [], ◌∷◌, ◌++◌, codes, replicate, Option, Some, None}
use Rattle.transmission.specs.Arrival.{Arrival}
use Rattle.transmission.specs.HistoryExample.{comes}
use Rattle.transmission.specs.Kept.{entries_of}
use Rattle.mgcp_text.specs.Answer.{plain_code}
use Rattle.mgcp_text.specs.declared.message.Param.{Param}
use Rattle.mgcp_text.specs.declared.message.Verb.{Verb}
use Rattle.command_forms.specs.Command.{Command}
use Rattle.command_forms.specs.declared.forms.ConnectionDeed.TheVariants as deeds
use Rattle.command_forms.specs.declared.forms.Deed.{Deed}
use Rattle.connections.specs.declared.connection.Connection.{Connection}
use Rattle.connections.specs.declared.deletion.Deletion.{Deletion}
use Rattle.endpoint_names.specs.declared.entity.Entity.{Entity}
use Rattle.plain_machine.specs.declared.endpoint.Endpoint.{Endpoint}
use Rattle.plain_machine.specs.declared.response.Response.{Response}
use Rattle.plain_machine.specs.Answering.{Transaction, transaction}
use Rattle.plain_machine.specs.Done.{only_answer}
use Rattle.plain_machine.specs.Event.{GatewayEvent}
use Rattle.plain_machine.specs.Machine.{Machine, Endpoints}
use Rattle.plain_machine.specs.Lists.{machine_after}
use Rattle.plain_machine.specs.Example.{two_lines, ready, ready_machine, ready_endpoint, ready_endpoints, requesting_nothing, crcx, dlcx, holding, first_connection, lost_endpoint, lifted, flying, first_endpoints}

-- a command for this name with these parameters
abbrev pub commanding : Verb → List ℕ → List Param → Command
commanding verb name params = record { verb = verb; name = name; params = params; body = [] }

-- a response to the gateway's announcement, which names this entity or none
abbrev pub announced_response : ℕ → Option Entity → Response
announced_response code entity = record { id = 1; code = code; entity = entity }

-- Connections

-- two connections are created on line 1
abbrev pub two_created : List GatewayEvent
two_created = ready ++ crcx 1 (codes "aaln/1") [] ∷ crcx 2 (codes "aaln/1") [] ∷ []

-- the second of them is deleted
abbrev pub second_deleted : List GatewayEvent
second_deleted = dlcx 3 (codes "aaln/1") (codes "C: 1A\r\nI: 2\r\n") ∷ []

abbrev pub second_connection : Connection
second_connection = record first_connection { number = 2 }

-- a deed that deletes connections, and nothing else
abbrev pub deleting : Deletion → Deed
deleting deletion = record (requesting_nothing None) { connections = deeds.Delete deletion }

-- a line that has both, and a gateway whose line 1 has a connection
abbrev pub having_two : Endpoint
having_two = holding (Some first_connection ∷ Some second_connection ∷ None ∷ None ∷ [])

abbrev pub first_called : Endpoints
first_called = (machine_after two_lines (ready_machine two_lines) (crcx 1 (codes "aaln/1") [] ∷ [])).endpoints

-- one whose line 1 has as many as may be
abbrev pub first_full : Endpoints
first_full = first_endpoints (holding (replicate 4 (Some first_connection)) ∷ ready_endpoint two_lines 2 ∷ [])

-- Commands

-- a line whose notification is in flight
abbrev pub notifying : Endpoint
notifying = record (lost_endpoint 6000) { post = flying 1 10000000 lifted (Some 1500) }

-- a command with this id, which is answered 200
abbrev pub transacting : ℕ → Transaction
transacting id = transaction id (Some 1) [] (only_answer (ready_endpoints two_lines) (plain_code 200))

-- a gateway that keeps these firsts
abbrev pub keeping : List Arrival → Machine
keeping firsts = record (ready_machine two_lines) { history = entries_of firsts }

-- so many commands at 1,000, with the ids from 0 on
unfoldable pub arriving : ℕ → List Arrival
arriving zero = []
arriving (suc count) = arriving count ++ comes count 1000 65 ∷ []
