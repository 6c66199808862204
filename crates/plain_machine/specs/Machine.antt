-- The plain machine: its clock, its endpoints, and the transactions that there ever were.
use Rattle.std.specs.Prelude.{ℕ, Bool, ◌+◌, ◌-◌, ◌*◌, ◌%◌, ◌==◌, if◌then◌else◌, List, [], ◌∷◌, map, Option, Some, None, slice_get, slice_set}
use Rattle.std.specs.List.{enumerate_from, range_with_len}
use Rattle.connections.specs.declared.codec.Encoding.TheVariants.{Mu}
use Rattle.connections.specs.Standing.{no_connections}
use Rattle.mg_line.specs.Line.{opening_line}
use Rattle.retransmission.specs.declared.restart.Restart.{Restart}
use Rattle.retransmission.specs.declared.restart.Restart.TheVariants.{Serving}
use Rattle.retransmission.specs.Restarting.{begun, is_serving}
use Rattle.plain_machine.specs.declared.setup.Setup.{Setup}
use Rattle.plain_machine.specs.declared.post.Post.{Post}
use Rattle.plain_machine.specs.declared.endpoint.Endpoint.{Endpoint}
use Rattle.transmission.specs.declared.entry.Entry.{Entry}
use Rattle.plain_machine.specs.Effect.{Effect, silently, effect_map, afterwards}
use Rattle.plain_machine.specs.Setup.{firsts}
use Rattle.plain_machine.specs.Posting.{wait_of}

-- all that changes but the clock: the endpoints, of which the first is line 1, and the post of the gateway itself
pub record Endpoints : Type 0 where
  pub list : List Endpoint
  pub own : Post

-- its history has every first and what it confirmed, in order, and forgets nothing (RFC 3435, 3.5.1)
pub record Machine : Type 0 where
  pub now : ℕ
  pub endpoints : Endpoints
  pub history : List Entry

-- the machine's endpoints change and send
abbrev pub told_in : Machine → Effect Endpoints → Effect Machine
told_in m change = effect_map (λ endpoints. record m { endpoints = endpoints }) change

-- it reports to the configured agent, and sent nothing; its first command has this number
abbrev pub opening_post : Setup → ℕ → Restart → Post
opening_post setup number restart = record { entity = setup.agent; number = number; pending = None; restart = restart }

-- the first port of a line: each line has four places for connections, of two ports each (this gateway's profile)
abbrev pub port_of : Setup → ℕ → ℕ
port_of setup line = setup.media_base + 8 * (line - 1)

-- every line is as a line opens, with the encoding mu and without connections; its numbers begin with the first of the setup,
-- which goes round as they do, and it has nothing to announce
abbrev pub opening_endpoint : Setup → ℕ → Endpoint
opening_endpoint setup line = record {
  line = opening_line;
  post = opening_post setup (setup.first % firsts) Serving;
  encoding = Mu;
  connections = no_connections setup.media_address (port_of setup line);
}

-- the numbers of the gateway itself begin one higher, since 0 is no transaction id, and it waits to announce itself (RFC 3435,
-- 4.4.6)
abbrev pub opening_own : Setup → Post
opening_own setup = opening_post setup (1 + setup.first % firsts) (begun 0 (wait_of setup 0))

abbrev pub opening_endpoints : Setup → Endpoints
opening_endpoints setup = record {
  list = map (opening_endpoint setup) (range_with_len 1 setup.names.lines);
  own = opening_own setup;
}

abbrev pub opening : Setup → Machine
opening setup = record { now = 0; endpoints = opening_endpoints setup; history = [] }

-- the gateway serves once its announcement is answered (RFC 3435, 4.4.6)
abbrev pub serves : Endpoints → Bool
serves endpoints = is_serving endpoints.own.restart

-- the endpoint of the line with this number, if there is one: the numbers begin with 1
abbrev pub endpoint_at : Endpoints → ℕ → Option Endpoint
endpoint_at endpoints line = if line == 0 then None else slice_get endpoints.list (line - 1)

abbrev pub with_endpoint : Endpoints → ℕ → Endpoint → Endpoints
with_endpoint endpoints line endpoint = record endpoints { list = slice_set endpoints.list (line - 1) endpoint }

-- this becomes of the endpoint of this line
abbrev pub with_turn : Endpoints → ℕ → Effect Endpoint → Effect Endpoints
with_turn endpoints line turn = effect_map (with_endpoint endpoints line) turn

abbrev pub turned_at : Option Endpoint → Endpoints → ℕ → (Endpoint → Effect Endpoint) → Effect Endpoints
turned_at None endpoints line turn = silently endpoints
turned_at (Some endpoint) endpoints line turn = with_turn endpoints line (turn endpoint)

-- What comes to one line: this becomes of its endpoint; where there is no such line, nothing happens.
unfoldable pub on_line : Endpoints → ℕ → (Endpoint → Effect Endpoint) → Effect Endpoints
on_line endpoints line turn = turned_at (endpoint_at endpoints line) endpoints line turn

abbrev pub with_own : Endpoints → Post → Endpoints
with_own endpoints own = record endpoints { own = own }

-- What comes to the gateway itself: this becomes of its post.
abbrev pub on_own : Endpoints → (Post → Effect Post) → Effect Endpoints
on_own endpoints turn = effect_map (with_own endpoints) (turn endpoints.own)

-- What comes to one of both: the gateway itself is line 0.
abbrev pub on_either : Endpoints → ℕ → (Post → Effect Post) → (Endpoint → Effect Endpoint) → Effect Endpoints
on_either endpoints line own_turn turn = if line == 0 then on_own endpoints own_turn else on_line endpoints line turn

-- What comes to several lines, one after the other.
unfoldable pub on_lines : List ℕ → Endpoints → (ℕ → Endpoint → Effect Endpoint) → Effect Endpoints
on_lines [] endpoints turn = silently endpoints
on_lines (line ∷ lines) endpoints turn = afterwards (on_line endpoints line (turn line)) (λ next. on_lines lines next turn)

-- the endpoints with the numbers of their lines
abbrev pub numbered : Endpoints → List (ℕ × Endpoint)
numbered endpoints = enumerate_from 1 endpoints.list
