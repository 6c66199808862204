-- What is told of a call agent that is none (RFC 3435, 2.1.4 and 3.2.1.3; the limits are this gateway's profile).
use Rattle.std.specs.Prelude.{ℕ, ◌==◌, ◌||◌, ◌&&◌, not, nat_eq, nat_lt, Bool, true, false, codes, if◌then◌else◌, List, [], ◌++◌, length, Option, Some, None, is_some}
use Rattle.std.specs.List.{list_any, starts_with}
use Rattle.toml.specs.Data.{Data, as_str}
use Rattle.mg_bytes.specs.Bytes.{colon, at_sign}
use Rattle.mg_bytes.specs.Blanks.{is_blank}
use Rattle.mg_bytes.specs.Lines.{is_line_feed}
use Rattle.mg_bytes.specs.Words.{split_once, in_brackets}
use Rattle.mg_bytes.specs.Address.{ipv4_of, port_of}
use Rattle.log_format.specs.Grouping.{number_shown}
use Rattle.endpoint_names.specs.Entity.{longest_entity, longest_local}
use Rattle.gateway_config.specs.Pieces.{value_shown}

-- what an agent is written as
abbrev pub form_wanted : List ℕ
form_wanted = codes ", wanted a text [local@]host[:port]"

-- so many bytes at most
abbrev pub longest_wanted : ℕ → List ℕ → List ℕ
longest_wanted longest words = codes ", wanted at most " ++ number_shown longest ++ words

abbrev pub literal_by : Option (List ℕ) → Bool
literal_by None = false
literal_by (Some address) = is_some (ipv4_of address)

-- an address in brackets
abbrev pub is_literal : List ℕ → Bool
is_literal host = literal_by (in_brackets host)

-- what a host lacks, whatever names there are
abbrev pub host_wanted : List ℕ → Option (List ℕ)
host_wanted host =
    if length host == 0 then Some form_wanted else
    (if starts_with nat_eq host (codes "[") && not (is_literal host) then Some (codes ", wanted an IPv4 address in the brackets") else
    (if is_some (ipv4_of host) then Some (codes ", an address wants brackets") else None))

-- a port from one on
abbrev pub port_up_to : ℕ → List ℕ
port_up_to greatest = codes ", wanted a port from 1 to " ++ number_shown greatest

-- what a port lacks, and what a host lacks that has a right one: a name
abbrev pub port_wanted : List ℕ → List ℕ
port_wanted port =
    if is_some (port_of port) then codes ", no such host in [names]"
    else port_up_to 65535

-- the host comes before the port; one that isn't written is right
abbrev pub sides_by : List ℕ → Option (List ℕ × List ℕ) → List ℕ × List ℕ
sides_by place None = (place, codes "1")
sides_by place (Some sides) = sides

abbrev pub sides_of : List ℕ → List ℕ × List ℕ
sides_of place = sides_by place (split_once colon place)

abbrev pub place_by : Option (List ℕ) → List ℕ → List ℕ
place_by (Some wanted) port = wanted
place_by None port = port_wanted port

abbrev pub place_wanted : List ℕ → List ℕ
place_wanted place = place_by (host_wanted (sides_of place).0) (sides_of place).1

-- the local name comes before both
abbrev pub local_wanted : List ℕ → List ℕ → List ℕ
local_wanted local place =
    if length local == 0 then form_wanted else
    (if nat_lt longest_local (length local) then longest_wanted longest_local (codes " bytes before the @") else place_wanted place)

abbrev pub word_by : List ℕ → Option (List ℕ × List ℕ) → List ℕ
word_by agent None = place_wanted agent
word_by agent (Some sides) = local_wanted sides.0 sides.1

-- of a text: its length comes first, then that it is one word
abbrev pub text_wanted : List ℕ → List ℕ
text_wanted agent =
    if nat_lt longest_entity (length agent) then longest_wanted longest_entity (codes " bytes") else
    (if list_any is_blank agent || list_any is_line_feed agent then codes ", wanted no blank in it"
    else word_by agent (split_once at_sign agent))

abbrev pub agent_by : Option (List ℕ) → List ℕ
agent_by None = form_wanted
agent_by (Some agent) = text_wanted agent

-- what stands in its place, and what may
abbrev pub agent_told : Data → List ℕ
agent_told value = value_shown false value ++ agent_by (as_str value)
