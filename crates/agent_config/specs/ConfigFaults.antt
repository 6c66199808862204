-- Why a configuration is refused, in a line: the key, what stands there, and what may. All that it has of the configuration is escaped.
use Rattle.std.specs.Prelude.{◌≡◌, ⊤, ℕ, ◌==◌, codes, if◌then◌else◌, List, [], ◌++◌, length, Option, Some, None}
use Rattle.std.specs.Borrow.{Bor}
use Rattle.toml.specs.Data.{Data, as_str, type_name}
use Rattle.toml.specs.View.{view}
use Rattle.toml.specs.declared.value.Value.{Value}
use Rattle.endpoint_names.specs.Table.{longest_domain}
use Rattle.log_format.specs.Escaping.{shown}
use Rattle.log_format.specs.Grouping.{number_shown}
use Rattle.agent_config.specs.declared.config_fault.ConfigRefusal.{ConfigRefusal}
use Rattle.agent_config.specs.declared.config_fault.ConfigRefusal.TheVariants.{OutOfMemory, Told}
use Rattle.agent_config.specs.declared.config_fault.Place.{Place}
use Rattle.agent_config.specs.declared.config_fault.ValueFault.{ValueFault}
use Rattle.agent_config.specs.declared.config_fault.ValueFault.TheVariants.{NoAddress, NoDigitMap, NoDomain, NoGateway, NoGateways, NoNumber, NoNumbers, Twice}

-- so many gateways, lines of one, and keys of a number there are at most
abbrev pub most_gateways : ℕ
most_gateways = 1024

abbrev pub most_numbers : ℕ
most_numbers = 96

abbrev pub longest_number : ℕ
longest_number = 32

-- a key of the agent's own; or one of a gateway, whose own key stands alone where no other follows
abbrev pub key_behind : List ℕ → List ℕ
key_behind key = if length key == 0 then [] else codes "." ++ shown key

abbrev pub place_by : Option (List ℕ) → List ℕ → List ℕ
place_by None key = shown key
place_by (Some domain) key = codes "gateways.\"" ++ shown domain ++ codes "\"" ++ key_behind key

abbrev pub domain_of : Option (Bor (List ℕ)) → Option (List ℕ)
domain_of None = None
domain_of (Some domain) = Some domain.now

abbrev pub place_text : Place → List ℕ
place_text place = place_by (domain_of place.gateway) place.key.now

-- a text that stands there, in quotes; or of what kind it is
abbrev pub value_by : Option (List ℕ) → Data → List ℕ
value_by None value = type_name value
value_by (Some text) value = codes "\"" ++ shown text ++ codes "\""

abbrev pub value_text : Data → List ℕ
value_text value = value_by (as_str value) value

-- at least one is wanted, and so many at most
abbrev pub up_to : ℕ → List ℕ → List ℕ
up_to most of = codes ", wanted 1 to " ++ number_shown most ++ of

-- what may stand there
abbrev pub fault_text : ValueFault → List ℕ
fault_text NoAddress = codes ", wanted an address a.b.c.d:port, with a port from 1 on"
fault_text NoDigitMap = codes ", wanted a digit map, as \"(2xx|0)\""
fault_text NoDomain = up_to longest_domain (codes " letters, digits, \"-\" and \".\"")
fault_text NoGateway = codes ", wanted a table with address and numbers"
fault_text NoGateways = up_to most_gateways (codes " tables")
fault_text NoNumber = up_to longest_number (codes " of 0 to 9, A to D, * and #, in quotes")
fault_text NoNumbers = up_to most_numbers (codes " numbers in a list")
fault_text Twice = codes " stands twice"

-- a key is missing
abbrev pub missing_line : List ℕ → List ℕ
missing_line place = codes "missing: " ++ place

-- there is no such key
abbrev pub unknown_line : List ℕ → List ℕ
unknown_line place = codes "unknown key " ++ place

-- what stands at a key may not
abbrev pub value_line : List ℕ → Data → ValueFault → List ℕ
value_line place value fault = place ++ codes ": " ++ value_text value ++ fault_text fault

-- or there is nothing
abbrev pub refused_line : List ℕ → Option (Bor Value) → ValueFault → List ℕ
refused_line place None fault = missing_line place
refused_line place (Some value) fault = value_line place (view value.now) fault

-- so many may not stand at a key
abbrev pub count_line : List ℕ → ℕ → ValueFault → List ℕ
count_line place count fault = place ++ codes ": " ++ number_shown count ++ fault_text fault

-- a key may not be so
abbrev pub name_line : List ℕ → ValueFault → List ℕ
name_line place fault = place ++ fault_text fault

-- the text has more bytes than this
abbrev pub limit_line : ℕ → List ℕ
limit_line limit = codes "over " ++ number_shown limit ++ codes " bytes"

-- the refusal tells this line; where memory is refused for that it says so
abbrev pub IsTold : List ℕ → ConfigRefusal → Type 0
IsTold text OutOfMemory = ⊤
IsTold text (Told line) = line.items ≡ text
