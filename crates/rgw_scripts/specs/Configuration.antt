-- A configuration: a TOML text with these eight keys and no others.
use Rattle.std.specs.Prelude.{ℕ, suc, ℤ, pos, negsuc, ◌==◌, nat_le, codes, if◌then◌else◌, List, [], ◌∷◌, Option, Some, None, is_some, option_and_then}
use Rattle.std.specs.Str.{is_utf8}
use Rattle.std.specs.declared.net.ipv4_addr.Ipv4Addr.{Ipv4Addr}
use Rattle.toml.specs.Data.{Data, Items, no_items, item, Members, no_members, member, get_member, as_integer, as_str, as_array, as_table}
use Rattle.toml.specs.Parse.{parse_document}
use Rattle.mg_bytes.specs.Option.{◌>>=◌}
use Rattle.mg_bytes.specs.Address.{ipv4_of}
use Rattle.mg_bytes.specs.Checks.{unless, first_fault}
use Rattle.endpoint_names.specs.declared.route.Route.{Route}
use Rattle.endpoint_names.specs.declared.route.Route.TheVariants.{One}
use Rattle.endpoint_names.specs.Route.{route_of}
use Rattle.plain_machine.specs.declared.config.Config.{Config}
use Rattle.plain_machine.specs.declared.config.ConfigKey.{ConfigKey}
use Rattle.plain_machine.specs.declared.config.ConfigKey.TheVariants as keys
use Rattle.plain_machine.specs.declared.config.NamedRoute.{NamedRoute}

abbrev pub count_of : Members → ℕ
count_of no_members = 0
count_of (member key value members) = suc (count_of members)

abbrev pub text_at : List ℕ → Members → Option (List ℕ)
text_at key members = option_and_then as_str (get_member key members)

-- a number from 0 to 4,294,967,295
abbrev pub number_from : ℤ → Option ℕ
number_from (pos n) = if nat_le n 4294967295 then Some n else None
number_from (negsuc n) = None

abbrev pub number_in : Data → Option ℕ
number_in value = option_and_then number_from (as_integer value)

abbrev pub number_at : List ℕ → Members → Option ℕ
number_at key members = option_and_then number_in (get_member key members)

-- an address as text, `a.b.c.d`
abbrev pub address_in : Data → Option Ipv4Addr
address_in value = as_str value >>= ipv4_of

abbrev pub address_at : List ℕ → Members → Option Ipv4Addr
address_at key members = option_and_then address_in (get_member key members)

-- the addresses that these values are, where each is one
unfoldable pub addresses_in : Items → Option (List Ipv4Addr)
addresses_in no_items = Some []
addresses_in (item value values) = do
  address ← address_in value
  others ← addresses_in values
  Some (address ∷ others)

abbrev pub route_from : Data → Option Items → Option (Route Ipv4Addr)
route_from value None = do
  address ← address_in value
  Some (One address)
route_from value (Some values) = addresses_in values >>= route_of

-- the addresses of a host: one as a text, or a list of 1 to 4 texts
abbrev pub route_in : Data → Option (Route Ipv4Addr)
route_in value = route_from value (as_array value)

-- names, each with its addresses
unfoldable pub names_from : Members → Option (List NamedRoute)
names_from no_members = Some []
names_from (member name value members) = do
  route ← route_in value
  others ← names_from members
  Some ((record { name = name; route = route }) ∷ others)

abbrev pub names_at : Members → Option Members
names_at members = option_and_then as_table (get_member (codes "names") members)

-- the settings of a document, and the names still as a table
pub record Settings : Type 0 where
  pub domain : List ℕ
  pub lines : ℕ
  pub agent : List ℕ
  pub restart_wait : ℕ
  pub disconnected_wait : ℕ
  pub media_address : Ipv4Addr
  pub media_base : ℕ
  pub hosts : Members

-- each of the eight keys
unfoldable pub settings_of : Members → Option Settings
settings_of members = do
  domain ← text_at (codes "domain") members
  lines ← number_at (codes "lines") members
  agent ← text_at (codes "agent") members
  restart_wait ← number_at (codes "restart_wait") members
  disconnected_wait ← number_at (codes "disconnected_wait") members
  media_address ← address_at (codes "media_address") members
  media_base ← number_at (codes "media_base") members
  hosts ← names_at members
  Some (record {
    domain = domain;
    lines = lines;
    agent = agent;
    restart_wait = restart_wait;
    disconnected_wait = disconnected_wait;
    media_address = media_address;
    media_base = media_base;
    hosts = hosts;
  })

abbrev pub config_from : Settings → List NamedRoute → Config
config_from settings names = record {
  domain = settings.domain;
  lines = settings.lines;
  agent = settings.agent;
  restart_wait = settings.restart_wait;
  disconnected_wait = settings.disconnected_wait;
  media_address = settings.media_address;
  media_base = settings.media_base;
  names = names;
}

-- the configuration of a document: its settings, and no ninth key
unfoldable pub config_of : Members → Option Config
config_of members = if count_of members == 8 then (do
  settings ← settings_of members
  names ← names_from settings.hosts
  Some (config_from settings names)) else None

-- the configuration that a text writes, if it is UTF-8, TOML and has such settings
unfoldable pub config_in : List ℕ → Option Config
config_in text = if is_utf8 text then parse_document text >>= config_of else None

-- the first key of a document that is missing, or whose value is of another kind
unfoldable pub unread_key : Members → Option ConfigKey
unread_key members = first_fault
    (unless (is_some (text_at (codes "domain") members)) keys.Domain
    ∷ unless (is_some (number_at (codes "lines") members)) keys.Lines
    ∷ unless (is_some (option_and_then names_from (names_at members))) keys.Names
    ∷ unless (is_some (text_at (codes "agent") members)) keys.Agent
    ∷ unless (is_some (number_at (codes "restart_wait") members)) keys.RestartWait
    ∷ unless (is_some (number_at (codes "disconnected_wait") members)) keys.DisconnectedWait
    ∷ unless (is_some (address_at (codes "media_address") members)) keys.MediaAddress
    ∷ unless (is_some (number_at (codes "media_base") members)) keys.MediaBase
    ∷ [])
