-- What is wrong with a configuration: the first flaw, in the order in which they are told (this gateway's profile).
use Rattle.std.specs.Prelude.{ℕ, nat_lt, Bool, ◌||◌, if◌then◌else◌, List, [], ◌∷◌, length, Option, Some, None, is_some, bytes_eq}
use Rattle.std.specs.Str.{is_utf8}
use Rattle.std.specs.declared.net.ipv4_addr.Ipv4Addr.{Ipv4Addr}
use Rattle.toml.specs.Data.{Members, no_members, member, get_member}
use Rattle.toml.specs.Parse.{parse_document}
use Rattle.mg_bytes.specs.Checks.{unless, first_fault}
use Rattle.plain_machine.specs.declared.config.Config.{Config}
use Rattle.plain_machine.specs.declared.config.ConfigKey.{ConfigKey}
use Rattle.plain_machine.specs.declared.config.ConfigKey.TheVariants as keys
use Rattle.plain_machine.specs.ConfigFault.{config_key_name}
use Rattle.plain_machine.specs.Setup.{key_at_fault}
use Rattle.rgw_scripts.specs.Configuration.{config_of, unread_key}
use Rattle.rgw_scripts.specs.Play.{largest_input}
use Rattle.gateway_config.specs.declared.flaw.Flaw.{Flaw}
use Rattle.gateway_config.specs.declared.flaw.Flaw.TheVariants as flaws

abbrev pub is_called : List ℕ → ConfigKey → Bool
is_called name key = bytes_eq name (config_key_name key)

-- a configuration has a key with this name
abbrev pub is_key : List ℕ → Bool
is_key name =
    is_called name keys.Domain || is_called name keys.Lines || is_called name keys.Names || is_called name keys.Agent
    || is_called name keys.RestartWait || is_called name keys.DisconnectedWait || is_called name keys.MediaAddress
    || is_called name keys.MediaBase

-- the first key of a document that no configuration has
unfoldable pub other_key : Members → Option (List ℕ)
other_key no_members = None
other_key (member name value members) = if is_key name then other_key members else Some name

abbrev pub has_key : Members → ConfigKey → Bool
has_key members key = is_some (get_member (config_key_name key) members)

-- the first key that a document lacks
unfoldable pub missing_key : Members → Option ConfigKey
missing_key members = first_fault
    (unless (has_key members keys.Domain) keys.Domain
    ∷ unless (has_key members keys.Lines) keys.Lines
    ∷ unless (has_key members keys.Names) keys.Names
    ∷ unless (has_key members keys.Agent) keys.Agent
    ∷ unless (has_key members keys.RestartWait) keys.RestartWait
    ∷ unless (has_key members keys.DisconnectedWait) keys.DisconnectedWait
    ∷ unless (has_key members keys.MediaAddress) keys.MediaAddress
    ∷ unless (has_key members keys.MediaBase) keys.MediaBase
    ∷ [])

-- a missing key comes before one whose value is of another kind
abbrev pub known_flaw : Option ConfigKey → Option ConfigKey → Flaw
known_flaw (Some key) unread = flaws.Missing key
known_flaw None (Some key) = flaws.BadValue key
known_flaw None None = flaws.UnknownKey

-- an unknown key comes before both
abbrev pub unread_by : Option (List ℕ) → Flaw → Flaw
unread_by (Some name) known = flaws.UnknownKey
unread_by None known = known

-- what is wrong with a document that is no configuration
abbrev pub unread_flaw : Members → Flaw
unread_flaw members = unread_by (other_key members) (known_flaw (missing_key members) (unread_key members))

-- nothing is received at 0.0.0.0
abbrev pub address_flaw : Ipv4Addr → Option Flaw
address_flaw address = if bytes_eq address.octets (0 ∷ 0 ∷ 0 ∷ 0 ∷ []) then Some flaws.AnyAddress else None

abbrev pub value_by : Option ConfigKey → Ipv4Addr → Option Flaw
value_by (Some key) address = Some (flaws.BadValue key)
value_by None address = address_flaw address

-- what is wrong with a configuration that can be read
abbrev pub value_flaw : Config → Option Flaw
value_flaw config = value_by (key_at_fault config) config.media_address

abbrev pub flaw_by : Option Config → Members → Option Flaw
flaw_by None document = Some (unread_flaw document)
flaw_by (Some config) document = value_flaw config

-- what is wrong with the configuration that a document is
unfoldable pub flaw_in : Members → Option Flaw
flaw_in members = flaw_by (config_of members) members

abbrev pub document_flaw : Option Members → Option Flaw
document_flaw None = Some flaws.NoToml
document_flaw (Some members) = flaw_in members

-- what is wrong with the configuration in a text that isn't too long
unfoldable pub text_flaw : List ℕ → Option Flaw
text_flaw text = if is_utf8 text then document_flaw (parse_document text) else Some flaws.NoUtf8

-- what is wrong with the configuration in a text
abbrev pub flaw_of : List ℕ → Option Flaw
flaw_of text = if nat_lt largest_input (length text) then Some flaws.TooLong else text_flaw text
