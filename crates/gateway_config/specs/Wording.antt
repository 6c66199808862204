-- What is told of a flaw, in a line without its end: the key, what stands there, and what may (this gateway's profile). All that it
-- has of the configuration is escaped.
use Rattle.std.specs.Prelude.{◌≡◌, ℕ, Bool, true, codes, List, [], ◌++◌, Option, Some, None, is_some, IsUtf8}
use Rattle.toml.specs.Data.{Data, Members, get_member}
use Rattle.toml.specs.Parse.{parse_document}
use Rattle.log_format.specs.Grouping.{number_shown}
use Rattle.plain_machine.specs.declared.config.ConfigKey.{ConfigKey}
use Rattle.plain_machine.specs.declared.config.ConfigKey.TheVariants as keys
use Rattle.plain_machine.specs.ConfigFault.{config_key_name}
use Rattle.rgw_scripts.specs.Play.{largest_input}
use Rattle.gateway_config.specs.declared.flaw.Flaw.{Flaw}
use Rattle.gateway_config.specs.declared.flaw.Flaw.TheVariants as flaws
use Rattle.gateway_config.specs.declared.bounds.Bounds.{Bounds as Told}
use Rattle.gateway_config.specs.Bounds.{bounds_of}
use Rattle.gateway_config.specs.Flaws.{other_key}
use Rattle.gateway_config.specs.Pieces.{text_shown, value_shown, domain_wanted}
use Rattle.gateway_config.specs.AgentWording.{agent_told}
use Rattle.gateway_config.specs.NamesWording.{names_told}

-- what stands before the bounds of a key's number, and behind them
abbrev pub before_bounds : ConfigKey → List ℕ
before_bounds keys.MediaBase = codes "an even number from "
before_bounds _ = []

abbrev pub behind_bounds : ConfigKey → List ℕ
behind_bounds keys.RestartWait = codes " ms"
behind_bounds keys.DisconnectedWait = codes " ms"
behind_bounds _ = []

-- a number within these
abbrev pub bounds_wanted : ConfigKey → Told → List ℕ
bounds_wanted key bounds =
    before_bounds key ++ number_shown bounds.least ++ codes " to " ++ number_shown bounds.most ++ behind_bounds key

-- no number: a domain, or else an address
abbrev pub text_wanted : ConfigKey → List ℕ
text_wanted keys.Domain = codes "a text of " ++ domain_wanted
text_wanted _ = codes "an IPv4 address, as \"10.0.0.5\""

abbrev pub wanted_by : Option Told → ConfigKey → List ℕ
wanted_by (Some bounds) key = bounds_wanted key bounds
wanted_by None key = text_wanted key

-- what stands at a key that is about no host, and what may
abbrev pub plain_told : ConfigKey → Data → List ℕ
plain_told key value = value_shown (is_some (bounds_of key)) value ++ codes ", wanted " ++ wanted_by (bounds_of key) key

abbrev pub value_told : ConfigKey → Data → List ℕ
value_told keys.Names value = names_told value
value_told keys.Agent value = agent_told value
value_told keys.Domain value = plain_told keys.Domain value
value_told keys.Lines value = plain_told keys.Lines value
value_told keys.RestartWait value = plain_told keys.RestartWait value
value_told keys.DisconnectedWait value = plain_told keys.DisconnectedWait value
value_told keys.MediaAddress value = plain_told keys.MediaAddress value
value_told keys.MediaBase value = plain_told keys.MediaBase value

-- behind the key
abbrev pub key_told : ConfigKey → Option Data → List ℕ
key_told key None = []
key_told key (Some value) = config_key_name key ++ codes ": " ++ value_told key value

abbrev pub name_found : Option (List ℕ) → List ℕ
name_found None = []
name_found (Some name) = name

abbrev pub unknown_told : Bool → List ℕ → List ℕ
unknown_told quoted name = codes "unknown key " ++ text_shown quoted name

-- the flaw of a document
abbrev pub document_told : Members → Flaw → List ℕ
document_told document (flaws.Missing key) = codes "missing: " ++ config_key_name key
document_told document (flaws.BadValue key) = key_told key (get_member (config_key_name key) document)
document_told document flaws.AnyAddress =
    config_key_name keys.MediaAddress ++ codes ": 0.0.0.0, wanted an address of this machine that others reach"
document_told document _ = unknown_told true (name_found (other_key document))

-- or why there is no document, behind the number of a line
abbrev pub line_told : ℕ → List ℕ → List ℕ
line_told number why = codes "line " ++ number_shown number ++ codes ": " ++ why

abbrev pub TellsRead : Option Members → Flaw → List ℕ → Type 0
TellsRead None flaw line = (number : ℕ) × (why : List ℕ) × (line ≡ line_told number why)
TellsRead (Some document) flaw line = line ≡ document_told document flaw

abbrev pub limit_told : List ℕ
limit_told = codes "over " ++ number_shown largest_input ++ codes " bytes"

-- a line tells the flaw of a text: it is too long, isn't UTF-8, or is a document or none
abbrev pub Tells : List ℕ → Flaw → List ℕ → Type 0
Tells text flaws.TooLong line = line ≡ limit_told
Tells text flaws.NoUtf8 line = line ≡ codes "no UTF-8"
Tells text flaws.NoToml line = IsUtf8 text → TellsRead (parse_document text) flaws.NoToml line
Tells text flaws.UnknownKey line = IsUtf8 text → TellsRead (parse_document text) flaws.UnknownKey line
Tells text (flaws.Missing key) line = IsUtf8 text → TellsRead (parse_document text) (flaws.Missing key) line
Tells text (flaws.BadValue key) line = IsUtf8 text → TellsRead (parse_document text) (flaws.BadValue key) line
Tells text flaws.AnyAddress line = IsUtf8 text → TellsRead (parse_document text) flaws.AnyAddress line
