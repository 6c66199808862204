-- The word that says of a gateway who may speak to it, where none is said.
use Rattle.std.specs.Prelude.{ℕ, codes, if◌then◌else◌, List, [], ◌++◌, Option, Some, None}
use Rattle.std.specs.List.{fold}
use Rattle.std.specs.Net.Addr.{ipv4_octets}
use Rattle.std.specs.Net.Text.{ipv4_text}
use Rattle.std.specs.declared.net.ipv4_addr.Ipv4Addr.{Ipv4Addr}
use Rattle.endpoint_names.specs.declared.table.Host.{Host}
use Rattle.endpoint_names.specs.Route.{addresses}
use Rattle.mg_bytes.specs.Lists.{is_empty}
use Rattle.plain_machine.specs.declared.setup.Setup.{Setup}
use Rattle.live_io.specs.Speaking.{Admitted, admitted_by, nobody, with_host, may_speak}
use Rattle.live_io.specs.declared.speaking.Speakers.{Speakers}
use Rattle.live_gateway.specs.Admitting.{hosts_of}

-- a word so far, and whom it admits
pub record Word : Type 0 where
  pub text : List ℕ
  pub admitted : Admitted

abbrev pub word_of : List ℕ → Speakers → Word
word_of text speakers = record { text = text; admitted = admitted_by speakers }

abbrev pub no_word : Word
no_word = record { text = []; admitted = nobody }

-- an item behind others, which commas part
abbrev pub listed : List ℕ → List ℕ → List ℕ
listed text item = if is_empty text then item else text ++ codes "," ++ item

-- an address is named, where it isn't admitted yet
abbrev pub with_named_host : Word → Ipv4Addr → Word
with_named_host word host =
    if may_speak word.admitted host then word
    else record { text = listed word.text (ipv4_text (ipv4_octets host)); admitted = with_host word.admitted host }

abbrev pub with_all : Word → List Ipv4Addr → Word
with_all word hosts = fold with_named_host word hosts

abbrev pub with_each : Word → Host → Word
with_each word host = with_all word (addresses host.route)

-- the addresses of its agent, and of all hosts that its configuration names, each once
unfoldable pub known_word : Setup → List ℕ
known_word setup = (fold with_each (with_all no_word (addresses (hosts_of setup.agent.route))) setup.names.table).text

-- the word that says who may speak: one that was given, or else the one that says whom a gateway of this setup knows
abbrev pub agents_word : Option (List ℕ) → Setup → List ℕ
agents_word None setup = known_word setup
agents_word (Some word) setup = word

abbrev pub agents_line : Option (List ℕ) → Setup → List ℕ
agents_line word setup = codes "agents: --agents " ++ agents_word word setup ++ codes "\n"
