-- How what changed is told: a line for each change, with its number and the gateway's moment, in ms.
use Rattle.std.specs.Prelude.{ℕ, ◌+◌, ◌-◌, ◌^◌, min, codes, decimal, List, [], ◌∷◌, ◌++◌, fold, Option, Some, None}
use Rattle.std.specs.Net.Text.{socket_v4_text}
use Rattle.std.specs.declared.net.socket_addr.SocketAddrV4.{SocketAddrV4}
use Rattle.packages.specs.Looking.{signal_name}
use Rattle.connections.specs.Modes.{mode_text}
use Rattle.connections.specs.Numbers.{number_text}
use Rattle.rgw_scripts.specs.Printing.{hook_word, end_shown}
use Rattle.line_changes.specs.declared.seen.SeenConnection.{SeenConnection}
use Rattle.line_changes.specs.declared.change.Change.{Change}
use Rattle.line_changes.specs.declared.change.Change.TheVariants as changes
use Rattle.line_changes.specs.Changes.{codec_text}

-- `-` where the other end isn't known
abbrev pub remote_text : Option SocketAddrV4 → List ℕ
remote_text None = codes "-"
remote_text (Some address) = socket_v4_text address

-- from where and to where media go
unfoldable pub ends_text : SeenConnection → List ℕ
ends_text connection = socket_v4_text connection.local ++ codes " to " ++ remote_text connection.remote

-- as which they go
unfoldable pub media_text : SeenConnection → List ℕ
media_text connection = codes " " ++ codec_text connection.codec ++ codes " " ++ decimal connection.packet_time

-- which it is, and its mode
unfoldable pub mode_part : SeenConnection → List ℕ
mode_part connection =
    codes "connection " ++ number_text connection.number ++ codes " " ++ mode_text connection.mode ++ codes " "

-- `connection A sendrecv 127.0.0.1:3000 to 127.0.0.2:3000 PCMU 20`
abbrev pub connection_text : SeenConnection → List ℕ
connection_text connection = mode_part connection ++ ends_text connection ++ media_text connection

-- what changed
unfoldable pub what_text : Change → List ℕ
what_text (changes.Hook hook) = hook_word hook
what_text (changes.Ends signal) = codes "ends " ++ signal_name signal
what_text (changes.Begins active) = codes "begins " ++ signal_name active.signal ++ codes " until " ++ end_shown active.end
what_text (changes.Over number) = codes "connection " ++ number_text number ++ codes " over"
what_text (changes.Stands connection) = connection_text connection

-- which change it is, when, and of which line
unfoldable pub head_text : ℕ → ℕ → ℕ → List ℕ
head_text number moment line =
    codes "change " ++ decimal number ++ codes " at " ++ decimal moment ++ codes " line " ++ decimal line ++ codes " "

abbrev pub change_line : ℕ → ℕ → ℕ → Change → List ℕ
change_line number moment line change = head_text number moment line ++ what_text change ++ 10 ∷ []

-- the number that the next change has, and what is told
pub record Told : Type 0 where
  pub number : ℕ
  pub text : List ℕ

-- numbers of 64 bits go no further than their last
abbrev pub next_number : ℕ → ℕ
next_number number = min (number + 1) (2 ^ 64 - 1)

-- one change more is told, and the next has the next number
abbrev pub with_change : ℕ → ℕ → Told → Change → Told
with_change moment line told change = record {
  number = next_number told.number;
  text = told.text ++ change_line told.number moment line change;
}

-- changes of a line at a moment, in their order
abbrev pub with_changes : ℕ → ℕ → Told → List Change → Told
with_changes moment line told list = fold (with_change moment line) told list

-- the answer to who begins to watch, or goes on: which number the next change will have, and the gateway's moment
unfoldable pub watching_line : ℕ → ℕ → List ℕ
watching_line number moment = codes "watching from " ++ decimal number ++ codes " at " ++ decimal moment ++ 10 ∷ []
