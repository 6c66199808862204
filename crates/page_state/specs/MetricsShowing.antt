-- What is shown of a gateway's lines, and that nothing was counted.
use Rattle.std.specs.Prelude.{◌≡◌, ℕ, Bool, List, [], ◌∷◌, map, replicate, Option}
use Rattle.page_state.specs.declared.counts.Counts.{Counts}
use Rattle.page_state.specs.declared.counts.TheConstants.{PLACES}
use Rattle.page_state.specs.declared.picture.ConnectionView.{ConnectionView}
use Rattle.page_state.specs.declared.picture.LineView.{LineView}
use Rattle.page_state.specs.declared.picture.Picture.{Picture}
use Rattle.page_state.specs.declared.picture.SignalView.{SignalView}

-- a signal by its name, and the moment of its end, where time ends it
pub record SignalShown : Type 0 where
  pub name : List ℕ
  pub over : Option ℕ

-- a connection by its number and its mode, its codec and packet time, where its media are received and where they go, and its call
pub record ConnectionShown : Type 0 where
  pub number : ℕ
  pub mode : List ℕ
  pub codec : List ℕ
  pub packet_time : ℕ
  pub local : List ℕ
  pub remote : List ℕ
  pub call : List ℕ

-- a line by its hook, what is heard, its connections, and how many of its events were lost
pub record LineShown : Type 0 where
  pub is_off_hook : Bool
  pub signals : List SignalShown
  pub connections : List ConnectionShown
  pub lost : ℕ

abbrev pub signal_shown : SignalView → SignalShown
signal_shown s = record { name = s.name.now; over = s.end }

abbrev pub connection_shown : ConnectionView → ConnectionShown
connection_shown c = record {
  number = c.number;
  mode = c.mode.now;
  codec = c.codec.now;
  packet_time = c.packet_time;
  local = c.local.items;
  remote = c.remote.items;
  call = c.call.items;
}

abbrev pub line_shown : LineView → LineShown
line_shown l = record {
  is_off_hook = l.is_off_hook;
  signals = map signal_shown l.signals.items;
  connections = map connection_shown l.connections.items;
  lost = l.lost;
}

-- the lines of a picture
abbrev pub lines_of : Picture → List LineShown
lines_of picture = map line_shown picture.lines.items

-- all numbers that are counted, but those that stand in lists
abbrev pub numbers_of : Counts → List ℕ
numbers_of c =
    c.datagrams_in ∷ c.datagrams_out ∷ c.responses ∷ c.unreadable ∷ c.answers_again ∷ c.notifications ∷ c.notifications_again
    ∷ c.announcements ∷ c.announcements_again ∷ c.given_up_by_gateway ∷ c.given_up_by_lines ∷ c.refused ∷ c.strangers ∷ c.lost_commands
    ∷ c.receive_faults ∷ c.send_faults ∷ c.dropped_lines ∷ c.transactions ∷ []

-- nothing was counted
abbrev pub IsNothingCounted : Counts → Type 0
IsNothingCounted counts =
    (numbers_of counts ≡ replicate 18 0) × (counts.sends ≡ replicate PLACES 0) × (counts.commands.items ≡ []) × (counts.answers.items ≡ [])
    × (counts.write_faults.items ≡ [])
