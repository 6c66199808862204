-- A line as the page is shown it in the worked examples.
use Rattle.std.specs.Prelude.{true, codes, List, [], ◌∷◌, Option, Some, None}
use Rattle.packages.specs.declared.signal.Signal.TheVariants.{DialTone}
use Rattle.connections.specs.declared.connection.Connection.{Connection}
use Rattle.line_changes.specs.Example.{held, talking, lifted, until}
use Rattle.line_changes.specs.Seen.{SeenLine}
use Rattle.page_state.specs.MetricsShowing.{SignalShown, ConnectionShown, LineShown}

-- dial tone is heard up to 16,001, and connection 10 stands
abbrev pub dialling : SeenLine
dialling = record lifted { signals = until 16001 DialTone ∷ []; connections = talking ∷ [] }

-- its places: the first is empty, the second holds connection 11 of call 2, the third connection 10 of call 1
abbrev pub places : List (Option Connection)
places = None ∷ Some (record held { call = codes "2"; number = 11 }) ∷ Some held ∷ None ∷ []

abbrev pub tone_shown : SignalShown
tone_shown = record { name = codes "L/dl"; over = Some 16001 }

abbrev pub connection_ten_shown : ConnectionShown
connection_ten_shown = record {
  number = 10;
  mode = codes "sendrecv";
  codec = codes "PCMU";
  packet_time = 20;
  local = codes "127.0.0.1:3000";
  remote = codes "127.0.0.2:3002";
  call = codes "1";
}

-- that line, of which two events were lost
abbrev pub dialling_shown : LineShown
dialling_shown = record {
  is_off_hook = true;
  signals = tone_shown ∷ [];
  connections = connection_ten_shown ∷ [];
  lost = 2;
}
