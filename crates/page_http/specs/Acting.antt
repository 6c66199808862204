-- What is to be done at a telephone, as the page asks for it.
use Rattle.std.specs.Prelude.{ℕ, ◌&&◌, nat_le, codes, if◌then◌else◌, List, Option, Some, None, option_and_then}
use Rattle.serde_json.specs.Data.{Data}
use Rattle.serde_json.specs.Find.{get, as_number, as_u64, as_str}
use Rattle.serde_json.specs.Read.{read}
use Rattle.mg_bytes.specs.Option.{◌>>=◌}
use Rattle.page_state.specs.declared.act.PhoneAct.{PhoneAct}
use Rattle.page_state.specs.declared.act.QueuedAct.{QueuedAct}
use Rattle.page_state.specs.Acts.{act_named}

-- a line's number, from 1
abbrev pub line_from : ℕ → Option ℕ
line_from n = if nat_le 1 n && nat_le n 65535 then Some n else None

abbrev pub line_in : Data → Option ℕ
line_in d = option_and_then as_u64 (option_and_then as_number (get (codes "line") d)) >>= line_from

abbrev pub act_in : Data → Option PhoneAct
act_in d = option_and_then as_str (get (codes "act") d) >>= act_named

-- what an object with the members `line` and `act` asks for; others don't count
unfoldable pub queued_in : Data → Option QueuedAct
queued_in d = do
  line ← line_in d
  act ← act_in d
  Some (record { line = line; act = act })

-- what a body asks for: it is JSON
abbrev pub asked_by : List ℕ → Option QueuedAct
asked_by body = read body >>= queued_in
