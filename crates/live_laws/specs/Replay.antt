-- What a written trace says.
use Rattle.std.specs.Prelude.{◌≡◌, ⊤, ℕ, ◌<◌, ◌==◌, true, if◌then◌else◌, List, [], ◌∷◌, ◌++◌, length, Some, None}
use Rattle.std.specs.List.{AllByRecursion, flat_map}
use Rattle.mg_bytes.specs.Lines.{is_line_feed, cut}
use Rattle.plain_machine.specs.declared.setup.Setup.{Setup}
use Rattle.plain_machine.specs.Lists.{plain}
use Rattle.plain_machine.specs.Event.{GatewayEvent, tick}
use Rattle.transmission.specs.declared.output.OutDatagram.{OutDatagram}
use Rattle.rgw_scripts.specs.Moves.{Move, Shown, give}
use Rattle.traces.specs.declared.script.Script.{Script}
use Rattle.traces.specs.Replaying.{may_end}
use Rattle.traces.specs.Running.{Run, opening_run, run_from}
use Rattle.traces.specs.Telling.{told as shown_text}
use Rattle.traces.specs.Writing.{Input, Entry, showed, became, arrived, typed, passed, is_far, passed_to, datagrams_in, after_entry, opening_script, script_after, whole_text, taken_after}
use Rattle.live_play.specs.Readable.{first_unread, Never, CanAnswer}

-- Its moves: ticks that were told together are one

abbrev pub clock_moves : Script → List Move
clock_moves script = if script.told == script.clock then [] else give (tick script.clock) ∷ []

abbrev pub pass_moves : Script → ℕ → List Move
pass_moves script moment = if is_far script moment then clock_moves script else []

abbrev pub tick_moves : Script → ℕ → List OutDatagram → List Move
tick_moves script moment sent =
    if length sent == 0 then pass_moves script moment else pass_moves script moment ++ clock_moves (passed_to script moment)

abbrev pub input_moves : Script → Input → Move → Shown → List Move
input_moves script (arrived source bytes) move shown = clock_moves script ++ move ∷ []
input_moves script (typed line) move shown = clock_moves script ++ move ∷ []
input_moves script (passed moment) move shown = tick_moves script moment (datagrams_in shown)

abbrev pub entry_moves : Script → Entry → List Move
entry_moves script (showed input move shown) = input_moves script input move shown
entry_moves script (became fate place) = []

unfoldable pub moves_of : Script → List Entry → List Move
moves_of script [] = []
moves_of script (entry ∷ entries) = entry_moves script entry ++ moves_of (after_entry script entry) entries

-- What can be written so that it is read again: datagrams of bytes that come from where one can answer, lines that are one line, and
-- moments and places that are read
abbrev pub IsWritable : Entry → Type 0
IsWritable (showed (arrived source bytes) move shown) = CanAnswer source × AllByRecursion (λ byte. byte < 256) bytes
IsWritable (showed (typed line) move shown) = Never is_line_feed line
IsWritable (showed (passed moment) move shown) = moment < first_unread
IsWritable (became fate place) = place < first_unread

abbrev pub AreWritable : List Entry → Type 0
AreWritable [] = ⊤
AreWritable (entry ∷ entries) = IsWritable entry × AreWritable entries

-- Replays

-- a run that has still to be told this
abbrev pub owing : List GatewayEvent → List ℕ → List ℕ → List Move → Run
owing taken owed told moves = record { at = record { taken = taken; opened = None; owed = owed }; told = told; moves = moves }

-- what went out at an entry, as it is told
abbrev pub entry_told : Entry → List ℕ
entry_told (showed input move shown) = shown_text shown
entry_told (became fate place) = []

abbrev pub told_in : List Entry → List ℕ
told_in entries = flat_map entry_told entries

-- The trace of these entries replays to its end: what went out is told just so, its moves are those of the entries, of which ticks
-- that were told together are one, and it comes to the machine to which the gateway came
pub record ReadsBack (setup : Setup) (entries : List Entry) : Type 0 where
  pub end : Run
  pub runs : run_from setup opening_run (cut (whole_text entries)) ≡ Some end
  pub ends : may_end end.at ≡ true
  pub told : end.told ≡ told_in entries
  pub moves : end.moves ≡ moves_of opening_script entries ++ clock_moves (script_after opening_script entries)
  pub comes : plain setup end.at.taken ≡ plain setup (taken_after setup [] entries)
