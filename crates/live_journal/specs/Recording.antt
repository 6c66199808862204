-- What a trace begins with, and what it is told.
use Rattle.std.specs.Prelude.{◌≡◌, ◌⊎◌, ℕ, ◌+◌, Bool, ◌==◌, ◌&&◌, ◌||◌, not, length, nat_eq, codes, if◌then◌else◌, List, [], ◌∷◌, ◌++◌}
use Rattle.std.specs.List.{ends_with}
use Rattle.mg_bytes.specs.Lists.{is_empty}
use Rattle.output_queues.specs.declared.record.Record.{Record}
use Rattle.output_queues.specs.declared.record.RecordState.TheVariants.{OutOfMemory}
use Rattle.output_queues.specs.Recording.{state_when, is_told}
use Rattle.told_messages.specs.Recording.{Puts}
use Rattle.live_journal.specs.declared.trace.Trace.{Trace}
use Rattle.traces.specs.Telling.{told_first}

-- a record begins with this text, if it is told anything
abbrev pub Begins : Bool → List ℕ → Record → Type 0
Begins is_on text is = Puts (state_when is_on) [] text is.state is.out.items

-- a configuration whose last line has its end
abbrev pub whole_lines : List ℕ → List ℕ
whole_lines config = if is_empty config || ends_with nat_eq config (10 ∷ []) then config else config ++ 10 ∷ []

-- with which number ids begin, where that isn't 0
abbrev pub first_line : ℕ → List ℕ
first_line first = if first == 0 then [] else told_first first

-- a trace begins with the configuration, `%%`, and with which number ids begin
abbrev pub trace_head : List ℕ → ℕ → List ℕ
trace_head config first = whole_lines config ++ codes "%%\n" ++ first_line first

-- more is told to a trace
abbrev pub is_telling : Trace → Bool
is_telling trace = is_told trace.record.state && not trace.is_broken_off

-- it was broken off, and its record hasn't ended yet
abbrev pub has_ended : Trace → Bool
has_ended trace = trace.is_broken_off && is_told trace.record.state

-- what it was told has its place in what is kept, out of the room that was left there; or memory was refused, and nothing is told from
-- then on
abbrev pub HasPlace : Trace → List ℕ → Trace → Type 0
HasPlace was text is =
    ((is.record.out.items ≡ was.record.out.items ++ text) × (is.record.state ≡ was.record.state)
    × (is.room + length text ≡ was.room) × (is.is_broken_off ≡ was.is_broken_off))
    ⊎ ((is.record.state ≡ OutOfMemory) × (is.record.out.items ≡ []))
