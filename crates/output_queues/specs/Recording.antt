-- How it stands with what is recorded, and what is kept of it.
use Rattle.std.specs.Prelude.{◌≡◌, ◌≢◌, ◌⊎◌, ℕ, ◌-◌, ◌^◌, ◌≤◌, Bool, true, false, if◌then◌else◌, List, [], ◌∷◌, length}
use Rattle.mg_bytes.specs.Lists.{is_empty}
use Rattle.log_format.specs.declared.note.Notice.TheVariants.{Dropped}
use Rattle.log_format.specs.Lines.{notice_line}
use Rattle.output_queues.specs.declared.record.RecordState.{RecordState}
use Rattle.output_queues.specs.declared.record.RecordState.TheVariants.{Off, On, OutOfMemory}
use Rattle.output_queues.specs.declared.outlet.OutletState.{OutletState}
use Rattle.output_queues.specs.declared.outlet.OutletState.TheVariants.{Open, BrokenOff, Failed}
use Rattle.output_queues.specs.Backlog.{BacklogState, is_kept, with_text, offered, may_note, noted, closed}

-- Records

-- so a record begins that is told all, or nothing
abbrev pub state_when : Bool → RecordState
state_when is_on = if is_on then On else Off

abbrev pub is_told : RecordState → Bool
is_told Off = false
is_told On = true
is_told OutOfMemory = false

-- memory was refused for it
abbrev pub is_refused : RecordState → Bool
is_refused Off = false
is_refused On = false
is_refused OutOfMemory = true

-- Outlets

-- all is written, as it is taken
abbrev pub is_open : OutletState → Bool
is_open Open = true
is_open BrokenOff = false
is_open (Failed kind) = false

-- one that failed, or was broken off, did that once
abbrev pub faults_of : OutletState → ℕ
faults_of state = if is_open state then 0 else 1

-- whole lines are kept where there is room for them; else it is as if they hadn't come
abbrev pub said : ℕ → BacklogState → List ℕ → BacklogState
said room backlog lines = if is_kept room backlog lines then with_text backlog lines else backlog

-- some lines are said, or nothing changes
abbrev pub Says : ℕ → BacklogState → BacklogState → Type 0
Says room old new = (new ≡ old) ⊎ ((lines : List ℕ) × (new ≡ said room old lines))

-- that lines weren't kept is noted at a moment, where that may be; or nothing changes
abbrev pub Notes : ℕ → BacklogState → ℕ → BacklogState → Type 0
Notes room old moment new =
    (new ≡ old) ⊎ ((may_note room old ≡ true) × (new ≡ noted old (notice_line moment (Dropped old.unnoted))))

-- what a turn put together of a log stands behind such a note, where there is room
abbrev pub KeepsLog : ℕ → BacklogState → ℕ → List ℕ → BacklogState → Type 0
KeepsLog room old moment [] new = new ≡ old
KeepsLog room old moment (byte ∷ bytes) new =
    (told : BacklogState) × (Notes room old moment told × (new ≡ offered room told (byte ∷ bytes)))

-- what waits is given up, where something does
abbrev pub given_up : BacklogState → BacklogState
given_up backlog = if is_empty backlog.waiting then backlog else closed backlog

abbrev pub state_given_up : OutletState → BacklogState → OutletState
state_given_up state backlog = if is_empty backlog.waiting then state else BrokenOff

-- An end

-- so long what waits is offered at an end, in ms
abbrev pub longest_offer : ℕ
longest_offer = 1000

-- so much is left of that
abbrev pub offer_left : ℕ → ℕ
offer_left passed = longest_offer - passed
