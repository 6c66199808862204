-- What is left of what was recorded once it is kept for its outlets, and what is told of it.
use Rattle.std.specs.Prelude.{◌≡◌, ⊤, ℕ, Bool, [], Option, Some, None}
use Rattle.std.specs.Global.{Box}
use Rattle.output_queues.specs.declared.outlet.Outlet.{Outlet}
use Rattle.output_queues.specs.declared.outlets.Outlets.{Outlets}
use Rattle.output_queues.specs.declared.record.Record.{Record}
use Rattle.output_queues.specs.declared.written.Written.{Written}
use Rattle.output_queues.specs.Backlog.{sum_within}
use Rattle.output_queues.specs.Recording.{faults_of}
use Rattle.told_messages.specs.declared.log.Log.{Log}
use Rattle.live_journal.specs.declared.capture.Capture.{Capture}
use Rattle.live_journal.specs.declared.journal.Journal.{Journal}

-- what a record had is kept, so that it isn't kept once more, and it is told on as before
abbrev pub IsKept : Record → Record → Type 0
IsKept was is = (is.out.items ≡ []) × (is.state ≡ was.state)

-- what a capture had is kept where it has a file; else it stays in it
abbrev pub IsKeptFor : {F : Type 0} → Option (Box (Outlet F)) → Record → Record → Type 0
IsKeptFor None was is = is ≡ was
IsKeptFor (Some file) was is = is.out.items ≡ []

-- so of a log, and nothing else of it changes
abbrev pub KeepsLog : Log → Log → Type 0
KeepsLog was is = IsKept was.record is.record × (is ≡ record was { «record» = is.record })

abbrev pub KeepsCapture : {F : Type 0} → Option (Box (Outlet F)) → Capture → Capture → Type 0
KeepsCapture file was is = IsKeptFor file was.record is.record × (is ≡ record was { «record» = is.record })

-- how often what is captured couldn't be written; never, where it has no file
abbrev pub capture_faults : {F : Type 0} → Option (Box (Outlet F)) → ℕ
capture_faults None = 0
capture_faults (Some file) = faults_of file.value.state

-- what became of what was recorded is told as it stands with the outlets
abbrev pub IsWritten : {F : Type 0} → Outlets F → Written → Type 0
IsWritten outlets written =
    (written.dropped ≡ sum_within outlets.output.value.backlog.dropped outlets.error.value.backlog.dropped)
    × (written.output ≡ faults_of outlets.output.value.state)
    × (written.error ≡ faults_of outlets.error.value.state)
    × (written.capture ≡ capture_faults outlets.capture)

-- what can be asked of who writes what a journal and a trace T have
pub record WriterBy (W T : Type 0) : Type 1 where
  -- it was told once to write that, at a moment: that left this of them
  pub writes : W → Journal → T → ℕ → W → Journal → T → Type 0
  -- it was asked whether something waits to be taken: that gave this
  pub offers : W → Bool → Type 0

-- of whom nothing is asked
abbrev pub any_writer : {W T : Type 0} → WriterBy W T
any_writer = record { writes = λ was journal trace time is left told. ⊤; offers = λ recorder waits. ⊤ }
