-- How a call agent ends that served.
use Rattle.std.specs.Prelude.{◌≡◌, ◌⊎◌, ℕ, Bool, ◌||◌, if◌then◌else◌, List, ◌++◌}
use Rattle.agent_log.specs.declared.journal.Journal.{Journal}
use Rattle.agent_log.specs.Counts.{counts_text}
use Rattle.live_system.specs.declared.ending.CommonEnding.{CommonEnding}
use Rattle.live_system.specs.declared.ending.CommonEnding.TheVariants.{Clock, OutOfMemory}
use Rattle.output_queues.specs.declared.written.Written.{Written}
use Rattle.live_system.specs.Ending.{served_ending}
use Rattle.output_queues.specs.Recording.{is_refused}
use Rattle.output_queues.specs.Written.{faults_in, written_line}

-- memory was refused for something that is recorded: for what is told, the log or the capture
abbrev pub is_record_refused : Journal → Bool
is_record_refused journal =
    is_refused journal.told.state || (is_refused journal.log.state || is_refused journal.capture.state)

-- the clock failed; else it is as what was recorded is written
abbrev pub ending_of : Bool → Bool → ℕ → CommonEnding
ending_of has_failed is_refused faults = if has_failed then Clock else served_ending is_refused faults

-- what was counted, as text
abbrev pub counted_in : Journal → List ℕ
counted_in journal = counts_text journal.tally ++ written_line journal.written journal.capture_name.items

-- What was recorded is written to its end by who was told what was counted as last words, and so it ends; or memory was refused for these,
-- and nobody is told any.
abbrev pub EndsWith : {W : Type 0} → (List ℕ → W → Written → W → Type 0) → Bool → Journal → W → W → CommonEnding → Type 0
EndsWith ends has_failed journal was is ending =
    ((ending ≡ OutOfMemory) × (is ≡ was))
    ⊎ ((written : Written) × ends (counted_in journal) was written is
    × (ending ≡ ending_of has_failed (is_record_refused journal) (faults_in written)))

-- before that what was recorded is written once more, at this moment
abbrev pub WritesAndEnds :
    {W : Type 0} → (W → Journal → ℕ → W → Journal → Type 0) → (List ℕ → W → Written → W → Type 0) → Bool → ℕ → Journal → W → Journal → W
    → CommonEnding → Type 0
WritesAndEnds {W} writes ends has_failed time before was journal is ending =
    (between : W) × writes was before time between journal × EndsWith ends has_failed journal between is ending
