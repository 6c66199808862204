-- What a capture has as another file begins, by whether it is told all.
use Rattle.std.proofs.Common.{inl, inr, ◌≡◌, ℕ, true, false, List, [], ◌++◌}
use Rattle.log_format.specs.File.{file_head}
use Rattle.output_queues.specs.declared.record.RecordState.{RecordState}
use Rattle.output_queues.specs.declared.record.RecordState.TheVariants.{Off, On, OutOfMemory}
use Rattle.output_queues.specs.Recording.{is_told}
use Rattle.live_journal.specs.Capturing.{BeginsFile}

pub has_head : (was : RecordState) (were are : List ℕ) (state : RecordState) → is_told was ≡ true → state ≡ was → are ≡ file_head ++ were → BeginsFile was were state are
has_head Off were are state told same headed = absurd cc
has_head On were are state told same headed = inl (same, headed)
has_head OutOfMemory were are state told same headed = absurd cc

pub stays : (was : RecordState) (were are : List ℕ) (state : RecordState) → is_told was ≡ false → state ≡ was → are ≡ were → BeginsFile was were state are
stays Off were are state told same kept = (same, kept)
stays On were are state told same kept = absurd cc
stays OutOfMemory were are state told same kept = (same, kept)

pub refuses : (was : RecordState) (were are : List ℕ) (state : RecordState) → is_told was ≡ true → state ≡ OutOfMemory → are ≡ [] → BeginsFile was were state are
refuses Off were are state told refused none = absurd cc
refuses On were are state told refused none = inr (refused, none)
refuses OutOfMemory were are state told refused none = absurd cc

pub ruleset heading = (has_head, stays, refuses)
