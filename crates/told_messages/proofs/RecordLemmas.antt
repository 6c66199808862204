-- What is put into a record, by whether it is told all.
use Rattle.std.proofs.Common.{inl, inr, ◌≡◌, ℕ, true, false, List, [], ◌++◌, refl, sym, append-nil}
use Rattle.output_queues.specs.declared.record.RecordState.{RecordState}
use Rattle.output_queues.specs.declared.record.RecordState.TheVariants.{Off, On, OutOfMemory}
use Rattle.output_queues.specs.Recording.{is_told}
use Rattle.told_messages.specs.Recording.{Puts}

pub puts_text : (was : RecordState) (were text are : List ℕ) (state : RecordState) → is_told was ≡ true → state ≡ was → are ≡ were ++ text → Puts was were text state are
puts_text Off were text are state told same grew = absurd cc
puts_text On were text are state told same grew = inl (same, grew)
puts_text OutOfMemory were text are state told same grew = absurd cc

pub puts_nothing : (was : RecordState) (were text are : List ℕ) (state : RecordState) → is_told was ≡ false → state ≡ was → are ≡ were → Puts was were text state are
puts_nothing Off were text are state told same kept = (same, kept)
puts_nothing On were text are state told same kept = absurd cc
puts_nothing OutOfMemory were text are state told same kept = (same, kept)

pub refuses : (was : RecordState) (were text are : List ℕ) (state : RecordState) → is_told was ≡ true → state ≡ OutOfMemory → are ≡ [] → Puts was were text state are
refuses Off were text are state told refused none = absurd cc
refuses On were text are state told refused none = inr (refused, none)
refuses OutOfMemory were text are state told refused none = absurd cc

pub ruleset putting = (puts_text, puts_nothing, refuses)

-- nothing is put
pub puts_none : (state : RecordState) (were : List ℕ) → Puts state were [] state were
puts_none Off were = (refl, refl)
puts_none On were = inl (refl, sym (append-nil were))
puts_none OutOfMemory were = (refl, refl)
