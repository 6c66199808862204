-- Lines to which something has happened, and that wait until they are settled.
use Rattle.std.specs.Prelude.{◌≡◌, ℕ, ◌+◌, ◌-◌, ◌^◌, Bool, true, false, ◌||◌, ◌==◌, min, if◌then◌else◌, List, [], length, Option, Some, IfSome, slice_get, IsPermutation}
use Rattle.std.specs.List.{list_any}
use Rattle.call_processing.specs.Exchange.{phase_of}
use Rattle.call_processing.specs.Phases.{named_by}
use Rattle.line_control.specs.declared.office.Office.{Office}
use Rattle.line_control.specs.declared.worklist.Worklist.{Worklist}

-- the line waits: it was put there, or all lines do
abbrev pub waits : List ℕ → Bool → ℕ → Bool
waits places is_all place = is_all || list_any (λ other. other == place) places

-- so it is of a worklist
abbrev pub IsWaiting : Worklist → ℕ → Type 0
IsWaiting list place = waits list.waiting.items list.is_all place ≡ true

-- whoever waited waits still, and those that are settled now are the same
abbrev pub WaitOn : Worklist → Worklist → Type 0
WaitOn was is =
    ((other : ℕ) → IsWaiting was other → IsWaiting is other) × (is ≡ record was { waiting = is.waiting; is_all = is.is_all })

-- Something has happened to a line of the exchange: it waits, and so do the other ends of the call that it was in and of the one that it is
-- in now. Whoever waited waits still.
pub record Touches (line : ℕ) (was is : Office) : Type 0 where
  pub itself : IsWaiting is.worklist line
  pub left : IfSome (named_by (phase_of was.exchange line)) (λ other. IsWaiting is.worklist other)
  pub joined : IfSome (named_by (phase_of is.exchange line)) (λ other. IsWaiting is.worklist other)
  pub others : WaitOn was.worklist is.worklist

-- so many are settled now, of so many lines: those that waited, or all
abbrev pub settling : List ℕ → Bool → ℕ → ℕ
settling places is_all lines = if is_all then lines else length places

-- the line that is settled so many behind the first one, where the first line that there is has this place
abbrev pub settled_at : List ℕ → Bool → ℕ → ℕ → Option ℕ
settled_at places is_all first index = if is_all then Some (min (first + index) (2 ^ 64 - 1)) else slice_get places index

-- those that waited are settled from now on, and none waits
pub record Settles (was is : Worklist) : Type 0 where
  pub all : is.settles_all ≡ was.is_all
  pub settled : IsPermutation was.waiting.items is.settled.items
  pub none_waits : is.waiting.items ≡ []
  pub not_all : is.is_all ≡ false
