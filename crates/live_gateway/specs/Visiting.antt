-- What visitors of a page say when they are asked, and the turns that they have.
use Rattle.std.specs.Prelude.{◌≡◌, ℕ, Bool, false, Option, Some, None}
use Rattle.std.specs.Global.{Box}
pub use Rattle.turns.specs.Clock.{has_come}
use Rattle.page_state.specs.BoardShowing.{BoardState}

-- what visitors can be held to
pub record VisitsBy (V S : Type 0) : Type 1 where
  -- they were asked whether they are ready over these surroundings, at this moment in ms: that gave this
  pub waits : V → S → ℕ → Bool → Type 0
  -- they were asked when somebody's time is over, in ms: that gave this
  pub closes : V → Option ℕ → Type 0
  -- they had a turn at this moment, in ms, and were answered by this board, once
  pub serves : V → S → BoardState → ℕ → V → S → BoardState → Type 0

-- whether they are ready over these surroundings, at this moment, as they said; where there are none, none is
abbrev pub AreReady : {V S : Type 0} → (V → S → ℕ → Bool → Type 0) → Option (Box V) → S → ℕ → Bool → Type 0
AreReady waits None around moment ready = ready ≡ false
AreReady waits (Some visitors) around moment ready = waits visitors.value around moment ready

-- when somebody's time is over, as they said
abbrev pub ClosesAt : {V : Type 0} → (V → Option ℕ → Type 0) → Option (Box V) → Option ℕ → Type 0
ClosesAt closes None deadline = deadline ≡ None
ClosesAt closes (Some visitors) deadline = closes visitors.value deadline

-- those who were there had a turn at this moment, and were answered by this board
abbrev pub HaveTurn :
    {V S : Type 0} → (V → S → BoardState → ℕ → V → S → BoardState → Type 0) → ℕ
    → Box V → S → Box BoardState → Option (Box V) → S → Option (Box BoardState) → Type 0
HaveTurn serves moment was around board None after shown = ⊥
HaveTurn serves moment was around board (Some is) after None = ⊥
HaveTurn serves moment was around board (Some is) after (Some shown) =
    serves was.value around board.value moment is.value after shown.value

-- they had one, once; where there are none, or no board, nothing is done
abbrev pub ServesOnce :
    {V S : Type 0} → (V → S → BoardState → ℕ → V → S → BoardState → Type 0) → ℕ
    → Option (Box V) → S → Option (Box BoardState) → Option (Box V) → S → Option (Box BoardState) → Type 0
ServesOnce serves moment None around board is after shown = (is ≡ None) × (after ≡ around) × (shown ≡ board)
ServesOnce serves moment (Some was) around None is after shown = (is ≡ Some was) × (after ≡ around) × (shown ≡ None)
ServesOnce serves moment (Some was) around (Some board) is after shown = HaveTurn serves moment was around board is after shown
