-- What becomes of what a body asks for.
use Rattle.std.specs.Prelude.{◌≡◌, ◌≢◌, ◌≤◌, ◌<◌, ℕ, List, length, IsSome, IsUtf8, Some, None}
use Rattle.page_state.specs.declared.act.QueuedAct.{QueuedAct}
use Rattle.page_http.specs.declared.answers.ActOutcome.{ActOutcome}
use Rattle.page_http.specs.declared.answers.ActOutcome.TheVariants.{Queued, NoRoom, Unreadable}
use Rattle.page_state.specs.declared.board.TheConstants.{MOST_ACTS}
use Rattle.page_http.specs.Acting.{asked_by}
use Rattle.page_state.specs.BoardShowing.{BoardState, queued_behind}

pub record Becomes (old : BoardState) (body : List ℕ) (outcome : ActOutcome) (new : BoardState) : Type 0 where
  -- the very act that the body asks for waits
  pub taken : outcome ≡ Queued → (queued : QueuedAct) × (asked_by body ≡ Some queued) × (new ≡ queued_behind old queued)
  -- what is refused changes nothing
  pub refused : outcome ≢ Queued → new ≡ old
  -- it waits where fewer wait than may, and there alone
  pub free : outcome ≡ Queued → length old.acts < MOST_ACTS
  -- what finds no room is an act, and as many wait as may
  pub no_room : outcome ≡ NoRoom → IsSome (asked_by body)
  pub full : outcome ≡ NoRoom → MOST_ACTS ≤ length old.acts
  -- what is unreadable is none
  pub unreadable : outcome ≡ Unreadable → IsUtf8 body → asked_by body ≡ None
