-- What the page is shown, and the acts that wait for the telephones.
use Rattle.std.specs.Prelude.{ℕ, List, [], ◌∷◌, ◌++◌}
use Rattle.page_state.specs.declared.picture.Picture.{Picture}
use Rattle.page_state.specs.declared.act.QueuedAct.{QueuedAct}
use Rattle.page_state.specs.Keeping.{RingState}

-- the picture that is shown, the number that its lines have, what happened lately, and the acts that wait, from the oldest
pub record BoardState : Type 0 where
  pub picture : Picture
  pub version : ℕ
  pub ring : RingState
  pub acts : List QueuedAct

-- one act more waits, behind the others
abbrev pub queued_behind : BoardState → QueuedAct → BoardState
queued_behind board queued = record board { acts = board.acts ++ queued ∷ [] }
