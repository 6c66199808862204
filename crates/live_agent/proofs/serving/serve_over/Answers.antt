use Rattle.std.proofs.Common.{inl, inr, refl}
use Rattle.live_agent.proofs.serving.serve_over.Goals as goal

pub returns-in-Ok : goal.returns-in-Ok
returns-in-Ok g c = inr (c.in-Ok.board, c.in-Ok.ensures.board, c.serve_to_end.ensures)

pub returns-in-Err : goal.returns-in-Err
returns-in-Err g c = inl (c.in-Err.ensures.ending, refl)
