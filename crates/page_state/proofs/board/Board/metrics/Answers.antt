use Rattle.page_state.proofs.board.Board.metrics.Goals as goal

pub returns : goal.returns
returns c = rw (← c.self.view_is) c.metrics_text.ensures
