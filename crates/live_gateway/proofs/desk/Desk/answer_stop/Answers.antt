use Rattle.std.proofs.Common.{refl}
use Rattle.live_gateway.proofs.desk.Desk.answer_stop.Goals as goal

pub returns-then-asks_for_end-clause-play : goal.returns-then-asks_for_end-clause-play
returns-then-asks_for_end-clause-play g c = rw (c.answer_all.ensures.traffic) refl

pub returns-then-asks_for_end-clause-kept : goal.returns-then-asks_for_end-clause-kept
returns-then-asks_for_end-clause-kept g c = refl

pub returns-then-asks_for_end-clause-rest : goal.returns-then-asks_for_end-clause-rest
returns-then-asks_for_end-clause-rest g c = refl

pub returns-else-asks_for_end-clause-play : goal.returns-else-asks_for_end-clause-play
returns-else-asks_for_end-clause-play g c = refl

pub returns-else-asks_for_end-clause-other : goal.returns-else-asks_for_end-clause-other
returns-else-asks_for_end-clause-other g c = λ unasked. refl

pub returns-else-asks_for_end-clause-kept : goal.returns-else-asks_for_end-clause-kept
returns-else-asks_for_end-clause-kept g c = refl

pub returns-else-asks_for_end-clause-rest : goal.returns-else-asks_for_end-clause-rest
returns-else-asks_for_end-clause-rest g c = refl
