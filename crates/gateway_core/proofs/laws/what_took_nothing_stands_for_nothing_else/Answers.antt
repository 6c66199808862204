use Rattle.std.proofs.Common.{append-nil}
use Rattle.gateway_core.proofs.SharedLists.{stands_shared}
use Rattle.gateway_core.proofs.laws.what_took_nothing_stands_for_nothing_else.Goals as goal

pub returns : goal.returns
returns c = λ g g' before events were are took stands. (
  λ there. stands_shared g g' before events took.setup stands (rw (append-nil before) at (took.stands before stands)) there,
  λ here. rw (append-nil events) at (took.stands events here),
)
