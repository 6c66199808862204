use Rattle.std.proofs.Common.{refl, arith}
use Rattle.transmission.proofs.IndexLaws.{one_confirmation}
use Rattle.transmission.proofs.history.History.confirm.Goals as goal

pub invariant_of-self-2 : goal.invariant_of-self-2
invariant_of-self-2 c =
    rw c.in_ok-push.ensures.items (one_confirmation _ _ _ _ _ _ c.self.invariant _ _ refl c.reserve.ensures.entries
    (omega (arith, c.in_ok-reserve.ensures.ok, c.len.ensures)))
