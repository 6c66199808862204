use Rattle.std.proofs.Common.{◌≤◌, length, refl, arith}
use Rattle.transmission.proofs.IndexLaws.{firsts-le, one_of_both}
use Rattle.transmission.proofs.history.History.keep.Goals as goal

pub count_first-requires : goal.count_first-requires
count_first-requires c =
    let few : c.self.inside.firsts ≤ length c.self.inside.entries.items = firsts-le _ _ _ _ _ _ c.self.invariant in
    omega (arith, few, c.self.inside.entries.small)

pub invariant_of-self-2 : goal.invariant_of-self-2
invariant_of-self-2 c =
    rw (c.push_reserved-2.ensures.items, c.push_reserved.ensures.items, c.reserve-2.ensures.items, c.count_first.ensures.firsts)
    (one_of_both _ _ _ _ _ _ c.self.invariant _ _ _ _ refl c.reserve.ensures.entries
    (omega (arith, c.in_ok-reserve.ensures.ok, c.len.ensures)) c.count_first.ensures.reached)
