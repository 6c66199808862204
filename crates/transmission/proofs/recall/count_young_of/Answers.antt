use Rattle.std.proofs.Common.{sym, arith, ◌∙◌}
use Rattle.transmission.proofs.CountLaws.{young_in_front}
use Rattle.transmission.proofs.recall.count_young_of.Goals as goal

pub returns-in-len1-up : goal.returns-in-len1-up
returns-in-len1-up c =
    let all = young_in_front c.args.now c.args.entries.now c.first-item.result c.first-item.is (omega (arith, c.in-len1-up.len_at_least))
    (sym c.is_young_first.ensures ∙ c.if-is_young_first.true) (c.requires.order c.if-in_order.true) in
    c.requires.counted ∙ sym all
