use Rattle.std.proofs.Common.{arith, ◌∙◌, sym}
use Rattle.digit_map.proofs.DraftLaws.{block_pushed, blocks_none}
use Rattle.digit_map.proofs.draft.blocks_from.Goals as goal

pub loop-done-preserved : goal.loop-done-preserved
loop-done-preserved c = record {
  some = omega arith;
  made =
      block_pushed _ _ _ _ _ _ _ _ _ c.loop-done-test.true c.in_ok-push.ensures.items c.block_from.ensures c.split_at.ensures.front c.split_at.ensures.back
      c.loop-done.invariant.made;
}

pub returns : goal.returns
returns c = sym (blocks_none _ _ _ _ c.loop-done-test.false) ∙ c.loop-done.invariant.made
