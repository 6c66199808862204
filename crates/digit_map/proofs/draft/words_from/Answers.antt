use Rattle.std.proofs.Common.{arith, ◌∙◌, sym}
use Rattle.digit_map.proofs.DraftLaws.{word_pushed, words_none}
use Rattle.digit_map.proofs.draft.words_from.Goals as goal

pub loop-done-preserved : goal.loop-done-preserved
loop-done-preserved c = record {
  some = omega arith;
  words =
      word_pushed _ _ _ _ _ _ _ _ _ c.loop-done-test.true c.in_ok-push.ensures.items c.row_of.ensures c.split_at.ensures.front c.split_at.ensures.back
      c.loop-done.invariant.words;
}

pub returns : goal.returns
returns c = sym (words_none _ _ _ _ c.loop-done-test.false) ∙ c.loop-done.invariant.words
