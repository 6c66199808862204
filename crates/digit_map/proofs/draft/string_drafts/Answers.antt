use Rattle.digit_map.proofs.DraftLaws.{string_added, strings_added}
use Rattle.digit_map.proofs.draft.string_drafts.Goals as goal

pub loop-string-preserved : goal.loop-string-preserved
loop-string-preserved c = string_added _ _ _ _ _ c.in_ok-add_string.ensures (rw c.in-Some.ensures.steps at c.loop-string.invariant)

pub returns : goal.returns
returns c = strings_added _ _ (rw c.in-None.ensures.steps.0 at c.loop-string.invariant)
