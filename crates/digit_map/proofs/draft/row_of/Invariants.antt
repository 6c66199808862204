use Rattle.std.proofs.Common.{◌≡◌, drop}
use Rattle.digit_map.specs.Drafts.{row_of}
use Rattle.digit_map.proofs.draft.row_of.Given as goal

abbrev pub invariant-loop-place : goal.invariant-loop-place
invariant-loop-place l = l.row ≡ row_of l.test (drop l.place l.drafts)
