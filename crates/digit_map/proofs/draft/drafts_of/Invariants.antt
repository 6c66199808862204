use Rattle.std.proofs.Common.{◌≡◌, ◌++◌, map, replicate}
use Rattle.digit_map.specs.Cuts.{strings_of}
use Rattle.digit_map.specs.Places.{blank, places_in}
use Rattle.digit_map.specs.Drafts.{draft_of}
use Rattle.digit_map.proofs.draft.drafts_of.Given as goal

abbrev pub invariant-loop-added : goal.invariant-loop-added
invariant-loop-added l = l.drafts.items ≡ map draft_of (places_in (strings_of l.text)) ++ replicate l.added (draft_of blank)
