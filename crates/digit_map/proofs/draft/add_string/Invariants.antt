use Rattle.std.proofs.Common.{◌≡◌, ◌++◌, map, true}
use Rattle.digit_map.specs.Cuts.{positions_of}
use Rattle.digit_map.specs.Places.{places_from}
use Rattle.digit_map.specs.Drafts.{draft_of}
use Rattle.digit_map.proofs.draft.add_string.Given as goal

abbrev pub invariant-loop-position : goal.invariant-loop-position
invariant-loop-position l =
    l.drafts.items ++ map draft_of (places_from l.live l.position-iterator)
    ≡ l.fn.drafts.items ++ map draft_of (places_from true (positions_of l.string))
