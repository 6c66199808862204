use Rattle.std.proofs.Common.{◌≡◌, ◌++◌, map}
use Rattle.digit_map.specs.Cuts.{strings_of}
use Rattle.digit_map.specs.Places.{places_in}
use Rattle.digit_map.specs.Drafts.{draft_of}
use Rattle.digit_map.proofs.draft.string_drafts.Given as goal

abbrev pub invariant-loop-string : goal.invariant-loop-string
invariant-loop-string l =
    l.drafts.items ++ map draft_of (places_in l.string-iterator) ≡ map draft_of (places_in (strings_of l.text))
