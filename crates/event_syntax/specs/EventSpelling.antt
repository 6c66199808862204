-- How the value of T is spelled (RFC 3435, 2.3.3 and appendix A).
use Rattle.std.specs.Prelude.{ℕ, Bool, false, ◌&&◌, ◌||◌, List, codes, Option, Some, None}
use Rattle.std.specs.List.{list_all}
use Rattle.mg_bytes.specs.Bytes.{slash}
use Rattle.mg_bytes.specs.Case.{same_but_case}
use Rattle.mg_bytes.specs.Words.{split_once}
use Rattle.packages.specs.Cuts.{Form, form_of, entries}
use Rattle.event_syntax.specs.Ranges.{is_bracketed}
use Rattle.packages.specs.Spelling.{is_word, is_name, with_parameters}

abbrev pub is_event_from : List ℕ → Option (List ℕ × List ℕ) → Bool
is_event_from text None = is_name text
is_event_from text (Some sides) =
    is_word sides.0 && (is_name sides.1 || (same_but_case sides.0 (codes "D") && is_bracketed sides.1))

-- `[package/]name`, or `D/` and a range
unfoldable pub is_event : List ℕ → Bool
is_event text = is_event_from text (split_once slash text)

abbrev pub is_detected_from : Option Form → Bool
is_detected_from None = false
is_detected_from (Some form) = with_parameters (is_event form.head) form.inside

-- an entry of T
unfoldable pub is_detected : List ℕ → Bool
is_detected entry = is_detected_from (form_of entry)

-- the value of T
unfoldable pub are_detected : List ℕ → Bool
are_detected value = list_all is_detected (entries value)
