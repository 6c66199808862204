-- How the value of S is spelled (RFC 3435, 2.3.3 and appendix A).
use Rattle.std.specs.Prelude.{ℕ, Bool, false, ◌&&◌, List, Option, Some, None}
use Rattle.std.specs.List.{list_all}
use Rattle.mg_bytes.specs.Bytes.{slash}
use Rattle.mg_bytes.specs.Words.{split_once}
use Rattle.packages.specs.Cuts.{Form, form_of, entries}
use Rattle.packages.specs.Spelling.{is_word, is_name, with_parameters}

abbrev pub is_signal_from : List ℕ → Option (List ℕ × List ℕ) → Bool
is_signal_from text None = is_name text
is_signal_from text (Some sides) = is_word sides.0 && is_name sides.1

-- `[package/]name`
unfoldable pub is_signal : List ℕ → Bool
is_signal text = is_signal_from text (split_once slash text)

abbrev pub is_signal_entry_from : Option Form → Bool
is_signal_entry_from None = false
is_signal_entry_from (Some form) = with_parameters (is_signal form.head) form.inside

-- an entry of S
unfoldable pub is_signal_entry : List ℕ → Bool
is_signal_entry entry = is_signal_entry_from (form_of entry)

-- the value of S
unfoldable pub are_signals : List ℕ → Bool
are_signals value = list_all is_signal_entry (entries value)
