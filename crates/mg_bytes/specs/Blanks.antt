-- Blanks, which are spaces and tabs (RFC 3435, appendix A: WSP).
use Rattle.std.specs.Prelude.{ℕ, ◌-◌, Bool, ◌||◌, ◌==◌, if◌then◌else◌, List, [], ◌∷◌, length, take}
use Rattle.std.specs.List.{suffix_len}
use Rattle.mg_bytes.specs.Bytes.{space, tab}

-- a space or a tab
abbrev pub is_blank : ℕ → Bool
is_blank b = b == space || b == tab

-- the bytes without the blanks in front
abbrev pub trimmed_start : List ℕ → List ℕ
trimmed_start [] = []
trimmed_start (b ∷ bs) = if is_blank b then trimmed_start bs else b ∷ bs

-- the bytes without the blanks at the end
unfoldable pub trimmed_end : List ℕ → List ℕ
trimmed_end bs = take (length bs - suffix_len is_blank bs) bs

-- the bytes without the blanks at both ends
unfoldable pub trimmed : List ℕ → List ℕ
trimmed bs = trimmed_end (trimmed_start bs)
