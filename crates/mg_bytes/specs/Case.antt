-- Texts compared without the case of ASCII letters (RFC 3435, appendix A: literals are without case).
use Rattle.std.specs.Prelude.{ℕ, Bool, List}
use Rattle.std.specs.Str.{str_eq_ignore_ascii_case}

-- the same text, up to the case of ASCII letters
abbrev pub same_but_case : List ℕ → List ℕ → Bool
same_but_case left right = str_eq_ignore_ascii_case left right
