-- What the laws speak of.
use Rattle.std.specs.Prelude.{ℕ, Bool, true, ◌&&◌, not, is_some, if◌then◌else◌, List, [], ◌∷◌, ◌++◌}
use Rattle.mgcp_text.specs.declared.message.Param.{Param}
use Rattle.mgcp_text.specs.Message.{param_at}
use Rattle.mg_bytes.specs.Lines.{crlf}

-- no code stands twice, in whatever case
abbrev pub are_distinct : List Param → Bool
are_distinct [] = true
are_distinct (param ∷ params) = not (is_some (param_at param.code params)) && are_distinct params

-- what is asked for, behind an empty line
abbrev pub behind_a_line : Bool → List ℕ → List ℕ
behind_a_line asks text = if asks then crlf ++ text else []
