-- How the code's parts are seen: identifiers that are written one behind the other, and a description by itself.
use Rattle.std.specs.Prelude.{◌≡◌, ℕ, false, codes, List, [], ◌∷◌, ◌++◌, Option, Some, None, slice_get}
use Rattle.std.specs.List.{flat_map, list_any}
use Rattle.mg_bytes.specs.Bytes.{comma}
use Rattle.mg_bytes.specs.Lines.{cut, lines_of, is_dot_line}
use Rattle.connections.specs.declared.connection.Connection.{Connection}
use Rattle.connections.specs.Numbers.{number_text}

-- a comma behind what stands there
abbrev pub comma_behind : List ℕ → List ℕ
comma_behind [] = []
comma_behind (b ∷ bs) = (b ∷ bs) ++ comma ∷ []

-- the identifier of what a place holds, behind others
abbrev pub with_id : List ℕ → Option Connection → List ℕ
with_id text None = text
with_id text (Some connection) = comma_behind text ++ number_text connection.number

-- a description: whole lines, of which the first is `v=0` and none a single dot
pub record IsDescription (text : List ℕ) : Type 0 where
  pub whole : flat_map (λ line. line ++ codes "\r\n") (lines_of text) ≡ text
  pub first : slice_get (lines_of text) 0 ≡ Some (codes "v=0")
  pub dotless : list_any is_dot_line (cut text) ≡ false
