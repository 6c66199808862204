-- All that happens to the connections of a line, command after command.
use Rattle.std.specs.Prelude.{ℕ, List, [], ◌∷◌, Option, Some, None}
use Rattle.std.specs.List.{cons_option}
use Rattle.connections.specs.declared.codec.Encoding.{Encoding}
use Rattle.connections.specs.declared.connection.Connection.{Connection}
use Rattle.connections.specs.declared.connection.Creation.{Creation}
use Rattle.connections.specs.declared.connection.Change.{Change}
use Rattle.connections.specs.declared.deletion.Deletion.{Deletion}
use Rattle.connections.specs.Standing.{Standing, left_by, left_of, created, modified, deleted}

-- a command for the line, which has this encoding then
pub data Happening : Type 0 where
  creates : (encoding : Encoding) (creation : Creation) → Happening
  modifies : (encoding : Encoding) (call id : List ℕ) (change : Change) → Happening
  deletes : (deletion : Deletion) → Happening

-- what stands after one
abbrev pub after_one : Standing → Happening → Standing
after_one standing (creates encoding creation) = left_by standing (created encoding creation standing)
after_one standing (modifies encoding call id change) = left_by standing (modified encoding call id change standing)
after_one standing (deletes deletion) = left_of standing (deleted deletion standing)

-- what stands after all of them
unfoldable pub after : Standing → List Happening → Standing
after standing [] = standing
after standing (happening ∷ more) = after (after_one standing happening) more

-- the numbers of the connections that stand, in the order of their places
abbrev pub number_held : Option Connection → Option ℕ
number_held None = None
number_held (Some connection) = Some connection.number

unfoldable pub numbers_in : List (Option Connection) → List ℕ
numbers_in [] = []
numbers_in (held ∷ more) = cons_option (number_held held) (numbers_in more)

abbrev pub numbers_of : Standing → List ℕ
numbers_of standing = numbers_in standing.places
