-- Which files an ending of a program names.
use Rattle.std.specs.Prelude.{◌≡◌, ℕ, List, [], Option, None, Some}
use Rattle.std.specs.Borrow.{Bor}
use Rattle.live_system.specs.declared.ending.FileNames.{FileNames}

-- a file that isn't asked for has no name
abbrev pub name_of : Option (Bor (List ℕ)) → List ℕ
name_of None = []
name_of (Some name) = name.now

-- the file that is read has this name, and the one that is written that one
abbrev pub HasNames : List ℕ → List ℕ → FileNames → Type 0
HasNames read written files = (files.read_from.now ≡ read) × (files.written_to.now ≡ written)
