-- The ports that are told of a line: that of each of its four places for connections.
use Rattle.std.specs.Prelude.{ℕ, ◌+◌, ◌*◌, List, [], ◌∷◌, map}
use Rattle.plain_machine.specs.declared.setup.Setup.{Setup}
use Rattle.plain_machine.specs.Machine.{port_of}

abbrev pub ports_of : Setup → ℕ → List ℕ
ports_of setup line = map (λ place. port_of setup line + 2 * place) (0 ∷ 1 ∷ 2 ∷ 3 ∷ [])
