-- Bytes are such, each at its place.
use Rattle.std.proofs.Common.{ℕ, suc, ◌<◌, List, [], ◌∷◌, get_or}
use Rattle.std.specs.List.{AllByRecursion}

pub all_fit : (bytes : List ℕ) → ((place : ℕ) → get_or bytes place 0 < 256) → AllByRecursion (λ byte. byte < 256) bytes
all_fit [] each = tt
all_fit (byte ∷ bytes) each = (each 0, all_fit bytes (λ place. each (suc place)))
