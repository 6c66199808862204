-- How long a start waits (RFC 3435, 4.4.6).
use Rattle.std.specs.Prelude.{ℕ, ◌+◌, ◌%◌, List}
use Rattle.impairment.specs.Naming.{mixed}

-- of this spread, both in ms, at this time of day and with this domain: any time up to the spread, that itself too
abbrev pub waited : ℕ → ℕ → List ℕ → ℕ
waited spread time domain = mixed time domain % (spread + 1)
