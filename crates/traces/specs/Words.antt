-- What the words of a command line say of a start.
use Rattle.std.specs.Prelude.{ℕ, nat_lt, nat_le, if◌then◌else◌, List, Option, Some, None}
use Rattle.mg_bytes.specs.Option.{◌>>=◌}
use Rattle.mg_bytes.specs.Numbers.{decimal_of}
use Rattle.plain_machine.specs.Setup.{firsts}

-- a number with which ids may begin
abbrev pub first_from : ℕ → Option ℕ
first_from n = if nat_lt n firsts then Some n else None

unfoldable pub first_in : List ℕ → Option ℕ
first_in word = decimal_of word >>= first_from

-- the longest spread, in ms: the maximum waiting delay that the standard suggests (RFC 3435, 4.4.6)
abbrev pub longest_spread : ℕ
longest_spread = 600000

abbrev pub spread_from : ℕ → Option ℕ
spread_from n = if nat_le n longest_spread then Some n else None

unfoldable pub spread_in : List ℕ → Option ℕ
spread_in word = decimal_of word >>= spread_from
