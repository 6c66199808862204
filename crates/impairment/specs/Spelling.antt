-- How the numbers of a network are written (this program's profile).
use Rattle.std.specs.Prelude.{ℕ, ◌&&◌, nat_le, if◌then◌else◌, List, Option, Some, None}
use Rattle.mg_bytes.specs.Option.{◌>>=◌}
use Rattle.mg_bytes.specs.Bytes.{hyphen}
use Rattle.mg_bytes.specs.Lists.{is_empty}
use Rattle.mg_bytes.specs.Numbers.{decimal_of}
use Rattle.mg_bytes.specs.Words.{split_once}
use Rattle.impairment.specs.Fates.{latest}

-- `%`
abbrev pub percent_sign : ℕ
percent_sign = 37

-- `N%`: so many of a hundred
unfoldable pub percent_of : List ℕ → Option ℕ
percent_of text = do
  sides ← split_once percent_sign text
  number ← decimal_of sides.0
  if is_empty sides.1 && nat_le number 100 then Some number else None

-- `LEAST-MOST`: from so many ms to so many, which are at most 10,000
unfoldable pub span_of : List ℕ → Option (ℕ × ℕ)
span_of text = do
  sides ← split_once hyphen text
  least ← decimal_of sides.0
  most ← decimal_of sides.1
  if nat_le least most && nat_le most latest then Some (least, most) else None
