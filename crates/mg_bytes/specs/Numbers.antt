-- Numbers as text: decimal and hexadecimal digits. That a decimal number has at most 18 is this gateway's profile.
use Rattle.std.specs.Prelude.{ℕ, ◌&&◌, nat_le, Bool, if◌then◌else◌, List, length, Option, Some, None}
use Rattle.std.specs.List.{list_all}
use Rattle.std.specs.Char.{is_ascii_digit, is_ascii_hexdigit}
use Rattle.std.specs.Str.Parse.{digits_value}

-- 1 to 18 decimal digits
abbrev pub is_decimal : List ℕ → Bool
is_decimal text = nat_le 1 (length text) && nat_le (length text) 18 && list_all is_ascii_digit text

-- the number that 1 to 18 decimal digits spell
unfoldable pub decimal_of : List ℕ → Option ℕ
decimal_of text = if is_decimal text then Some (digits_value 10 text) else None

-- 1 to 32 hexadecimal digits (RFC 3435, appendix A: 1*32HEXDIG)
abbrev pub is_hex_text : List ℕ → Bool
is_hex_text text = nat_le 1 (length text) && nat_le (length text) 32 && list_all is_ascii_hexdigit text

-- an identifier of a call, a connection or a request: 1 to 32 hexadecimal digits, as they are spelled
abbrev pub identifier_of : List ℕ → Option (List ℕ)
identifier_of text = if is_hex_text text then Some text else None
