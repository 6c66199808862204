-- Parameter lines (RFC 3435, 3.2.2): a code, a colon and a value.
use Rattle.std.specs.Prelude.{ℕ, ◌&&◌, ◌||◌, ◌==◌, nat_le, Bool, if◌then◌else◌, List, length, Option, Some, None, option_and_then}
use Rattle.std.specs.List.{list_all}
use Rattle.std.specs.Char.{is_ascii_alphanumeric}
use Rattle.mg_bytes.specs.Bytes.{plus, hyphen, slash, colon}
use Rattle.mg_bytes.specs.Blanks.{trimmed}
use Rattle.mg_bytes.specs.Words.{split_once}
use Rattle.mgcp_text.specs.declared.message.Param.{Param}

-- a letter, a digit, `+`, `-` or `/`
abbrev pub is_code_byte : ℕ → Bool
is_code_byte b = is_ascii_alphanumeric b || b == plus || b == hyphen || b == slash

-- one or more of these
abbrev pub is_code : List ℕ → Bool
is_code code = nat_le 1 (length code) && list_all is_code_byte code

abbrev pub param_from : List ℕ × List ℕ → Option Param
param_from sides =
    if is_code (trimmed sides.0)
    then Some (record { code = trimmed sides.0; value = trimmed sides.1 }) else None

-- the parameter that a line is: what stands before its first colon is a code, and blanks round either side
-- are dropped
unfoldable pub param_of : List ℕ → Option Param
param_of line = option_and_then param_from (split_once colon line)
