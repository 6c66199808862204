-- Identifiers of calls and of connections (RFC 3435, 2.1.3, 2.3.5 and 3.2.2): how they are compared and written. What is one
-- is said in mg_bytes.
use Rattle.std.specs.Prelude.{ℕ, Bool, true, List}
use Rattle.std.specs.Fmt.{digits}
use Rattle.mg_bytes.specs.Case.{same_but_case}

-- a connection's identifier is its number in hexadecimal digits without leading zeros, in upper case
unfoldable pub number_text : ℕ → List ℕ
number_text number = digits 16 true number

-- identifiers are compared as texts without case
abbrev pub names_number : List ℕ → ℕ → Bool
names_number id number = same_but_case id (number_text number)

-- the greatest number of a connection, and the greatest version of a description (this gateway's profile)
abbrev pub greatest : ℕ
greatest = 4294967295
