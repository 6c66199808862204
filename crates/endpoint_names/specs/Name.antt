-- Endpoint names (RFC 3435, 2.1.2, 3.2.1.3 and appendix E.1): `local@domain`. How lines are numbered, and which
-- wildcards are taken, is this gateway's profile.
use Rattle.std.specs.Prelude.{ℕ, zero, suc, Bool, true, ◌||◌, ◌==◌, if◌then◌else◌, List, [], ◌∷◌, ◌++◌, codes, decimal, Option, Some, None, Result, Ok, Err}
use Rattle.std.specs.List.{list_any, slice_split}
use Rattle.std.specs.Str.{bytes_eq}
use Rattle.mg_bytes.specs.Bytes.{at_sign, is_slash}
use Rattle.mg_bytes.specs.Case.{same_but_case}
use Rattle.mg_bytes.specs.Words.{split_once}
use Rattle.endpoint_names.specs.declared.name.Pattern.{Pattern}
use Rattle.endpoint_names.specs.declared.name.Pattern.TheVariants.{One, All, Any}
use Rattle.endpoint_names.specs.declared.name.NameFault.{NameFault}
use Rattle.endpoint_names.specs.declared.name.NameFault.TheVariants.{Unknown, TooComplicated}

-- the local name of a line: `aaln/` and its number, without leading zeros
abbrev pub local_name : ℕ → List ℕ
local_name line = codes "aaln/" ++ decimal line

-- the line, up to so many, that has this local name, without case
unfoldable pub line_named : List ℕ → ℕ → Option ℕ
line_named local zero = None
line_named local (suc n) =
    if same_but_case local (local_name (suc n)) then Some (suc n) else line_named local n

-- one of these spellings, without case
abbrev pub is_one_of : List (List ℕ) → List ℕ → Bool
is_one_of spellings local = list_any (same_but_case local) spellings

-- all lines
unfoldable pub names_all : List ℕ → Bool
names_all local = is_one_of (codes "*" ∷ codes "aaln/*" ∷ codes "*/*" ∷ []) local

-- any one line
unfoldable pub names_any : List ℕ → Bool
names_any local = is_one_of (codes "$" ∷ codes "aaln/$" ∷ codes "$/$" ∷ []) local

-- a term that is `*` or `$`
abbrev pub is_wildcard : List ℕ → Bool
is_wildcard term = bytes_eq term (codes "*") || bytes_eq term (codes "$")

-- one of its terms, which `/` parts, is a wildcard
unfoldable pub has_wildcard : List ℕ → Bool
has_wildcard local = list_any is_wildcard (slice_split is_slash local)

-- a local name that is neither all lines nor any one
abbrev pub one_of : List ℕ → Option ℕ → Result Pattern NameFault
one_of local (Some line) = Ok (One line)
one_of local None = Err (if has_wildcard local then TooComplicated else Unknown)

-- what a local name means on a gateway with so many lines
abbrev pub pattern_of : List ℕ → ℕ → Result Pattern NameFault
pattern_of local lines =
    if names_all local then Ok All else
    (if names_any local then Ok Any else one_of local (line_named local lines))

abbrev pub name_from : Option (List ℕ × List ℕ) → List ℕ → ℕ → Result Pattern NameFault
name_from None domain lines = Err Unknown
name_from (Some sides) domain lines =
    if same_but_case sides.1 domain then pattern_of sides.0 lines else Err Unknown

-- what a name means on the gateway with this domain and so many lines; it is split at its first `@`
unfoldable pub name_of : List ℕ → List ℕ → ℕ → Result Pattern NameFault
name_of name domain lines = name_from (split_once at_sign name) domain lines

-- the lines that a name means: the line that it names, and every line where it means all or any one
abbrev pub means_line : Pattern → ℕ → Bool
means_line (One named) line = named == line
means_line All line = true
means_line Any line = true

-- the local name that is written
abbrev pub local_text : Pattern → List ℕ
local_text (One line) = local_name line
local_text All = codes "*"
local_text Any = codes "$"

-- the name that is written of endpoints on the gateway with this domain
unfoldable pub name_text : Pattern → List ℕ → List ℕ
name_text pattern domain = local_text pattern ++ at_sign ∷ domain

-- a fault's number, from 1
abbrev pub name_fault_number : NameFault → ℕ
name_fault_number Unknown = 1
name_fault_number TooComplicated = 2
