-- The parameters of a command, each by its code (RFC 3435, 3.2.2; the order of the checks is this gateway's profile).
use Rattle.std.specs.Prelude.{ℕ, ◌+◌, Bool, false, ◌&&◌, ◌||◌, ◌==◌, not, codes, List, [], ◌∷◌, ◌++◌, find, Option, Some, None, is_some, is_none}
use Rattle.std.specs.List.{list_any, list_all}
use Rattle.mg_bytes.specs.Bytes.{plus, hyphen, is_slash}
use Rattle.mg_bytes.specs.Case.{same_but_case}
use Rattle.mg_bytes.specs.Checks.{unless, first_fault}
use Rattle.mgcp_text.specs.declared.message.Param.{Param}
use Rattle.mgcp_text.specs.Message.{param_at}
use Rattle.command_forms.specs.declared.refused.FaultyPart.TheVariants.{Line}
use Rattle.command_forms.specs.declared.refused.Refused.{Refused}
use Rattle.command_forms.specs.declared.verbs.VerbRow.{VerbRow}
use Rattle.command_forms.specs.Refusing.{fault_at}

-- `X`, in either case, and then this byte
abbrev pub begins_x : ℕ → List ℕ → Bool
begins_x sign [] = false
begins_x sign (x ∷ []) = false
begins_x sign (x ∷ second ∷ more) = same_but_case (x ∷ []) (codes "X") && second == sign

-- an extension that must be understood, and this gateway understands none: `X+..`, or one of a package
abbrev pub is_critical : List ℕ → Bool
is_critical code = begins_x plus code || list_any is_slash code

-- an extension that may be ignored: `X-..`
abbrev pub is_ignored : List ℕ → Bool
is_ignored code = begins_x hyphen code

-- the code is one of these letters, in either case
abbrev pub is_among : List ℕ → List ℕ → Bool
is_among letters code = list_any (λ letter. same_but_case code (letter ∷ [])) letters

-- the code is one of the verb's row, or K, which every verb may have
abbrev pub is_taken : VerbRow → List ℕ → Bool
is_taken row code = is_among (codes "K") code || is_among row.must code || is_among row.may code

-- what is wrong with a parameter after these: an extension that isn't understood, a code that isn't the verb's, or one
-- that stood before
abbrev pub param_fault : VerbRow → List Param → Param → Option ℕ
param_fault row before param = first_fault
    (unless (not (is_critical param.code)) 511
    ∷ unless (is_ignored param.code || is_taken row param.code) 539
    ∷ unless (is_ignored param.code || is_none (param_at param.code before)) 510
    ∷ [])

-- the first parameter line at fault, from top to bottom; the first of these has this number
unfoldable pub params_fault : VerbRow → ℕ → List Param → List Param → Option Refused
params_fault row number before [] = None
params_fault row number before (param ∷ params) = first_fault
    (fault_at (Line number) (param_fault row before param)
    ∷ params_fault row (number + 1) (before ++ param ∷ []) params
    ∷ [])

-- a parameter with this code stands there
abbrev pub has : List ℕ → List Param → Bool
has code params = is_some (param_at code params)

-- the first of these letters with which none stands there
abbrev pub missing_letter : List ℕ → List Param → Option ℕ
missing_letter letters params = find (λ letter. not (has (letter ∷ []) params)) letters

-- none with one of these letters stands there
abbrev pub has_none : List ℕ → List Param → Bool
has_none letters params = list_all (λ letter. not (has (letter ∷ []) params)) letters

abbrev pub value_in : Option Param → List ℕ
value_in None = []
value_in (Some param) = param.value

-- the value of the first parameter with this code; empty where there is none
abbrev pub value_at : List ℕ → List Param → List ℕ
value_at code params = value_in (param_at code params)
