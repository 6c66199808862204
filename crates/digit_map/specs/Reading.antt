-- What a digit map is read as: its text without blanks, or the first fault.
use Rattle.std.specs.Prelude.{◌≡◌, ⊤, ℕ, nat_le, not, List, [], ◌∷◌, length, filter, Option, Result, Ok, Err}
use Rattle.mg_bytes.specs.Blanks.{is_blank}
use Rattle.mg_bytes.specs.Checks.{unless, first_fault, checked}
use Rattle.mg_bytes.specs.declared.code_fault.CodeFault.{CodeFault}
use Rattle.mg_bytes.specs.declared.code_fault.CodeFault.TheVariants as code_faults
use Rattle.digit_map.specs.declared.fault.MapFault.{MapFault}
use Rattle.digit_map.specs.declared.fault.MapFault.TheVariants.{OutOfMemory, Syntax, TooLarge}
use Rattle.digit_map.specs.Spelling.{is_map}

-- the most bytes of a map without its blanks (this gateway's profile)
abbrev pub most_bytes : ℕ
most_bytes = 2048

-- blanks may stand anywhere, and mean nothing
abbrev pub without_blanks : List ℕ → List ℕ
without_blanks text = filter (λ b. not (is_blank b)) text

-- the first fault of a text without blanks: it is no map, or it is too long
abbrev pub fault_of : List ℕ → Option MapFault
fault_of text =
    first_fault (unless (is_map text) Syntax ∷ unless (nat_le (length text) most_bytes) TooLarge ∷ [])

-- the map that a text is read as
unfoldable pub map_of : List ℕ → Result (List ℕ) MapFault
map_of text = checked (fault_of (without_blanks text)) (Ok (without_blanks text))

-- the value or the fault is what is said, unless memory was refused
abbrev pub ReadsAs : {A : Type 0} → Result A MapFault → Result A MapFault → Type 0
ReadsAs said (Ok value) = said ≡ Ok value
ReadsAs said (Err OutOfMemory) = ⊤
ReadsAs said (Err Syntax) = said ≡ Err Syntax
ReadsAs said (Err TooLarge) = said ≡ Err TooLarge

-- the return code that answers a fault: 510 (protocol error) for a text that isn't spelled as a map, 502 (insufficient
-- resources) for a map that is too large (this gateway's profile); reading doesn't end in want of memory here
abbrev pub map_code : MapFault → ℕ
map_code Syntax = 510
map_code TooLarge = 502
map_code OutOfMemory = 510

-- what is read, or the code of its fault
abbrev pub or_code : {A : Type 0} → Result A MapFault → Result A ℕ
or_code (Ok value) = Ok value
or_code (Err fault) = Err (map_code fault)

-- a fault of a call as it is answered: with its code, or as want of memory
abbrev pub code_fault_of : MapFault → CodeFault
code_fault_of OutOfMemory = code_faults.OutOfMemory
code_fault_of Syntax = code_faults.Code (map_code Syntax)
code_fault_of TooLarge = code_faults.Code (map_code TooLarge)

-- a fault's number, from 1
abbrev pub map_fault_number : MapFault → ℕ
map_fault_number OutOfMemory = 1
map_fault_number Syntax = 2
map_fault_number TooLarge = 3
