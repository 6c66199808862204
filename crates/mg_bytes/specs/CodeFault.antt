-- What a call answers where a definition says a value, or the return code of a fault (RFC 3435, 2.4).
use Rattle.std.specs.Prelude.{◌≡◌, ◌≤◌, ⊤, ℕ, Bool, true, Result, Ok, Err}
use Rattle.mg_bytes.specs.declared.code_fault.CodeFault.{CodeFault}
use Rattle.mg_bytes.specs.declared.code_fault.CodeFault.TheVariants.{OutOfMemory, Code}

-- the value or the code is what the definition says, unless memory was refused
abbrev pub AnswersAs : {A : Type 0} → Result A ℕ → Result A CodeFault → Type 0
AnswersAs said (Ok value) = said ≡ Ok value
AnswersAs said (Err (Code code)) = (said ≡ Err code) × (code ≤ 999)
AnswersAs said (Err OutOfMemory) = ⊤

-- a call fails for want of memory only where it takes any
abbrev pub FailsForMemory : {A : Type 0} → Bool → Result A CodeFault → Type 0
FailsForMemory takes (Ok value) = ⊤
FailsForMemory takes (Err (Code code)) = ⊤
FailsForMemory takes (Err OutOfMemory) = takes ≡ true

-- what a call answers that takes no memory
abbrev pub answer_of : {A : Type 0} → Result A ℕ → Result A CodeFault
answer_of (Ok value) = Ok value
answer_of (Err code) = Err (Code code)

-- a fault's number, from 1
abbrev pub code_fault_number : CodeFault → ℕ
code_fault_number OutOfMemory = 1
code_fault_number (Code code) = 2
