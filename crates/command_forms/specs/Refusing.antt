-- What a command is refused for: a return code (RFC 3435, 2.4), and what of the command is at fault (this gateway's
-- profile).
use Rattle.std.specs.Prelude.{◌≡◌, ◌≤◌, ⊤, ℕ, Bool, true, Option, option_map, Result, Ok, Err}
use Rattle.mg_bytes.specs.declared.code_fault.CodeFault.{CodeFault}
use Rattle.mg_bytes.specs.declared.code_fault.CodeFault.TheVariants as faults
use Rattle.command_forms.specs.declared.refused.FaultyPart.{FaultyPart}
use Rattle.command_forms.specs.declared.refused.FaultyPart.TheVariants.{Missing}
use Rattle.command_forms.specs.declared.refused.Refused.{Refused}
use Rattle.command_forms.specs.declared.refused.Stop.{Stop}
use Rattle.command_forms.specs.declared.refused.Stop.TheVariants.{OutOfMemory, AtFault}

-- the letters of parameters
abbrev pub letter_b : ℕ
letter_b = 66

abbrev pub letter_c : ℕ
letter_c = 67

abbrev pub letter_d : ℕ
letter_d = 68

abbrev pub letter_i : ℕ
letter_i = 73

abbrev pub letter_k : ℕ
letter_k = 75

abbrev pub letter_l : ℕ
letter_l = 76

abbrev pub letter_m : ℕ
letter_m = 77

abbrev pub letter_n : ℕ
letter_n = 78

abbrev pub letter_q : ℕ
letter_q = 81

abbrev pub letter_r : ℕ
letter_r = 82

abbrev pub letter_s : ℕ
letter_s = 83

abbrev pub letter_t : ℕ
letter_t = 84

abbrev pub letter_x : ℕ
letter_x = 88

-- a refusal with this code, at this place
abbrev pub refusal : FaultyPart → ℕ → Refused
refusal place code = record { code = code; at = place }

-- what must stand there and doesn't: 510 (protocol error)
abbrev pub absence : ℕ → Refused
absence letter = refusal (Missing letter) 510

-- the fault of a check, at this place
abbrev pub fault_at : FaultyPart → Option ℕ → Option Refused
fault_at place fault = option_map (refusal place) fault

-- what is read at this place
abbrev pub placed : {A : Type 0} → FaultyPart → Result A ℕ → Result A Refused
placed place (Ok value) = Ok value
placed place (Err code) = Err (refusal place code)

-- the return code alone
abbrev pub coded : {A : Type 0} → Result A Refused → Result A ℕ
coded (Ok value) = Ok value
coded (Err refused) = Err refused.code

-- Judging

-- what a judgement ends with: the value or the refusal is what the definition says, unless memory was refused
abbrev pub StopsAs : {A : Type 0} → Result A Refused → Result A Stop → Type 0
StopsAs said (Ok value) = said ≡ Ok value
StopsAs said (Err (AtFault refused)) = (said ≡ Err refused) × (refused.code ≤ 999)
StopsAs said (Err OutOfMemory) = ⊤

-- the same of one that takes no memory
abbrev pub stop_of : {A : Type 0} → Result A Refused → Result A Stop
stop_of (Ok value) = Ok value
stop_of (Err refused) = Err (AtFault refused)

-- what was read at this place, as a judgement
abbrev pub stopped : {A : Type 0} → FaultyPart → Result A CodeFault → Result A Stop
stopped place (Ok value) = Ok value
stopped place (Err (faults.Code code)) = Err (AtFault (refusal place code))
stopped place (Err faults.OutOfMemory) = Err OutOfMemory

-- why a judgement stops, without the place
abbrev pub stop_fault : Stop → CodeFault
stop_fault OutOfMemory = faults.OutOfMemory
stop_fault (AtFault refused) = faults.Code refused.code

-- a judgement stops for want of memory only where it takes any
abbrev pub StopsForMemory : {A : Type 0} → Bool → Result A Stop → Type 0
StopsForMemory takes (Ok value) = ⊤
StopsForMemory takes (Err (AtFault refused)) = ⊤
StopsForMemory takes (Err OutOfMemory) = takes ≡ true
