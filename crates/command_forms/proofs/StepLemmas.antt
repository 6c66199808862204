-- What holds of what is read, and of steps that may end with a code, one after the other.
use Rattle.std.proofs.Common.{◌≡◌, ℕ, Ok, Err}
use Rattle.std.specs.Prelude.{Result, IfOk, IfErr}
use Rattle.mg_bytes.specs.Steps.{◌>>=◌}

pub is_ok : {A F : Type 0} (P : A → Type 0) (read : Result A F) (value : A) → IfOk read P → read ≡ Ok value → P value
is_ok P read value here is = rw is at here

pub is_err : {A F : Type 0} (P : F → Type 0) (read : Result A F) (fault : F) → IfErr read P → read ≡ Err fault → P fault
is_err P read fault here is = rw is at here

-- what holds of each code of two steps holds of that of both
pub on_err : {A B : Type 0} (P : ℕ → Type 0) (read : Result A ℕ) (next : A → Result B ℕ) → IfErr read P → ((x : A) → IfErr (next x) P)
    → IfErr (read >>= next) P
on_err P (Ok x) next here each = each x
on_err P (Err code) next here each = here
