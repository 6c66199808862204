-- What is so of a desk is so of it in its box.
use Rattle.std.proofs.Common.{◌≡◌, sym, subst}
use Rattle.std.specs.Global.{Box}
use Rattle.std.specs.Prelude.{Result, Ok, Err, IfOk}
use Rattle.live_gateway.specs.declared.desk.Desk.{Desk}

pub held_so : {S T E : Type 0} (P : Desk S T → Type 0) (desk : Desk S T) (result : Result (Box (Desk S T)) E)
    → IfOk result (λ held. held.value ≡ desk) → P desk → IfOk result (λ held. P held.value)
held_so P desk (Ok held) same is = subst P (sym same) is
held_so P desk (Err refused) same is = tt
