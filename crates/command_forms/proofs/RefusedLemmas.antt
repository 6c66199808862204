-- What holds of steps that may end with a refusal, one after the other.
use Rattle.std.proofs.Common.{◌≡◌, ℕ, Bool, refl, ap, Ok, Err}
use Rattle.std.specs.Prelude.{Result, IfOk, IfErr}
use Rattle.mgcp_text.specs.declared.confirmation.KValue.{KValue}
use Rattle.mgcp_text.specs.declared.message.Message.{Message}
use Rattle.mgcp_text.specs.declared.message.Message.TheVariants as messages
use Rattle.endpoint_names.specs.declared.names.Names.{Names}
use Rattle.command_forms.specs.declared.refused.FaultyPart.{FaultyPart}
use Rattle.command_forms.specs.declared.refused.Refused.{Refused}
use Rattle.mg_bytes.specs.Steps.{◌>>=◌}
use Rattle.command_forms.specs.Refusing.{placed, coded}
use Rattle.command_forms.specs.Order.{judged_while_in, form_while, form_while_in}

-- what holds of each value that a next step gives holds of what both give
pub on_ok : {A B : Type 0} (P : B → Type 0) (read : Result A Refused) (next : A → Result B Refused) → ((x : A) → read ≡ Ok x → IfOk (next x) P)
    → IfOk (read >>= next) P
on_ok P (Ok x) next each = each x refl
on_ok P (Err refused) next each = tt

-- and so where the first is read at a place
pub on_placed : {A B : Type 0} (P : B → Type 0) (place : FaultyPart) (read : Result A ℕ) (next : A → Result B Refused)
    → ((x : A) → read ≡ Ok x → IfOk (next x) P) → IfOk (placed place read >>= next) P
on_placed P place (Ok x) next each = each x refl
on_placed P place (Err code) next each = tt

-- and so with refusals
pub on_err : {A B : Type 0} (P : Refused → Type 0) (read : Result A Refused) (next : A → Result B Refused) → IfErr read P
    → ((x : A) → IfErr (next x) P) → IfErr (read >>= next) P
on_err P (Ok x) next here each = each x
on_err P (Err refused) next here each = here

-- without its place a value is the same
pub coded_ok : {A : Type 0} (read : Result A Refused) (value : A) → coded read ≡ Ok value → read ≡ Ok value
coded_ok (Ok x) value e = let same : x ≡ value = cc in ap Ok same
coded_ok (Err refused) value e = absurd cc

-- and so of a message
pub form_is : (serves : Bool) (message : Message) (confirms : KValue) (names : Names)
    → form_while_in serves message confirms names ≡ coded (judged_while_in serves message confirms names)
unfolding form_while
form_is serves (messages.Command verb id name params body) confirms names = refl
form_is serves (messages.Response code id params body) confirms names = refl
