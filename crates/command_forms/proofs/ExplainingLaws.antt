-- What a command is refused for has the code with which it is refused, and that has words.
use Rattle.std.proofs.Common.{◌≡◌, ℕ, true, refl, Ok, Err, inl, arith}
use Rattle.std.specs.Prelude.{Result, IfErr, IfSome, is_some}
use Rattle.std.specs.Result.{result_err}
use Rattle.std.proofs.lemmas.Bool.Decides.{nat_tests}
use Rattle.mg_bytes.specs.ReturnCode.{code_with}
use Rattle.mgcp_text.specs.declared.confirmation.KValue.{KValue}
use Rattle.mgcp_text.specs.declared.message.Message.{Message}
use Rattle.mgcp_text.specs.declared.message.Message.TheVariants as messages
use Rattle.endpoint_names.specs.declared.names.Names.{Names}
use Rattle.command_forms.specs.declared.forms.Asks.{Asks}
use Rattle.command_forms.specs.declared.refused.Refused.{Refused}
use Rattle.command_forms.specs.Command.{Command}
use Rattle.command_forms.specs.Refusing.{coded}
use Rattle.command_forms.specs.Order.{judged, judged_in, form_in}
use Rattle.command_forms.specs.Explaining.{explained_in, refused_code}
use Rattle.command_forms.proofs.RefusedLemmas.{form_is}
use Rattle.command_forms.proofs.CodeLemmas.{IsFormCode, IsFormRefusal, judged_coded}

code_alone : (read : Result Asks Refused) → refused_code (result_err read) ≡ result_err (coded read)
code_alone (Ok asks) = refl
code_alone (Err refused) = refl

pub same_code : (message : Message) (confirms : KValue) (names : Names)
    → refused_code (explained_in message confirms names) ≡ result_err (form_in message confirms names)
same_code message confirms names = rw (form_is true message confirms names) (code_alone (judged_in message confirms names))

words_known : (code : ℕ) → IsFormCode code → is_some (code_with code) ≡ true
unfolding code_with
words_known code known = grind (arith, nat_tests)

all_known : (read : Result Asks Refused) → IfErr read IsFormRefusal → IfSome (result_err read) (λ refused. is_some (code_with refused.code) ≡ true)
all_known (Ok asks) here = tt
all_known (Err refused) here = words_known refused.code here

pub has_words : (message : Message) (confirms : KValue) (names : Names)
    → IfSome (explained_in message confirms names) (λ refused. is_some (code_with refused.code) ≡ true)
has_words (messages.Command verb id name params body) confirms names =
    let command : Command = record { verb = verb; name = name; params = params; body = body } in
    all_known (judged command confirms names) (judged_coded command confirms names)
has_words (messages.Response code id params body) confirms names = words_known 504 (inl refl)
