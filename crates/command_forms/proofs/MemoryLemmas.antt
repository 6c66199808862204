-- Where judging a command takes no memory.
use Rattle.std.proofs.Common.{◌≡◌, Bool, true, false, ◌&&◌, ◌||◌, List, refl, sym, ap, ◌∙◌, Ok, Err}
use Rattle.std.specs.Prelude.{Result, is_none}
use Rattle.mgcp_text.specs.declared.confirmation.KValue.{KValue}
use Rattle.mgcp_text.specs.Message.{params_in}
use Rattle.mgcp_text.specs.declared.message.Message.{Message}
use Rattle.mgcp_text.specs.declared.message.Message.TheVariants as messages
use Rattle.mgcp_text.specs.declared.message.Param.{Param}
use Rattle.endpoint_names.specs.declared.names.Names.{Names}
use Rattle.command_forms.specs.declared.refused.Stop.{Stop}
use Rattle.command_forms.specs.declared.refused.Stop.TheVariants.{OutOfMemory, AtFault}
use Rattle.command_forms.specs.declared.forms.Asks.{Asks}
use Rattle.command_forms.specs.declared.verbs.Meant.{Meant}
use Rattle.command_forms.specs.declared.verbs.Task.{Task}
use Rattle.command_forms.specs.declared.verbs.Task.TheVariants.{ReportOf, DeedOn}
use Rattle.command_forms.specs.Command.{Command}
use Rattle.command_forms.specs.Refusing.{StopsForMemory}
use Rattle.command_forms.specs.Meaning.{meant, meant_in}
use Rattle.command_forms.specs.Order.{early_fault, is_audit, is_deed, takes_memory, meant_takes_memory, takes_memory_in}
use Rattle.command_forms.specs.Codes.{purpose_meant}
use Rattle.command_forms.proofs.FormLemmas.{purpose_is}

both_hold : (a b : Bool) → (a && b) ≡ true → b ≡ true
both_hold true b e = e
both_hold false b e = absurd cc

deed_is_no_audit : (task : Task) → is_deed task ≡ true → is_audit (purpose_meant task) ≡ false
deed_is_no_audit (ReportOf reporting target) e = absurd cc
deed_is_no_audit (DeedOn connecting target) e = refl

-- an audit takes none
audit_takes_none : (found : Meant) (params : List Param) (confirms : KValue) → purpose_meant found.task ≡ found.row.purpose → is_audit found.row.purpose ≡ true
    → takes_memory found params confirms ≡ true → ⊥
audit_takes_none found params confirms purpose audit takes =
    let deed : is_deed found.task ≡ true = both_hold (is_none (early_fault found params confirms)) (is_deed found.task) takes in
    let no : is_audit found.row.purpose ≡ false = ap is_audit (sym purpose) ∙ deed_is_no_audit found.task deed in
    absurd cc

never : {A : Type 0} (takes : Bool) (result : Result A Stop) → (takes ≡ true → ⊥) → StopsForMemory takes result → StopsForMemory false result
never takes (Ok value) free stops = tt
never takes (Err (AtFault refused)) free stops = tt
never takes (Err OutOfMemory) free stops = absurd (free stops)

-- behind the check of a gateway that doesn't serve yet
judged_takes : (serves : Bool) (command : Command) (names : Names) (found : Meant) (confirms : KValue) (result : Result Asks Stop) → meant command names ≡ Ok found
    → (serves || is_audit found.row.purpose) ≡ true → StopsForMemory (takes_memory found command.params confirms) result
    → StopsForMemory (serves && meant_takes_memory (meant command names) command.params confirms) result
judged_takes true command names found confirms result is passes stops = rw is stops
judged_takes false command names found confirms result is passes stops =
    never (takes_memory found command.params confirms) result (audit_takes_none found command.params confirms (purpose_is command names found is) passes) stops

pub either_holds : (a b : Bool) → b ≡ true → (a || b) ≡ true
either_holds true b e = refl
either_holds false b e = e

pub message_takes : (serves : Bool) (message : Message) (names : Names) (found : Meant) (confirms : KValue) (params : List Param) (result : Result Asks Stop) → meant_in message names ≡ Ok found
    → (serves || is_audit found.row.purpose) ≡ true → params_in message ≡ params → StopsForMemory (takes_memory found params confirms) result
    → StopsForMemory (takes_memory_in serves message confirms names) result
message_takes serves (messages.Command verb id name params body) names found confirms others result is passes same stops =
    judged_takes serves (record { verb = verb; name = name; params = params; body = body }) names found confirms result is passes (rw same stops)
message_takes serves (messages.Response code id params body) names found confirms others result is passes same stops = absurd cc
