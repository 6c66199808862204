-- Where reading requested events takes memory.
use Rattle.std.proofs.Common.{◌≡◌, ℕ, Bool, true, List, ◌∷◌, refl}
use Rattle.std.specs.Prelude.{Result, Ok, Err, is_ok}
use Rattle.mg_bytes.specs.declared.code_fault.CodeFault.{CodeFault}
use Rattle.mg_bytes.specs.declared.code_fault.CodeFault.TheVariants.{OutOfMemory, Code}
use Rattle.mg_bytes.specs.Steps.{◌>>=◌}
use Rattle.mg_bytes.specs.CodeFault.{FailsForMemory}
use Rattle.event_syntax.specs.declared.request.RequestedEvent.{RequestedEvent}
use Rattle.event_syntax.specs.Actions.{rule_of}
use Rattle.event_syntax.specs.Requested.{requested, first_takes_memory}

read_before : {A B : Type 0} (read : Result A ℕ) (go : A → Result B ℕ) (b : B) → (read >>= go) ≡ Ok b → is_ok read ≡ true
read_before (Ok a) go b so = refl
read_before (Err code) go b so = absurd cc

pub rule_is_read : (entry : List ℕ) (event : RequestedEvent) → requested entry ≡ Ok event → is_ok (rule_of entry) ≡ true
unfolding requested
rule_is_read entry event so = read_before (rule_of entry) _ event so

-- where the rule of an entry was read, what is left takes memory, and so the whole does
pub takes_at_first : (left texts : List (List ℕ)) (text : List ℕ) (all : Bool)
    → left ≡ text ∷ texts → is_ok (rule_of text) ≡ true → (first_takes_memory left ≡ true → all ≡ true) → all ≡ true
takes_at_first left texts text all steps read on = on (rw steps read)

pub memory_stops : (left texts : List (List ℕ)) (text : List ℕ) (fault : CodeFault) (all : Bool)
    → left ≡ text ∷ texts → FailsForMemory {A = RequestedEvent} (is_ok (rule_of text)) (Err fault) → (first_takes_memory left ≡ true → all ≡ true)
    → FailsForMemory {A = List RequestedEvent} all (Err fault)
memory_stops left texts text OutOfMemory all steps gives on = takes_at_first left texts text all steps gives on
memory_stops left texts text (Code code) all steps gives on = tt

pub may_give_up : {A : Type 0} (takes : Bool) (result : Result A CodeFault) → takes ≡ true → FailsForMemory takes result
may_give_up takes (Ok value) so = tt
may_give_up takes (Err (Code code)) so = tt
may_give_up takes (Err OutOfMemory) so = so
