-- Which codes the faults of a command have.
use Rattle.std.proofs.Common.{◌≡◌, ℕ, ◌+◌, Bool, true, false, List, [], ◌∷◌, ◌++◌, codes, refl, arith, rules, Option, Some, None, Ok, Err, inl, inr, ◌⊎◌}
use Rattle.std.specs.Prelude.{Result, IfErr, IfSome, option_map}
use Rattle.std.proofs.lemmas.Bool.Decides.{nat_tests}
use Rattle.mg_bytes.specs.Checks.{unless, first_fault, checked}
use Rattle.mgcp_text.specs.declared.confirmation.KValue.{KValue}
use Rattle.mgcp_text.specs.declared.message.Param.{Param}
use Rattle.mgcp_text.specs.Message.{param_at}
use Rattle.endpoint_names.specs.declared.names.Names.{Names}
use Rattle.endpoint_names.specs.declared.table.Host.{Host}
use Rattle.event_syntax.specs.Requested.{requested_of}
use Rattle.event_syntax.specs.Detect.{detected_of}
use Rattle.packages.specs.Signals.{signals_of}
use Rattle.connections.specs.Options.{options_of}
use Rattle.command_forms.specs.declared.refused.FaultyPart.{FaultyPart}
use Rattle.command_forms.specs.declared.refused.FaultyPart.TheVariants.{Line, Value}
use Rattle.command_forms.specs.declared.refused.Refused.{Refused}
use Rattle.command_forms.specs.declared.verbs.Connecting.{Connecting}
use Rattle.command_forms.specs.declared.verbs.Connecting.TheVariants.{Keeps, Creates, Modifies, Deletes}
use Rattle.command_forms.specs.declared.verbs.Meant.{Meant}
use Rattle.command_forms.specs.declared.verbs.Reporting.{Reporting}
use Rattle.command_forms.specs.declared.verbs.Reporting.TheVariants.{Endpoint, Connection}
use Rattle.command_forms.specs.declared.verbs.Task.{Task}
use Rattle.command_forms.specs.declared.verbs.Task.TheVariants.{ReportOf, DeedOn}
use Rattle.command_forms.specs.declared.verbs.VerbRow.{VerbRow}
use Rattle.command_forms.specs.Command.{Command}
use Rattle.mg_bytes.specs.Steps.{◌>>=◌}
use Rattle.command_forms.specs.Refusing.{letter_k, refusal, absence, fault_at, placed, coded}
use Rattle.command_forms.specs.Params.{param_fault, params_fault, value_at}
use Rattle.command_forms.specs.Meaning.{meant}
use Rattle.command_forms.specs.Values.{is_readable, said_at, entity_at, encoding_from, identifier_from, mode_from, handling_at, change_at, remote_of}
use Rattle.command_forms.specs.Deeds.{events_of, request_of, request_at, creation_of, modification_of, deletion_of, connected_by, deed_of}
use Rattle.command_forms.specs.Order.{audit_of, absent_letter, counted, asked_for, asked, judged_while, judged, form_while, form_of}
use Rattle.command_forms.specs.Codes.{name_codes, param_codes, has_code}
use Rattle.command_forms.proofs.StepLemmas.{is_err}
use Rattle.command_forms.proofs.RefusedLemmas.{on_err}
use Rattle.command_forms.proofs.OptionCodes.{of_faulty}
use Rattle.command_forms.proofs.ValueCodes.{IsParamCode, Coded, coded_on as said_on, handling_at_coded, requested_coded, detected_coded, signals_coded}

-- The verb and the name

abbrev IsNameRefusal : Refused → Type 0
IsNameRefusal refused = has_code name_codes refused.code ≡ true

meant_coded : (command : Command) (names : Names) → IfErr (meant command names) IsNameRefusal
unfolding meant
meant_coded command names = search rules

pub name_code : (command : Command) (names : Names) (refused : Refused) → meant command names ≡ Err refused → has_code name_codes refused.code ≡ true
name_code command names refused e = is_err IsNameRefusal (meant command names) refused (meant_coded command names) e

-- The parameters

abbrev IsParamRefusal : Refused → Type 0
IsParamRefusal refused = IsParamCode refused.code

first_gives : (check : Option Refused) (checks : List (Option Refused)) → IfSome check IsParamRefusal → IfSome (first_fault checks) IsParamRefusal
    → IfSome (first_fault (check ∷ checks)) IsParamRefusal
first_gives None checks here there = there
first_gives (Some refused) checks here there = here

param_gives : (row : VerbRow) (before : List Param) (param : Param) → IfSome (param_fault row before param) IsParamCode
param_gives row before param = search rules

place_gives : (place : FaultyPart) (fault : Option ℕ) → IfSome fault IsParamCode → IfSome (fault_at place fault) IsParamRefusal
place_gives place None here = tt
place_gives place (Some code) here = here

params_give : (row : VerbRow) (number : ℕ) (before params : List Param) → IfSome (params_fault row number before params) IsParamRefusal
unfolding params_fault
params_give row number before [] = tt
params_give row number before (param ∷ params) =
    let rest : Option Refused = params_fault row (number + 1) (before ++ param ∷ []) params in
    first_gives (fault_at (Line number) (param_fault row before param)) (rest ∷ [])
    (place_gives (Line number) (param_fault row before param) (param_gives row before param))
    (first_gives rest [] (params_give row (number + 1) (before ++ param ∷ []) params) tt)

missing_gives : (letter : Option ℕ) → IfSome (option_map absence letter) IsParamRefusal
missing_gives None = tt
missing_gives (Some letter) = refl

unreadable_gives : (readable : Bool) → IfSome (first_fault (unless readable (refusal (Value letter_k) 510) ∷ [])) IsParamRefusal
unreadable_gives true = tt
unreadable_gives false = refl

-- The values

entity_coded : (hosts : List Host) (found : Option Param) → Coded (entity_at hosts found)
entity_coded hosts found = search rules

identifier_coded : (value : List ℕ) → Coded (identifier_from value)
identifier_coded value = search rules

change_coded : (found : Option Param) → Coded (change_at found)
change_coded found = search rules

said_coded : {A : Type 0} (read : List ℕ → Result A ℕ) (found : Option Param) → ((value : List ℕ) → Coded (read value)) → Coded (said_at read found)
said_coded read None each = tt
said_coded read (Some param) each = said_on (read param.value) _ (each param.value) (λ said. tt)

encoding_coded : (value : List ℕ) → Coded (encoding_from value)
encoding_coded value = search rules

mode_coded : (value : List ℕ) → Coded (mode_from value)
mode_coded value = search rules

options_coded : (value : List ℕ) → Coded (options_of value)
options_coded value = of_faulty IsParamCode value refl refl

remote_coded : (text : List ℕ) → Coded (remote_of text)
remote_coded text = search rules

-- Steps

abbrev Refusable : {A : Type 0} → Result A Refused → Type 0
Refusable read = IfErr read IsParamRefusal

refusable_on : {A B : Type 0} (read : Result A Refused) (next : A → Result B Refused) → Refusable read → ((x : A) → Refusable (next x)) → Refusable (read >>= next)
refusable_on read next here on = on_err IsParamRefusal read next here on

coded_on : {A B : Type 0} (place : FaultyPart) (read : Result A ℕ) (next : A → Result B Refused) → Coded read → ((x : A) → Refusable (next x))
    → Refusable (placed place read >>= next)
coded_on place (Ok x) next here on = on x
coded_on place (Err code) next here on = here

events_coded : (params : List Param) → Refusable (events_of params)
unfolding events_of
events_coded params =
    coded_on _ (requested_of (value_at (codes "R") params)) _ (requested_coded (value_at (codes "R") params)) (λ requested.
    coded_on _ (detected_of (value_at (codes "T") params)) _ (detected_coded (value_at (codes "T") params)) (λ detected. tt))

request_coded : (value : List ℕ) (params : List Param) → Refusable (request_of value params)
unfolding request_of
request_coded value params =
    coded_on _ (identifier_from value) _ (identifier_coded value) (λ identifier.
    coded_on _ (handling_at (param_at (codes "Q") params)) _ (handling_at_coded (param_at (codes "Q") params)) (λ handling.
    coded_on _ (change_at (param_at (codes "D") params)) _ (change_coded (param_at (codes "D") params)) (λ map.
    refusable_on (events_of params) _ (events_coded params) (λ events.
    coded_on _ (signals_of (value_at (codes "S") params)) _ (signals_coded (value_at (codes "S") params)) (λ signals. tt)))))

request_at_coded : (found : Option Param) (params : List Param) → Refusable (request_at found params)
request_at_coded None params = tt
request_at_coded (Some param) params = refusable_on (request_of param.value params) _ (request_coded param.value params) (λ request. tt)

creation_coded : (params : List Param) → Refusable (creation_of params)
unfolding creation_of
creation_coded params =
    coded_on _ (identifier_from (value_at (codes "C") params)) _ (identifier_coded (value_at (codes "C") params)) (λ call.
    coded_on _ (mode_from (value_at (codes "M") params)) _ (mode_coded (value_at (codes "M") params)) (λ mode.
    coded_on _ (said_at options_of (param_at (codes "L") params)) _ (said_coded options_of (param_at (codes "L") params) options_coded) (λ options. tt)))

modification_coded : (params : List Param) → Refusable (modification_of params)
unfolding modification_of
modification_coded params =
    coded_on _ (identifier_from (value_at (codes "C") params)) _ (identifier_coded (value_at (codes "C") params)) (λ call.
    coded_on _ (identifier_from (value_at (codes "I") params)) _ (identifier_coded (value_at (codes "I") params)) (λ id.
    coded_on _ (said_at mode_from (param_at (codes "M") params)) _ (said_coded mode_from (param_at (codes "M") params) mode_coded) (λ mode.
    coded_on _ (said_at options_of (param_at (codes "L") params)) _ (said_coded options_of (param_at (codes "L") params) options_coded) (λ options. tt))))

deletion_coded : (params : List Param) → Refusable (deletion_of params)
unfolding deletion_of
deletion_coded params =
    coded_on _ (said_at identifier_from (param_at (codes "C") params)) _ (said_coded identifier_from (param_at (codes "C") params) identifier_coded) (λ call.
    coded_on _ (said_at identifier_from (param_at (codes "I") params)) _ (said_coded identifier_from (param_at (codes "I") params) identifier_coded) (λ id. tt))

connected_coded : (connecting : Connecting) (params : List Param) → Refusable (connected_by connecting params)
connected_coded Keeps params = tt
connected_coded Creates params = refusable_on (creation_of params) _ (creation_coded params) (λ creation. tt)
connected_coded Modifies params = modification_coded params
connected_coded Deletes params = refusable_on (deletion_of params) _ (deletion_coded params) (λ deletion. tt)

deed_coded : (connecting : Connecting) (params : List Param) (text : List ℕ) (hosts : List Host) → Refusable (deed_of connecting params text hosts)
unfolding deed_of
deed_coded connecting params text hosts =
    coded_on _ (entity_at hosts (param_at (codes "N") params)) _ (entity_coded hosts (param_at (codes "N") params)) (λ entity.
    coded_on _ (said_at encoding_from (param_at (codes "B") params)) _ (said_coded encoding_from (param_at (codes "B") params) encoding_coded) (λ encoding.
    refusable_on (connected_by connecting params) _ (connected_coded connecting params) (λ connections.
    refusable_on (request_at (param_at (codes "X") params) params) _ (request_at_coded (param_at (codes "X") params) params) (λ request.
    coded_on _ (remote_of text) _ (remote_coded text) (λ remote. tt)))))

audit_coded : (reporting : Reporting) (params : List Param) → Refusable (audit_of reporting params)
audit_coded Endpoint params = tt
audit_coded Connection params =
    coded_on _ (identifier_from (value_at (codes "I") params)) _ (identifier_coded (value_at (codes "I") params)) (λ identifier. tt)

asked_for_coded : (task : Task) (params : List Param) (body : List ℕ) (hosts : List Host) → Refusable (asked_for task params body hosts)
asked_for_coded (ReportOf reporting target) params body hosts =
    refusable_on (audit_of reporting params) _ (audit_coded reporting params) (λ audit. tt)
asked_for_coded (DeedOn connecting target) params body hosts =
    refusable_on (deed_of connecting params (counted connecting body) hosts) _ (deed_coded connecting params (counted connecting body) hosts) (λ deed. tt)

checked_coded : {A : Type 0} (fault : Option Refused) (next : Result A Refused) → IfSome fault IsParamRefusal → Refusable next → Refusable (checked fault next)
checked_coded None next here there = there
checked_coded (Some refused) next here there = here

asked_coded : (found : Meant) (params : List Param) (body : List ℕ) (confirms : KValue) (hosts : List Host)
    → Refusable (asked found params body confirms hosts)
unfolding asked
asked_coded found params body confirms hosts =
    checked_coded _ (asked_for found.task params body hosts)
    (first_gives (params_fault found.row 1 [] params) _ (params_give found.row 1 [] params)
    (first_gives (option_map absence (absent_letter found.row params)) _ (missing_gives (absent_letter found.row params))
    (unreadable_gives (is_readable confirms))))
    (asked_for_coded found.task params body hosts)

pub param_code : (found : Meant) (params : List Param) (body : List ℕ) (confirms : KValue) (hosts : List Host) (refused : Refused)
    → asked found params body confirms hosts ≡ Err refused → has_code param_codes refused.code ≡ true
param_code found params body confirms hosts refused e =
    is_err IsParamRefusal (asked found params body confirms hosts) refused (asked_coded found params body confirms hosts) e

pub codes_apart : (code : ℕ) → has_code param_codes code ≡ true → has_code name_codes code ≡ false
codes_apart code known = grind (arith, nat_tests)

-- The whole

abbrev pub IsFormCode : ℕ → Type 0
IsFormCode code = (has_code name_codes code ≡ true) ⊎ (has_code param_codes code ≡ true)

abbrev pub IsFormRefusal : Refused → Type 0
IsFormRefusal refused = IsFormCode refused.code

weaker : {A : Type 0} (P Q : Refused → Type 0) (read : Result A Refused) → ((refused : Refused) → P refused → Q refused) → IfErr read P → IfErr read Q
weaker P Q (Ok value) each here = tt
weaker P Q (Err refused) each here = each refused here

pub judged_coded : (command : Command) (confirms : KValue) (names : Names) → IfErr (judged command confirms names) IsFormRefusal
unfolding judged_while
judged_coded command confirms names =
    on_err IsFormRefusal (meant command names) _
    (weaker IsNameRefusal IsFormRefusal (meant command names) (λ refused here. inl here) (meant_coded command names)) (λ found.
    weaker IsParamRefusal IsFormRefusal (asked found command.params command.body confirms names.table) (λ refused here. inr here)
    (asked_coded found command.params command.body confirms names.table))

alone : {A : Type 0} (P : ℕ → Type 0) (read : Result A Refused) → IfErr read (λ refused. P refused.code) → IfErr (coded read) P
alone P (Ok value) here = tt
alone P (Err refused) here = here

pub form_code : (command : Command) (confirms : KValue) (names : Names) (code : ℕ) → form_of command confirms names ≡ Err code → IsFormCode code
unfolding form_while
form_code command confirms names code e =
    is_err IsFormCode (coded (judged command confirms names)) code (alone IsFormCode (judged command confirms names) (judged_coded command confirms names)) e
