-- No answer of the gateway has a K, so none asks for an acknowledgement (RFC 3435, 3.2.2.1 and 3.5.6).
use Rattle.std.proofs.Common.{ℕ, Bool, true, false, List, length, Option, Some, None, arith, ◌≡◌, ◌&&◌, if◌then◌else◌, [], ◌∷◌, ◌++◌, codes, map, refl, sym, ap, ◌∙◌, subst}
use Rattle.std.specs.Prelude.{Result, Ok, Err, nat_le, find, is_some}
use Rattle.mg_bytes.specs.Checks.{unless, checked}
use Rattle.mgcp_text.specs.Answer.{AnswerContent, response_of, IsAnswer}
use Rattle.mgcp_text.specs.Writing.{written}
use Rattle.connections.specs.Standing.{audited, Left, Standing, created, deleted, modified}
use Rattle.connections.specs.declared.answer.Audited.{Audited}
use Rattle.transmission.specs.Texts.{largest_datagram}
use Rattle.audits.specs.ConnectionReport.{connection_report, report_from, connection_params}
use Rattle.audits.specs.EndpointReport.{endpoint_report, endpoint_params}
use Rattle.audits.specs.Endpoint.{AuditedEndpoint}
use Rattle.audits.specs.Fitting.{fitting}
use Rattle.plain_machine.specs.Commanding.{answer_by, audited as audited_by, commanded, done_by}
use Rattle.plain_machine.specs.Reporting.{report_by, audited_endpoint, line_report, name_of_line, name_param, names_of}
use Rattle.connections.proofs.CodeLaws.{IsFinal, IsFinalCode, audited_final}
use Rattle.mg_bytes.specs.Items.{items_of}
use Rattle.mgcp_text.specs.declared.confirmation.KValue.{KValue}
use Rattle.mgcp_text.specs.declared.message.Message.TheVariants as messages
use Rattle.mgcp_text.specs.declared.message.Param.{Param}
use Rattle.mgcp_text.specs.Confirmation.{first_value, k_of}
use Rattle.mgcp_text.specs.Message.{has_code, param_at}
use Rattle.mgcp_text.specs.Reading.{Outcome, message, no_header, bad_version, bad_body, read_text}
use Rattle.mgcp_text.proofs.AnswerLemmas.{answer_writable}
use Rattle.mgcp_text.proofs.IdLemmas.{IsId}
use Rattle.mgcp_text.proofs.RoundLaws.{read_again}
use Rattle.transmission.specs.Acknowledging.{asks_for_acknowledgement, is_empty_k}
use Rattle.audits.specs.Picking.{listed, picked, with_item, with_items}
use Rattle.command_forms.specs.Command.{Command}
use Rattle.command_forms.specs.Order.{form_while}
use Rattle.command_forms.specs.declared.forms.Asks.{Asks}
use Rattle.command_forms.specs.declared.forms.Asks.TheVariants.{Reports, Does}
use Rattle.command_forms.specs.declared.forms.Audit.{Audit}
use Rattle.command_forms.specs.declared.forms.AuditTarget.{AuditTarget}
use Rattle.command_forms.specs.declared.forms.AuditTarget.TheVariants as audits
use Rattle.command_forms.specs.declared.forms.ConnectionDeed.{ConnectionDeed}
use Rattle.command_forms.specs.declared.forms.ConnectionDeed.TheVariants.{Keep, Create, Modify, Delete}
use Rattle.command_forms.specs.declared.forms.Deed.{Deed}
use Rattle.command_forms.specs.declared.forms.Target.{Target}
use Rattle.command_forms.specs.declared.forms.Target.TheVariants as targets
use Rattle.connections.specs.declared.codec.Encoding.{Encoding}
use Rattle.connections.specs.declared.deletion.Deletion.{Deletion}
use Rattle.connections.specs.declared.deletion.Deletion.TheVariants as deletions
use Rattle.plain_machine.specs.declared.setup.Setup.{Setup}
use Rattle.plain_machine.specs.declared.endpoint.Endpoint.{Endpoint}
use Rattle.plain_machine.specs.Connecting.{Shown, connected, created_shown, deleted_shown, modified_shown, showing, showing_what}
use Rattle.plain_machine.specs.Done.{Done}
use Rattle.plain_machine.specs.Machine.{Endpoints, endpoint_at, numbered, serves}
use Rattle.plain_machine.specs.Requesting.{deed_done, done_for, done_there, line_with_place, refused_by, shown_by, shown_of, shown_on, unless_refused}
use Rattle.machine_laws.proofs.EachLemmas.{Each, each_both}

-- The codes of reports are those of final responses.

fit_final : (b : Bool) (wanted : AnswerContent) → IsFinalCode wanted.code → IsFinalCode (answer_by (checked {F = ℕ} (unless b 533) (Ok wanted))).code
fit_final true wanted final = final
fit_final false wanted final = (omega arith, omega arith)

pub fitting_final : (id : ℕ) (wanted : AnswerContent) → IsFinalCode wanted.code → IsFinalCode (answer_by (fitting id wanted)).code
unfolding fitting
fitting_final id wanted final = fit_final (nat_le (length (written (response_of id wanted))) largest_datagram) wanted final

endpoint_final : (id : ℕ) (endpoint : AuditedEndpoint) (items : List (List ℕ)) → IsFinalCode (answer_by (endpoint_report id endpoint items)).code
unfolding endpoint_report
endpoint_final id endpoint items = fitting_final id _ (omega arith, omega arith)

report_final : (id : ℕ) (entity : List ℕ) (made : Result Audited ℕ) (items : List (List ℕ)) → IsFinal made → IsFinalCode (answer_by (report_from id entity made items)).code
report_final id entity (Err code) items final = final
report_final id entity (Ok found) items final = fitting_final id _ (omega arith, omega arith)

connection_final : (id : ℕ) (endpoint : AuditedEndpoint) (connection : List ℕ) (items : List (List ℕ)) → IsFinalCode (answer_by (connection_report id endpoint connection items)).code
unfolding connection_report
connection_final id endpoint connection items = report_final id endpoint.entity.text (audited connection endpoint.connections) items (audited_final connection endpoint.connections)

pub connected_final : (connection : Option (List ℕ)) (id : ℕ) (endpoint : AuditedEndpoint) (items : List (List ℕ)) → IsFinalCode (answer_by (report_by connection id endpoint items)).code
connected_final None id endpoint items = endpoint_final id endpoint items
connected_final (Some connection) id endpoint items = connection_final id endpoint connection items

-- what arrives asks for no acknowledgement
abbrev pub AsksNothing : Outcome → Type 0
AsksNothing (message (messages.Response code id params body)) = asks_for_acknowledgement code params ≡ false
AsksNothing (message (messages.Command verb id name params body)) = Unit {0}
AsksNothing no_header = Unit {0}
AsksNothing (bad_version id) = Unit {0}
AsksNothing (bad_body id) = Unit {0}

abbrev IsBare : Param → Type 0
IsBare param = has_code (codes "K") param ≡ false

abbrev pub AreBare : List Param → Type 0
AreBare params = Each IsBare params

none_found : (params : List Param) → AreBare params → param_at (codes "K") params ≡ None
none_found [] all = refl
none_found (param ∷ params) all = ap (λ (b : Bool). if b then Some param else find (has_code (codes "K")) params) all.0 ∙ none_found params all.1

none_asked : (low high : Bool) → (low && high && false) ≡ false
none_asked true true = refl
none_asked true false = refl
none_asked false high = refl

bare_asks : (code : ℕ) (params : List Param) → AreBare params → asks_for_acknowledgement code params ≡ false
unfolding k_of
bare_asks code params bare =
    ap (λ (found : Option Param). nat_le 200 code && nat_le code 999 && is_empty_k (first_value found)) (none_found params bare) ∙ none_asked (nat_le 200 code) (nat_le code 999)

pub written_asks : (id : ℕ) (given : AnswerContent) → IsId id → IsAnswer given → AreBare given.params → AsksNothing (read_text (written (response_of id given)))
written_asks id given has is bare = subst AsksNothing (sym (read_again (response_of id given) (answer_writable id given has.0 has.1 is))) (bare_asks given.code given.params bare)

-- A report

module _ (known : List Param) (bare : AreBare known) where
  listed_bare : (item : List ℕ) (params : List Param) → AreBare params → AreBare (listed (find (has_code item) params))
  listed_bare item [] all = tt
  listed_bare item (param ∷ params) all = by_test (has_code item param) (listed_bare item params all.1) where
    by_test : (b : Bool) → AreBare (listed (find (has_code item) params)) → AreBare (listed (if b then Some param else find (has_code item) params))
    by_test true rest = (all.0, tt)
    by_test false rest = rest

  item_bare : (report : List Param) (item : List ℕ) → AreBare report → AreBare (with_item known report item)
  item_bare report item all = by_test (is_some (param_at item report)) where
    by_test : (b : Bool) → AreBare (if b then report else report ++ listed (param_at item known))
    by_test true = all
    by_test false = each_both IsBare report (listed (param_at item known)) all (listed_bare item known bare)

  items_bare : (report : List Param) (items : List (List ℕ)) → AreBare report → AreBare (with_items known report items)
  unfolding with_items
  items_bare report [] all = all
  items_bare report (item ∷ items) all = items_bare (with_item known report item) items (item_bare report item all)

  picked_bare : (items : List (List ℕ)) → AreBare (picked known items)
  picked_bare items = items_bare [] items tt

checked_bare : (b : Bool) (wanted : AnswerContent) → AreBare wanted.params → AreBare (answer_by (checked {F = ℕ} (unless b 533) (Ok wanted))).params
checked_bare true wanted bare = bare
checked_bare false wanted bare = tt

fitting_bare : (id : ℕ) (wanted : AnswerContent) → AreBare wanted.params → AreBare (answer_by (fitting id wanted)).params
unfolding fitting
fitting_bare id wanted bare = checked_bare (nat_le (length (written (response_of id wanted))) largest_datagram) wanted bare

endpoint_bare : (id : ℕ) (endpoint : AuditedEndpoint) (items : List (List ℕ)) → AreBare (answer_by (endpoint_report id endpoint items)).params
unfolding endpoint_report
endpoint_bare id endpoint items =
    fitting_bare id _
    (picked_bare (endpoint_params endpoint) (refl, (refl, (refl, (refl, (refl, (refl, (refl, (refl, (refl, (refl, (refl, (refl, tt)))))))))))) items)

connection_bare : (id : ℕ) (entity : List ℕ) (made : Result Audited ℕ) (items : List (List ℕ)) → AreBare (answer_by (report_from id entity made items)).params
connection_bare id entity (Err code) items = tt
connection_bare id entity (Ok found) items = fitting_bare id _ (picked_bare (connection_params entity found.connection) (refl, (refl, (refl, (refl, (refl, tt))))) items)

report_bare : (connection : Option (List ℕ)) (id : ℕ) (endpoint : AuditedEndpoint) (items : List (List ℕ)) → AreBare (answer_by (report_by connection id endpoint items)).params
unfolding connection_report
report_bare None id endpoint items = endpoint_bare id endpoint items
report_bare (Some connection) id endpoint items = connection_bare id endpoint.entity.text (audited connection endpoint.connections) items

line_bare : (found : Option Endpoint) (id : ℕ) (audit : Audit) → AreBare (answer_by (line_report found id audit)).params
line_bare None id audit = tt
line_bare (Some endpoint) id audit = report_bare audit.connection id (audited_endpoint endpoint) (items_of audit.items)

numbered_bare : (setup : Setup) (list : List (ℕ × Endpoint)) → AreBare (map (name_param setup) list)
numbered_bare setup [] = tt
numbered_bare setup (one ∷ list) = (refl, numbered_bare setup list)

names_bare : (setup : Setup) (endpoints : Endpoints) → AreBare (names_of setup endpoints)
unfolding names_of
names_bare setup endpoints = numbered_bare setup (numbered endpoints)

audit_bare : (setup : Setup) (endpoints : Endpoints) (id : ℕ) (target : AuditTarget) (audit : Audit) → AreBare (answer_by (audited_by setup endpoints id target audit)).params
unfolding audited_by
audit_bare setup endpoints id (audits.One line) audit = line_bare (endpoint_at endpoints line) id audit
audit_bare setup endpoints id audits.All audit = fitting_bare id _ (names_bare setup endpoints)

-- A deed

deleted_bare : (deletion : Deletion) → AreBare (deleted_shown deletion).params
deleted_bare deletions.All = tt
deleted_bare (deletions.OfCall call) = tt
deleted_bare (deletions.One call id) = (refl, tt)

either_bare : {A : Type 0} (shown : Option A → Shown) → AreBare (shown None).params → ((a : A) → AreBare (shown (Some a)).params) → (found : Option A) → AreBare (shown found).params
either_bare shown none some None = none
either_bare shown none some (Some a) = some a

showing_bare : {A : Type 0} (shown : A → Shown) (made : Result (Left A) ℕ) → ((a : A) → AreBare (shown a).params) → AreBare (shown_by (showing shown made)).params
showing_bare shown (Ok done) bare = bare done.answer
showing_bare shown (Err code) bare = tt

showing_what_bare : (shown : Shown) (made : Result Standing ℕ) → AreBare shown.params → AreBare (shown_by (showing_what shown made)).params
showing_what_bare shown (Ok leaves) bare = bare
showing_what_bare shown (Err code) bare = tt

connected_bare : (deed : ConnectionDeed) (encoding : Encoding) (standing : Standing) → AreBare (shown_by (connected deed encoding standing)).params
unfolding connected
connected_bare Keep encoding standing = tt
connected_bare (Create creation) encoding standing = showing_bare created_shown (created encoding creation standing) (λ made. (refl, tt))
connected_bare (Modify call id change) encoding standing = showing_bare modified_shown (modified encoding call id change standing) (either_bare modified_shown tt (λ description. tt))
connected_bare (Delete deletion) encoding standing = showing_what_bare (deleted_shown deletion) (deleted deletion standing) (deleted_bare deletion)

shown_bare : (endpoints : Endpoints) (lines : Target) (deed : Deed) → AreBare (shown_of endpoints lines deed).params
unfolding shown_of
shown_bare endpoints (targets.One line) deed = by_endpoint (endpoint_at endpoints line) where
  by_endpoint : (found : Option Endpoint) → AreBare (shown_on found deed).params
  by_endpoint None = tt
  by_endpoint (Some endpoint) = connected_bare deed.connections _ endpoint.connections
shown_bare endpoints targets.All deed = tt
shown_bare endpoints targets.Any deed = tt

done_bare : (setup : Setup) (endpoints : Endpoints) (lines : Target) (more : List Param) (deed : Deed) (moment : ℕ) → AreBare more
    → AreBare (deed_done setup endpoints lines more deed moment).answer.params
done_bare setup endpoints lines more deed moment bare = by_refusal (refused_by endpoints lines deed) _ (each_both IsBare (shown_of endpoints lines deed).params more (shown_bare endpoints lines deed) bare) where
  by_refusal : (refusal : Option ℕ) (done : Done) → AreBare done.answer.params → AreBare (unless_refused refusal endpoints done).answer.params
  by_refusal None done bare = bare
  by_refusal (Some code) done bare = tt

target_bare : (setup : Setup) (endpoints : Endpoints) (target : Target) (deed : Deed) (moment : ℕ) → AreBare (done_for setup endpoints target deed moment).answer.params
target_bare setup endpoints (targets.One line) deed moment = done_bare setup endpoints (targets.One line) [] deed moment tt
target_bare setup endpoints targets.All deed moment = done_bare setup endpoints targets.All [] deed moment tt
target_bare setup endpoints targets.Any deed moment = by_line (line_with_place endpoints) where
  by_line : (found : Option ℕ) → AreBare (done_there found setup endpoints deed moment).answer.params
  by_line None = tt
  by_line (Some line) = done_bare setup endpoints (targets.One line) (name_of_line setup line ∷ []) deed moment (refl, tt)

asks_bare : (asks : Result Asks ℕ) (setup : Setup) (endpoints : Endpoints) (moment id : ℕ) → AreBare (done_by asks setup endpoints moment id).answer.params
asks_bare (Err code) setup endpoints moment id = tt
asks_bare (Ok (Reports target audit)) setup endpoints moment id = audit_bare setup endpoints id target audit
asks_bare (Ok (Does target deed)) setup endpoints moment id = target_bare setup endpoints target deed moment

pub commanded_bare : (setup : Setup) (endpoints : Endpoints) (moment id : ℕ) (command : Command) (confirms : KValue)
    → AreBare (commanded setup endpoints moment id command confirms).answer.params
commanded_bare setup endpoints moment id command confirms = asks_bare (form_while (serves endpoints) command confirms setup.names) setup endpoints moment id
