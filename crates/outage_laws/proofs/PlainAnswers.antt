-- No answer of a gateway's asks for an acknowledgement: none has a K.
use Rattle.std.proofs.Common.{◌≡◌, ℕ, Bool, true, false, ◌&&◌, if◌then◌else◌, List, [], ◌∷◌, ◌++◌, map, codes, Option, Some, None, Result, Ok, Err, refl, sym, ap, ◌∙◌, subst}
use Rattle.std.specs.Prelude.{nat_le}
use Rattle.command_forms.specs.declared.forms.Asks.{Asks}
use Rattle.command_forms.specs.declared.forms.Asks.TheVariants.{Does, Reports}
use Rattle.command_forms.specs.declared.forms.Audit.{Audit}
use Rattle.command_forms.specs.declared.forms.AuditTarget.{AuditTarget}
use Rattle.command_forms.specs.declared.forms.AuditTarget.TheVariants as audits
use Rattle.command_forms.specs.declared.forms.ConnectionDeed.{ConnectionDeed}
use Rattle.command_forms.specs.declared.forms.ConnectionDeed.TheVariants.{Create, Delete, Keep, Modify}
use Rattle.command_forms.specs.declared.forms.Deed.{Deed}
use Rattle.command_forms.specs.declared.forms.Target.{Target}
use Rattle.command_forms.specs.declared.forms.Target.TheVariants.{All as AllLines, Any as AnyLine, One}
use Rattle.command_forms.specs.Command.{Command}
use Rattle.command_forms.specs.Order.{form_while}
use Rattle.mgcp_text.specs.declared.confirmation.KValue.{KValue}
use Rattle.mgcp_text.specs.declared.message.Message.TheVariants as messages
use Rattle.mgcp_text.specs.declared.message.Param.{Param}
use Rattle.mgcp_text.specs.Answer.{AnswerContent}
use Rattle.mgcp_text.specs.Confirmation.{first_value, k_of}
use Rattle.mgcp_text.specs.Message.{param_at}
use Rattle.mgcp_text.specs.Reading.{Outcome, bad_body, bad_version, message, no_header}
use Rattle.transmission.specs.Acknowledging.{asks_for_acknowledgement, is_empty_k}
use Rattle.connections.specs.declared.answer.Audited.{Audited}
use Rattle.connections.specs.declared.answer.Created.{Created}
use Rattle.connections.specs.declared.codec.Encoding.{Encoding}
use Rattle.connections.specs.declared.deletion.Deletion.{Deletion}
use Rattle.connections.specs.declared.deletion.Deletion.TheVariants.{All, OfCall, One as OneOf}
use Rattle.connections.specs.Standing.{Left, Standing}
use Rattle.sdp_subset.specs.declared.session.Session.{Session}
use Rattle.audits.specs.ConnectionReport.{connection_params, connection_report, report_from}
use Rattle.audits.specs.Endpoint.{AuditedEndpoint}
use Rattle.audits.specs.EndpointReport.{endpoint_params, endpoint_report}
use Rattle.audits.specs.Fitting.{fitting}
use Rattle.audits.specs.Picking.{asks_for, picked}
use Rattle.audits.proofs.PickLaws.{picked_at}
use Rattle.audits.proofs.ShowLaws.{fitting_same}
use Rattle.plain_machine.specs.declared.endpoint.Endpoint.{Endpoint}
use Rattle.plain_machine.specs.declared.setup.Setup.{Setup}
use Rattle.plain_machine.specs.Commanding.{answer_by, audited, commanded, done_by}
use Rattle.plain_machine.specs.Connecting.{connected, created_shown, deleted_shown, modified_shown, showing, showing_what}
use Rattle.plain_machine.specs.Machine.{Endpoints, endpoint_at, numbered, serves}
use Rattle.plain_machine.specs.Reporting.{audited_endpoint, line_report, name_of_line, name_param, names_of, report_by}
use Rattle.plain_machine.specs.Requesting.{answer_with, deed_done, deed_on_all, done_for, done_there, encoding_with, line_with_place, refused_by, shown_by, shown_of, shown_on, unless_refused}
use Rattle.retransmission.specs.Issued.{is_command_as}

-- What asks for one

-- a text that was read so asks for an acknowledgement
abbrev pub asks_of : Outcome → Bool
asks_of (message (messages.Response code id params body)) = asks_for_acknowledgement code params
asks_of (message (messages.Command verb id name params body)) = false
asks_of no_header = false
asks_of (bad_version id) = false
asks_of (bad_body id) = false

pub no_command_asks : (id : ℕ) (name : List ℕ) (outcome : Outcome) → is_command_as id name outcome ≡ true → asks_of outcome ≡ false
no_command_asks id name (message (messages.Response code other params body)) is = absurd cc
no_command_asks id name (message (messages.Command verb other of params body)) is = refl
no_command_asks id name no_header is = refl
no_command_asks id name (bad_version other) is = refl
no_command_asks id name (bad_body other) is = refl

-- parameters without a K
abbrev pub HasNoK : List Param → Type 0
HasNoK params = param_at (codes "K") params ≡ None

pub none_asks : (code : ℕ) (params : List Param) → HasNoK params → asks_for_acknowledgement code params ≡ false
unfolding k_of
none_asks code params none = by_tests (nat_le 200 code) (nat_le code 999) where
  absent : is_empty_k (k_of params) ≡ false
  absent = ap (λ (found : Option Param). is_empty_k (first_value found)) none

  by_tests : (low high : Bool) → (low && high && is_empty_k (k_of params)) ≡ false
  by_tests true true = absent
  by_tests true false = refl
  by_tests false high = refl

-- An audit

by_report : (report : Result AnswerContent ℕ) → ((answer : AnswerContent) → report ≡ Ok answer → HasNoK answer.params) → HasNoK (answer_by report).params
by_report (Ok answer) none = none answer refl
by_report (Err code) none = refl

fitted : (id : ℕ) (wanted : AnswerContent) → HasNoK wanted.params → HasNoK (answer_by (fitting id wanted)).params
fitted id wanted none = by_report (fitting id wanted) (λ answer e. subst (λ (a : AnswerContent). HasNoK a.params) (sym (fitting_same id wanted answer e)) none)

picked_none : (known : List Param) (items : List (List ℕ)) → HasNoK known → HasNoK (picked known items)
picked_none known items none = picked_at known items (codes "K") ∙ by_test (asks_for (codes "K") items) where
  by_test : (b : Bool) → (if b then param_at (codes "K") known else None) ≡ None
  by_test true = none
  by_test false = refl

endpoint_none : (id : ℕ) (endpoint : AuditedEndpoint) (items : List (List ℕ)) → HasNoK (answer_by (endpoint_report id endpoint items)).params
unfolding endpoint_report
endpoint_none id endpoint items = fitted id _ (picked_none (endpoint_params endpoint) items refl)

connection_none : (id : ℕ) (endpoint : AuditedEndpoint) (connection : List ℕ) (items : List (List ℕ)) → HasNoK (answer_by (connection_report id endpoint connection items)).params
unfolding connection_report
connection_none id endpoint connection items = by_found _ where
  by_found : (found : Result Audited ℕ) → HasNoK (answer_by (report_from id endpoint.entity.text found items)).params
  by_found (Ok audited) = fitted id _ (picked_none (connection_params endpoint.entity.text audited.connection) items refl)
  by_found (Err code) = refl

reported_none : (connection : Option (List ℕ)) (id : ℕ) (endpoint : AuditedEndpoint) (items : List (List ℕ)) → HasNoK (answer_by (report_by connection id endpoint items)).params
reported_none None id endpoint items = endpoint_none id endpoint items
reported_none (Some connection) id endpoint items = connection_none id endpoint connection items

line_none : (found : Option Endpoint) (id : ℕ) (audit : Audit) → HasNoK (answer_by (line_report found id audit)).params
line_none None id audit = refl
line_none (Some endpoint) id audit = reported_none audit.connection id (audited_endpoint endpoint) _

names_none : (setup : Setup) (all : List (ℕ × Endpoint)) → HasNoK (map (name_param setup) all)
names_none setup [] = refl
names_none setup (one ∷ all) = names_none setup all

audit_none : (setup : Setup) (endpoints : Endpoints) (id : ℕ) (target : AuditTarget) (audit : Audit) → HasNoK (answer_by (audited setup endpoints id target audit)).params
unfolding audited names_of
audit_none setup endpoints id (audits.One line) audit = line_none (endpoint_at endpoints line) id audit
audit_none setup endpoints id audits.All audit = fitted id _ (names_none setup (numbered endpoints))

-- A deed

-- behind these parameters there is still none
abbrev HaveNoK : List Param → Type 0
HaveNoK params = (more : List Param) → HasNoK more → HasNoK (params ++ more)

created_none : (found : Result (Left Created) ℕ) → HaveNoK (shown_by (showing created_shown found)).params
created_none (Ok done) = λ more none. none
created_none (Err code) = λ more none. none

modified_none : (found : Result (Left (Option Session)) ℕ) → HaveNoK (shown_by (showing modified_shown found)).params
modified_none (Ok done) = by_shown done.answer where
  by_shown : (shown : Option Session) → HaveNoK (modified_shown shown).params
  by_shown None = λ more none. none
  by_shown (Some description) = λ more none. none
modified_none (Err code) = λ more none. none

deleted_none : (deletion : Deletion) (found : Result Standing ℕ) → HaveNoK (shown_by (showing_what (deleted_shown deletion) found)).params
deleted_none deletion (Err code) = λ more none. none
deleted_none All (Ok leaves) = λ more none. none
deleted_none (OfCall call) (Ok leaves) = λ more none. none
deleted_none (OneOf call id) (Ok leaves) = λ more none. none

connected_none : (deed : ConnectionDeed) (encoding : Encoding) (standing : Standing) → HaveNoK (shown_by (connected deed encoding standing)).params
unfolding connected
connected_none Keep encoding standing = λ more none. none
connected_none (Create creation) encoding standing = created_none _
connected_none (Modify call id change) encoding standing = modified_none _
connected_none (Delete deletion) encoding standing = deleted_none deletion _

shown_none : (endpoints : Endpoints) (lines : Target) (deed : Deed) → HaveNoK (shown_of endpoints lines deed).params
unfolding shown_of
shown_none endpoints (One line) deed = by_endpoint (endpoint_at endpoints line) where
  by_endpoint : (found : Option Endpoint) → HaveNoK (shown_on found deed).params
  by_endpoint None = λ more none. none
  by_endpoint (Some endpoint) = connected_none deed.connections (encoding_with deed endpoint) endpoint.connections
shown_none endpoints AllLines deed = λ more none. none
shown_none endpoints AnyLine deed = λ more none. none

deed_none : (setup : Setup) (endpoints : Endpoints) (lines : Target) (more : List Param) (deed : Deed) (moment : ℕ) → HasNoK more → HasNoK (deed_done setup endpoints lines more deed moment).answer.params
deed_none setup endpoints lines more deed moment none = by_refusal (refused_by endpoints lines deed) where
  by_refusal : (refusal : Option ℕ)
      → HasNoK (unless_refused refusal endpoints (record {
        told = deed_on_all setup endpoints lines deed moment;
        answer = answer_with more deed (shown_of endpoints lines deed);
      })).answer.params
  by_refusal None = shown_none endpoints lines deed more none
  by_refusal (Some code) = refl

target_none : (setup : Setup) (endpoints : Endpoints) (target : Target) (deed : Deed) (moment : ℕ) → HasNoK (done_for setup endpoints target deed moment).answer.params
target_none setup endpoints (One line) deed moment = deed_none setup endpoints (One line) [] deed moment refl
target_none setup endpoints AllLines deed moment = deed_none setup endpoints AllLines [] deed moment refl
target_none setup endpoints AnyLine deed moment = by_line (line_with_place endpoints) where
  by_line : (found : Option ℕ) → HasNoK (done_there found setup endpoints deed moment).answer.params
  by_line None = refl
  by_line (Some line) = deed_none setup endpoints (One line) (name_of_line setup line ∷ []) deed moment refl

asks_none : (asks : Result Asks ℕ) (setup : Setup) (endpoints : Endpoints) (moment id : ℕ) → HasNoK (done_by asks setup endpoints moment id).answer.params
asks_none (Err code) setup endpoints moment id = refl
asks_none (Ok (Reports target audit)) setup endpoints moment id = audit_none setup endpoints id target audit
asks_none (Ok (Does target deed)) setup endpoints moment id = target_none setup endpoints target deed moment

pub command_none : (setup : Setup) (endpoints : Endpoints) (moment id : ℕ) (command : Command) (confirms : KValue) → HasNoK (commanded setup endpoints moment id command confirms).answer.params
command_none setup endpoints moment id command confirms = asks_none (form_while (serves endpoints) command confirms setup.names) setup endpoints moment id
