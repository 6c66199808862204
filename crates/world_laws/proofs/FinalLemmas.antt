-- Each answer of the gateway to a command is a final response (RFC 3435, 2.4).
use Rattle.std.proofs.Common.{◌≡◌, ℕ, ◌≤◌, true, ◌++◌, List, [], ◌∷◌, Option, Some, None, refl, subst, arith}
use Rattle.std.specs.Prelude.{IfSome, Result, Ok, Err, fold}
use Rattle.std.proofs.lemmas.Bool.{le-leb}
use Rattle.std.proofs.lemmas.Bool.Decides.{nat_tests}
use Rattle.std.specs.declared.net.socket_addr.SocketAddrV4.{SocketAddrV4}
use Rattle.mgcp_text.specs.declared.confirmation.KValue.{KValue}
use Rattle.mgcp_text.specs.declared.message.Message.TheVariants as messages
use Rattle.mgcp_text.specs.declared.message.Param.{Param}
use Rattle.mgcp_text.specs.Answer.{AnswerContent, plain_code, response_of}
use Rattle.mgcp_text.specs.Confirmation.{k_of}
use Rattle.mgcp_text.specs.Reading.{Outcome, message, no_header, bad_version, bad_body, id_in, read_text}
use Rattle.mgcp_text.specs.Writing.{written}
use Rattle.mgcp_text.proofs.IdLemmas.{IsId, read_id}
use Rattle.transmission.specs.Arrival.{Arrival}
use Rattle.transmission.specs.Firsts.{Kind, a_first, a_repeat, lost, kind_of, added, firsts_with, firsts_of}
use Rattle.transmission.specs.Texts.{texts_of}
use Rattle.command_forms.specs.Codes.{name_codes, param_codes, has_code}
use Rattle.command_forms.specs.Command.{Command}
use Rattle.command_forms.specs.Order.{form_while}
use Rattle.command_forms.specs.declared.forms.Asks.{Asks}
use Rattle.command_forms.specs.declared.forms.Asks.TheVariants.{Reports, Does}
use Rattle.command_forms.specs.declared.forms.Audit.{Audit}
use Rattle.command_forms.specs.declared.forms.AuditTarget.{AuditTarget}
use Rattle.command_forms.specs.declared.forms.AuditTarget.TheVariants as audits
use Rattle.command_forms.specs.declared.forms.ConnectionDeed.{ConnectionDeed}
use Rattle.command_forms.specs.declared.forms.ConnectionDeed.TheVariants.{Keep, Create, Modify, Delete}
use Rattle.command_forms.specs.declared.forms.Deed.{Deed}
use Rattle.command_forms.specs.declared.forms.Target.{Target}
use Rattle.command_forms.specs.declared.forms.Target.TheVariants as targets
use Rattle.command_forms.proofs.RestartLemmas.{while_has_code}
use Rattle.mg_bytes.specs.Items.{items_of}
use Rattle.plain_machine.specs.declared.setup.Setup.{Setup}
use Rattle.plain_machine.specs.declared.endpoint.Endpoint.{Endpoint}
use Rattle.plain_machine.specs.Connecting.{done_code}
use Rattle.plain_machine.specs.Commanding.{answer_by, audited as audited_by, commanded, done_by}
use Rattle.plain_machine.specs.Done.{Done}
use Rattle.plain_machine.specs.Event.{GatewayEvent, datagram, phone, tick}
use Rattle.plain_machine.specs.Happening.{effect}
use Rattle.plain_machine.specs.Machine.{Endpoints, Machine, opening, serves, endpoint_at}
use Rattle.plain_machine.specs.Reporting.{audited_endpoint, line_report}
use Rattle.plain_machine.specs.Requesting.{deed_done, done_for, done_there, line_with_place, refused_by, unless_refused}
use Rattle.plain_machine.specs.Answering.{handled, transaction_of}
use Rattle.plain_machine.specs.Transactions.{arriving, commands_in, commands_with, commands_from, commands_of}
use Rattle.machine_laws.proofs.EachLemmas.{Each, each_both, each_push}
use Rattle.world_laws.specs.Landing.{is_final}
use Rattle.world_laws.specs.Copies.{IsFinal}
use Rattle.connections.proofs.CodeLaws.{IsFinalCode}
use Rattle.plain_machine.proofs.CodeLemmas.{refusal_final}
use Rattle.world_laws.proofs.FirstLines.{written_code}
use Rattle.world_laws.proofs.UnaskedLemmas.{fitting_final, connected_final}

-- What a command is answered

known_final : (code : ℕ) → has_code (405 ∷ name_codes ++ param_codes) code ≡ true → IsFinalCode code
known_final code known = (grind (arith, nat_tests), grind (arith, nat_tests))

line_final : (found : Option Endpoint) (id : ℕ) (audit : Audit) → IsFinalCode (answer_by (line_report found id audit)).code
line_final None id audit = (omega arith, omega arith)
line_final (Some endpoint) id audit = connected_final audit.connection id (audited_endpoint endpoint) (items_of audit.items)

audit_final : (setup : Setup) (endpoints : Endpoints) (id : ℕ) (target : AuditTarget) (audit : Audit) → IsFinalCode (answer_by (audited_by setup endpoints id target audit)).code
unfolding audited_by
audit_final setup endpoints id (audits.One line) audit = line_final (endpoint_at endpoints line) id audit
audit_final setup endpoints id audits.All audit = fitting_final id _ (omega arith, omega arith)

deed_final : (deed : ConnectionDeed) → IsFinalCode (done_code deed)
deed_final Keep = (omega arith, omega arith)
deed_final (Create creation) = (omega arith, omega arith)
deed_final (Modify call id change) = (omega arith, omega arith)
deed_final (Delete deletion) = (omega arith, omega arith)

unless_final : (refusal : Option ℕ) (endpoints : Endpoints) (done : Done) → IfSome refusal IsFinalCode → IsFinalCode done.answer.code
    → IsFinalCode (unless_refused refusal endpoints done).answer.code
unless_final None endpoints done refused final = final
unless_final (Some code) endpoints done refused final = refused

done_final : (setup : Setup) (endpoints : Endpoints) (lines : Target) (more : List Param) (deed : Deed) (moment : ℕ)
    → IsFinalCode (deed_done setup endpoints lines more deed moment).answer.code
done_final setup endpoints lines more deed moment =
    unless_final (refused_by endpoints lines deed) endpoints _ (refusal_final endpoints lines deed) (deed_final deed.connections)

target_final : (setup : Setup) (endpoints : Endpoints) (target : Target) (deed : Deed) (moment : ℕ) → IsFinalCode (done_for setup endpoints target deed moment).answer.code
target_final setup endpoints (targets.One line) deed moment = done_final setup endpoints (targets.One line) [] deed moment
target_final setup endpoints targets.All deed moment = done_final setup endpoints targets.All [] deed moment
target_final setup endpoints targets.Any deed moment = by_line (line_with_place endpoints) where
  by_line : (found : Option ℕ) → IsFinalCode (done_there found setup endpoints deed moment).answer.code
  by_line None = (omega arith, omega arith)
  by_line (Some line) = done_final setup endpoints (targets.One line) _ deed moment

asks_final : (asks : Result Asks ℕ) (setup : Setup) (endpoints : Endpoints) (moment id : ℕ) → ((code : ℕ) → asks ≡ Err code → IsFinalCode code)
    → IsFinalCode (done_by asks setup endpoints moment id).answer.code
asks_final (Err code) setup endpoints moment id final = final code refl
asks_final (Ok (Reports target audit)) setup endpoints moment id final = audit_final setup endpoints id target audit
asks_final (Ok (Does target deed)) setup endpoints moment id final = target_final setup endpoints target deed moment

pub commanded_final : (setup : Setup) (endpoints : Endpoints) (moment id : ℕ) (command : Command) (confirms : KValue)
    → IsFinalCode (commanded setup endpoints moment id command confirms).answer.code
commanded_final setup endpoints moment id command confirms =
    asks_final (form_while (serves endpoints) command confirms setup.names) setup endpoints moment id
    (λ code is. known_final code (while_has_code (serves endpoints) command confirms setup.names code is))

-- As it is written

pub final_of : (code : ℕ) → 200 ≤ code → code ≤ 999 → is_final code ≡ true
final_of code low high = rw (le-leb 200 code low, le-leb code 999 high) refl

pub written_final : (id : ℕ) (given : AnswerContent) → IsId id → IsFinalCode given.code → IsFinal (written (response_of id given))
written_final id given has final = λ code other params body reads.
    let same : given.code ≡ code = written_code id given has final.1 code other params body reads in
    final_of code (subst (λ (c : ℕ). 200 ≤ c) same final.0) (subst (λ (c : ℕ). c ≤ 999) same final.1)

-- Of all commands that arrive

abbrev pub HasFinal : Arrival → Type 0
HasFinal a = IsFinal a.answer

arriving_final : (setup : Setup) (m : Machine) (outcome : Outcome) → IfSome (id_in outcome) IsId → Each HasFinal (arriving m (transaction_of setup m outcome))
arriving_final setup m no_header has = tt
arriving_final setup m (bad_version id) has = (written_final id (plain_code 528) has (omega arith, omega arith), tt)
arriving_final setup m (bad_body id) has = (written_final id (plain_code 510) has (omega arith, omega arith), tt)
arriving_final setup m (message (messages.Response code id params body)) has = tt
arriving_final setup m (message (messages.Command verb id name params body)) has =
    let said : Command = record { verb = verb; name = name; params = params; body = body } in
    (written_final id (commanded setup m.endpoints m.now id said (k_of params)).answer has (commanded_final setup m.endpoints m.now id said (k_of params)), tt)

texts_final : (setup : Setup) (m : Machine) (source : SocketAddrV4) (texts : List (List ℕ)) → Each HasFinal (commands_in setup m source texts)
unfolding commands_in
texts_final setup m source [] = tt
texts_final setup m source (text ∷ texts) =
    each_both HasFinal (arriving m (transaction_of setup m (read_text text))) _ (arriving_final setup m (read_text text) (read_id text))
    (texts_final setup (handled setup m source (read_text text)).value source texts)

event_final : (setup : Setup) (m : Machine) (event : GatewayEvent) → Each HasFinal (commands_with setup m event)
event_final setup m (datagram source bytes) = texts_final setup m source (texts_of bytes)
event_final setup m (phone line act) = tt
event_final setup m (tick moment) = tt

events_final : (setup : Setup) (m : Machine) (events : List GatewayEvent) → Each HasFinal (commands_from setup m events)
unfolding commands_from
events_final setup m [] = tt
events_final setup m (event ∷ events) =
    each_both HasFinal (commands_with setup m event) _ (event_final setup m event) (events_final setup (effect setup m event).value events)

-- and so of those that are firsts

added_each : (P : Arrival → Type 0) (kind : Kind) (firsts : List Arrival) (a : Arrival) → Each P firsts → P a → Each P (added kind firsts a)
added_each P a_first firsts a all is = each_push P firsts a all is
added_each P (a_repeat copied) firsts a all is = all
added_each P lost firsts a all is = all

firsts_each : (P : Arrival → Type 0) (limit : ℕ) (firsts arrivals : List Arrival) → Each P firsts → Each P arrivals → Each P (fold (firsts_with limit) firsts arrivals)
unfolding firsts_with
firsts_each P limit firsts [] all each = all
firsts_each P limit firsts (a ∷ arrivals) all each =
    firsts_each P limit (firsts_with limit firsts a) arrivals (added_each P (kind_of limit firsts a) firsts a all each.0) each.1

-- the answers to all firsts are final
pub firsts_final : (setup : Setup) (limit : ℕ) (events : List GatewayEvent) → Each HasFinal (firsts_of limit (commands_of setup events))
firsts_final setup limit events = firsts_each HasFinal limit [] (commands_of setup events) tt (events_final setup (opening setup) events)
