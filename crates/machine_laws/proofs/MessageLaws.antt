-- Every message that is sent ends in a line end, has no dot line, and is no longer than a datagram may be.
use Rattle.std.proofs.Common.{◌≡◌, ℕ, ◌<◌, ◌^◌, true, List, [], ◌∷◌, Option, Some, None, refl, arith, ◌+◌, ◌≤◌, Bool, false, ◌||◌, ◌==◌, if◌then◌else◌, ◌++◌, length, map, codes, Result, Ok, Err, sym, ap, ◌∙◌, lit<, ⊎_elim}
use Rattle.std.specs.Prelude.{is_none, All, Any, IfSome, flat_map}
use Rattle.std.proofs.lemmas.Bool.{and_parts}
use Rattle.std.proofs.lemmas.Bool.Decides.{nat_tests}
use Rattle.machine_rules.specs.declared.refusal.Refusal.{Refusal}
use Rattle.plain_machine.specs.declared.setup.Setup.{Setup}
use Rattle.plain_machine.specs.Event.{GatewayEvent, datagram, phone, tick}
use Rattle.plain_machine.specs.Machine.{Machine, serves, Endpoints, opening, endpoint_at, numbered}
use Rattle.plain_machine.specs.Happening.{effect}
use Rattle.plain_machine.specs.Refusing.{refusal_of, tick_refusal}
use Rattle.plain_machine.specs.Lists.{machine_after, are_taken, outputs_from, sent_from}
use Rattle.plain_machine.proofs.EffectLaws.{effect_now, effect_lines, handled_lines}
use Rattle.std.specs.Fmt.{decimal}
use Rattle.std.specs.List.{list_all, slice_index_or}
use Rattle.std.proofs.lemmas.Fmt.{length-decimal-le}
use Rattle.std.proofs.lemmas.Grind.{flat_map-append}
use Rattle.std.specs.Cmp.Derive.{both_true}
use Rattle.std.proofs.lemmas.List.{length-append, map-append}
use Rattle.std.proofs.lemmas.List.Folds.{list_all-append}
use Rattle.std.proofs.lemmas.List.Elements.{All-nil, All-cons, All-head, All-tail, All-append}
use Rattle.std.specs.declared.net.socket_addr.SocketAddrV4.{SocketAddrV4}
use Rattle.mg_bytes.specs.Bytes.{space}
use Rattle.mg_bytes.specs.Items.{items_of}
use Rattle.mgcp_text.specs.declared.confirmation.KValue.{KValue}
use Rattle.mgcp_text.specs.declared.message.Param.{Param}
use Rattle.mgcp_text.specs.declared.message.Message.TheVariants as messages
use Rattle.mgcp_text.specs.Confirmation.{k_of}
use Rattle.mgcp_text.specs.Reading.{Outcome, message, no_header, bad_version, bad_body, id_in, read_text}
use Rattle.mg_bytes.specs.Lines.{ended}
use Rattle.mgcp_text.specs.Writing.{code_text, comment, response_line, param_line, body_text, written, is_writable_param, is_writable_body}
use Rattle.mgcp_text.specs.Answer.{AnswerContent, IsAnswer, plain_code, response_of}
use Rattle.mgcp_text.proofs.AnswerLemmas.{answer_writable}
use Rattle.mgcp_text.proofs.IdLemmas.{IsId, read_id}
use Rattle.mgcp_text.proofs.WholeLemmas.{whole_written}
use Rattle.mgcp_text.proofs.PackingLaws.{joinable-from}
use Rattle.transmission.specs.declared.entry.KeptFirst.{KeptFirst}
use Rattle.transmission.specs.declared.entry.Entry.{Entry}
use Rattle.transmission.specs.declared.entry.Entry.TheVariants.{First, Confirmation}
use Rattle.transmission.specs.Memory.{most_firsts}
use Rattle.transmission.specs.Kept.{firsts_in}
use Rattle.transmission.specs.Looking.{Looked, new, repeat, confirmed, full, look_of}
use Rattle.transmission.proofs.LookLaws.{repeat_kept}
use Rattle.command_forms.specs.declared.forms.AuditTarget.{AuditTarget}
use Rattle.command_forms.specs.declared.forms.AuditTarget.TheVariants as audits
use Rattle.command_forms.specs.declared.forms.Target.{Target}
use Rattle.command_forms.specs.declared.forms.Target.TheVariants.{One, All as AllLines, Any as AnyLine}
use Rattle.plain_machine.specs.declared.endpoint.Endpoint.{Endpoint}
use Rattle.transmission.specs.declared.output.OutDatagram.{OutDatagram}
use Rattle.plain_machine.specs.Effect.{Effect}
use Rattle.plain_machine.specs.Message.{Sent, of_none, answer as answers, again, acknowledgement, datagram_of, datagrams_of}
use Rattle.transmission.specs.Texts.{largest_datagram, texts_of}
use Rattle.transmission.specs.Packing.{messages_in}
use Rattle.plain_machine.specs.Packing.{put_out}
use Rattle.audits.specs.Fitting.{fitting}
use Rattle.audits.specs.EndpointReport.{endpoint_report}
use Rattle.audits.specs.ConnectionReport.{connection_report}
use Rattle.audits.specs.Showing.{IsShowable, CanBeWritten}
use Rattle.audits.proofs.ShowLaws.{fitting_same, fitting_short, fitting_code, line_written, line_code, connection_written, connection_code}
use Rattle.plain_machine.specs.Reporting.{audited_endpoint, report_by, line_report, name_of_line, name_param, names_of}
use Rattle.command_forms.specs.declared.forms.Asks.{Asks}
use Rattle.command_forms.specs.declared.forms.Asks.TheVariants.{Reports, Does}
use Rattle.command_forms.specs.declared.forms.Audit.{Audit}
use Rattle.command_forms.specs.Command.{Command}
use Rattle.command_forms.specs.Order.{form_while}
use Rattle.command_forms.proofs.RestartLemmas.{while_code}
use Rattle.endpoint_names.specs.declared.names.Names.{Names}
use Rattle.command_forms.specs.Codes.{name_codes, param_codes, has_code}
use Rattle.plain_machine.specs.Setup.{IsSetUp, most_lines}
use Rattle.plain_machine.specs.Done.{Done}
use Rattle.command_forms.specs.declared.forms.ConnectionDeed.{ConnectionDeed}
use Rattle.command_forms.specs.declared.forms.ConnectionDeed.TheVariants.{Keep, Create, Modify, Delete}
use Rattle.endpoint_names.specs.declared.name.Pattern.TheVariants as patterns
use Rattle.endpoint_names.specs.Name.{name_text}
use Rattle.command_forms.specs.declared.forms.Deed.{Deed}
use Rattle.plain_machine.specs.Connecting.{Shown, done_code}
use Rattle.plain_machine.specs.Requesting.{encoding_with, refused_by, shown_on, shown_of, answer_with, unless_refused, deed_done, line_with_place, done_there, done_for}
use Rattle.plain_machine.specs.Commanding.{reported, audited, answer_by, done_by, commanded}
use Rattle.machine_laws.proofs.CommandLaws.{Goes, IsOut, Sound, OwnSound, sound_turns, sound_own_turns, opening_is_sound}
use Rattle.machine_laws.proofs.TurnLemmas.{Always, Holds, response_read, of_line, acted_goes, responded_goes, pass_goes, command_goes, handled_on_all, event_on_all}
use Rattle.plain_machine.proofs.ListLaws.{lines_of_opening}
use Rattle.plain_machine.proofs.CodeLemmas.{IsCode, refusal_code}
use Rattle.plain_machine.proofs.NameLemmas.{line_writable, names_writable}
use Rattle.machine_laws.proofs.NotificationLemmas.{param_short, name_short}
use Rattle.machine_laws.proofs.StandingLemmas.{OfConnections, AnyOwn, AnySent, HasLine, keeps_places, connection_turns, any_own_turns, opening_has_places}
use Rattle.machine_laws.proofs.ShowingLemmas.{Shows, showing_turns, showing_own_turns, opening_shows, line_shows}
use Rattle.machine_laws.proofs.ShownLimits.{IsShown, nothing_is, connected_is, line_inside}
use Rattle.plain_machine.specs.Answering.{Transaction, response_to, answer_text, reply, executed, transacted_by, refusing, handled, took_all}
use Rattle.transmission.specs.Acknowledging.{asks_for_acknowledgement}
use Rattle.plain_machine.specs.Responding.{response_with, acknowledged}
use Rattle.transmission.proofs.PackingLaws.{IsMessage, IsWithin, packed_messages, packed_within}

-- Moments stay below the end of time.

pub ticks_below : (now moment : ℕ) → tick_refusal now moment ≡ None → moment < 2 ^ 62
ticks_below now moment none = grind (arith, nat_tests)

pub none_there : (o : Option Refusal) → is_none o ≡ true → o ≡ None
none_there None is = refl
none_there (Some refusal) is = absurd cc

now_below : (setup : Setup) (m : Machine) (event : GatewayEvent) → m.now < 2 ^ 62 → refusal_of m event ≡ None → (effect setup m event).value.now < 2 ^ 62
unfolding refusal_of
now_below setup m (datagram source bytes) lt none = rw (effect_now setup m (datagram source bytes)) lt
now_below setup m (phone line act) lt none = rw (effect_now setup m (phone line act)) lt
now_below setup m (tick moment) lt none = rw (effect_now setup m (tick moment)) (ticks_below m.now moment none)

pub clock_below : (setup : Setup) (m : Machine) (events : List GatewayEvent) → m.now < 2 ^ 62 → are_taken setup m events ≡ true → (machine_after setup m events).now < 2 ^ 62
unfolding machine_after are_taken
clock_below setup m [] lt taken = lt
clock_below setup m (event ∷ events) lt taken =
    let parts = and_parts (is_none (refusal_of m event)) (are_taken setup (effect setup m event).value events) taken in
    clock_below setup (effect setup m event).value events (now_below setup m event lt (none_there (refusal_of m event) parts.0)) parts.1

-- An answer

pub comment_length : (b : Bool) → length (if b then codes " OK" else []) ≤ 3
comment_length true = omega arith
comment_length false = omega arith

pub first_line : (code id : ℕ) → id ≤ 999999999 → length (ended (response_line code id)) ≤ 20
unfolding response_line
first_line code id small =
    let digits : length (decimal id) ≤ 9 = length-decimal-le 9 id (lit< tt) (omega arith) (omega arith) in
    let behind : length (comment code) ≤ 3 = comment_length (code == 200 || code == 250) in
    let two = length-append (code_text code ++ (space ∷ decimal id)) (comment code) in
    let three = length-append (code_text code) (space ∷ decimal id) in
    let whole = length-append ((code_text code ++ (space ∷ decimal id)) ++ comment code) (13 ∷ 10 ∷ []) in
    omega (arith, digits, behind, two, three, whole)

short_goes : (id : ℕ) (answer : AnswerContent) → IsId id → IsAnswer answer → length (written (response_of id answer)) ≤ largest_datagram → Goes (written (response_of id answer))
short_goes id answer has is short =
    let whole = whole_written (response_of id answer) (answer_writable id answer has.0 has.1 is) in
    joinable-from largest_datagram (written (response_of id answer)) (record { ends = whole.ends; apart = whole.apart; short = short })

is_no_body : is_writable_body [] ≡ true
unfolding is_writable_body
is_no_body = refl

pub code_is : (code : ℕ) → code ≤ 999 → IsAnswer (plain_code code)
unfolding is_writable_body
code_is code small = record { three_digits = small; each = refl; whole = refl }

pub code_short : (code id : ℕ) → id ≤ 999999999 → length (written (response_of id (plain_code code))) ≤ largest_datagram
unfolding written
code_short code id small =
    let head = first_line code id small in
    let two = length-append (ended (response_line code id)) [] in
    let three = length-append (ended (response_line code id) ++ []) [] in
    omega (arith, head, two, three)

-- an answer in this transaction that can be written, and is no longer than a datagram may be
pub record IsFit (id : ℕ) (answer : AnswerContent) : Type 0 where
  pub is : IsAnswer answer
  pub short : length (written (response_of id answer)) ≤ largest_datagram

pub fit_goes : (id : ℕ) (answer : AnswerContent) → IsId id → IsFit id answer → Goes (written (response_of id answer))
fit_goes id answer has fit = short_goes id answer has fit.is fit.short

pub code_fits : (code id : ℕ) → IsId id → IsCode code → IsFit id (plain_code code)
code_fits code id has small = record { is = code_is code small; short = code_short code id has.1 }

pub code_goes : (code id : ℕ) → IsId id → IsCode code → Goes (written (response_of id (plain_code code)))
code_goes code id has small = fit_goes id (plain_code code) has (code_fits code id has small)

-- a report that can be written, or a code
report_goes : (id : ℕ) (report : Result AnswerContent ℕ) → IsId id → ((answer : AnswerContent) → report ≡ Ok answer → CanBeWritten id answer) → ((code : ℕ) → report ≡ Err code → IsCode code)
    → IsFit id (answer_by report)
report_goes id (Ok answer) has fine small =
    let is = fine answer refl in
    record { is = record { three_digits = is.three_digits; each = is.each; whole = is.whole }; short = is.short }
report_goes id (Err code) has fine small = code_fits code id has (small code refl)

-- An acknowledgement

acknowledgement_out : (moment : ℕ) (source : SocketAddrV4) (code id : ℕ) (params : List Param) → IsId id → All IsOut (acknowledged moment source code id params)
acknowledgement_out moment source code id params has = by_test (asks_for_acknowledgement code params) where
  by_test : (b : Bool)
      → All IsOut (if b then (record { to = source; moment = moment; owner = of_none; said = acknowledgement (messages.Response 0 id [] []) }) ∷ [] else [])
  by_test true =
      All-cons IsOut _ [] (code_goes 0 id has (omega arith)) (All-nil IsOut)
  by_test false = All-nil IsOut

-- What a command is answered

abbrev pub AnswerGoes : ℕ → Done → Type 0
AnswerGoes id done = IsFit id done.answer

unless_answered : (id : ℕ) (endpoints : Endpoints) (refusal : Option ℕ) (done : Done) → IsId id → IfSome refusal IsCode → AnswerGoes id done → AnswerGoes id (unless_refused refusal endpoints done)
unless_answered id endpoints None done has small goes = goes
unless_answered id endpoints (Some code) done has small goes = code_fits code id has small

-- each line has its places for connections
abbrev pub HasLines : Setup → Endpoints → Type 0
HasLines setup endpoints = Holds (OfConnections (HasLine setup)) AnyOwn endpoints

-- a machine that belongs to a setup, and whose commands in flight can go out again
pub record Fits (setup : Setup) (m : Machine) : Type 0 where
  pub set_up : IsSetUp setup
  pub lines : length m.endpoints.list ≡ setup.names.lines
  pub holds : Holds (Always Sound) OwnSound m.endpoints
  pub places : HasLines setup m.endpoints
  pub shows : Holds (Always Shows) AnyOwn m.endpoints

-- An audit

-- of one line, or of one connection
line_answered : (setup : Setup) (m : Machine) (id line : ℕ) (audit : Audit) → Fits setup m → IsId id → IsFit id (answer_by (line_report (endpoint_at m.endpoints line) id audit))
line_answered setup m id line audit fits has = by_endpoint (endpoint_at m.endpoints line) refl where
  by_connection : (endpoint : Endpoint) (connection : Option (List ℕ)) → IsShowable (audited_endpoint endpoint)
      → IsFit id (answer_by (report_by connection id (audited_endpoint endpoint) (items_of audit.items)))
  by_connection endpoint None is =
      report_goes id (endpoint_report id (audited_endpoint endpoint) (items_of audit.items)) has
      (λ answer e. line_written id (audited_endpoint endpoint) (items_of audit.items) answer is e) (λ code e. line_code id (audited_endpoint endpoint) (items_of audit.items) code e)
  by_connection endpoint (Some connection) is =
      report_goes id (connection_report id (audited_endpoint endpoint) connection (items_of audit.items)) has
      (λ answer e. connection_written id (audited_endpoint endpoint) connection (items_of audit.items) answer is e)
      (λ code e. connection_code id (audited_endpoint endpoint) connection (items_of audit.items) code e)

  by_endpoint : (found : Option Endpoint) → endpoint_at m.endpoints line ≡ found → IsFit id (answer_by (line_report found id audit))
  by_endpoint None at = code_fits 500 id has (omega arith)
  by_endpoint (Some endpoint) at =
      by_connection endpoint audit.connection (line_shows setup line endpoint fits.set_up (of_line (Always Sound true) m.endpoints line endpoint fits.holds.list at)
      (of_line (OfConnections (HasLine setup) true) m.endpoints line endpoint fits.places.list at) (of_line (Always Shows true) m.endpoints line endpoint fits.shows.list at))

-- of all lines
names_answered : (id : ℕ) (names : List Param) → IsId id → list_all is_writable_param names ≡ true → IsFit id (answer_by (fitting id (reported names)))
names_answered id names has each =
    let wanted : AnswerContent = reported names in
    report_goes id (fitting id wanted) has
    (λ answer e. let same : answer ≡ wanted = fitting_same id wanted answer e in
    record {
      three_digits = rw same (omega arith);
      each = rw same each;
      whole = rw same is_no_body;
      short = fitting_short id wanted answer e;
    })
    (λ code e. fitting_code id wanted code e)

audit_answered : (setup : Setup) (m : Machine) (id : ℕ) (target : AuditTarget) (audit : Audit) → Fits setup m → IsId id
    → IsFit id (answer_by (audited setup m.endpoints id target audit))
unfolding audited names_of
audit_answered setup m id (audits.One line) audit fits has = line_answered setup m id line audit fits has
audit_answered setup m id audits.All audit fits has =
    let lines : setup.names.lines ≤ most_lines = fits.set_up.lines in
    let few : length m.endpoints.list < 2 ^ 16 = omega (arith, fits.lines, lines) in
    names_answered id (map (name_param setup) (numbered m.endpoints)) has (names_writable setup m.endpoints.list fits.set_up.domain few)

-- What a deed is answered

-- parameters that are few can be written, and are short
abbrev Params : List Param → ℕ → Type 0
Params params most = (list_all is_writable_param params ≡ true) × (length (flat_map (λ param. ended (param_line param)) params) ≤ most)

params_both : (some more : List Param) (most other : ℕ) → Params some most → Params more other → Params (some ++ more) (most + other)
params_both some more most other one two =
    let text : Param → List ℕ = λ param. ended (param_line param) in
    let each : list_all is_writable_param (some ++ more) ≡ true = list_all-append is_writable_param some more ∙ both_true one.0 two.0 in
    let whole : flat_map text (some ++ more) ≡ flat_map text some ++ flat_map text more = flat_map-append text some more in
    let short : length (flat_map text (some ++ more)) ≤ most + other = rw whole (omega (arith, one.1, two.1, length-append (flat_map text some) (flat_map text more))) in
    (each, short)

body_short : (body : List ℕ) (most : ℕ) → length body ≤ most → length (body_text body) ≤ most + 2
body_short [] most few = omega arith
body_short (b ∷ bs) most few = omega arith

deed_code : (deed : ConnectionDeed) → done_code deed ≤ 999
deed_code Keep = omega arith
deed_code (Create creation) = omega arith
deed_code (Modify call id change) = omega arith
deed_code (Delete deletion) = omega arith

-- what is shown, and with at most the name of a line
shown_short : (code id : ℕ) (params more : List Param) (body : List ℕ) → id ≤ 999999999 → Params params 100 → Params more 100 → length body ≤ 400
    → length (written (response_of id (record { code = code; params = params ++ more; body = body }))) ≤ largest_datagram
unfolding written
shown_short code id params more body small one two few =
    let text : Param → List ℕ = λ param. ended (param_line param) in
    let head = first_line code id small in
    let middle = (params_both params more 100 100 one two).1 in
    let end = body_short body 400 few in
    let front = length-append (ended (response_line code id)) (flat_map text (params ++ more)) in
    let whole = length-append (ended (response_line code id) ++ flat_map text (params ++ more)) (body_text body) in
    omega (arith, head, middle, end, front, whole)

answer_with_goes : (id : ℕ) (more : List Param) (deed : Deed) (shown : Shown) → IsId id → Params more 100 → IsShown shown → IsFit id (answer_with more deed shown)
answer_with_goes id more deed shown has one is =
    let both = params_both shown.params more 100 100 (is.each, is.params) one in
    record {
      is = record { three_digits = deed_code deed.connections; each = both.0; whole = is.whole };
      short = shown_short (done_code deed.connections) id shown.params more shown.body has.1 (is.each, is.params) one is.body;
    }

shown_of_is : (setup : Setup) (endpoints : Endpoints) (lines : Target) (deed : Deed) → IsSetUp setup → HasLines setup endpoints → IsShown (shown_of endpoints lines deed)
unfolding shown_of
shown_of_is setup endpoints (One line) deed set_up has = by_endpoint (endpoint_at endpoints line) refl where
  by_endpoint : (found : Option Endpoint) → endpoint_at endpoints line ≡ found → IsShown (shown_on found deed)
  by_endpoint None at = nothing_is
  by_endpoint (Some endpoint) at =
      connected_is setup set_up line endpoint.connections (of_line (OfConnections (HasLine setup) true) endpoints line endpoint has.list at) deed.connections (encoding_with deed endpoint)
shown_of_is setup endpoints AllLines deed set_up has = nothing_is
shown_of_is setup endpoints AnyLine deed set_up has = nothing_is

deed_answered : (setup : Setup) (endpoints : Endpoints) (lines : Target) (more : List Param) (deed : Deed) (moment id : ℕ) → IsSetUp setup → HasLines setup endpoints → IsId id
    → Params more 100 → AnswerGoes id (deed_done setup endpoints lines more deed moment)
deed_answered setup endpoints lines more deed moment id set_up places has one =
    unless_answered id endpoints (refused_by endpoints lines deed) _ has (refusal_code endpoints lines deed)
    (answer_with_goes id more deed (shown_of endpoints lines deed) has one (shown_of_is setup endpoints lines deed set_up places))

no_more : Params [] 100
no_more = (refl, omega arith)

name_more : (setup : Setup) (line : ℕ) → IsSetUp setup → line ≤ most_lines → Params (name_of_line setup line ∷ []) 100
name_more setup line set_up few =
    let fine : is_writable_param (name_of_line setup line) ≡ true = line_writable setup line set_up.domain (omega arith) in
    let short = param_short (codes "Z") (name_text (patterns.One line) setup.names.domain) 72 (omega arith) (name_short line setup.names.domain few set_up.domain) in
    (rw fine refl, omega (arith, short, length-append (ended (param_line (name_of_line setup line))) []))

target_answered : (setup : Setup) (endpoints : Endpoints) (target : Target) (deed : Deed) (moment id : ℕ) → IsSetUp setup → length endpoints.list ≡ setup.names.lines
    → HasLines setup endpoints → IsId id → AnswerGoes id (done_for setup endpoints target deed moment)
target_answered setup endpoints (One line) deed moment id set_up lines places has = deed_answered setup endpoints (One line) [] deed moment id set_up places has no_more
target_answered setup endpoints AllLines deed moment id set_up lines places has = deed_answered setup endpoints AllLines [] deed moment id set_up places has no_more
target_answered setup endpoints AnyLine deed moment id set_up lines places has = by_line (line_with_place endpoints) refl where
  by_line : (found : Option ℕ) → line_with_place endpoints ≡ found → AnswerGoes id (done_there found setup endpoints deed moment)
  by_line None is = code_fits 410 id has (omega arith)
  by_line (Some line) is =
      let last = line_inside endpoints line is in
      deed_answered setup endpoints (One line) (name_of_line setup line ∷ []) deed moment id set_up places has
      (name_more setup line set_up (omega (arith, last, lines, set_up.lines)))

form_answered : (asks : Result Asks ℕ) (setup : Setup) (m : Machine) (id : ℕ) → Fits setup m → IsId id
    → ((code : ℕ) → asks ≡ Err code → IsCode code) → AnswerGoes id (done_by asks setup m.endpoints m.now id)
form_answered (Err code) setup m id fits has small = code_fits code id has (small code refl)
form_answered (Ok (Reports target audit)) setup m id fits has small = audit_answered setup m id target audit fits has
form_answered (Ok (Does target deed)) setup m id fits has small =
    target_answered setup m.endpoints target deed m.now id fits.set_up fits.lines fits.places has

small_name : (code : ℕ) → has_code name_codes code ≡ true → IsCode code
small_name code has = grind (arith, nat_tests)

small_param : (code : ℕ) → has_code param_codes code ≡ true → IsCode code
small_param code has = grind (arith, nat_tests)

form_code : (serving : Bool) (command : Command) (confirms : KValue) (names : Names) (code : ℕ) → form_while serving command confirms names ≡ Err code → IsCode code
form_code serving command confirms names code is =
    ⊎_elim (λ known. ⊎_elim (small_name code) (small_param code) known) (λ (same : code ≡ 405). omega (arith, same)) (while_code serving command confirms names code is)

pub command_answered : (setup : Setup) (m : Machine) (id : ℕ) (command : Command) (confirms : KValue) → Fits setup m → IsId id → AnswerGoes id (commanded setup m.endpoints m.now id command confirms)
command_answered setup m id command confirms fits has =
    form_answered (form_while (serves m.endpoints) command confirms setup.names) setup m id fits has
    (λ code is. form_code (serves m.endpoints) command confirms setup.names code is)

-- What is kept and sent

abbrev pub AreKept : List Entry → Type 0
AreKept entries = All (λ (first : KeptFirst). Goes first.answer) (firsts_in entries)

kept_more : (some more : List Entry) → AreKept some → AreKept more → AreKept (some ++ more)
kept_more some more all rest = rw (firsts_append some more) (All-append (λ (first : KeptFirst). Goes first.answer) (firsts_in some) (firsts_in more) all rest) where
  firsts_append : (some more : List Entry) → firsts_in (some ++ more) ≡ firsts_in some ++ firsts_in more
  firsts_append [] more = refl
  firsts_append (First first ∷ some) more = ap (λ (rest : List KeptFirst). first ∷ rest) (firsts_append some more)
  firsts_append (Confirmation spans ∷ some) more = firsts_append some more

again_goes : (text : List ℕ) (entries : List Entry) → AreKept entries → Any (λ (first : KeptFirst). first.answer ≡ text) (firsts_in entries) → Goes text
again_goes text entries all kept =
    let goes : Goes (slice_index_or (firsts_in entries) kept.0 kept.1).answer = all kept.0 kept.1 kept.2 in
    rw (← kept.4) (rw (← kept.3) goes)

pub record GoesOut (done : Effect Machine) : Type 0 where
  pub kept : AreKept done.value.history
  pub sent : All IsOut done.sent

one_sent : (one : Sent) → Goes (datagram_of one).bytes → All IsOut (one ∷ [])
one_sent one goes = All-cons IsOut one [] goes (All-nil IsOut)

transacted_goes : (told : Looked) (m : Machine) (source : SocketAddrV4) (t : Transaction) → AreKept m.history → Goes (answer_text t) → All IsOut t.done.told.sent
    → told ≡ look_of most_firsts m.history t.id m.now → GoesOut (transacted_by told m source t)
unfolding executed
transacted_goes new m source t all goes more is = record {
  kept = kept_more (m.history ++ Confirmation t.confirms ∷ []) _ (kept_more m.history (Confirmation t.confirms ∷ []) all (All-nil (λ (first : KeptFirst). Goes first.answer)))
      (All-cons (λ (first : KeptFirst). Goes first.answer) _ [] goes (All-nil (λ (first : KeptFirst). Goes first.answer)));
  sent = All-cons IsOut (reply m source t.line (answers (response_to t))) t.done.told.sent goes more;
}
transacted_goes (repeat text) m source t all goes more is =
    record { kept = all; sent = one_sent (reply m source t.line (again t.id text)) (again_goes text m.history all (repeat_kept most_firsts m.history t.id m.now text (sym is))) }
transacted_goes confirmed m source t all goes more is = record { kept = all; sent = All-nil IsOut }
transacted_goes full m source t all goes more is = record { kept = all; sent = All-nil IsOut }

handled_goes : (setup : Setup) (m : Machine) (source : SocketAddrV4) (outcome : Outcome) → Fits setup m → AreKept m.history → IfSome (id_in outcome) IsId → GoesOut (handled setup m source outcome)
unfolding handled
handled_goes setup m source no_header fits all has = record { kept = all; sent = All-nil IsOut }
handled_goes setup m source (bad_version id) fits all has =
    transacted_goes _ m source (refusing m id 528) all (code_goes 528 id has (omega arith)) (All-nil IsOut) refl
handled_goes setup m source (bad_body id) fits all has =
    transacted_goes _ m source (refusing m id 510) all (code_goes 510 id has (omega arith)) (All-nil IsOut) refl
handled_goes setup m source (message (messages.Command verb id name params body)) fits all has =
    let command : Command = record { verb = verb; name = name; params = params; body = body } in
    transacted_goes _ m source _ all (fit_goes id _ has (command_answered setup m id command (k_of params) fits has))
    (command_goes setup (Always Sound) OwnSound IsOut (sound_turns setup fits.set_up) (sound_own_turns setup fits.set_up) command (k_of params) m.endpoints m.now id fits.holds).sent refl
handled_goes setup m source (message (messages.Response code id params body)) fits all has = record {
  kept = all;
  sent = All-append IsOut (acknowledged m.now source code id params) _ (acknowledgement_out m.now source code id params has)
      (responded_goes setup (Always Sound) OwnSound IsOut (sound_turns setup fits.set_up) (sound_own_turns setup fits.set_up) m.endpoints m.now (response_with setup id code params)
      (response_read setup id code params) fits.holds).sent;
}

pub handled_fits : (setup : Setup) (m : Machine) (source : SocketAddrV4) (outcome : Outcome) → Fits setup m → Fits setup (handled setup m source outcome).value
handled_fits setup m source outcome fits = record {
  set_up = fits.set_up;
  lines = handled_lines setup m source outcome ∙ fits.lines;
  holds = handled_on_all setup (Always Sound) OwnSound IsOut (sound_turns setup fits.set_up) (sound_own_turns setup fits.set_up) m source outcome fits.holds;
  places = handled_on_all setup (OfConnections (HasLine setup)) AnyOwn AnySent (connection_turns setup (HasLine setup) (keeps_places setup)) (any_own_turns setup (HasLine setup)) m source outcome fits.places;
  shows = handled_on_all setup (Always Shows) AnyOwn AnySent (showing_turns setup) (showing_own_turns setup) m source outcome fits.shows;
}

texts_go : (setup : Setup) (m : Machine) (source : SocketAddrV4) (texts : List (List ℕ)) → Fits setup m → AreKept m.history → GoesOut (took_all setup m source texts)
unfolding took_all
texts_go setup m source [] fits all = record { kept = all; sent = All-nil IsOut }
texts_go setup m source (text ∷ texts) fits all =
    let first = handled_goes setup m source (read_text text) fits all (read_id text) in
    let rest = texts_go setup (handled setup m source (read_text text)).value source texts (handled_fits setup m source (read_text text) fits) first.kept in
    record { kept = rest.kept; sent = All-append IsOut (handled setup m source (read_text text)).sent _ first.sent rest.sent }

pub event_goes : (setup : Setup) (m : Machine) (event : GatewayEvent) → Fits setup m → AreKept m.history → GoesOut (effect setup m event)
unfolding effect
event_goes setup m (datagram source bytes) fits all = texts_go setup m source (texts_of bytes) fits all
event_goes setup m (phone line act) fits all =
    record { kept = all; sent = (acted_goes setup (Always Sound) OwnSound IsOut (sound_turns setup fits.set_up) (sound_own_turns setup fits.set_up) m.endpoints line m.now act fits.holds).sent }
event_goes setup m (tick moment) fits all =
    record { kept = all; sent = (pass_goes setup (Always Sound) OwnSound IsOut (sound_turns setup fits.set_up) (sound_own_turns setup fits.set_up) m.endpoints moment fits.holds).sent }

pub event_fits : (setup : Setup) (m : Machine) (event : GatewayEvent) → Fits setup m → Fits setup (effect setup m event).value
event_fits setup m event fits = record {
  set_up = fits.set_up;
  lines = effect_lines setup m event ∙ fits.lines;
  holds = event_on_all setup (Always Sound) OwnSound IsOut (sound_turns setup fits.set_up) (sound_own_turns setup fits.set_up) m event fits.holds;
  places = event_on_all setup (OfConnections (HasLine setup)) AnyOwn AnySent (connection_turns setup (HasLine setup) (keeps_places setup)) (any_own_turns setup (HasLine setup)) m event fits.places;
  shows = event_on_all setup (Always Shows) AnyOwn AnySent (showing_turns setup) (showing_own_turns setup) m event fits.shows;
}

-- What goes out

all_messages : (sent : List Sent) → All IsOut sent → All IsMessage (datagrams_of sent)
all_messages [] all = All-nil IsMessage
all_messages (one ∷ sent) all = All-cons IsMessage (datagram_of one) (datagrams_of sent) (All-head IsOut one sent all) (all_messages sent (All-tail IsOut one sent all))

outputs_hold : (setup : Setup) (m : Machine) (events : List GatewayEvent) → Fits setup m → AreKept m.history
    → flat_map messages_in (outputs_from setup m events) ≡ datagrams_of (sent_from setup m events)
unfolding outputs_from sent_from
outputs_hold setup m [] fits all = refl
outputs_hold setup m (event ∷ events) fits all =
    let done = effect setup m event in
    let goes = event_goes setup m event fits all in
    flat_map-append messages_in (put_out done.sent) (outputs_from setup done.value events)
    ∙ ap (λ (front : List OutDatagram). front ++ flat_map messages_in (outputs_from setup done.value events)) (packed_messages (datagrams_of done.sent) (all_messages done.sent goes.sent))
    ∙ ap (λ (rest : List OutDatagram). datagrams_of done.sent ++ rest) (outputs_hold setup done.value events (event_fits setup m event fits) goes.kept)
    ∙ sym (map-append datagram_of done.sent (sent_from setup done.value events))

outputs_fit : (setup : Setup) (m : Machine) (events : List GatewayEvent) → Fits setup m → AreKept m.history → All IsWithin (outputs_from setup m events)
unfolding outputs_from
outputs_fit setup m [] fits all = All-nil IsWithin
outputs_fit setup m (event ∷ events) fits all =
    let done = effect setup m event in
    let goes = event_goes setup m event fits all in
    All-append IsWithin (put_out done.sent) (outputs_from setup done.value events) (packed_within (datagrams_of done.sent) (all_messages done.sent goes.sent))
    (outputs_fit setup done.value events (event_fits setup m event fits) goes.kept)

pub nothing_kept : (setup : Setup) → AreKept (opening setup).history
nothing_kept setup = All-nil (λ (first : KeptFirst). Goes first.answer)

pub opening_fits : (setup : Setup) → IsSetUp setup → Fits setup (opening setup)
opening_fits setup set_up = record { set_up = set_up; lines = lines_of_opening setup; holds = opening_is_sound setup set_up; places = opening_has_places setup; shows = opening_shows setup set_up }

pub sent_as_messages : (setup : Setup) (events : List GatewayEvent) → IsSetUp setup
    → flat_map messages_in (outputs_from setup (opening setup) events) ≡ datagrams_of (sent_from setup (opening setup) events)
sent_as_messages setup events set_up = outputs_hold setup (opening setup) events (opening_fits setup set_up) (nothing_kept setup)

pub sent_within : (setup : Setup) (events : List GatewayEvent) → IsSetUp setup → All IsWithin (outputs_from setup (opening setup) events)
sent_within setup events set_up = outputs_fit setup (opening setup) events (opening_fits setup set_up) (nothing_kept setup)

sent_out : (setup : Setup) (m : Machine) (events : List GatewayEvent) → Fits setup m → AreKept m.history → All IsOut (sent_from setup m events)
unfolding sent_from
sent_out setup m [] fits all = All-nil IsOut
sent_out setup m (event ∷ events) fits all =
    let done = effect setup m event in
    let goes = event_goes setup m event fits all in
    All-append IsOut done.sent (sent_from setup done.value events) goes.sent (sent_out setup done.value events (event_fits setup m event fits) goes.kept)

pub sent_can_join : (setup : Setup) (events : List GatewayEvent) → IsSetUp setup → All IsOut (sent_from setup (opening setup) events)
sent_can_join setup events set_up = sent_out setup (opening setup) events (opening_fits setup set_up) (nothing_kept setup)
