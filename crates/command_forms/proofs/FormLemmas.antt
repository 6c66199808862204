-- What holds where a command asks for something.
use Rattle.std.proofs.Common.{rules, ◌≡◌, ℕ, ◌≤◌, zero, suc, Bool, true, false, ◌||◌, not, List, codes, [], ◌∷◌, refl, sym, ap, subst, ◌∙◌, ⊎_elim, Option, Some, None, Ok, Err}
use Rattle.std.specs.Prelude.{is_some, IfOk, IfSome, Result, option_map}
use Rattle.std.specs.Option.{unwrap_or}
use Rattle.std.proofs.lemmas.Bool.{cases_Bool}
use Rattle.mg_bytes.specs.Checks.{unless, first_fault, checked}
use Rattle.mg_bytes.specs.Numbers.{is_hex_text}
use Rattle.mgcp_text.specs.declared.confirmation.KValue.{KValue}
use Rattle.mgcp_text.specs.declared.message.Param.{Param}
use Rattle.mgcp_text.specs.declared.message.Verb.{Verb}
use Rattle.mgcp_text.specs.declared.message.Verb.TheVariants.{Auep, Aucx, Rqnt}
use Rattle.mgcp_text.specs.Message.{param_at}
use Rattle.endpoint_names.specs.declared.names.Names.{Names}
use Rattle.endpoint_names.specs.declared.table.Host.{Host}
use Rattle.endpoint_names.specs.Name.{line_named, name_of}
use Rattle.event_syntax.specs.declared.request.RequestedEvent.{RequestedEvent}
use Rattle.event_syntax.specs.RequestSpelling.{are_requested}
use Rattle.event_syntax.specs.Requested.{requested_in as requested_entries, requested_of, are_writable_requested}
use Rattle.event_syntax.specs.Detect.{detected_of, are_writable_events}
use Rattle.packages.specs.Signals.{signals_of}
use Rattle.packages.proofs.SignalReading.{read_is_writable}
use Rattle.events_and_signals.specs.declared.request.Request.{Request}
use Rattle.events_and_signals.specs.Requests.{EventRequests}
use Rattle.event_syntax.proofs.DetectLaws.{read_is_writable as detected_is_writable}
use Rattle.event_syntax.proofs.RequestReading.{read_is_writable as requested_is_writable}
use Rattle.sdp_subset.specs.declared.session.Session.{Session}
use Rattle.connections.specs.declared.connection.Creation.{Creation}
use Rattle.connections.specs.declared.deletion.Deletion.TheVariants as deletions
use Rattle.connections.specs.declared.mode.Mode.{Mode}
use Rattle.connections.specs.declared.options.Options.{Options}
use Rattle.connections.specs.Modes.{mode_named}
use Rattle.connections.specs.Options.{options_of, no_options}
use Rattle.command_forms.specs.declared.forms.Asks.{Asks}
use Rattle.command_forms.specs.declared.forms.Asks.TheVariants.{Reports, Does}
use Rattle.command_forms.specs.declared.forms.Audit.{Audit}
use Rattle.command_forms.specs.declared.forms.AuditTarget.{AuditTarget}
use Rattle.command_forms.specs.declared.forms.AuditTarget.TheVariants as audits
use Rattle.command_forms.specs.declared.forms.ConnectionDeed.{ConnectionDeed}
use Rattle.command_forms.specs.declared.forms.ConnectionDeed.TheVariants as deeds
use Rattle.command_forms.specs.declared.forms.Deed.{Deed}
use Rattle.command_forms.specs.declared.forms.Target.{Target}
use Rattle.command_forms.specs.declared.forms.Target.TheVariants.{One, All, Any}
use Rattle.command_forms.specs.declared.refused.FaultyPart.TheVariants.{Value}
use Rattle.command_forms.specs.declared.refused.Refused.{Refused}
use Rattle.command_forms.specs.declared.verbs.Connecting.{Connecting}
use Rattle.command_forms.specs.declared.verbs.Connecting.TheVariants.{Keeps, Creates, Modifies, Deletes}
use Rattle.command_forms.specs.declared.verbs.Meant.{Meant}
use Rattle.command_forms.specs.declared.verbs.Purpose.{Purpose}
use Rattle.command_forms.specs.declared.verbs.Purpose.TheVariants.{ForReport, ForDeed}
use Rattle.command_forms.specs.declared.verbs.Reporting.{Reporting}
use Rattle.command_forms.specs.declared.verbs.Reporting.TheVariants.{Endpoint, Connection}
use Rattle.command_forms.specs.declared.verbs.Task.{Task}
use Rattle.command_forms.specs.declared.verbs.Task.TheVariants.{ReportOf, DeedOn}
use Rattle.command_forms.specs.declared.verbs.VerbRow.{VerbRow}
use Rattle.command_forms.specs.declared.verbs.Wildcard.{Wildcard}
use Rattle.command_forms.specs.Verbs.{row_of}
use Rattle.command_forms.specs.Command.{Command}
use Rattle.mg_bytes.specs.Steps.{◌>>=◌}
use Rattle.command_forms.specs.Refusing.{letter_c, letter_i, letter_k, letter_x, refusal, absence, coded}
use Rattle.command_forms.specs.Params.{has, missing_letter, params_fault, value_in, value_at}
use Rattle.mg_bytes.specs.Lists.{is_empty}
use Rattle.command_forms.specs.Meaning.{takes_all, takes_any, meant}
use Rattle.command_forms.specs.Values.{is_readable, said_at, entity_at, encoding_from, identifier_from, mode_from, handling_at, change_at, remote_of}
use Rattle.command_forms.specs.Deeds.{events_of, request_of, request_at, creation_of, modification_of, deletion_by, deletion_of, connected_by, with_remote, deed_of}
use Rattle.command_forms.specs.Order.{audit_of, names_call, are_requested as are_of_request, absent_letter, counted, asked_for, asked, judged_while, form_while, form_of}
use Rattle.command_forms.specs.Codes.{Audits, target_for, target_in, target_meant, purpose_meant, AreOf, HasValues, IsAt, options_or, HasCreation, HasDeletion, HasConnections, connecting_in, may_connect_all, may_connect_any, MayBeOf, HasDeed}
use Rattle.command_forms.proofs.StepLemmas.{is_ok}
use Rattle.command_forms.proofs.RefusedLemmas.{on_ok, on_placed, coded_ok}

-- The name first

pub name_first : (command : Command) (confirms : KValue) (names : Names) (refused : Refused) → meant command names ≡ Err refused
    → form_of command confirms names ≡ Err refused.code
unfolding form_while judged_while
name_first command confirms names refused e = rw e refl

pub asked_behind : (command : Command) (confirms : KValue) (names : Names) (found : Meant) → meant command names ≡ Ok found
    → form_of command confirms names ≡ coded (asked found command.params command.body confirms names.table)
unfolding form_while judged_while
asked_behind command confirms names found e = rw e refl

-- Behind the checks of the parameters

-- what passes the checks in front of the values
passed : {A : Type 0} (lines lacks : Option Refused) (readable : Bool) (unreadable : Refused) (next : Result A Refused) (value : A)
    → checked (first_fault (lines ∷ lacks ∷ unless readable unreadable ∷ [])) next ≡ Ok value → (lacks ≡ None) × (next ≡ Ok value)
passed lines lacks readable unreadable next value e = search rules

passed_letters : (missing : Option ℕ) (call requested : Bool) (c x : ℕ)
    → option_map absence (first_fault (missing ∷ unless call c ∷ unless requested x ∷ [])) ≡ None → (missing ≡ None) × (call ≡ true)
passed_letters missing call requested c x e = search rules

record HasPassed (found : Meant) (params : List Param) (body : List ℕ) (hosts : List Host) (asks : Asks) : Type 0 where
  whole : missing_letter found.row.must params ≡ None
  together : names_call found.row.purpose params ≡ true
  reads : asked_for found.task params body hosts ≡ Ok asks

has_passed : (found : Meant) (params : List Param) (body : List ℕ) (confirms : KValue) (hosts : List Host) (asks : Asks)
    → asked found params body confirms hosts ≡ Ok asks → HasPassed found params body hosts asks
unfolding asked absent_letter
has_passed found params body confirms hosts asks e =
    let is = passed (params_fault found.row 1 [] params) (option_map absence (absent_letter found.row params)) (is_readable confirms)
    (refusal (Value letter_k) 510) (asked_for found.task params body hosts) asks e in
    let letters = passed_letters (missing_letter found.row.must params) (names_call found.row.purpose params) (are_of_request params) letter_c letter_x (is.0) in
    record { whole = letters.0; together = letters.1; reads = is.1 }

-- what a command that asks for something means
record IsMeant (command : Command) (confirms : KValue) (names : Names) (asks : Asks) : Type 0 where
  found : Meant
  means : meant command names ≡ Ok found
  asked_there : asked found command.params command.body confirms names.table ≡ Ok asks

form_meant : (command : Command) (confirms : KValue) (names : Names) (asks : Asks) → form_of command confirms names ≡ Ok asks
    → IsMeant command confirms names asks
form_meant command confirms names asks e = by_meant (meant command names) refl where
  by_meant : (said : Result Meant Refused) → meant command names ≡ said → IsMeant command confirms names asks
  by_meant (Ok found) is = record {
    found = found;
    means = is;
    asked_there = coded_ok (asked found command.params command.body confirms names.table) asks (sym (asked_behind command confirms names found is) ∙ e);
  }
  by_meant (Err refused) is = let no : Err refused.code ≡ Ok asks = sym (name_first command confirms names refused is) ∙ e in absurd cc

-- For which lines

target_is : (task : Task) (params : List Param) (body : List ℕ) (hosts : List Host) (asks : Asks)
    → asked_for task params body hosts ≡ Ok asks → target_in asks ≡ target_meant task
target_is (ReportOf Endpoint within) params body hosts asks e = search rules
target_is (ReportOf Connection within) params body hosts asks e = search rules
target_is (DeedOn connecting within) params body hosts asks e = search rules

pub same_target : (found : Meant) (params : List Param) (body : List ℕ) (confirms : KValue) (hosts : List Host) (asks : Asks)
    → asked found params body confirms hosts ≡ Ok asks → target_in asks ≡ target_meant found.task
same_target found params body confirms hosts asks e =
    target_is found.task params body hosts asks (has_passed found params body confirms hosts asks e).reads

line_named_within : (local : List ℕ) (lines line : ℕ) → line_named local lines ≡ Some line → (1 ≤ line) × (line ≤ lines)
unfolding line_named
line_named_within local zero line e = absurd cc
line_named_within local (suc n) line e = search (rules, line_named_within local n line)

meant_lines : (command : Command) (names : Names) (found : Meant) → meant command names ≡ Ok found → AreOf names.lines (target_meant found.task)
unfolding meant name_of
meant_lines command names found e = search (rules, line_named_within)

pub form_lines : (command : Command) (confirms : KValue) (names : Names) (asks : Asks) → form_of command confirms names ≡ Ok asks
    → AreOf names.lines (target_in asks)
form_lines command confirms names asks e =
    let m = form_meant command confirms names asks e in
    let same = same_target m.found command.params command.body confirms names.table asks m.asked_there in
    subst (AreOf names.lines) (sym same) (meant_lines command names m.found m.means)

-- What a deed has

identifier_is : (value identifier : List ℕ) → identifier_from value ≡ Ok identifier → (identifier ≡ value) × (is_hex_text identifier ≡ true)
identifier_is value identifier e = search rules

-- what is read of R can be written
requested_writable : (value : List ℕ) (list : List RequestedEvent) → requested_of value ≡ Ok list → are_writable_requested list ≡ true
unfolding requested_of
requested_writable value list read =
    ⊎_elim
    (λ (h : are_requested value ≡ true). let gives : requested_entries value ≡ Ok list = (rw h at read) in requested_is_writable value (Ok list) h gives)
    (λ (h : are_requested value ≡ false). let no : Err 510 ≡ Ok list = (rw h at read) in absurd cc)
    (cases_Bool (are_requested value))

-- what is asked for about events is what stands there, and can be written
record HasEvents (params : List Param) (events : EventRequests) : Type 0 where
  requested : requested_of (value_at (codes "R") params) ≡ Ok events.requested
  detected : detected_of (value_at (codes "T") params) ≡ Ok events.detected
  writable_requested : are_writable_requested events.requested ≡ true
  writable_detected : are_writable_events events.detected ≡ true

events_have : (params : List Param) → IfOk (events_of params) (HasEvents params)
unfolding events_of
events_have params =
    on_placed (HasEvents params) _ (requested_of (value_at (codes "R") params)) _ (λ requested r.
    on_placed (HasEvents params) _ (detected_of (value_at (codes "T") params)) _ (λ detected t.
    record {
      requested = r;
      detected = t;
      writable_requested = requested_writable (value_at (codes "R") params) requested r;
      writable_detected = detected_is_writable (value_at (codes "T") params) detected t;
    }))

events_are : (params : List Param) (events : EventRequests) → events_of params ≡ Ok events → HasEvents params events
events_are params events e = is_ok (HasEvents params) (events_of params) events (events_have params) e

request_has : (params : List Param) (value : List ℕ) → value ≡ value_at (codes "X") params → IfOk (request_of value params) (HasValues params)
unfolding request_of
request_has params value there =
    on_placed (HasValues params) _ (identifier_from value) _ (λ identifier x.
    on_placed (HasValues params) _ (handling_at (param_at (codes "Q") params)) _ (λ handling q.
    on_placed (HasValues params) _ (change_at (param_at (codes "D") params)) _ (λ map d.
    on_ok (HasValues params) (events_of params) _ (λ events r.
    on_placed (HasValues params) _ (signals_of (value_at (codes "S") params)) _ (λ signals s.
    record {
      identifier = (identifier_is value identifier x).0 ∙ there;
      digits = (identifier_is value identifier x).1;
      handling = q;
      map = d;
      requested = (events_are params events r).requested;
      detected = (events_are params events r).detected;
      signals = s;
      writable_requested = (events_are params events r).writable_requested;
      writable_detected = (events_are params events r).writable_detected;
      writable_signals = read_is_writable (value_at (codes "S") params) signals s;
    })))))

-- a request stands there where X does
abbrev IsThere : List Param → Option Param → Option Request → Type 0
IsThere params found request = (is_some request ≡ is_some found) × IfSome request (HasValues params)

request_there : (params : List Param) (found : Option Param) → param_at (codes "X") params ≡ found → IfOk (request_at found params) (IsThere params found)
request_there params None is = (refl, tt)
request_there params (Some param) is =
    let value : value_in (Some param) ≡ value_at (codes "X") params = rw is refl in
    on_ok (IsThere params (Some param)) (request_of param.value params) _ (λ request e.
    (refl, is_ok (HasValues params) (request_of param.value params) request (request_has params param.value value) e))

-- What becomes of connections

said_is : (code : List ℕ) (params : List Param) (identifier : List ℕ)
    → said_at identifier_from (param_at code params) ≡ Ok (Some identifier) → IsAt code params identifier
said_is code params identifier e = search (rules, identifier_is)

said_none : (code : List ℕ) (params : List Param) → said_at identifier_from (param_at code params) ≡ Ok None → has code params ≡ false
said_none code params e = search rules

mode_is : (value : List ℕ) (mode : Mode) → mode_from value ≡ Ok mode → mode_named value ≡ Some mode
mode_is value mode e = search rules

options_are : (found : Option Param) (said : Option Options) → said_at options_of found ≡ Ok said
    → options_or found ≡ Ok (unwrap_or said no_options)
options_are found said e = search rules

-- what a deed becomes with the description of the remote end
abbrev Has : List Param → List ℕ → Option Session → ConnectionDeed → Type 0
Has params body remote connections = HasConnections params body (with_remote remote connections)

creation_has : (params : List Param) (body : List ℕ) (remote : Option Session) → remote_of body ≡ Ok remote
    → IfOk (creation_of params) (λ creation. HasCreation params body (record creation { remote = remote }))
unfolding creation_of
creation_has params body remote r =
    let P : Creation → Type 0 = λ creation. HasCreation params body (record creation { remote = remote }) in
    on_placed P _ (identifier_from (value_at (codes "C") params)) _ (λ call c.
    on_placed P _ (mode_from (value_at (codes "M") params)) _ (λ mode m.
    on_placed P _ (said_at options_of (param_at (codes "L") params)) _ (λ options l.
    record {
      call = identifier_is (value_at (codes "C") params) call c;
      mode = mode_is (value_at (codes "M") params) mode m;
      options = options_are (param_at (codes "L") params) options l;
      remote = r;
    })))

modification_has : (params : List Param) (body : List ℕ) (remote : Option Session) → remote_of body ≡ Ok remote
    → IfOk (modification_of params) (Has params body remote)
unfolding modification_of
modification_has params body remote r =
    let P : ConnectionDeed → Type 0 = Has params body remote in
    on_placed P _ (identifier_from (value_at (codes "C") params)) _ (λ call c.
    on_placed P _ (identifier_from (value_at (codes "I") params)) _ (λ id i.
    on_placed P _ (said_at mode_from (param_at (codes "M") params)) _ (λ mode m.
    on_placed P _ (said_at options_of (param_at (codes "L") params)) _ (λ options l.
    record {
      call_there = identifier_is (value_at (codes "C") params) call c;
      id_there = identifier_is (value_at (codes "I") params) id i;
      mode = m;
      options = l;
      remote = r;
    }))))

deletion_by_has : (params : List Param) (call id : Option (List ℕ)) → names_call (ForDeed Deletes) params ≡ true
    → said_at identifier_from (param_at (codes "C") params) ≡ Ok call → said_at identifier_from (param_at (codes "I") params) ≡ Ok id
    → HasDeletion params (deletion_by call id)
deletion_by_has params None id together c i = (said_none (codes "C") params c, without (said_none (codes "C") params c)) where
  without : has (codes "C") params ≡ false → has (codes "I") params ≡ false
  without none = search (rules, together)
deletion_by_has params (Some call) None together c i = (said_is (codes "C") params call c, said_none (codes "I") params i)
deletion_by_has params (Some call) (Some id) together c i = (said_is (codes "C") params call c, said_is (codes "I") params id i)

deletion_has : (params : List Param) → names_call (ForDeed Deletes) params ≡ true → IfOk (deletion_of params) (HasDeletion params)
unfolding deletion_of
deletion_has params together =
    on_placed (HasDeletion params) _ (said_at identifier_from (param_at (codes "C") params)) _ (λ call c.
    on_placed (HasDeletion params) _ (said_at identifier_from (param_at (codes "I") params)) _ (λ id i.
    deletion_by_has params call id together c i))

-- the text is that of the command, where a description counts
abbrev IsCounted : Connecting → List ℕ → List ℕ → Type 0
IsCounted Keeps text body = Unit {0}
IsCounted Creates text body = text ≡ body
IsCounted Modifies text body = text ≡ body
IsCounted Deletes text body = Unit {0}

connected_has : (connecting : Connecting) (params : List Param) (text body : List ℕ) (remote : Option Session)
    → IsCounted connecting text body → names_call (ForDeed connecting) params ≡ true → remote_of text ≡ Ok remote
    → IfOk (connected_by connecting params) (Has params body remote)
connected_has Keeps params text body remote counts together r = tt
connected_has Creates params text body remote counts together r =
    let here : remote_of body ≡ Ok remote = rw (← counts) r in
    on_ok (Has params body remote) (creation_of params) _ (λ creation e.
    is_ok (λ made. HasCreation params body (record made { remote = remote })) (creation_of params) creation (creation_has params body remote here) e)
connected_has Modifies params text body remote counts together r =
    let here : remote_of body ≡ Ok remote = rw (← counts) r in
    modification_has params body remote here
connected_has Deletes params text body remote counts together r =
    on_ok (Has params body remote) (deletion_of params) _ (λ deletion e.
    is_ok (HasDeletion params) (deletion_of params) deletion (deletion_has params together) e)

deed_has : (connecting : Connecting) (params : List Param) (text body : List ℕ) (hosts : List Host)
    → IsCounted connecting text body → names_call (ForDeed connecting) params ≡ true
    → IfOk (deed_of connecting params text hosts) (HasDeed params body hosts)
unfolding deed_of
deed_has connecting params text body hosts counts together =
    let x : Option Param = param_at (codes "X") params in
    let P : Deed → Type 0 = HasDeed params body hosts in
    on_placed P _ (entity_at hosts (param_at (codes "N") params)) _ (λ entity n.
    on_placed P _ (said_at encoding_from (param_at (codes "B") params)) _ (λ encoding b.
    on_ok P (connected_by connecting params) _ (λ connections c.
    on_ok P (request_at x params) _ (λ request e.
    on_placed P _ (remote_of text) _ (λ remote r.
    let is = is_ok (IsThere params x) (request_at x params) request (request_there params x refl) e in
    record {
      entity = n;
      encoding = b;
      connections = is_ok (Has params body remote) (connected_by connecting params) connections
          (connected_has connecting params text body remote counts together r) c;
      there = is.0;
      request = is.1;
    })))))

-- From the command to its deed

pub row_is : (command : Command) (names : Names) (found : Meant) → meant command names ≡ Ok found → row_of command.verb ≡ Some found.row
unfolding meant
row_is command names found e = search rules

pub purpose_is : (command : Command) (names : Names) (found : Meant) → meant command names ≡ Ok found → purpose_meant found.task ≡ found.row.purpose
unfolding meant
purpose_is command names found e = search rules

counts : (connecting : Connecting) (body : List ℕ) → IsCounted connecting (counted connecting body) body
counts Keeps body = tt
counts Creates body = refl
counts Modifies body = refl
counts Deletes body = tt

-- the deed that was read, by what is meant
record IsRead (found : Meant) (params : List Param) (body : List ℕ) (hosts : List Host) (target : Target) (deed : Deed) : Type 0 where
  connecting : Connecting
  of_task : found.task ≡ DeedOn connecting target
  together : names_call found.row.purpose params ≡ true
  read : deed_of connecting params (counted connecting body) hosts ≡ Ok deed

no_deed : {P : Type 0} (read : Result Audit Refused) (within : AuditTarget) (target : Target) (deed : Deed)
    → read >>= (λ audit. Ok (Reports within audit)) ≡ Ok (Does target deed) → P
no_deed (Ok audit) within target deed e = absurd cc
no_deed (Err refused) within target deed e = absurd cc

deed_asked : (read : Result Deed Refused) (within target : Target) (deed : Deed)
    → read >>= (λ made. Ok (Does within made)) ≡ Ok (Does target deed) → (within ≡ target) × (read ≡ Ok deed)
deed_asked (Ok made) within target deed e = let lines : within ≡ target = cc in let same : made ≡ deed = cc in (lines, ap Ok same)
deed_asked (Err refused) within target deed e = absurd cc

asked_read : (found : Meant) (params : List Param) (body : List ℕ) (confirms : KValue) (hosts : List Host) (target : Target) (deed : Deed)
    → asked found params body confirms hosts ≡ Ok (Does target deed) → IsRead found params body hosts target deed
asked_read found params body confirms hosts target deed e =
    let passes = has_passed found params body confirms hosts (Does target deed) e in
    by_task found.task refl passes.together passes.reads where
      by_task : (task : Task) → found.task ≡ task → names_call found.row.purpose params ≡ true
          → asked_for task params body hosts ≡ Ok (Does target deed) → IsRead found params body hosts target deed
      by_task (ReportOf reporting within) is together read = no_deed (audit_of reporting params) within target deed read
      by_task (DeedOn connecting within) is together read =
          let made = deed_asked (deed_of connecting params (counted connecting body) hosts) within target deed read in
          record { connecting = connecting; of_task = is ∙ ap (DeedOn connecting) (made.0); together = together; read = made.1 }

-- the row of what is meant says so too
deed_purpose : (command : Command) (names : Names) (found : Meant) (connecting : Connecting) (target : Target) → meant command names ≡ Ok found
    → found.task ≡ DeedOn connecting target → found.row.purpose ≡ ForDeed connecting
deed_purpose command names found connecting target means of_task = sym (purpose_is command names found means) ∙ ap purpose_meant of_task

pub deed_has_values : (command : Command) (confirms : KValue) (names : Names) (target : Target) (deed : Deed)
    → form_of command confirms names ≡ Ok (Does target deed) → HasDeed command.params command.body names.table deed
deed_has_values command confirms names target deed e =
    let m = form_meant command confirms names (Does target deed) e in
    let r = asked_read m.found command.params command.body confirms names.table target deed m.asked_there in
    let text : List ℕ = counted r.connecting command.body in
    let purpose = deed_purpose command names m.found r.connecting target m.means r.of_task in
    let together : names_call (ForDeed r.connecting) command.params ≡ true =
    subst (λ (of_row : Purpose). names_call of_row command.params ≡ true) purpose r.together in
    is_ok (HasDeed command.params command.body names.table) (deed_of r.connecting command.params text names.table) deed
    (deed_has r.connecting command.params text command.body names.table
    (counts r.connecting command.body) together) r.read

-- what is meant says what becomes of connections
connected_as : (connecting : Connecting) (params : List Param) (remote : Option Session)
    → IfOk (connected_by connecting params) (λ connections. connecting_in (with_remote remote connections) ≡ connecting)
unfolding modification_of
connected_as connecting params remote = search rules

deed_as : (connecting : Connecting) (params : List Param) (text : List ℕ) (hosts : List Host)
    → IfOk (deed_of connecting params text hosts) (λ deed. connecting_in deed.connections ≡ connecting)
unfolding deed_of
deed_as connecting params text hosts =
    let P : Deed → Type 0 = λ deed. connecting_in deed.connections ≡ connecting in
    on_placed P _ (entity_at hosts (param_at (codes "N") params)) _ (λ entity n.
    on_placed P _ (said_at encoding_from (param_at (codes "B") params)) _ (λ encoding b.
    on_ok P (connected_by connecting params) _ (λ connections c.
    on_ok P (request_at (param_at (codes "X") params) params) _ (λ request e.
    on_placed P _ (remote_of text) _ (λ remote r.
    is_ok (λ made. connecting_in (with_remote remote made) ≡ connecting) (connected_by connecting params) connections
    (connected_as connecting params remote) c)))))

pub deed_of_task : (found : Meant) (params : List Param) (body : List ℕ) (confirms : KValue) (hosts : List Host) (target : Target) (deed : Deed)
    → asked found params body confirms hosts ≡ Ok (Does target deed) → found.task ≡ DeedOn (connecting_in deed.connections) target
deed_of_task found params body confirms hosts target deed e =
    let r = asked_read found params body confirms hosts target deed e in
    let same : connecting_in deed.connections ≡ r.connecting =
    is_ok (λ made. connecting_in made.connections ≡ r.connecting) (deed_of r.connecting params (counted r.connecting body) hosts) deed
    (deed_as r.connecting params (counted r.connecting body) hosts) r.read in
    r.of_task ∙ ap (λ (connecting : Connecting). DeedOn connecting target) (sym same)

pub deed_of_row : (command : Command) (names : Names) (found : Meant) (confirms : KValue) (target : Target) (deed : Deed) → meant command names ≡ Ok found
    → asked found command.params command.body confirms names.table ≡ Ok (Does target deed) → found.row.purpose ≡ ForDeed (connecting_in deed.connections)
deed_of_row command names found confirms target deed means e =
    deed_purpose command names found (connecting_in deed.connections) target means
    (deed_of_task found command.params command.body confirms names.table target deed e)

-- a verb that must have X requests something
row_must : (verb : Verb) (row : VerbRow) → verb ≡ Rqnt → row_of verb ≡ Some row → row.must ≡ codes "X"
row_must verb row is e = search rules

lacks_none : (params : List Param) → missing_letter (codes "X") params ≡ None → has (codes "X") params ≡ true
lacks_none params e = search rules

has_identifier : (command : Command) (confirms : KValue) (names : Names) (target : Target) (deed : Deed) → command.verb ≡ Rqnt
    → form_of command confirms names ≡ Ok (Does target deed) → has (codes "X") command.params ≡ true
has_identifier command confirms names target deed verb e =
    let m = form_meant command confirms names (Does target deed) e in
    let must = row_must command.verb m.found.row verb (row_is command names m.found m.means) in
    let whole = (has_passed m.found command.params command.body confirms names.table (Does target deed) m.asked_there).whole in
    lacks_none command.params (subst (λ (letters : List ℕ). missing_letter letters command.params ≡ None) must whole)

pub deed_requests : (command : Command) (confirms : KValue) (names : Names) (target : Target) (deed : Deed) → command.verb ≡ Rqnt
    → form_of command confirms names ≡ Ok (Does target deed) → is_some deed.request ≡ true
deed_requests command confirms names target deed verb e =
    (deed_has_values command confirms names target deed e).there ∙ has_identifier command confirms names target deed verb e

-- What may be asked of more than one line

abbrev Takes : Wildcard → List Param → Target → Type 0
Takes wildcard params (One line) = Unit {0}
Takes wildcard params All = takes_all wildcard params ≡ true
Takes wildcard params Any = takes_any wildcard ≡ true

meant_takes : (command : Command) (names : Names) (found : Meant) → meant command names ≡ Ok found
    → Takes found.row.wildcard command.params (target_meant found.task)
unfolding meant
meant_takes command names found e = search rules

-- what rows say that take all lines, and any one
abbrev AllOf : Purpose → List Param → Type 0
AllOf (ForReport Endpoint) params = is_empty (value_at (codes "F") params) ≡ true
AllOf (ForReport Connection) params = ⊥
AllOf (ForDeed Keeps) params = Unit {0}
AllOf (ForDeed Creates) params = ⊥
AllOf (ForDeed Modifies) params = ⊥
AllOf (ForDeed Deletes) params = not (has (codes "C") params || has (codes "I") params) ≡ true

row_all : (verb : Verb) (row : VerbRow) (params : List Param) → row_of verb ≡ Some row → takes_all row.wildcard params ≡ true → AllOf row.purpose params
row_all verb row params e takes = search rules

row_any : (verb : Verb) (row : VerbRow) → row_of verb ≡ Some row → takes_any row.wildcard ≡ true → row.purpose ≡ ForDeed Creates
row_any verb row e takes = search rules

empty_is : (list : List ℕ) → is_empty list ≡ true → list ≡ []
empty_is [] e = refl
empty_is (b ∷ bs) e = absurd cc

-- where neither C nor I stands there, all are deleted
deletion_all : (params : List Param) → not (has (codes "C") params || has (codes "I") params) ≡ true → deletion_of params ≡ Ok deletions.All
unfolding deletion_of
deletion_all params none = search rules

connected_all : (connecting : Connecting) (params : List Param) (remote : Option Session) → AllOf (ForDeed connecting) params
    → IfOk (connected_by connecting params) (λ connections. may_connect_all (with_remote remote connections) ≡ true)
connected_all Keeps params remote all = refl
connected_all Creates params remote all = absurd all
connected_all Modifies params remote all = absurd all
connected_all Deletes params remote all = rw (deletion_all params all) refl

deed_all : (connecting : Connecting) (params : List Param) (text : List ℕ) (hosts : List Host) → AllOf (ForDeed connecting) params
    → IfOk (deed_of connecting params text hosts) (λ deed. may_connect_all deed.connections ≡ true)
unfolding deed_of
deed_all connecting params text hosts all =
    let P : Deed → Type 0 = λ deed. may_connect_all deed.connections ≡ true in
    on_placed P _ (entity_at hosts (param_at (codes "N") params)) _ (λ entity n.
    on_placed P _ (said_at encoding_from (param_at (codes "B") params)) _ (λ encoding b.
    on_ok P (connected_by connecting params) _ (λ connections c.
    on_ok P (request_at (param_at (codes "X") params) params) _ (λ request e.
    on_placed P _ (remote_of text) _ (λ remote r.
    is_ok (λ made. may_connect_all (with_remote remote made) ≡ true) (connected_by connecting params) connections
    (connected_all connecting params remote all) c)))))

is_created : (connections : ConnectionDeed) → connecting_in connections ≡ Creates → may_connect_any connections ≡ true
is_created deeds.Keep e = absurd cc
is_created (deeds.Create creation) e = refl
is_created (deeds.Modify call id change) e = absurd cc
is_created (deeds.Delete deletion) e = absurd cc

-- the report that was read, by what is meant
record IsReport (task : Task) (params : List Param) (target : AuditTarget) (audit : Audit) : Type 0 where
  reporting : Reporting
  of_task : task ≡ ReportOf reporting target
  read : audit_of reporting params ≡ Ok audit

audit_asked : (read : Result Audit Refused) (within target : AuditTarget) (audit : Audit)
    → read >>= (λ said. Ok (Reports within said)) ≡ Ok (Reports target audit) → (within ≡ target) × (read ≡ Ok audit)
audit_asked (Ok said) within target audit e = let lines : within ≡ target = cc in let same : said ≡ audit = cc in (lines, ap Ok same)
audit_asked (Err refused) within target audit e = absurd cc

no_report : (read : Result Deed Refused) (within : Target) (target : AuditTarget) (audit : Audit) → read >>= (λ deed. Ok (Does within deed)) ≡ Ok (Reports target audit) → ⊥
no_report (Ok deed) within target audit e = absurd cc
no_report (Err refused) within target audit e = absurd cc

report_from : (task : Task) (target : AuditTarget) (params : List Param) (body : List ℕ) (hosts : List Host) (audit : Audit)
    → asked_for task params body hosts ≡ Ok (Reports target audit) → IsReport task params target audit
report_from (ReportOf reporting within) target params body hosts audit e =
    let made = audit_asked (audit_of reporting params) within target audit e in
    record { reporting = reporting; of_task = ap (ReportOf reporting) (made.0); read = made.1 }
report_from (DeedOn connecting within) target params body hosts audit e =
    absurd (no_report (deed_of connecting params (counted connecting body) hosts) within target audit e)

report_asked : (found : Meant) (params : List Param) (body : List ℕ) (confirms : KValue) (hosts : List Host) (target : AuditTarget) (audit : Audit)
    → asked found params body confirms hosts ≡ Ok (Reports target audit) → IsReport found.task params target audit
report_asked found params body confirms hosts target audit e =
    report_from found.task target params body hosts audit
    (has_passed found params body confirms hosts (Reports target audit) e).reads

report_purpose : (command : Command) (names : Names) (found : Meant) (reporting : Reporting) (target : AuditTarget) → meant command names ≡ Ok found
    → found.task ≡ ReportOf reporting target → found.row.purpose ≡ ForReport reporting
report_purpose command names found reporting target means of_task = sym (purpose_is command names found means) ∙ ap purpose_meant of_task

-- what a report has: the items of F, and of a connection its identifier
abbrev IsOf : Reporting → List Param → Audit → Type 0
IsOf Endpoint params audit = audit.connection ≡ None
IsOf Connection params audit = (audit.connection ≡ Some (value_at (codes "I") params)) × IfSome audit.connection (λ identifier. is_hex_text identifier ≡ true)

record HasAudit (reporting : Reporting) (params : List Param) (audit : Audit) : Type 0 where
  items : audit.items ≡ value_at (codes "F") params
  connection : IsOf reporting params audit

audit_has : (reporting : Reporting) (params : List Param) → IfOk (audit_of reporting params) (HasAudit reporting params)
audit_has Endpoint params = record { items = refl; connection = refl }
audit_has Connection params =
    on_placed (HasAudit Connection params) (Value letter_i) (identifier_from (value_at (codes "I") params)) _ (λ identifier i.
    let is = identifier_is (value_at (codes "I") params) identifier i in
    record { items = refl; connection = (ap Some (is.0), is.1) })

-- the report that a command asks for
record IsReported (command : Command) (audit : Audit) : Type 0 where
  row : VerbRow
  reporting : Reporting
  row_there : row_of command.verb ≡ Some row
  of_row : row.purpose ≡ ForReport reporting
  has_it : HasAudit reporting command.params audit

form_reported : (command : Command) (confirms : KValue) (names : Names) (target : AuditTarget) (audit : Audit)
    → form_of command confirms names ≡ Ok (Reports target audit) → IsReported command audit
form_reported command confirms names target audit e =
    let m = form_meant command confirms names (Reports target audit) e in
    let r = report_asked m.found command.params command.body confirms names.table target audit m.asked_there in
    record {
      row = m.found.row;
      reporting = r.reporting;
      row_there = row_is command names m.found m.means;
      of_row = report_purpose command names m.found r.reporting target m.means r.of_task;
      has_it = is_ok (HasAudit r.reporting command.params) (audit_of r.reporting command.params) audit (audit_has r.reporting command.params) r.read;
    }

pub audit_has_items : (command : Command) (confirms : KValue) (names : Names) (target : AuditTarget) (audit : Audit)
    → form_of command confirms names ≡ Ok (Reports target audit) → audit.items ≡ value_at (codes "F") command.params
audit_has_items command confirms names target audit e = (form_reported command confirms names target audit e).has_it.items

-- the rows of audits, and no others, report
row_audits : (verb : Verb) (row : VerbRow) (reporting : Reporting) → row_of verb ≡ Some row → row.purpose ≡ ForReport reporting → Audits verb
row_audits verb row reporting e p = search rules

row_of_endpoint : (verb : Verb) (row : VerbRow) (reporting : Reporting) → verb ≡ Auep → row_of verb ≡ Some row → row.purpose ≡ ForReport reporting
    → reporting ≡ Endpoint
row_of_endpoint verb row reporting is e p = search rules

row_of_connection : (verb : Verb) (row : VerbRow) (reporting : Reporting) → verb ≡ Aucx → row_of verb ≡ Some row → row.purpose ≡ ForReport reporting
    → reporting ≡ Connection
row_of_connection verb row reporting is e p = search rules

pub audit_has_verb : (command : Command) (confirms : KValue) (names : Names) (target : AuditTarget) (audit : Audit)
    → form_of command confirms names ≡ Ok (Reports target audit) → Audits command.verb
audit_has_verb command confirms names target audit e =
    let r = form_reported command confirms names target audit e in
    row_audits command.verb r.row r.reporting r.row_there r.of_row

pub audit_of_endpoint : (command : Command) (confirms : KValue) (names : Names) (target : AuditTarget) (audit : Audit) → command.verb ≡ Auep
    → form_of command confirms names ≡ Ok (Reports target audit) → audit.connection ≡ None
audit_of_endpoint command confirms names target audit verb e =
    let r = form_reported command confirms names target audit e in
    subst (λ (reporting : Reporting). IsOf reporting command.params audit) (row_of_endpoint command.verb r.row r.reporting verb r.row_there r.of_row)
    r.has_it.connection

pub audit_of_connection : (command : Command) (confirms : KValue) (names : Names) (target : AuditTarget) (audit : Audit) → command.verb ≡ Aucx
    → form_of command confirms names ≡ Ok (Reports target audit) → audit.connection ≡ Some (value_at (codes "I") command.params)
audit_of_connection command confirms names target audit verb e =
    let r = form_reported command confirms names target audit e in
    (subst (λ (reporting : Reporting). IsOf reporting command.params audit) (row_of_connection command.verb r.row r.reporting verb r.row_there r.of_row)
    r.has_it.connection).0

pub audit_has_digits : (command : Command) (confirms : KValue) (names : Names) (target : AuditTarget) (audit : Audit)
    → form_of command confirms names ≡ Ok (Reports target audit) → IfSome audit.connection (λ identifier. is_hex_text identifier ≡ true)
audit_has_digits command confirms names target audit e =
    let r = form_reported command confirms names target audit e in
    by_reporting r.reporting r.has_it.connection where
      by_reporting : (reporting : Reporting) → IsOf reporting command.params audit → IfSome audit.connection (λ identifier. is_hex_text identifier ≡ true)
      by_reporting Endpoint none = rw none tt
      by_reporting Connection one = one.1

report_all : (reporting : Reporting) (params : List Param) (audit : Audit) → AllOf (ForReport reporting) params → HasAudit reporting params audit
    → (audit.items ≡ []) × (audit.connection ≡ None)
report_all Endpoint params audit all has_it = (empty_is audit.items (rw has_it.items all), has_it.connection)
report_all Connection params audit all has_it = absurd all

pub form_may_be : (command : Command) (confirms : KValue) (names : Names) (asks : Asks) → form_of command confirms names ≡ Ok asks → MayBeOf asks
form_may_be command confirms names asks e =
    let m = form_meant command confirms names asks e in
    let same = same_target m.found command.params command.body confirms names.table asks m.asked_there in
    by_asks m.found m.means asks
    (subst (Takes m.found.row.wildcard command.params) (sym same) (meant_takes command names m.found m.means)) m.asked_there where
      all_of : (found : Meant) → meant command names ≡ Ok found → (purpose : Purpose) → found.row.purpose ≡ purpose
          → takes_all found.row.wildcard command.params ≡ true → AllOf purpose command.params
      all_of found means purpose of_row takes =
          subst (λ (of_it : Purpose). AllOf of_it command.params) of_row
          (row_all command.verb found.row command.params (row_is command names found means) takes)

      by_asks : (found : Meant) → meant command names ≡ Ok found → (asks : Asks) → Takes found.row.wildcard command.params (target_in asks)
          → asked found command.params command.body confirms names.table ≡ Ok asks → MayBeOf asks
      by_asks found means (Reports (audits.One line) audit) takes read = tt
      by_asks found means (Reports audits.All audit) takes read =
          let is = report_asked found command.params command.body confirms names.table audits.All audit read in
          let of_row = report_purpose command names found is.reporting audits.All means is.of_task in
          report_all is.reporting command.params audit (all_of found means (ForReport is.reporting) of_row takes)
          (is_ok (HasAudit is.reporting command.params) (audit_of is.reporting command.params) audit (audit_has is.reporting command.params) is.read)
      by_asks found means (Does (One line) deed) takes read = tt
      by_asks found means (Does All deed) takes read =
          let r = asked_read found command.params command.body confirms names.table All deed read in
          let text : List ℕ = counted r.connecting command.body in
          let of_row = deed_purpose command names found r.connecting All means r.of_task in
          is_ok (λ made. may_connect_all made.connections ≡ true) (deed_of r.connecting command.params text names.table) deed
          (deed_all r.connecting command.params text names.table (all_of found means (ForDeed r.connecting) of_row takes)) r.read
      by_asks found means (Does Any deed) takes read =
          let is : ForDeed (connecting_in deed.connections) ≡ ForDeed Creates =
          sym (deed_of_row command names found confirms Any deed means read)
          ∙ row_any command.verb found.row (row_is command names found means) takes in
          is_created deed.connections cc
