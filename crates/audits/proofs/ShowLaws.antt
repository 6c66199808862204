-- What is reported of an endpoint that can be shown can be written.
use Rattle.std.proofs.Common.{◌≡◌, ℕ, zero, suc, ◌+◌, ◌<◌, ◌≤◌, Bool, true, false, ◌&&◌, if◌then◌else◌, List, [], ◌∷◌, ◌++◌, length, get_or, map, codes, Option, Some, None, refl, ap, ◌∙◌, append-nil, arith, lit≤, ⊎_elim}
use Rattle.std.specs.Prelude.{nat_le, is_some, IfSome, Result, Ok, Err}
use Rattle.std.specs.List.{AllByRecursion, list_all, list_any}
use Rattle.std.proofs.lemmas.Bool.{cases_Bool, leb-true}
use Rattle.std.proofs.lemmas.List.Folds.{list_all-append}
use Rattle.mg_bytes.specs.Blanks.{is_blank, trimmed, trimmed_end}
use Rattle.mg_bytes.specs.Checks.{unless, checked, given}
use Rattle.mg_bytes.specs.Lines.{cut, is_line_feed, crlf}
use Rattle.mg_bytes.specs.Numbers.{is_hex_text}
use Rattle.mg_bytes.proofs.DigitLemmas.{both_true}
use Rattle.mg_bytes.proofs.HexLemmas.{hex_no_blanks, hex_one_line}
use Rattle.packages.specs.declared.hook.Hook.{Hook}
use Rattle.packages.specs.declared.hook.Hook.TheVariants.{OnHook, OffHook}
use Rattle.mgcp_text.specs.declared.message.Param.{Param}
use Rattle.mgcp_text.specs.Answer.{AnswerContent, response_of}
use Rattle.mgcp_text.specs.Message.{has_code, param_at}
use Rattle.mgcp_text.specs.Parameter.{is_code}
use Rattle.mgcp_text.specs.Writing.{written, is_writable_param, is_writable_body}
use Rattle.mgcp_text.proofs.ValueLaws.{word_writable}
use Rattle.packages.specs.declared.handling.Notifying.{Notifying}
use Rattle.packages.specs.declared.handling.Notifying.TheVariants.{Step, Loop}
use Rattle.packages.specs.declared.handling.Quarantined.{Quarantined}
use Rattle.packages.specs.declared.handling.Quarantined.TheVariants.{Process, Discard}
use Rattle.packages.specs.Handling.{handling_text}
use Rattle.packages.proofs.ObservedLaws.{observed_no_blanks, observed_one_line}
use Rattle.event_syntax.specs.Requested.{is_spelled_map, requested_text}
use Rattle.event_syntax.proofs.WordLemmas.{map_word, detected_no_blanks, detected_one_line, requested_no_blanks, requested_one_line}
use Rattle.sdp_subset.specs.declared.session.Session.{Session}
use Rattle.sdp_subset.specs.Payloads.{are_payloads}
use Rattle.sdp_subset.specs.Writing.{session_text, IsSession}
use Rattle.sdp_subset.proofs.WholeLemmas.{whole_written, first_written, dotless_written}
use Rattle.connections.specs.declared.answer.Audited.{Audited}
use Rattle.connections.specs.declared.codec.Codec.TheVariants.{Pcmu, Pcma}
use Rattle.connections.specs.declared.codec.Codecs.{Codecs}
use Rattle.connections.specs.declared.codec.Codecs.TheVariants.{Only, Both}
use Rattle.connections.specs.declared.codec.Encoding.{Encoding}
use Rattle.connections.specs.declared.codec.Encoding.TheVariants.{Mu, A}
use Rattle.connections.specs.declared.connection.Connection.{Connection}
use Rattle.connections.specs.declared.mode.Mode.{Mode}
use Rattle.connections.specs.declared.mode.Mode.TheVariants.{SendOnly}
use Rattle.connections.specs.Codecs.{payload_type, listed, encoding_text}
use Rattle.connections.specs.Modes.{mode_text}
use Rattle.connections.specs.Places.{holds_id, place_from, place_where}
use Rattle.connections.specs.Standing.{Standing, described, audited, audited_held}
use Rattle.mg_line.specs.Line.{LineState}
use Rattle.audits.specs.Endpoint.{AuditedEndpoint}
use Rattle.audits.specs.Fitting.{fitting}
use Rattle.audits.specs.Picking.{asks_for, listed as listed_param, with_item, with_items, picked}
use Rattle.audits.specs.EndpointReport.{capabilities, hook_text, map_text, event_params, endpoint_params, endpoint_report}
use Rattle.audits.specs.ConnectionReport.{counts_text, connection_params, remote_text, descriptions_text, report_from, connection_report}
use Rattle.audits.specs.Showing.{IsShowableConnection, IsShowablePlace, HasStreams, IsShowable, CanBeWritten}
use Rattle.audits.specs.Writing.{IsDescription}
use Rattle.audits.proofs.IdLemmas.{ids_no_blanks, ids_one_line}
use Rattle.audits.proofs.ValueLemmas.{active_no_blanks, active_one_line, options_writable}
use Rattle.audits.proofs.BodyLemmas.{body_writable, both_writable}
use Rattle.transmission.specs.Texts.{largest_datagram}

-- Whether an answer fits

fit_same : (b : Bool) (wanted answer : AnswerContent) → checked {F = ℕ} (unless b 533) (Ok wanted) ≡ Ok answer → (b ≡ true) × (answer ≡ wanted)
fit_same true wanted answer e = let same : answer ≡ wanted = cc in (refl, same)
fit_same false wanted answer e = absurd cc

pub fitting_same : (id : ℕ) (wanted answer : AnswerContent) → fitting id wanted ≡ Ok answer → answer ≡ wanted
unfolding fitting
fitting_same id wanted answer e = (fit_same (nat_le (length (written (response_of id wanted))) largest_datagram) wanted answer e).1

pub fitting_short : (id : ℕ) (wanted answer : AnswerContent) → fitting id wanted ≡ Ok answer → length (written (response_of id answer)) ≤ largest_datagram
unfolding fitting
fitting_short id wanted answer e =
    let is = fit_same (nat_le (length (written (response_of id wanted))) largest_datagram) wanted answer e in
    rw (is.1) (leb-true _ _ is.0)

fit_code : (b : Bool) (wanted : AnswerContent) (code : ℕ) → checked {F = ℕ} (unless b 533) (Ok wanted) ≡ Err code → code ≤ 999
fit_code true wanted code e = absurd cc
fit_code false wanted code e = let same : 533 ≡ code = cc in omega (arith, same)

pub fitting_code : (id : ℕ) (wanted : AnswerContent) (code : ℕ) → fitting id wanted ≡ Err code → code ≤ 999
unfolding fitting
fitting_code id wanted code e = fit_code (nat_le (length (written (response_of id wanted))) largest_datagram) wanted code e

-- What is picked of what can be written

record IsWritable (param : Param) : Type 0 where
  is : is_writable_param param ≡ true

record AreWritable (params : List Param) : Type 0 where
  are : list_all is_writable_param params ≡ true

none_writable : AreWritable []
none_writable = record { are = refl }

all_cons : {param : Param} {params : List Param} → IsWritable param → AreWritable params → AreWritable (param ∷ params)
all_cons one others = record { are = rw (one.is, others.are) refl }

wanted_written : (id : ℕ) (params : List Param) (body : List ℕ) (answer : AnswerContent) → AreWritable params → is_writable_body body ≡ true
    → fitting id (record { code = 200; params = params; body = body }) ≡ Ok answer → CanBeWritten id answer
wanted_written id params body answer each whole e =
    let wanted : AnswerContent = record { code = 200; params = params; body = body } in
    let same : answer ≡ wanted = fitting_same id wanted answer e in
    record {
      three_digits = rw same (lit≤ tt);
      each = rw same each.are;
      whole = rw same whole;
      short = fitting_short id wanted answer e;
    }

found_writable : (code : List ℕ) (known : List Param) → AreWritable known → AreWritable (listed_param (param_at code known))
found_writable code [] all = none_writable
found_writable code (param ∷ known) all =
    let both : (is_writable_param param ≡ true) × (list_all is_writable_param known ≡ true) = both_true _ _ all.are in
    ⊎_elim
    (λ (h : has_code code param ≡ true). rw h (all_cons (record { is = both.0 }) none_writable))
    (λ (h : has_code code param ≡ false). rw h (found_writable code known (record { are = both.1 })))
    (cases_Bool (has_code code param))

item_writable : (known report : List Param) (item : List ℕ) → AreWritable known → AreWritable report → AreWritable (with_item known report item)
item_writable known report item all so_far =
    ⊎_elim
    (λ (h : is_some (param_at item report) ≡ true). rw h so_far)
    (λ (h : is_some (param_at item report) ≡ false).
    rw h (record { are = list_all-append is_writable_param report (listed_param (param_at item known)) ∙ rw (so_far.are, (found_writable item known all).are) refl }))
    (cases_Bool (is_some (param_at item report)))

items_writable : (known report : List Param) (items : List (List ℕ)) → AreWritable known → AreWritable report → AreWritable (with_items known report items)
unfolding with_items
items_writable known report [] all so_far = so_far
items_writable known report (item ∷ items) all so_far =
    items_writable known (with_item known report item) items all (item_writable known report item all so_far)

picked_writable : (known : List Param) (items : List (List ℕ)) → AreWritable known → AreWritable (picked known items)
picked_writable known items all = items_writable known [] items all none_writable

-- What is known of a line

word_is : (code value : List ℕ) → is_code code ≡ true → list_any is_blank value ≡ false → list_any is_line_feed value ≡ false
    → IsWritable (record { code = code; value = value })
word_is code value spelled blankless in_line =
    record { is = word_writable (record { code = code; value = value }) spelled blankless in_line }

capabilities_writable : IsWritable (record { code = codes "A"; value = capabilities })
unfolding trimmed trimmed_end
capabilities_writable = record { is = refl }

encoding_writable : (encoding : Encoding) → IsWritable (record { code = codes "B"; value = encoding_text encoding })
encoding_writable Mu = word_is (codes "B") (codes "e:mu") refl refl refl
encoding_writable A = word_is (codes "B") (codes "e:A") refl refl refl

hook_writable : (hook : Hook) → IsWritable (record { code = codes "ES"; value = hook_text hook })
hook_writable OnHook = word_is (codes "ES") (codes "L/hu") refl refl refl
hook_writable OffHook = word_is (codes "ES") (codes "L/hd") refl refl refl

map_writable : (held : Option (List ℕ)) → is_spelled_map held ≡ true → IsWritable (record { code = codes "D"; value = map_text held })
map_writable None spelled = word_is (codes "D") [] refl refl refl
map_writable (Some text) spelled = let word = map_word text spelled in word_is (codes "D") text refl word.blankless word.one_line

ways_writable : (notifying : Notifying) (quarantined : Quarantined)
    → IsWritable (record { code = codes "Q"; value = handling_text (record { notifying = notifying; quarantined = quarantined }) })
unfolding handling_text
ways_writable Step Process = word_is (codes "Q") (codes "step,process") refl refl refl
ways_writable Step Discard = word_is (codes "Q") (codes "step,discard") refl refl refl
ways_writable Loop Process = word_is (codes "Q") (codes "loop,process") refl refl refl
ways_writable Loop Discard = word_is (codes "Q") (codes "loop,discard") refl refl refl

event_params_writable : (line : LineState) → is_hex_text line.identifier ≡ true → is_spelled_map line.digit_map ≡ true
    → list_any is_blank (requested_text line.requests.requested) ≡ false → list_any is_line_feed (requested_text line.requests.requested) ≡ false
    → AreWritable (event_params line)
event_params_writable line identifier spelled blankless in_line =
    all_cons (map_writable line.digit_map spelled)
    (all_cons (word_is (codes "O") _ refl (observed_no_blanks line.accumulated) (observed_one_line line.accumulated))
    (all_cons (ways_writable line.handling.notifying line.handling.quarantined)
    (all_cons (word_is (codes "R") _ refl blankless in_line)
    (all_cons (word_is (codes "S") _ refl (active_no_blanks line.signals) (active_one_line line.signals))
    (all_cons (word_is (codes "T") _ refl (detected_no_blanks line.requests.detected) (detected_one_line line.requests.detected))
    (all_cons (word_is (codes "X") _ refl (hex_no_blanks line.identifier identifier) (hex_one_line line.identifier identifier)) none_writable))))))

endpoint_params_writable : (endpoint : AuditedEndpoint) → IsShowable endpoint → AreWritable (endpoint_params endpoint)
endpoint_params_writable endpoint is =
    let places = endpoint.connections.places in
    let requested = endpoint.line.requests.requested in
    let events : AreWritable (event_params endpoint.line) =
    event_params_writable endpoint.line is.identifier is.map (requested_no_blanks requested is.requested) (requested_one_line requested is.requested) in
    all_cons capabilities_writable
    (all_cons (encoding_writable endpoint.encoding)
    (all_cons (hook_writable endpoint.line.hook)
    (all_cons (word_is (codes "I") _ refl (ids_no_blanks places) (ids_one_line places))
    (all_cons (word_is (codes "N") _ refl is.entity_blankless is.entity_in_line) events))))

nothing_writable : is_writable_body [] ≡ true
unfolding is_writable_body
nothing_writable = refl

pub line_written : (id : ℕ) (endpoint : AuditedEndpoint) (items : List (List ℕ)) (answer : AnswerContent) → IsShowable endpoint
    → endpoint_report id endpoint items ≡ Ok answer → CanBeWritten id answer
unfolding endpoint_report
line_written id endpoint items answer is e =
    wanted_written id (picked (endpoint_params endpoint) items) [] answer
    (picked_writable (endpoint_params endpoint) items (endpoint_params_writable endpoint is)) nothing_writable e

pub line_code : (id : ℕ) (endpoint : AuditedEndpoint) (items : List (List ℕ)) (code : ℕ) → endpoint_report id endpoint items ≡ Err code → code ≤ 999
unfolding endpoint_report
line_code id endpoint items code e = fitting_code id _ code e

-- What is known of a connection

mode_writable : (mode : Mode) → IsWritable (record { code = codes "M"; value = mode_text mode })
mode_writable SendOnly = word_is (codes "M") _ refl refl refl
mode_writable _ = word_is (codes "M") _ refl refl refl

counts_writable : IsWritable (record { code = codes "P"; value = counts_text })
unfolding trimmed trimmed_end
counts_writable = record { is = refl }

connection_params_writable : (entity : List ℕ) (connection : Connection) → list_any is_blank entity ≡ false → list_any is_line_feed entity ≡ false
    → IsShowableConnection connection → AreWritable (connection_params entity connection)
connection_params_writable entity connection blankless in_line is =
    all_cons (word_is (codes "C") _ refl (hex_no_blanks connection.call is.call) (hex_one_line connection.call is.call))
    (all_cons (record { is = options_writable connection.codecs.local connection.options.packet_time })
    (all_cons (mode_writable connection.mode)
    (all_cons (word_is (codes "N") _ refl blankless in_line)
    (all_cons counts_writable none_writable))))

-- Its descriptions

session_described : (session : Session) → IsSession session → IsDescription (session_text session)
session_described session is =
    record { whole = whole_written session is; first = first_written session is; dotless = dotless_written session is }

remote_described : (remote : Option Session) → IfSome remote IsSession → IsDescription (remote_text remote)
unfolding cut trimmed trimmed_end
remote_described None is = record { whole = refl; first = refl; dotless = refl }
remote_described (Some session) is = session_described session is

texts_writable : (lc rc : Bool) (text remote : List ℕ) → IsDescription text → IsDescription remote
    → is_writable_body ((if lc then text else []) ++ ((if lc && rc then crlf else []) ++ (if rc then remote else []))) ≡ true
texts_writable true true text remote is are = both_writable text remote is are
texts_writable true false text remote is are = ap is_writable_body (append-nil text) ∙ body_writable text is
texts_writable false true text remote is are = body_writable remote are
texts_writable false false text remote is are = nothing_writable

-- What is audited
record IsAudited (found : Audited) : Type 0 where
  connection : IsShowableConnection found.connection
  description : IsSession found.description

descriptions_writable : (found : Audited) (items : List (List ℕ)) → IsAudited found → is_writable_body (descriptions_text found items) ≡ true
unfolding descriptions_text
descriptions_writable found items is =
    texts_writable (asks_for (codes "LC") items) (asks_for (codes "RC") items) (session_text found.description) (remote_text found.connection.remote)
    (session_described found.description is.description) (remote_described found.connection.remote is.connection.remote)

codecs_fit : (codecs : Codecs) → are_payloads (map payload_type (listed codecs)) ≡ true
unfolding are_payloads
codecs_fit (Only Pcmu) = refl
codecs_fit (Only Pcma) = refl
codecs_fit (Both Pcmu) = refl
codecs_fit (Both Pcma) = refl

described_is : (standing : Standing) (place : ℕ) (connection : Connection) → HasStreams standing → place < length standing.places
    → IsSession (described standing place connection)
described_is standing place connection has inside =
    let ports = has.ports in
    record { four = has.four; each = has.each; low = omega arith; types = codecs_fit connection.codecs.in_force }

found_inside : (test : Option Connection → Bool) (n place : ℕ) (places : List (Option Connection)) → place_from n test places ≡ Some place → place < n + length places
unfolding place_from
found_inside test n place [] e = absurd cc
found_inside test n place (held ∷ more) e = ⊎_elim
    (λ (h : test held ≡ true). let here : Some n ≡ Some place = (rw h at e) in let same : n ≡ place = cc in omega arith)
    (λ (h : test held ≡ false). let there : place_from (n + 1) test more ≡ Some place = (rw h at e) in omega (arith, found_inside test (n + 1) place more there))
    (cases_Bool (test held))

place_showable : (places : List (Option Connection)) (i : ℕ) → AllByRecursion IsShowablePlace places → IsShowablePlace (get_or places i None)
place_showable [] zero all = tt
place_showable [] (suc i) all = tt
place_showable (held ∷ places) zero all = all.0
place_showable (held ∷ places) (suc i) all = place_showable places i all.1

held_audited : (standing : Standing) (place : ℕ) (held : Option Connection) (found : Audited) → HasStreams standing → place < length standing.places
    → IsShowablePlace held → audited_held standing place held ≡ Ok found → IsAudited found
held_audited standing place None found has inside is e = absurd cc
held_audited standing place (Some connection) found has inside is e =
    let whole : Audited = record { connection = connection; description = described standing place connection } in
    let same : found ≡ whole = cc in
    rw same (record { connection = is; description = described_is standing place connection has inside })

place_audited : (standing : Standing) (at : Option ℕ) (found : Audited) → HasStreams standing → AllByRecursion IsShowablePlace standing.places
    → ((place : ℕ) → at ≡ Some place → place < length standing.places)
    → given {F = ℕ} at 515 (λ place. audited_held standing place (get_or standing.places place None)) ≡ Ok found → IsAudited found
place_audited standing None found has all inside e = absurd cc
place_audited standing (Some place) found has all inside e =
    held_audited standing place (get_or standing.places place None) found has (inside place refl) (place_showable standing.places place all) e

audited_is : (id : List ℕ) (standing : Standing) (found : Audited) → HasStreams standing → AllByRecursion IsShowablePlace standing.places
    → audited id standing ≡ Ok found → IsAudited found
unfolding audited
audited_is id standing found has all e =
    place_audited standing (place_where (holds_id id) standing.places) found has all
    (λ place is. omega (arith, found_inside (holds_id id) 0 place standing.places is)) e

report_written : (id : ℕ) (entity : List ℕ) (made : Result Audited ℕ) (items : List (List ℕ)) (answer : AnswerContent)
    → list_any is_blank entity ≡ false → list_any is_line_feed entity ≡ false → ((found : Audited) → made ≡ Ok found → IsAudited found)
    → report_from id entity made items ≡ Ok answer → CanBeWritten id answer
report_written id entity (Err code) items answer blankless in_line is e = absurd cc
report_written id entity (Ok found) items answer blankless in_line is e =
    let has : IsAudited found = is found refl in
    wanted_written id (picked (connection_params entity found.connection) items) (descriptions_text found items) answer
    (picked_writable (connection_params entity found.connection) items
    (connection_params_writable entity found.connection blankless in_line has.connection))
    (descriptions_writable found items has) e

pub connection_written : (id : ℕ) (endpoint : AuditedEndpoint) (connection : List ℕ) (items : List (List ℕ)) (answer : AnswerContent) → IsShowable endpoint
    → connection_report id endpoint connection items ≡ Ok answer → CanBeWritten id answer
unfolding connection_report
connection_written id endpoint connection items answer is e =
    report_written id endpoint.entity.text (audited connection endpoint.connections) items answer is.entity_blankless is.entity_in_line
    (λ found read. audited_is connection endpoint.connections found is.streams is.places read) e

-- The codes in its place

held_code : (standing : Standing) (place : ℕ) (held : Option Connection) (code : ℕ) → audited_held standing place held ≡ Err code → code ≤ 999
held_code standing place None code e = let same : 515 ≡ code = cc in omega (arith, same)
held_code standing place (Some connection) code e = absurd cc

place_code : (standing : Standing) (at : Option ℕ) (code : ℕ)
    → given {F = ℕ} at 515 (λ place. audited_held standing place (get_or standing.places place None)) ≡ Err code → code ≤ 999
place_code standing None code e = let same : 515 ≡ code = cc in omega (arith, same)
place_code standing (Some place) code e = held_code standing place (get_or standing.places place None) code e

audited_code : (id : List ℕ) (standing : Standing) (code : ℕ) → audited id standing ≡ Err code → code ≤ 999
unfolding audited
audited_code id standing code e = place_code standing (place_where (holds_id id) standing.places) code e

report_code : (id : ℕ) (entity : List ℕ) (made : Result Audited ℕ) (items : List (List ℕ)) (code : ℕ) → ((refused : ℕ) → made ≡ Err refused → refused ≤ 999)
    → report_from id entity made items ≡ Err code → code ≤ 999
report_code id entity (Err refused) items code low e = let same : refused ≡ code = cc in omega (arith, same, low refused refl)
report_code id entity (Ok found) items code low e = fitting_code id _ code e

pub connection_code : (id : ℕ) (endpoint : AuditedEndpoint) (connection : List ℕ) (items : List (List ℕ)) (code : ℕ)
    → connection_report id endpoint connection items ≡ Err code → code ≤ 999
unfolding connection_report
connection_code id endpoint connection items code e =
    report_code id endpoint.entity.text (audited connection endpoint.connections) items code
    (λ refused is. audited_code connection endpoint.connections refused is) e
