-- The texts of a datagram, one after the other.
use Rattle.std.proofs.Common.{◌≡◌, ◌<◌, ◌≤◌, ◌+◌, ℕ, suc, Option, Some, None, true, false, List, [], ◌∷◌, ◌++◌, length, length-append, refl, sym, ◌∙◌, ap, subst, append_assoc, append-nil, arith}
use Rattle.std.proofs.lemmas.Bool.Decides.{nat_tests}
use Rattle.std.specs.Prelude.{if◌then◌else◌, Bool, Result, Ok, Err, nat_lt}
use Rattle.std.specs.declared.alloc.AllocError.{AllocError}
use Rattle.transmission.specs.Kept.{HistoryState}
use Rattle.transmission.specs.Memory.{most_firsts}
use Rattle.transmission.specs.Looking.{Looked, new, repeat, confirmed, full, look_of}
use Rattle.mgcp_text.specs.Writing.{written}
use Rattle.mgcp_text.specs.Message.{params_in}
use Rattle.mgcp_text.specs.Confirmation.{k_of}
use Rattle.mgcp_text.specs.declared.confirmation.KValue.{KValue}
use Rattle.mgcp_text.specs.declared.message.Message.{Message}
use Rattle.mgcp_text.specs.declared.message.Message.TheVariants as messages
use Rattle.mgcp_text.specs.declared.message.Param.{Param}
use Rattle.mgcp_text.specs.declared.message.Verb.{Verb}
use Rattle.command_forms.specs.declared.forms.Asks.{Asks}
use Rattle.command_forms.specs.declared.forms.Asks.TheVariants.{Reports}
use Rattle.command_forms.specs.declared.forms.Audit.{Audit}
use Rattle.command_forms.specs.declared.forms.AuditTarget.{AuditTarget}
use Rattle.command_forms.proofs.RefusedLemmas.{form_is}
use Rattle.command_forms.specs.declared.refused.Refused.{Refused}
use Rattle.command_forms.specs.Refusing.{coded}
use Rattle.command_forms.specs.Order.{judged_while, judged_while_in, form_while, form_while_in}
use Rattle.command_forms.specs.declared.refused.FaultyPart.{FaultyPart}
use Rattle.command_forms.specs.Explaining.{fault_by}
use Rattle.plain_machine.specs.Effect.{Effect}
use Rattle.plain_machine.specs.Commanding.{done_by}
use Rattle.std.proofs.lemmas.List.{map-append}
use Rattle.std.specs.declared.net.socket_addr.SocketAddrV4.{SocketAddrV4}
use Rattle.transmission.specs.declared.span.IdSpan.{IdSpan}
use Rattle.mgcp_text.specs.Answer.{AnswerContent, response_of}
use Rattle.mgcp_text.specs.Reading.{Outcome, message, no_header, bad_version, bad_body, read_text}
use Rattle.plain_machine.specs.declared.setup.Setup.{Setup}
use Rattle.transmission.specs.declared.output.OutDatagram.{OutDatagram}
use Rattle.plain_machine.specs.Message.{Sent}
use Rattle.plain_machine.specs.declared.label.Label.{Label}
use Rattle.plain_machine.specs.declared.label.OutMessage.{OutMessage}
use Rattle.plain_machine.specs.Labelling.{message_of, messages_of}
use Rattle.plain_machine.specs.Machine.{Endpoints, Machine, serves}
use Rattle.plain_machine.specs.Done.{Done}
use Rattle.transmission.specs.Acknowledging.{asks_for_acknowledgement, acknowledgements, acknowledgement_text}
use Rattle.transmission.specs.Transacting.{message_to, transacted_as, with_first}
use Rattle.transmission.specs.Hearing.{Hearing, hearing, heard_at}
use Rattle.transmission.specs.Confirming.{spans_of}
use Rattle.plain_machine.specs.Answering.{line_of_name, transaction, answer_text, executed, transacted_by, refusing, read_command, handled, took_all}
use Rattle.endpoints.specs.StoreState.{StoreState}
use Rattle.endpoints.specs.Tells.{Goes}
use Rattle.plain_machine.specs.Responding.{acknowledged, response_with, responded}
use Rattle.plain_machine.specs.Message.{of_none, acknowledgement}
use Rattle.plain_machine.proofs.EffectLaws.{handled_now}
use Rattle.gateway_core.specs.declared.state.State.{State}
use Rattle.gateway_core.specs.Hearing.{left_done, left_outcome, passed_over, again_label, first_label, acknowledged_label, faulty_label, heard_label, labelled}
use Rattle.gateway_core.specs.declared.outcome.Reply.{Reply}
use Rattle.gateway_core.specs.declared.outcome.Reply.TheVariants.{First, NoRoom}
use Rattle.gateway_core.specs.declared.outcome.TextOutcome.{TextOutcome}
use Rattle.gateway_core.specs.declared.outcome.TextOutcome.TheVariants as outcomes
use Rattle.gateway_core.specs.Outcomes.{reply_by, command_fault, text_outcome, text_outcomes, outcomes_of}
use Rattle.plain_machine.specs.Event.{GatewayEvent, datagram, phone, tick}
use Rattle.transmission.specs.Texts.{most_texts, texts_of}
use Rattle.transmission.proofs.TextLaws.{few_texts}
use Rattle.gateway_core.specs.State.{machine_in, found_in, Went, Does}

-- a first is executed: its command changed the store, then it was answered, and then comes what lines send because of it
pub executed_then : (was is : State) (source : SocketAddrV4) (id : ℕ) (line : Option ℕ) (kept confirms : List IdSpan) (done : Done) (given : AnswerContent) (code : ℕ) (text : List ℕ) (label : Label)
    (caused were next are : List OutMessage)
    → kept ≡ confirms → given ≡ done.answer → Goes done.told was.store is.store [] caused → is.clock ≡ was.clock
    → is.history ≡ with_first was.history id was.clock kept (written (response_of id given))
    → code ≡ given.code → text ≡ written (response_of id given) → label ≡ first_label line id code
    → next ≡ were ++ (record { datagram = message_to source was.clock text; label = label }) ∷ [] → are ≡ next ++ caused
    → Went (executed (machine_in was) source (transaction id line confirms done)) was is were are
unfolding executed
executed_then was is source id line kept confirms done given code text label caused were next are same ok goes clock history coded written_is labelled_is sent more = record {
  machine = rw (clock, history, same, ok, goes.endpoints) refl;
  found = rw (history, goes.found) refl;
  sent = more
      ∙ ap (λ (x : List OutMessage). x ++ caused) sent
      ∙ ap (λ (t : List ℕ). (were ++ (record { datagram = message_to source was.clock t; label = label }) ∷ []) ++ caused) written_is
      ∙ ap (λ (l : Label). (were ++ (record { datagram = message_to source was.clock (written (response_of id given)); label = l }) ∷ []) ++ caused) labelled_is
      ∙ ap (λ (n : ℕ). (were ++ (record { datagram = message_to source was.clock (written (response_of id given)); label = first_label line id n }) ∷ []) ++ caused) coded
      ∙ append_assoc were (front id source was.clock given ∷ []) caused
      ∙ ap (λ (a : AnswerContent). were ++ front id source was.clock a ∷ caused) ok
      ∙ ap (λ (x : List OutMessage). were ++ front id source was.clock done.answer ∷ x) goes.sent;
} where
  front : ℕ → SocketAddrV4 → ℕ → AnswerContent → OutMessage
  front id source now a = record { datagram = message_to source now (written (response_of id a)); label = first_label line id a.code }

-- the acknowledgements are those of the plain machine
acknowledged_is : (moment : ℕ) (source : SocketAddrV4) (code id : ℕ) (params : List Param)
    → labelled (λ text. Some (acknowledged_label id)) (acknowledgements moment source code id params) ≡ messages_of (acknowledged moment source code id params)
acknowledged_is moment source code id params = by_test (asks_for_acknowledgement code params) where
  by_test : (b : Bool) → labelled (λ text. Some (acknowledged_label id)) (if b then message_to source moment (acknowledgement_text id) ∷ [] else [])
      ≡ messages_of (if b then (record { to = source; moment = moment; owner = of_none; said = acknowledgement (messages.Response 0 id [] []) }) ∷ [] else [])
  by_test true = refl
  by_test false = refl

-- what is done at a text is what hearing it comes to, whose messages have these labels, and then what is left
record IsThen (done : Effect Machine) (label : List ℕ → Option Label) (heard : Hearing) (last : Effect Machine) : Type 0 where
  value : done.value ≡ last.value
  sent : messages_of done.sent ≡ labelled label heard.sent ++ messages_of last.sent

abbrev machine_then : State → Hearing → Machine
machine_then was heard = record (machine_in was) { history = heard.history.kept }

abbrev DoesLeft : Setup → State → SocketAddrV4 → Effect Machine → (List ℕ → Option Label) → Hearing → Type 0
DoesLeft setup was source done label heard = IsThen done label heard (left_done setup heard.left (machine_then was heard) source)

-- a command that can be read, which is left where it is new: its stored answer goes out again under its id
read_left : (looked : Looked) (setup : Setup) (was : State) (source : SocketAddrV4) (verb : Verb) (id : ℕ) (name : List ℕ) (params : List Param) (body : List ℕ)
    → DoesLeft setup was source (transacted_by looked (machine_in was) source (read_command setup (machine_in was) verb id name params body))
    (λ text. Some (again_label (line_of_name setup name) id text))
    (transacted_as looked (hearing was.history [] (Some (messages.Command verb id name params body)))
    (λ text. hearing was.history (message_to source was.clock text ∷ []) None) (hearing was.history [] None))
read_left new setup was source verb id name params body = record { value = refl; sent = refl }
read_left (repeat text) setup was source verb id name params body = record { value = refl; sent = refl }
read_left confirmed setup was source verb id name params body = record { value = refl; sent = refl }
read_left full setup was source verb id name params body = record { value = refl; sent = refl }

-- one that can't: its answer goes out for the first time, or again
faulty_left : (looked : Looked) (setup : Setup) (was : State) (source : SocketAddrV4) (id code : ℕ)
    → DoesLeft setup was source (transacted_by looked (machine_in was) source (refusing (machine_in was) id code))
    (λ text. Some (faulty_label (outcomes.Command None id (reply_by looked code None)) id text))
    (transacted_as looked
    (hearing (with_first was.history id was.clock [] (answer_text (refusing (machine_in was) id code))) (message_to source was.clock (answer_text (refusing (machine_in was) id code)) ∷ []) None)
    (λ text. hearing was.history (message_to source was.clock text ∷ []) None) (hearing was.history [] None))
unfolding executed
faulty_left new setup was source id code = record { value = refl; sent = refl }
faulty_left (repeat text) setup was source id code = record { value = refl; sent = refl }
faulty_left confirmed setup was source id code = record { value = refl; sent = refl }
faulty_left full setup was source id code = record { value = refl; sent = refl }

text_left : (setup : Setup) (was : State) (source : SocketAddrV4) (outcome : Outcome)
    → DoesLeft setup was source (handled setup (machine_in was) source outcome) (heard_label setup outcome (passed_over was.history.kept was.clock outcome)) (heard_at was.history source was.clock outcome)
unfolding handled
text_left setup was source no_header = record { value = refl; sent = refl }
text_left setup was source (bad_version id) = faulty_left (look_of most_firsts was.history.kept id was.clock) setup was source id 528
text_left setup was source (bad_body id) = faulty_left (look_of most_firsts was.history.kept id was.clock) setup was source id 510
text_left setup was source (message (messages.Command verb id name params body)) =
    read_left (look_of most_firsts was.history.kept id was.clock) setup was source verb id name params body
text_left setup was source (message (messages.Response code id params body)) =
    let rest : List Sent = (responded setup was.store.endpoints was.clock (response_with setup id code params)).sent in
    record {
      value = refl;
      sent = map-append message_of (acknowledged was.clock source code id params) rest
          ∙ ap (λ (x : List OutMessage). x ++ messages_of rest) (sym (acknowledged_is was.clock source code id params));
    }

abbrev with_heard : State → HistoryState → State
with_heard was history = record was { history = history }

pub went_heard : (setup : Setup) (source : SocketAddrV4) (text : List ℕ) (was is : State) (history : HistoryState) (heard_sent : List OutDatagram) (were out are : List OutMessage) (outcome : Outcome)
    (passed : TextOutcome) (left : Option Message)
    → outcome ≡ read_text text → (heard_at was.history source was.clock outcome).left ≡ left
    → history ≡ (heard_at was.history source was.clock outcome).history → history.settled ≡ was.history.settled
    → heard_sent ≡ (heard_at was.history source was.clock outcome).sent → passed ≡ passed_over was.history.kept was.clock outcome
    → out ≡ were ++ labelled (heard_label setup outcome passed) heard_sent
    → Went (left_done setup left (machine_in (with_heard was history)) source) (with_heard was history) is out are → Went (handled setup (machine_in was) source (read_text text)) was is were are
went_heard setup source text was is history heard_sent were out are outcome passed left read left_is kept settled sent passed_is put went =
    let heard : Hearing = heard_at was.history source was.clock outcome in
    let does = text_left setup was source outcome in
    let next : Effect Machine = left_done setup heard.left (machine_then was heard) source in
    let found : found_in (with_heard was history) ≡ found_in was = rw settled refl in
    let over : TextOutcome = passed_over was.history.kept was.clock outcome in
    let goes : out ≡ were ++ labelled (heard_label setup outcome over) heard.sent =
    put
    ∙ ap (λ (x : List OutDatagram). were ++ labelled (heard_label setup outcome passed) x) sent
    ∙ ap (λ (x : TextOutcome). were ++ labelled (heard_label setup outcome x) heard.sent) passed_is in
    let last : Went next (with_heard was history) is out are =
    subst (λ (h : HistoryState). Went (left_done setup heard.left (machine_in (with_heard was h)) source) (with_heard was history) is out are) kept
    (subst (λ (some : Option Message). Went (left_done setup some (machine_in (with_heard was history)) source) (with_heard was history) is out are) (sym left_is) went) in
    subst (λ (x : Outcome). Went (handled setup (machine_in was) source x) was is were are) read (record {
      machine = last.machine ∙ sym does.value;
      found = last.found ∙ found;
      sent = last.sent ∙ ap (λ (x : List OutMessage). x ++ messages_of next.sent) goes
          ∙ append_assoc were (labelled (heard_label setup outcome over) heard.sent) (messages_of next.sent)
          ∙ ap (λ (x : List OutMessage). were ++ x) (sym does.sent);
    })

-- a new command is executed
pub command_done : {A : Type 0} (result : Result A AllocError) (setup : Setup) (was is : State) (were are : List OutMessage) (source : SocketAddrV4) (left : Option Message) (said : Message) (verb : Verb) (id : ℕ) (name : List ℕ) (params : List Param) (body : List ℕ) (line : Option ℕ)
    → left ≡ Some said → said ≡ messages.Command verb id name params body → line ≡ line_of_name setup name
    → Does result (executed (machine_in was) source (transaction id line (spans_of (k_of (params_in said))) (done_by (form_while_in (serves was.store.endpoints) said (k_of (params_in said)) setup.names) setup was.store.endpoints was.clock id))) was is were are
    → Does result (left_done setup left (machine_in was) source) was is were are
command_done result setup was is were are source left said verb id name params body line some same named done =
    subst (λ (x : Option Message). Does result (left_done setup x (machine_in was) source) was is were are) (sym (some ∙ ap (λ (m : Message). Some m) same))
    (subst (λ (m : Message). Does result (executed (machine_in was) source (transaction id (line_of_name setup name) (spans_of (k_of (params_in m))) (done_by (form_while_in (serves was.store.endpoints) m (k_of (params_in m)) setup.names) setup was.store.endpoints was.clock id))) was is were are) same
    (subst (λ (l : Option ℕ). Does result (executed (machine_in was) source (transaction id l (spans_of (k_of (params_in said))) (done_by (form_while_in (serves was.store.endpoints) said (k_of (params_in said)) setup.names) setup was.store.endpoints was.clock id))) was is were are) named done))

-- the first of these, and then the others
pub went_next : (setup : Setup) (source : SocketAddrV4) (all texts : List (List ℕ)) (text : List ℕ) (was between is : State) (were mid are : List OutMessage) → all ≡ text ∷ texts
    → Went (handled setup (machine_in was) source (read_text text)) was between were mid → Went (took_all setup (machine_in between) source texts) between is mid are
    → Went (took_all setup (machine_in was) source all) was is were are
unfolding took_all
went_next setup source all texts text was between is were mid are same first rest =
    let one : Effect Machine = handled setup (machine_in was) source (read_text text) in
    rw same (record {
      machine = rest.machine ∙ ap (λ (m : Machine). (took_all setup m source texts).value) first.machine;
      found = rest.found ∙ first.found;
      sent = rest.sent
          ∙ ap (λ (m : Machine). mid ++ messages_of (took_all setup m source texts).sent) first.machine
          ∙ ap (λ (x : List OutMessage). x ++ messages_of (took_all setup one.value source texts).sent) first.sent
          ∙ append_assoc were _ _
          ∙ ap (λ (x : List OutMessage). were ++ x) (sym (map-append message_of one.sent (took_all setup one.value source texts).sent));
    })

pub went_end : (setup : Setup) (source : SocketAddrV4) (all : List (List ℕ)) (was : State) (out : List OutMessage) → all ≡ [] → Went (took_all setup (machine_in was) source all) was was out out
unfolding took_all
went_end setup source all was out none = rw none (record { machine = refl; found = refl; sent = sym (append-nil out) })

-- a text doesn't move the clock
pub went_on : (setup : Setup) (source : SocketAddrV4) (text : List ℕ) (was is : State) (were are : List OutMessage)
    → Went (handled setup (machine_in was) source (read_text text)) was is were are → is.clock ≡ was.clock
went_on setup source text was is were are went = ap (λ (m : Machine). m.now) went.machine ∙ handled_now setup (machine_in was) source (read_text text)

-- ---- what changes nothing

-- the endpoints stay, and nothing is sent, where a form is judged so
form_goes : (serving : Bool) (said : Message) (confirms : KValue) (judged : Result Asks Refused) (setup : Setup) (store : StoreState) (moment id : ℕ) (sent : List OutMessage)
    → serving ≡ serves store.endpoints → judged_while_in serving said confirms setup.names ≡ judged
    → Goes (done_by (coded judged) setup store.endpoints moment id).told store store sent sent
    → Goes (done_by (form_while_in (serves store.endpoints) said confirms setup.names) setup store.endpoints moment id).told store store sent sent
form_goes serving said confirms judged setup store moment id sent same is goes =
    subst (λ (form : Result Asks ℕ). Goes (done_by form setup store.endpoints moment id).told store store sent sent)
    (sym (form_is (serves store.endpoints) said confirms setup.names
    ∙ ap (λ (b : Bool). coded (judged_while_in b said confirms setup.names)) (sym same)
    ∙ ap (λ (x : Result Asks Refused). coded x) is)) goes

-- a command that is refused for its form
pub refused_goes : (serving : Bool) (said : Message) (confirms : KValue) (refused : Refused) (setup : Setup) (store : StoreState) (moment id : ℕ) (sent : List OutMessage)
    → serving ≡ serves store.endpoints → judged_while_in serving said confirms setup.names ≡ Err refused
    → Goes (done_by (form_while_in (serves store.endpoints) said confirms setup.names) setup store.endpoints moment id).told store store sent sent
refused_goes serving said confirms refused setup store moment id sent same is =
    form_goes serving said confirms (Err refused) setup store moment id sent same is (record { endpoints = refl; found = refl; sent = sym (append-nil sent) })

-- one that asks for a report
pub report_goes : (serving : Bool) (said : Message) (confirms : KValue) (target : AuditTarget) (audit : Audit) (setup : Setup) (store : StoreState) (moment id : ℕ) (sent : List OutMessage)
    → serving ≡ serves store.endpoints → judged_while_in serving said confirms setup.names ≡ Ok (Reports target audit)
    → Goes (done_by (form_while_in (serves store.endpoints) said confirms setup.names) setup store.endpoints moment id).told store store sent sent
report_goes serving said confirms target audit setup store moment id sent same is =
    form_goes serving said confirms (Ok (Reports target audit)) setup store moment id sent same is (record { endpoints = refl; found = refl; sent = sym (append-nil sent) })

-- ---- what a text was

-- a command that can't be read leaves nothing
faulty_told : (looked : Looked) (setup : Setup) (m : Machine) (history next : HistoryState) (source : SocketAddrV4) (moment : ℕ) (sent : List OutDatagram) (passed : TextOutcome) (asked : Bool)
    → left_outcome setup (transacted_as looked (hearing next sent None) (λ text. hearing history (message_to source moment text ∷ []) None) (hearing history [] None)).left m passed asked ≡ passed
faulty_told new setup m history next source moment sent passed asked = refl
faulty_told (repeat text) setup m history next source moment sent passed asked = refl
faulty_told confirmed setup m history next source moment sent passed asked = refl
faulty_told full setup m history next source moment sent passed asked = refl

-- one that can be read is left where it is new
read_told : (looked : Looked) (setup : Setup) (was : State) (next : HistoryState) (source : SocketAddrV4) (moment : ℕ) (verb : Verb) (id : ℕ) (name : List ℕ) (params : List Param) (body : List ℕ) (asked : Bool)
    → left_outcome setup (transacted_as looked (hearing was.history [] (Some (messages.Command verb id name params body)))
    (λ text. hearing was.history (message_to source moment text ∷ []) None) (hearing was.history [] None)).left (machine_in (with_heard was next)) (outcomes.Command (Some verb) id (reply_by looked 0 None)) asked
    ≡ outcomes.Command (Some verb) id (reply_by looked (read_command setup (machine_in was) verb id name params body).done.answer.code
    (command_fault setup (machine_in was) (record { verb = verb; name = name; params = params; body = body }) (k_of params)))
read_told new setup was next source moment verb id name params body asked = refl
read_told (repeat text) setup was next source moment verb id name params body asked = refl
read_told confirmed setup was next source moment verb id name params body asked = refl
read_told full setup was next source moment verb id name params body asked = refl

-- an acknowledgement is one message more
one_more : (were : List OutDatagram) (asks : Bool) (sent : OutDatagram) → nat_lt (length were) (length (were ++ (if asks then sent ∷ [] else []))) ≡ asks
one_more were true sent = rw (length-append were (sent ∷ [])) (grind (arith, nat_tests))
one_more were false sent = rw (append-nil were) (grind (arith, nat_tests))

abbrev asked_by : List OutDatagram → List OutDatagram → Bool
asked_by were out = nat_lt (length were) (length out)

-- a text was what it was passed over as, unless something of it is left
told_as : (setup : Setup) (source : SocketAddrV4) (was : State) (history : HistoryState) (were : List OutDatagram) (outcome : Outcome)
    → left_outcome setup (heard_at was.history source was.clock outcome).left (machine_in (with_heard was history)) (passed_over was.history.kept was.clock outcome)
    (asked_by were (were ++ (heard_at was.history source was.clock outcome).sent)) ≡ text_outcome setup (machine_in was) outcome
unfolding text_outcome
told_as setup source was history were no_header = refl
told_as setup source was history were (bad_version id) = faulty_told (look_of most_firsts was.history.kept id was.clock) setup _ was.history _ source was.clock _ _ _
told_as setup source was history were (bad_body id) = faulty_told (look_of most_firsts was.history.kept id was.clock) setup _ was.history _ source was.clock _ _ _
told_as setup source was history were (message (messages.Command verb id name params body)) =
    read_told (look_of most_firsts was.history.kept id was.clock) setup was history source was.clock verb id name params body _
told_as setup source was history were (message (messages.Response code id params body)) =
    ap (λ (b : Bool). outcomes.Response id b) (one_more were (asks_for_acknowledgement code params) (message_to source was.clock (acknowledgement_text id)))

pub told_then : (setup : Setup) (source : SocketAddrV4) (text : List ℕ) (was : State) (history : HistoryState) (were out : List OutDatagram) (outcome : Outcome) (left : Option Message) (passed given : TextOutcome) (asked : Bool)
    → outcome ≡ read_text text → (heard_at was.history source was.clock outcome).left ≡ left → out ≡ were ++ (heard_at was.history source was.clock outcome).sent
    → asked ≡ asked_by were out → passed ≡ passed_over was.history.kept was.clock outcome → given ≡ left_outcome setup left (machine_in (with_heard was history)) passed asked
    → given ≡ text_outcome setup (machine_in was) (read_text text)
told_then setup source text was history were out outcome left passed given asked read left_is sent asked_is passed_is given_is =
    let next : Machine = machine_in (with_heard was history) in
    let over : TextOutcome = passed_over was.history.kept was.clock outcome in
    given_is
    ∙ ap (λ (x : TextOutcome). left_outcome setup left next x asked) passed_is
    ∙ ap (λ (b : Bool). left_outcome setup left next over b) (asked_is ∙ ap (λ (x : List OutDatagram). asked_by were x) sent)
    ∙ ap (λ (x : Option Message). left_outcome setup x next over (asked_by were (were ++ (heard_at was.history source was.clock outcome).sent))) (sym left_is)
    ∙ told_as setup source was history were outcome
    ∙ ap (λ (x : Outcome). text_outcome setup (machine_in was) x) read

-- nothing of it is left
pub told_passed : (setup : Setup) (source : SocketAddrV4) (text : List ℕ) (was : State) (outcome : Outcome) (passed : TextOutcome)
    → outcome ≡ read_text text → (heard_at was.history source was.clock outcome).left ≡ None → passed ≡ passed_over was.history.kept was.clock outcome
    → passed ≡ text_outcome setup (machine_in was) (read_text text)
told_passed setup source text was outcome passed read none passed_is =
    told_then setup source text was was.history [] _ outcome None passed passed _ read none refl refl passed_is refl

-- what a new command gets, by its code and by what of it is at fault
pub first_is : (code coded : ℕ) (fault faulty : Option FaultyPart) → code ≡ coded → fault ≡ faulty → First code fault ≡ First coded faulty
first_is code coded fault faulty is why = rw (is, why) refl

-- a command that is left gets this
pub command_told : (setup : Setup) (m : Machine) (passed : TextOutcome) (asked : Bool) (left : Option Message) (said : Message) (verb : Verb) (id : ℕ) (name : List ℕ) (params : List Param) (body : List ℕ) (reply : Reply)
    → left ≡ Some said → said ≡ messages.Command verb id name params body
    → reply ≡ First (done_by (form_while_in (serves m.endpoints) said (k_of (params_in said)) setup.names) setup m.endpoints m.now id).answer.code
    (fault_by (judged_while_in (serves m.endpoints) said (k_of (params_in said)) setup.names))
    → outcomes.Command (Some verb) id reply ≡ left_outcome setup left m passed asked
command_told setup m passed asked left said verb id name params body reply some same is =
    subst (λ (x : Option Message). outcomes.Command (Some verb) id reply ≡ left_outcome setup x m passed asked) (sym (some ∙ ap (λ (x : Message). Some x) same))
    (ap (λ (r : Reply). outcomes.Command (Some verb) id r)
    (is ∙ ap (λ (x : Message). First (done_by (form_while_in (serves m.endpoints) x (k_of (params_in x)) setup.names) setup m.endpoints m.now id).answer.code
    (fault_by (judged_while_in (serves m.endpoints) x (k_of (params_in x)) setup.names))) same))

-- a new command, by how it is judged
told_by : (setup : Setup) (endpoints : Endpoints) (moment : ℕ) (verb : Verb) (id : ℕ) (looked : Looked) (judged said : Result Asks Refused) → looked ≡ new → judged ≡ said
    → outcomes.Command (Some verb) id (reply_by looked (done_by (coded judged) setup endpoints moment id).answer.code (fault_by judged))
    ≡ outcomes.Command (Some verb) id (First (done_by (coded said) setup endpoints moment id).answer.code (fault_by said))
told_by setup endpoints moment verb id looked judged said is_new is = rw (is_new, is) refl

pub refused_told : (setup : Setup) (m : Machine) (verb : Verb) (id : ℕ) (name : List ℕ) (params : List Param) (body : List ℕ) (refused : Refused) → look_of most_firsts m.history id m.now ≡ new
    → judged_while (serves m.endpoints) (record { verb = verb; name = name; params = params; body = body }) (k_of params) setup.names ≡ Err refused
    → text_outcome setup m (message (messages.Command verb id name params body)) ≡ outcomes.Command (Some verb) id (First refused.code (Some refused.at))
unfolding text_outcome form_while
refused_told setup m verb id name params body refused is_new is =
    told_by setup m.endpoints m.now verb id (look_of most_firsts m.history id m.now)
    (judged_while (serves m.endpoints) (record { verb = verb; name = name; params = params; body = body }) (k_of params) setup.names) (Err refused) is_new is

pub done_told : (setup : Setup) (m : Machine) (verb : Verb) (id : ℕ) (name : List ℕ) (params : List Param) (body : List ℕ) (asks : Asks) → look_of most_firsts m.history id m.now ≡ new
    → judged_while (serves m.endpoints) (record { verb = verb; name = name; params = params; body = body }) (k_of params) setup.names ≡ Ok asks
    → text_outcome setup m (message (messages.Command verb id name params body)) ≡ outcomes.Command (Some verb) id (First (done_by (Ok asks) setup m.endpoints m.now id).answer.code None)
unfolding text_outcome form_while
done_told setup m verb id name params body asks is_new is =
    told_by setup m.endpoints m.now verb id (look_of most_firsts m.history id m.now)
    (judged_while (serves m.endpoints) (record { verb = verb; name = name; params = params; body = body }) (k_of params) setup.names) (Ok asks) is_new is

-- one that is lost
pub lost_told : (setup : Setup) (m : Machine) (verb : Verb) (id : ℕ) (name : List ℕ) (params : List Param) (body : List ℕ) → look_of most_firsts m.history id m.now ≡ full
    → text_outcome setup m (message (messages.Command verb id name params body)) ≡ outcomes.Command (Some verb) id NoRoom
unfolding text_outcome
lost_told setup m verb id name params body lost =
    ap (λ (looked : Looked). outcomes.Command (Some verb) id (reply_by looked (read_command setup m verb id name params body).done.answer.code
    (command_fault setup m (record { verb = verb; name = name; params = params; body = body }) (k_of params)))) lost

-- the first of these texts, and then the others
pub told_next : (setup : Setup) (source : SocketAddrV4) (all texts : List (List ℕ)) (text : List ℕ) (was between : State) (were mid : List OutMessage) (told more whole : List TextOutcome)
    → all ≡ text ∷ texts → Went (handled setup (machine_in was) source (read_text text)) was between were mid
    → more ≡ told ++ text_outcome setup (machine_in was) (read_text text) ∷ [] → told ++ text_outcomes setup (machine_in was) source all ≡ whole
    → more ++ text_outcomes setup (machine_in between) source texts ≡ whole
unfolding text_outcomes
told_next setup source all texts text was between were mid told more whole same went one is =
    let first : TextOutcome = text_outcome setup (machine_in was) (read_text text) in
    ap (λ (x : List TextOutcome). x ++ text_outcomes setup (machine_in between) source texts) one
    ∙ append_assoc told (first ∷ []) (text_outcomes setup (machine_in between) source texts)
    ∙ ap (λ (m : Machine). told ++ first ∷ text_outcomes setup m source texts) went.machine
    ∙ subst (λ (x : List (List ℕ)). told ++ text_outcomes setup (machine_in was) source x ≡ whole) same is

pub told_end : (setup : Setup) (source : SocketAddrV4) (rest : List (List ℕ)) (m : Machine) (told whole : List TextOutcome) → rest ≡ []
    → told ++ text_outcomes setup m source rest ≡ whole → told ≡ whole
unfolding text_outcomes
told_end setup source rest m told whole none is =
    sym (append-nil told) ∙ subst (λ (x : List (List ℕ)). told ++ text_outcomes setup m source x ≡ whole) none is

pub told_nothing : (setup : Setup) (source : SocketAddrV4) (rest : List (List ℕ)) (m : Machine) (told : List TextOutcome) → told ≡ [] → rest ≡ [] → told ≡ text_outcomes setup m source rest
unfolding text_outcomes
told_nothing setup source rest m told empty none = rw (empty, none) refl

-- there is room to tell of the next of these texts, and then of the others
pub has_room : {A B : Type 0} (told : List A) (all texts : List B) (text : B) (most : ℕ) → all ≡ text ∷ texts → length told + length all ≤ most → length told < most
has_room told all texts text most same few = omega (arith, ap length same, few)

pub has_room_on : {A B : Type 0} (told more : List A) (all texts : List B) (text : B) (last : A) (most : ℕ) → all ≡ text ∷ texts → more ≡ told ++ last ∷ []
    → length told + length all ≤ most → length more + length texts ≤ most
has_room_on told more all texts text last most same one few = omega (arith, ap length same, ap length one, length-append told (last ∷ []), few)

-- each text is told of
pub length-text_outcomes : (setup : Setup) (m : Machine) (source : SocketAddrV4) (texts : List (List ℕ)) → length (text_outcomes setup m source texts) ≡ length texts
unfolding text_outcomes
length-text_outcomes setup m source [] = refl
length-text_outcomes setup m source (text ∷ texts) = ap suc (length-text_outcomes setup (handled setup m source (read_text text)).value source texts)

pub few_outcomes : (setup : Setup) (m : Machine) (event : GatewayEvent) → length (outcomes_of setup m event) ≤ most_texts
unfolding outcomes_of
few_outcomes setup m (datagram source bytes) = rw (length-text_outcomes setup m source (texts_of bytes)) (few_texts bytes)
few_outcomes setup m (phone line act) = omega arith
few_outcomes setup m (tick moment) = omega arith
