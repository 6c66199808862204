-- What a gateway sends at an event: commands of its own, answers to the firsts that it keeps, and acknowledgements.
use Rattle.std.proofs.Common.{◌≡◌, ℕ, ◌+◌, ◌<◌, ◌≤◌, true, List, ◌++◌, inl, inr, sym, ap, ◌∙◌, arith, ◌-◌, ◌==◌, ◌&&◌, if◌then◌else◌, Bool, false, [], ◌∷◌, length, Option, Some, None, refl, subst, ◌||◌, append-nil, append_assoc, ◌≢◌}
use Rattle.mgcp_text.specs.declared.message.Param.{Param}
use Rattle.mgcp_text.specs.declared.message.Message.TheVariants as messages
use Rattle.mgcp_text.specs.Reading.{Outcome, message, no_header, bad_version, bad_body, read_text, id_in}
use Rattle.transmission.specs.declared.entry.KeptFirst.{KeptFirst}
use Rattle.transmission.specs.Memory.{memory_time, is_young, most_firsts}
use Rattle.machine_laws.proofs.EachLemmas.{Each, one_before, one_of_each, one_to, one_weaker, each_both, each_weaker, one_behind, is_none-None}
use Rattle.retransmission.specs.Issued.{is_command_as}
use Rattle.plain_machine.specs.Message.{Begun, of_none, again, acknowledgement, Sent, text_of}
use Rattle.machine_laws.specs.Saying.{Carries, Gives, IsAnswerTo, OneOf, Tells, begun_in, HasNumbersLeft}
use Rattle.std.specs.Prelude.{nat_lt, option_map, IfSome, nat_le, ◌^◌, AllPairs, is_none}
use Rattle.std.specs.Option.{option_or}
use Rattle.std.proofs.lemmas.Bool.{and_parts, eqb-true, ltb-true, ltb-false}
use Rattle.std.proofs.lemmas.Option.{none-some}
use Rattle.transmission.specs.declared.entry.Entry.{Entry}
use Rattle.transmission.specs.declared.entry.Entry.TheVariants.{First, Confirmation}
use Rattle.transmission.specs.Kept.{firsts_in, young_firsts}
use Rattle.transmission.specs.Looking.{Found, Looked, confirmed, full, latest, look_of, new, recalled_from, repeat, repeated, told_by}
use Rattle.std.specs.declared.net.socket_addr.SocketAddrV4.{SocketAddrV4}
use Rattle.mgcp_text.specs.Answer.{IsAnswer, plain_code, response_of}
use Rattle.mgcp_text.specs.Confirmation.{k_of}
use Rattle.mgcp_text.proofs.AnswerLemmas.{answer_writable}
use Rattle.mgcp_text.proofs.IdLemmas.{IsId, read_id}
use Rattle.mgcp_text.proofs.RoundLaws.{read_again}
use Rattle.command_forms.specs.Command.{Command}
use Rattle.retransmission.specs.Flight.{InFlight}
use Rattle.plain_machine.specs.declared.setup.Setup.{Setup}
use Rattle.machine_rules.specs.declared.refusal.Refusal.TheVariants.{ClockBack, TickTooFar}
use Rattle.plain_machine.specs.Effect.{Effect, silently}
use Rattle.plain_machine.specs.Setup.{IsSetUp, most_lines}
use Rattle.plain_machine.specs.Event.{GatewayEvent, datagram, phone, tick}
use Rattle.plain_machine.specs.Machine.{Endpoints, Machine, opening, opening_endpoint}
use Rattle.transmission.specs.Texts.{texts_of}
use Rattle.plain_machine.specs.Arriving.{clock_after}
use Rattle.transmission.specs.Acknowledging.{asks_for_acknowledgement}
use Rattle.plain_machine.specs.Responding.{acknowledged, response_with, responded}
use Rattle.plain_machine.specs.Answering.{Transaction, response_to, answer_text, history_with, refusing, command_with, reply, executed, transacted_by, handled, took_all}
use Rattle.plain_machine.specs.Happening.{effect}
use Rattle.plain_machine.specs.Refusing.{refusal_of}
use Rattle.machine_laws.proofs.AllLemmas.{OnAll}
use Rattle.machine_laws.proofs.TurnLemmas.{on_made}
use Rattle.machine_laws.proofs.CommandLaws.{opening_is_sound}
use Rattle.machine_laws.proofs.NoticeLemmas.{opening_is_fine}
use Rattle.machine_laws.proofs.MessageLaws.{nothing_kept, opening_fits, Fits, code_is, command_answered, handled_fits, event_fits, AreKept, event_goes}
use Rattle.plain_machine.proofs.EffectLaws.{handled_now, effect_now}
use Rattle.machine_laws.proofs.GatewayTurns.{OwnStands, LineStands, log_turns}
use Rattle.machine_laws.proofs.PostLogs.{begins_there, own_begins_there, InLog, Logged, Own, WasBegun}
use Rattle.machine_laws.proofs.LogTurns.{Goes, Stands, acted_goes, command_goes, log_both, on_later, pass_goes, responded_goes}
use Rattle.plain_machine.specs.Lists.{machine_after, sent_from, sent_of, are_taken, plain}

-- What an end says: commands of its own, answers to the firsts that it keeps, and acknowledgements.

abbrev pub AreAnswers : List KeptFirst → Type 0
AreAnswers firsts = Each (λ (first : KeptFirst). IsAnswerTo first.id first.answer) firsts

pub tells_on : (log more : List Begun) (firsts later : List KeptFirst) (text : List ℕ) (moment : ℕ) → Tells log firsts text moment → Tells (log ++ more) (firsts ++ later) text moment
tells_on log more firsts later text moment (inl one) = inl (one_before (Carries text moment) log more one)
tells_on log more firsts later text moment (inr (inl one)) = inr (inl (one_before (Gives text moment) firsts later one))
tells_on log more firsts later text moment (inr (inr is)) = inr (inr is)

-- a command that is read as one, with its id
pub record IsCommand (one : Begun) : Type 0 where
  pub name : List ℕ
  pub reads : is_command_as one.id name (read_text one.text) ≡ true

no_response : (id : ℕ) (name : List ℕ) (outcome : Outcome) (code other : ℕ) (params : List Param) (body : List ℕ) → is_command_as id name outcome ≡ true
    → outcome ≡ message (messages.Response code other params body) → ⊥
no_response id name outcome code other params body is reads = absurd (let e : is_command_as id name (message (messages.Response code other params body)) ≡ true = ap (is_command_as id name) (sym reads) ∙ is in cc)

abbrev pub code_of : Outcome → ℕ
code_of (message (messages.Response code id params body)) = code
code_of (message (messages.Command verb id name params body)) = 0
code_of no_header = 0
code_of (bad_version id) = 0
code_of (bad_body id) = 0

abbrev pub id_of : Outcome → ℕ
id_of (message (messages.Response code id params body)) = id
id_of (message (messages.Command verb id name params body)) = 0
id_of no_header = 0
id_of (bad_version id) = 0
id_of (bad_body id) = 0

-- a first with this id, whose answer is this text
abbrev pub IsAnsweredBy : ℕ → List ℕ → KeptFirst → Type 0
IsAnsweredBy id text first = (first.id ≡ id) × (first.answer ≡ text)

-- which came less than 30,000 ms before
abbrev pub IsGivenBy : ℕ → List ℕ → ℕ → KeptFirst → Type 0
IsGivenBy id text moment first = IsAnsweredBy id text first × (moment < first.moment + memory_time)

-- a final response that an end says is the answer to a first with its id
pub final_gives : (log : List Begun) (firsts : List KeptFirst) (text : List ℕ) (moment code id : ℕ) (params : List Param) (body : List ℕ) → Each IsCommand log → AreAnswers firsts
    → Tells log firsts text moment → read_text text ≡ message (messages.Response code id params body) → 200 ≤ code → OneOf (IsGivenBy id text moment) firsts
final_gives log firsts text moment code id params body commands answers (inl carried) reads high =
    one_to (λ (b : Begun). IsCommand b × Carries text moment b) (OneOf (IsGivenBy id text moment) firsts)
    (λ b both. absurd (no_response b.id both.0.name (read_text b.text) code id params body both.0.reads (sym (ap read_text both.1.text) ∙ reads)))
    log (one_of_each IsCommand (Carries text moment) log commands carried)
final_gives log firsts text moment code id params body commands answers (inr (inl answered)) reads high =
    one_weaker (λ (first : KeptFirst). IsAnswerTo first.id first.answer × Gives text moment first) (IsGivenBy id text moment)
    (λ first both. ((ap id_of (sym both.0.reads ∙ ap read_text both.1.0 ∙ reads), both.1.0), both.1.1))
    firsts (one_of_each (λ (first : KeptFirst). IsAnswerTo first.id first.answer) (Gives text moment) firsts answers answered)
final_gives log firsts text moment code id params body commands answers (inr (inr is)) reads high =
    absurd (let none : 0 ≡ code = ap code_of (sym is.reads ∙ reads) in omega (arith, none, high))

pub final_answers : (log : List Begun) (firsts : List KeptFirst) (text : List ℕ) (moment code id : ℕ) (params : List Param) (body : List ℕ) → Each IsCommand log → AreAnswers firsts
    → Tells log firsts text moment → read_text text ≡ message (messages.Response code id params body) → 200 ≤ code → OneOf (IsAnsweredBy id text) firsts
final_answers log firsts text moment code id params body commands answers tells reads high =
    one_weaker (IsGivenBy id text moment) (IsAnsweredBy id text) (λ first given. given.0) firsts (final_gives log firsts text moment code id params body commands answers tells reads high)

-- What is told again is the answer to a first with its id that is remembered.

abbrev first_of : KeptFirst → Option Found → KeptFirst
first_of other None = other
first_of other (Some found) = found.first

still_young : (now moment : ℕ) → is_young now moment ≡ true → now < moment + memory_time
still_young now moment young = (let few = ltb-true (now - moment) memory_time young in omega (arith, few))

gives_here : (first : KeptFirst) (entries : List Entry) (id now : ℕ) (found : Found) (b : Bool) → (first.id == id && is_young now first.moment) ≡ b
    → option_map (λ (x : KeptFirst). let f : Found = record { first = x; after = entries } in f) (if b then Some first else None) ≡ Some found → IsGivenBy id found.first.answer now first
gives_here first entries id now found false young is = absurd (none-some found is)
gives_here first entries id now found true young is =
    let both = and_parts (first.id == id) (is_young now first.moment) young in
    ((eqb-true first.id id both.0, ap (λ (x : KeptFirst). x.answer) (ap (first_of first) is)), still_young now first.moment both.1)

found_gives : (entries : List Entry) (id now : ℕ) (found : Found) → latest entries id now ≡ Some found → OneOf (IsGivenBy id found.first.answer now) (firsts_in entries)
unfolding latest
found_gives [] id now found is = absurd (none-some found is)
found_gives (First first ∷ entries) id now found is = by_rest (latest entries id now) refl is (found_gives entries id now) where
  by_rest : (rest : Option Found) → latest entries id now ≡ rest
      → option_or rest (option_map (λ (x : KeptFirst). let f : Found = record { first = x; after = entries } in f) (repeated (First first) id now)) ≡ Some found
      → ((other : Found) → latest entries id now ≡ Some other → OneOf (IsGivenBy id other.first.answer now) (firsts_in entries)) → OneOf (IsGivenBy id found.first.answer now) (firsts_in (First first ∷ entries))
  by_rest None none is more = inl (gives_here first entries id now found (first.id == id && is_young now first.moment) refl is)
  by_rest (Some other) some is more = inr (more found (some ∙ is))
found_gives (Confirmation spans ∷ entries) id now found is = by_rest (latest entries id now) refl is (found_gives entries id now) where
  by_rest : (rest : Option Found) → latest entries id now ≡ rest
      → option_or rest (option_map (λ (x : KeptFirst). let f : Found = record { first = x; after = entries } in f) (repeated (Confirmation spans) id now)) ≡ Some found
      → ((other : Found) → latest entries id now ≡ Some other → OneOf (IsGivenBy id other.first.answer now) (firsts_in entries)) → OneOf (IsGivenBy id found.first.answer now) (firsts_in entries)
  by_rest None none is more = absurd (none-some found is)
  by_rest (Some other) some is more = more found (some ∙ is)

abbrev answer_told : List ℕ → Looked → List ℕ
answer_told other new = other
answer_told other (repeat answer) = answer
answer_told other confirmed = other
answer_told other full = other

told_gives : (entries : List Entry) (id now : ℕ) (found : Option Found) (has_room : Bool) (answer : List ℕ) → latest entries id now ≡ found
    → told_by (option_map (recalled_from id) found) has_room ≡ repeat answer → OneOf (IsGivenBy id answer now) (firsts_in entries)
told_gives entries id now None true answer is e = absurd cc
told_gives entries id now None false answer is e = absurd cc
told_gives entries id now (Some found) has_room answer is e = by_test (recalled_from id found).confirmed e where
  by_test : (b : Bool) → (if b then confirmed else repeat found.first.answer) ≡ repeat answer → OneOf (IsGivenBy id answer now) (firsts_in entries)
  by_test true told = absurd cc
  by_test false told = subst (λ (text : List ℕ). OneOf (IsGivenBy id text now) (firsts_in entries)) (ap (answer_told answer) told) (found_gives entries id now found is)

pub repeat_gives_its_own : (limit : ℕ) (entries : List Entry) (id now : ℕ) (answer : List ℕ) → look_of limit entries id now ≡ repeat answer → OneOf (IsGivenBy id answer now) (firsts_in entries)
unfolding look_of
repeat_gives_its_own limit entries id now answer e = told_gives entries id now (latest entries id now) (nat_lt (length (young_firsts now entries)) limit) answer refl e

pub repeat_gives : (limit : ℕ) (entries : List Entry) (id now : ℕ) (answer : List ℕ) → look_of limit entries id now ≡ repeat answer → OneOf (Gives answer now) (firsts_in entries)
repeat_gives limit entries id now answer e =
    one_weaker (IsGivenBy id answer now) (Gives answer now) (λ first given. (given.0.1, given.1)) (firsts_in entries) (repeat_gives_its_own limit entries id now answer e)

-- what is sent by this moment
abbrev pub Said : List Begun → List KeptFirst → ℕ → Sent → Type 0
Said log firsts until sent = Tells log firsts (text_of sent.said) sent.moment × (sent.moment ≤ until)

pub said_on : (log more : List Begun) (firsts later : List KeptFirst) (until : ℕ) (sent : Sent) → Said log firsts until sent → Said (log ++ more) (firsts ++ later) until sent
said_on log more firsts later until sent s = (tells_on log more firsts later (text_of sent.said) sent.moment s.0, s.1)

-- the endpoints by this moment
pub record EndpointsStand (setup : Setup) (until : ℕ) (log : List Begun) (endpoints : Endpoints) : Type 0 where
  pub logged : Logged setup until log
  pub list : OnAll (LineStands setup until log) 1 endpoints.list
  pub own : OwnStands setup until log endpoints.own

-- what is done is said by the gateway's lines and itself alone
pub record ToldGoes (setup : Setup) (until : ℕ) (log : List Begun) (is : Effect Endpoints) : Type 0 where
  pub stands : EndpointsStand setup until (log ++ begun_in is.sent) is.value
  pub sent_own : Each (Own until (log ++ begun_in is.sent)) is.sent

-- what a text does
pub record TextGoes (setup : Setup) (log : List Begun) (m : Machine) (done : Effect Machine) : Type 0 where
  pub stands : EndpointsStand setup m.now (log ++ begun_in done.sent) done.value.endpoints
  pub more : List KeptFirst
  pub grown : firsts_in done.value.history ≡ firsts_in m.history ++ more
  pub answers : AreAnswers (firsts_in done.value.history)
  pub sent_says : Each (Said (log ++ begun_in done.sent) (firsts_in done.value.history) m.now) done.sent

own_said : (until : ℕ) (log : List Begun) (firsts : List KeptFirst) (sent : List Sent) → Each (Own until log) sent → Each (Said log firsts until) sent
own_said until log firsts sent own = each_weaker (Own until log) (Said log firsts until) (λ one is. (inl is.carries, is.early)) sent own

pub firsts_append : (some more : List Entry) → firsts_in (some ++ more) ≡ firsts_in some ++ firsts_in more
firsts_append [] more = refl
firsts_append (First first ∷ some) more = ap (λ (rest : List KeptFirst). first ∷ rest) (firsts_append some more)
firsts_append (Confirmation spans ∷ some) more = firsts_append some more

one_first : (m : Machine) (t : Transaction) → firsts_in (history_with m t) ≡ firsts_in m.history ++ (record { id = t.id; moment = m.now; answer = answer_text t }) ∷ []
one_first m t =
    firsts_append (m.history ++ Confirmation t.confirms ∷ []) (First (record { id = t.id; moment = m.now; answer = answer_text t }) ∷ [])
    ∙ ap (λ (x : List KeptFirst). x ++ (record { id = t.id; moment = m.now; answer = answer_text t }) ∷ []) (firsts_append m.history (Confirmation t.confirms ∷ []) ∙ append-nil (firsts_in m.history))

answer_is : (t : Transaction) → IsId t.id → IsAnswer t.done.answer → IsAnswerTo t.id (answer_text t)
answer_is t has is =
    let given = t.done.answer in
    record { code = given.code; params = given.params; body = given.body; reads = read_again (response_to t) (answer_writable t.id given has.0 has.1 is) }

endpoints_same : (setup : Setup) (until : ℕ) (log : List Begun) (endpoints : Endpoints) (sent : List Sent) → begun_in sent ≡ [] → EndpointsStand setup until log endpoints → EndpointsStand setup until (log ++ begun_in sent) endpoints
endpoints_same setup until log endpoints sent none s =
    subst (λ (x : List Begun). EndpointsStand setup until x endpoints) (sym (ap (λ (x : List Begun). log ++ x) none ∙ append-nil log)) s

still_goes : (setup : Setup) (log : List Begun) (m : Machine) (sent : List Sent) → begun_in sent ≡ [] → EndpointsStand setup m.now log m.endpoints → AreAnswers (firsts_in m.history)
    → Each (Said log (firsts_in m.history) m.now) sent → TextGoes setup log m (record { value = m; sent = sent })
still_goes setup log m sent none stands answered says =
    let same : log ≡ log ++ begun_in sent = sym (ap (λ (x : List Begun). log ++ x) none ∙ append-nil log) in
    record {
      stands = endpoints_same setup m.now log m.endpoints sent none stands;
      more = [];
      grown = sym (append-nil (firsts_in m.history));
      answers = answered;
      sent_says = subst (λ (x : List Begun). Each (Said x (firsts_in m.history) m.now) sent) same says;
    }

transacted_goes : (setup : Setup) (log : List Begun) (looked : Looked) (m : Machine) (source : SocketAddrV4) (t : Transaction) → EndpointsStand setup m.now log m.endpoints
    → AreAnswers (firsts_in m.history) → IsAnswerTo t.id (answer_text t) → ToldGoes setup m.now log t.done.told → looked ≡ look_of most_firsts m.history t.id m.now
    → TextGoes setup log m (transacted_by looked m source t)
unfolding executed
transacted_goes setup log new m source t stands answered is goes at = record {
  stands = goes.stands;
  more = kept ∷ [];
  grown = one_first m t;
  answers = subst AreAnswers (sym (one_first m t)) (each_both (λ (first : KeptFirst). IsAnswerTo first.id first.answer) (firsts_in m.history) (kept ∷ []) answered (is, tt));
  sent_says = (
    (inr (inl (subst (OneOf (Gives (answer_text t) m.now)) (sym (one_first m t)) (one_behind (Gives (answer_text t) m.now) (firsts_in m.history) (kept ∷ []) (inl (refl, omega arith))))), omega arith),
    own_said m.now (log ++ begun_in t.done.told.sent) (firsts_in (history_with m t)) t.done.told.sent goes.sent_own,
  );
} where
  kept : KeptFirst
  kept = record { id = t.id; moment = m.now; answer = answer_text t }
transacted_goes setup log (repeat text) m source t stands answered is goes at =
    still_goes setup log m (reply m source t.line (again t.id text) ∷ []) refl stands answered
    ((inr (inl (repeat_gives most_firsts m.history t.id m.now text (sym at))), omega arith), tt)
transacted_goes setup log confirmed m source t stands answered is goes at = still_goes setup log m [] refl stands answered tt
transacted_goes setup log full m source t stands answered is goes at = still_goes setup log m [] refl stands answered tt

only_goes : (setup : Setup) (log : List Begun) (until : ℕ) (endpoints : Endpoints) → EndpointsStand setup until log endpoints → ToldGoes setup until log (silently endpoints)
only_goes setup log until endpoints stands = record { stands = endpoints_same setup until log endpoints [] refl stands; sent_own = tt }

pub none_acknowledged : (now : ℕ) (source : SocketAddrV4) (code id : ℕ) (params : List Param) → begun_in (acknowledged now source code id params) ≡ []
none_acknowledged now source code id params = by_test (asks_for_acknowledgement code params) where
  by_test : (b : Bool) → begun_in (if b then (record { to = source; moment = now; owner = of_none; said = acknowledgement (messages.Response 0 id [] []) }) ∷ [] else []) ≡ []
  by_test true = refl
  by_test false = refl

acknowledged_says : (log : List Begun) (firsts : List KeptFirst) (now : ℕ) (source : SocketAddrV4) (code id : ℕ) (params : List Param) → IsId id
    → Each (Said log firsts now) (acknowledged now source code id params)
acknowledged_says log firsts now source code id params has = by_test (asks_for_acknowledgement code params) where
  by_test : (b : Bool) → Each (Said log firsts now) (if b then (record { to = source; moment = now; owner = of_none; said = acknowledgement (messages.Response 0 id [] []) }) ∷ [] else [])
  by_test true = ((inr (inr (record { id = id; reads = read_again (response_of id (plain_code 0)) (answer_writable id (plain_code 0) has.0 has.1 (code_is 0 (omega arith))) })), omega arith), tt)
  by_test false = tt

-- what a turn of the endpoints gives
from_goes : (setup : Setup) (until : ℕ) (set_up : IsSetUp setup) (log : List Begun) (is : Effect Endpoints)
    → Goes setup until (LineStands setup until) (OwnStands setup until) (Own until) (Logged setup until) (log_turns setup until set_up) log is → ToldGoes setup until log is
from_goes setup until set_up log is goes =
    record { stands = record { logged = goes.stands.log_holds; list = goes.stands.list; own = goes.stands.own }; sent_own = goes.sent }

to_stands : (setup : Setup) (until : ℕ) (set_up : IsSetUp setup) (log : List Begun) (endpoints : Endpoints) → EndpointsStand setup until log endpoints
    → Stands setup until (LineStands setup until) (OwnStands setup until) (Own until) (Logged setup until) (log_turns setup until set_up) log endpoints
to_stands setup until set_up log endpoints s = record { log_holds = s.logged; list = s.list; own = s.own }

handled_goes : (setup : Setup) (log : List Begun) (m : Machine) (source : SocketAddrV4) (outcome : Outcome) → Fits setup m → EndpointsStand setup m.now log m.endpoints
    → AreAnswers (firsts_in m.history) → IfSome (id_in outcome) IsId → TextGoes setup log m (handled setup m source outcome)
unfolding handled
handled_goes setup log m source no_header fits stands answered has = still_goes setup log m [] refl stands answered tt
handled_goes setup log m source (bad_version id) fits stands answered has =
    transacted_goes setup log _ m source (refusing m id 528) stands answered (answer_is (refusing m id 528) has (code_is 528 (omega arith))) (only_goes setup log m.now m.endpoints stands) refl
handled_goes setup log m source (bad_body id) fits stands answered has =
    transacted_goes setup log _ m source (refusing m id 510) stands answered (answer_is (refusing m id 510) has (code_is 510 (omega arith))) (only_goes setup log m.now m.endpoints stands) refl
handled_goes setup log m source (message (messages.Command verb id name params body)) fits stands answered has =
    let said : Command = record { verb = verb; name = name; params = params; body = body } in
    let t = command_with setup m id said (k_of params) in
    transacted_goes setup log _ m source t stands answered (answer_is t has (command_answered setup m id said (k_of params) fits has).is)
    (from_goes setup m.now fits.set_up log t.done.told
    (command_goes setup m.now (LineStands setup m.now) (OwnStands setup m.now) (Own m.now) (Logged setup m.now) (log_turns setup m.now fits.set_up) said (k_of params) log m.endpoints id
    (to_stands setup m.now fits.set_up log m.endpoints stands))) refl
handled_goes setup log m source (message (messages.Response code id params body)) fits stands answered has =
    let response = response_with setup id code params in
    let goes = from_goes setup m.now fits.set_up log (responded setup m.endpoints m.now response)
    (responded_goes setup m.now (LineStands setup m.now) (OwnStands setup m.now) (Own m.now) (Logged setup m.now) (log_turns setup m.now fits.set_up) log m.endpoints response
    (to_stands setup m.now fits.set_up log m.endpoints stands)) in
    let own = (responded setup m.endpoints m.now response).sent in
    let ack = acknowledged m.now source code id params in
    let same : log ++ begun_in own ≡ log ++ begun_in (ack ++ own) =
    sym (log_both log ack own ∙ ap (λ (x : List Begun). (log ++ x) ++ begun_in own) (none_acknowledged m.now source code id params) ∙ ap (λ (x : List Begun). x ++ begun_in own) (append-nil log)) in
    record {
      stands = subst (λ (x : List Begun). EndpointsStand setup m.now x (responded setup m.endpoints m.now response).value) same goes.stands;
      more = [];
      grown = sym (append-nil (firsts_in m.history));
      answers = answered;
      sent_says = each_both (Said (log ++ begun_in (ack ++ own)) (firsts_in m.history) m.now) ack own
          (acknowledged_says (log ++ begun_in (ack ++ own)) (firsts_in m.history) m.now source code id params has)
          (subst (λ (x : List Begun). Each (Said x (firsts_in m.history) m.now) own) same (own_said m.now (log ++ begun_in own) (firsts_in m.history) own goes.sent_own));
    }

texts_go : (setup : Setup) (log : List Begun) (m : Machine) (source : SocketAddrV4) (texts : List (List ℕ)) → Fits setup m → EndpointsStand setup m.now log m.endpoints
    → AreAnswers (firsts_in m.history) → TextGoes setup log m (took_all setup m source texts)
unfolding took_all
texts_go setup log m source [] fits stands answered = still_goes setup log m [] refl stands answered tt
texts_go setup log m source (text ∷ texts) fits stands answered =
    let one = handled setup m source (read_text text) in
    let first = handled_goes setup log m source (read_text text) fits stands answered (read_id text) in
    let now : one.value.now ≡ m.now = handled_now setup m source (read_text text) in
    let log' = log ++ begun_in one.sent in
    let rest = texts_go setup log' one.value source texts (handled_fits setup m source (read_text text) fits)
    (subst (λ (t : ℕ). EndpointsStand setup t log' one.value.endpoints) (sym now) first.stands) first.answers in
    let others = took_all setup one.value source texts in
    let is = sym (log_both log one.sent others.sent) in
    record {
      stands = subst (λ (x : List Begun). EndpointsStand setup m.now x others.value.endpoints) is
          (subst (λ (t : ℕ). EndpointsStand setup t (log' ++ begun_in others.sent) others.value.endpoints) now rest.stands);
      more = first.more ++ rest.more;
      grown = rest.grown ∙ ap (λ (x : List KeptFirst). x ++ rest.more) first.grown ∙ append_assoc (firsts_in m.history) first.more rest.more;
      answers = rest.answers;
      sent_says = subst (λ (x : List Begun). Each (Said x (firsts_in others.value.history) m.now) (one.sent ++ others.sent)) is
          (each_both (Said (log' ++ begun_in others.sent) (firsts_in others.value.history) m.now) one.sent others.sent
          (subst (λ (f : List KeptFirst). Each (Said (log' ++ begun_in others.sent) f m.now) one.sent) (sym rest.grown)
          (each_weaker (Said log' (firsts_in one.value.history) m.now) (Said (log' ++ begun_in others.sent) (firsts_in one.value.history ++ rest.more) m.now)
          (said_on log' (begun_in others.sent) (firsts_in one.value.history) rest.more m.now) one.sent first.sent_says))
          (subst (λ (t : ℕ). Each (Said (log' ++ begun_in others.sent) (firsts_in others.value.history) t) others.sent) now rest.sent_says));
    }

-- An event

-- what holds of a gateway whose commands began so
pub record GatewayHolds (setup : Setup) (log : List Begun) (m : Machine) : Type 0 where
  pub fits : Fits setup m
  pub stands : EndpointsStand setup m.now log m.endpoints
  pub kept : AreKept m.history
  pub answers : AreAnswers (firsts_in m.history)

pub record EventGoes (setup : Setup) (log : List Begun) (m : Machine) (done : Effect Machine) : Type 0 where
  pub holds : GatewayHolds setup (log ++ begun_in done.sent) done.value
  pub more : List KeptFirst
  pub grown : firsts_in done.value.history ≡ firsts_in m.history ++ more
  pub sent_says : Each (Said (log ++ begun_in done.sent) (firsts_in done.value.history) done.value.now) done.sent

pub flight_later : (now later : ℕ) → now ≤ later → (log : List Begun) (found : Option InFlight) → IfSome found (InLog now log) → IfSome found (InLog later log)
flight_later now later past log None is = tt
flight_later now later past log (Some flight) is = record { known = is.known; later = is.later; past = omega (arith, past, is.past) }

stands_later : (setup : Setup) (now later : ℕ) → now ≤ later → (log : List Begun) (endpoints : Endpoints) → EndpointsStand setup now log endpoints → EndpointsStand setup later log endpoints
stands_later setup now later past log endpoints s = record {
  logged = record {
    begun = each_weaker (WasBegun now) (WasBegun later) (λ b w. record { name = w.name; reads = w.reads; past = omega (arith, past, w.past) }) log s.logged.begun;
    apart = s.logged.apart;
    turns = s.logged.turns;
  };
  list = on_later (LineStands setup now log) (LineStands setup later log) 1 endpoints.list
      (λ i endpoint low is. record { sound = is.sound; post = record { below = is.post.below; counts = is.post.counts; flight = flight_later now later past log endpoint.post.pending is.post.flight } })
      s.list;
  own = record {
    sound = s.own.sound;
    post = record { below = s.own.post.below; counts = s.own.post.counts; flight = flight_later now later past log endpoints.own.pending s.own.post.flight };
  };
}

pub tick_on : (m : Machine) (moment : ℕ) → refusal_of m (tick moment) ≡ None → m.now ≤ moment
unfolding refusal_of
tick_on m moment taken = by_far (nat_lt (m.now + 1000) moment || nat_le (2 ^ 62) moment) taken where
  by_back : (b : Bool) → nat_lt moment m.now ≡ b → (if b then Some ClockBack else None) ≡ None → m.now ≤ moment
  by_back true back e = absurd (none-some ClockBack (sym e))
  by_back false forward e = ltb-false moment m.now forward

  by_far : (b : Bool) → (if b then Some TickTooFar else (if nat_lt moment m.now then Some ClockBack else None)) ≡ None → m.now ≤ moment
  by_far true e = absurd (none-some TickTooFar (sym e))
  by_far false e = by_back (nat_lt moment m.now) refl e

pub event_holds : (setup : Setup) (log : List Begun) (m : Machine) (event : GatewayEvent) → GatewayHolds setup log m → refusal_of m event ≡ None → EventGoes setup log m (effect setup m event)
unfolding effect
event_holds setup log m (datagram source bytes) h taken =
    let goes = texts_go setup log m source (texts_of bytes) h.fits h.stands h.answers in
    let now : (took_all setup m source (texts_of bytes)).value.now ≡ m.now = effect_now setup m (datagram source bytes) in
    let done = took_all setup m source (texts_of bytes) in
    record {
      holds = record {
        fits = event_fits setup m (datagram source bytes) h.fits;
        stands = subst (λ (t : ℕ). EndpointsStand setup t (log ++ begun_in done.sent) done.value.endpoints) (sym now) goes.stands;
        kept = (event_goes setup m (datagram source bytes) h.fits h.kept).kept;
        answers = goes.answers;
      };
      more = goes.more;
      grown = goes.grown;
      sent_says = subst (λ (t : ℕ). Each (Said (log ++ begun_in done.sent) (firsts_in done.value.history) t) done.sent) (sym now) goes.sent_says;
    }
event_holds setup log m (phone line act) h taken =
    let goes = from_goes setup m.now h.fits.set_up log _
    (acted_goes setup m.now (LineStands setup m.now) (OwnStands setup m.now) (Own m.now) (Logged setup m.now) (log_turns setup m.now h.fits.set_up) log m.endpoints line act (to_stands setup m.now h.fits.set_up log m.endpoints h.stands)) in
    record {
      holds = record { fits = event_fits setup m (phone line act) h.fits; stands = goes.stands; kept = h.kept; answers = h.answers };
      more = [];
      grown = sym (append-nil (firsts_in m.history));
      sent_says = own_said m.now _ (firsts_in m.history) _ goes.sent_own;
    }
event_holds setup log m (tick moment) h taken =
    let past = tick_on m moment taken in
    let goes = from_goes setup moment h.fits.set_up log _
    (pass_goes setup moment (LineStands setup moment) (OwnStands setup moment) (Own moment) (Logged setup moment) (log_turns setup moment h.fits.set_up) log m.endpoints
    (to_stands setup moment h.fits.set_up log m.endpoints (stands_later setup m.now moment past log m.endpoints h.stands))) in
    record {
      holds = record { fits = event_fits setup m (tick moment) h.fits; stands = goes.stands; kept = h.kept; answers = h.answers };
      more = [];
      grown = sym (append-nil (firsts_in m.history));
      sent_says = own_said moment _ (firsts_in m.history) _ goes.sent_own;
    }

opening_stands : (setup : Setup) → IsSetUp setup → EndpointsStand setup 0 [] (opening setup).endpoints
opening_stands setup set_up =
    let lines : setup.names.lines ≤ most_lines = set_up.lines in
    let sound = opening_is_sound setup set_up in
    record {
      logged = record { begun = tt; apart = λ few. λ i j d less none. absurd (omega arith); turns = λ few. tt };
      list = on_made (LineStands setup 0 []) (opening_endpoint setup) 1 setup.names.lines
          (λ i low high. record {
            sound = record { some = low; few = omega (arith, high, lines); below = omega arith; fine = opening_is_fine; flight = tt };
            post = record { below = omega arith; counts = λ few. record { behind = inl (begins_there setup i low); taken = tt }; flight = tt };
          });
      own = record { sound = sound.own; post = record { below = omega arith; counts = λ few. record { behind = inl (own_begins_there setup); taken = tt }; flight = tt } };
    }

pub opening_gateway : (setup : Setup) → IsSetUp setup → GatewayHolds setup [] (opening setup)
opening_gateway setup set_up = record { fits = opening_fits setup set_up; stands = opening_stands setup set_up; kept = nothing_kept setup; answers = tt }

pub gateway_forward : (m : Machine) (event : GatewayEvent) → refusal_of m event ≡ None → m.now ≤ clock_after m.now event
gateway_forward m (datagram source bytes) taken = omega arith
gateway_forward m (phone line act) taken = omega arith
gateway_forward m (tick moment) taken = tick_on m moment taken

-- What a gateway sends with a whole list of events.

pub record ListGoes (setup : Setup) (log : List Begun) (m n : Machine) (sent : List Sent) : Type 0 where
  pub holds : GatewayHolds setup (log ++ begun_in sent) n
  pub more : List KeptFirst
  pub grown : firsts_in n.history ≡ firsts_in m.history ++ more
  pub time : m.now ≤ n.now
  pub says : Each (Said (log ++ begun_in sent) (firsts_in n.history) n.now) sent

said_later : (log : List Begun) (firsts : List KeptFirst) (now later : ℕ) → now ≤ later → (sent : Sent) → Said log firsts now sent → Said log firsts later sent
said_later log firsts now later past sent s = (s.0, omega (arith, past, s.1))

events_hold : (setup : Setup) (log : List Begun) (m : Machine) (es : List GatewayEvent) → GatewayHolds setup log m → are_taken setup m es ≡ true → ListGoes setup log m (machine_after setup m es) (sent_from setup m es)
unfolding are_taken machine_after sent_from
events_hold setup log m [] h taken =
    record { holds = subst (λ (x : List Begun). GatewayHolds setup x m) (sym (append-nil log)) h; more = []; grown = sym (append-nil (firsts_in m.history)); time = omega arith; says = tt }
events_hold setup log m (e ∷ es) h taken =
    let both = and_parts (is_none (refusal_of m e)) (are_taken setup (effect setup m e).value es) taken in
    let may = is_none-None (refusal_of m e) both.0 in
    let next = (effect setup m e).value in
    let first = event_holds setup log m e h may in
    let here = (effect setup m e).sent in
    let log' = log ++ begun_in here in
    let rest = events_hold setup log' next es first.holds both.1 in
    let more = sent_from setup next es in
    let last = machine_after setup next es in
    let is = sym (log_both log here more) in
    record {
      holds = subst (λ (x : List Begun). GatewayHolds setup x last) is rest.holds;
      more = first.more ++ rest.more;
      grown = rest.grown ∙ ap (λ (x : List KeptFirst). x ++ rest.more) first.grown ∙ append_assoc (firsts_in m.history) first.more rest.more;
      time = (let past = gateway_forward m e may in let now = effect_now setup m e in omega (arith, past, now, rest.time));
      says = subst (λ (x : List Begun). Each (Said x (firsts_in last.history) last.now) (here ++ more)) is
          (each_both (Said (log' ++ begun_in more) (firsts_in last.history) last.now) here more
          (subst (λ (f : List KeptFirst). Each (Said (log' ++ begun_in more) f last.now) here) (sym rest.grown)
          (each_weaker (Said log' (firsts_in next.history) next.now) (Said (log' ++ begun_in more) (firsts_in next.history ++ rest.more) last.now)
          (λ sent s. said_later (log' ++ begun_in more) (firsts_in next.history ++ rest.more) next.now last.now rest.time sent (said_on log' (begun_in more) (firsts_in next.history) rest.more next.now sent s)) here first.sent_says))
          rest.says);
    }

pub all_hold : (setup : Setup) (es : List GatewayEvent) → IsSetUp setup → are_taken setup (opening setup) es ≡ true → ListGoes setup [] (opening setup) (plain setup es) (sent_of setup es)
all_hold setup es set_up taken = events_hold setup [] (opening setup) es (opening_gateway setup set_up) taken

pub all_apart : (setup : Setup) (es : List GatewayEvent) → IsSetUp setup → are_taken setup (opening setup) es ≡ true → HasNumbersLeft (begun_in (sent_of setup es))
    → AllPairs (λ (a b : Begun). a.id ≢ b.id) (begun_in (sent_of setup es))
all_apart setup es set_up taken few = (all_hold setup es set_up taken).holds.stands.logged.apart few
