-- What holds of each endpoint and of the gateway itself whatever happens, and of all that they send: what does at each turn.
use Rattle.std.proofs.Common.{◌≡◌, ◌≢◌, ℕ, zero, suc, ◌+◌, ◌-◌, ◌<◌, ◌≤◌, Bool, true, false, ◌==◌, if◌then◌else◌, List, [], ◌∷◌, codes, Option, Some, None, Result, Ok, Err, inl, inr, refl, sym, ap, ◌∙◌, subst, arith}
use Rattle.std.specs.Prelude.{◌⊎◌, All, IfSome, map, slice_get, slice_set, option_and_then}
use Rattle.std.specs.List.{range_with_len}
use Rattle.std.proofs.lemmas.Bool.Decides.{nat_tests}
use Rattle.std.proofs.lemmas.List.Elements.{All-nil, All-append}
use Rattle.std.proofs.lemmas.Option.{none-some}
use Rattle.std.specs.declared.net.socket_addr.SocketAddrV4.{SocketAddrV4}
use Rattle.transmission.specs.Memory.{most_firsts}
use Rattle.transmission.specs.Looking.{Looked, new, repeat, confirmed, full, look_of}
use Rattle.endpoint_names.specs.declared.entity.Entity.{Entity}
use Rattle.endpoint_names.specs.Entity.{entity_of}
use Rattle.mgcp_text.specs.declared.message.Message.TheVariants as messages
use Rattle.mgcp_text.specs.declared.confirmation.KValue.{KValue}
use Rattle.mgcp_text.specs.declared.message.Param.{Param}
use Rattle.mgcp_text.specs.Message.{param_at}
use Rattle.mgcp_text.specs.Confirmation.{k_of}
use Rattle.mgcp_text.specs.Reading.{Outcome, message, no_header, bad_version, bad_body, read_text}
use Rattle.command_forms.specs.declared.forms.Asks.{Asks}
use Rattle.command_forms.specs.declared.forms.Asks.TheVariants.{Reports, Does}
use Rattle.command_forms.specs.declared.forms.Deed.{Deed}
use Rattle.command_forms.specs.declared.forms.Target.{Target}
use Rattle.command_forms.specs.declared.forms.Target.TheVariants.{One, All as AllLines, Any}
use Rattle.command_forms.specs.Command.{Command}
use Rattle.command_forms.specs.Order.{form_of, form_while}
use Rattle.command_forms.proofs.RestartLemmas.{while_taken, while_none}
use Rattle.mg_line.specs.declared.phone.Act.{Act}
use Rattle.retransmission.specs.declared.repeat.Repeat.{Repeat}
use Rattle.retransmission.specs.declared.repeat.Repeat.TheVariants.{Sent as SentAgain, GivenUp}
use Rattle.retransmission.specs.declared.reply.Reply.{Reply}
use Rattle.retransmission.specs.declared.reply.Reply.TheVariants as replies
use Rattle.retransmission.specs.Flight.{InFlight, repeat_of, reply_of}
use Rattle.retransmission.specs.declared.restart.Restart.{Restart}
use Rattle.retransmission.specs.declared.restart.Restart.TheVariants.{Waiting, Announced, Serving}
use Rattle.retransmission.specs.declared.heard.Heard.{Heard}
use Rattle.retransmission.specs.declared.heard.Heard.TheVariants.{Nothing, PutOff, Redirected, Answered}
use Rattle.retransmission.specs.Restarting.{is_serving, answer_by, answer_of, heard_of}
use Rattle.timers.specs.declared.kind.DueKind.{DueKind}
use Rattle.timers.specs.declared.kind.DueKind.TheVariants.{OfLine, Resend, Announce}
use Rattle.timers.specs.declared.due_item.DueItem.{DueItem}
use Rattle.plain_machine.specs.declared.post.Post.{Post}
use Rattle.plain_machine.specs.declared.response.Response.{Response}
use Rattle.plain_machine.specs.declared.setup.Setup.{Setup}
use Rattle.plain_machine.specs.declared.endpoint.Endpoint.{Endpoint}
use Rattle.plain_machine.specs.Effect.{Effect, silently, effect_map, afterwards}
use Rattle.plain_machine.specs.Event.{GatewayEvent, datagram, phone, tick}
use Rattle.plain_machine.specs.Message.{Sent}
use Rattle.plain_machine.specs.Posting.{line_of_id, repeated_as, resent_by}
use Rattle.plain_machine.specs.Announcing.{announced, announced_by, heard_by, heard_on, replied, replied_on}
use Rattle.plain_machine.specs.Machine.{Endpoints, Machine, serves, endpoint_at, with_turn, turned_at, on_line, with_own, on_own, on_lines}
use Rattle.transmission.specs.Texts.{texts_of}
use Rattle.plain_machine.specs.Acting.{acted_on, acted}
use Rattle.plain_machine.specs.Falling.{due_by, happened_on, happened_under, happened, go_on, passed, room, pass}
use Rattle.plain_machine.specs.Done.{Done}
use Rattle.plain_machine.specs.Requesting.{refused_by, deed_on, lines_meant, unless_refused, deed_done, line_with_place, done_there, done_for}
use Rattle.plain_machine.specs.Commanding.{done_by, commanded}
use Rattle.plain_machine.specs.Responding.{response_with, responded_on, redirected_on, opened_on, on_all, lines_told, own_heard, responded}
use Rattle.plain_machine.specs.Answering.{Transaction, executed, transacted_by, handled, took_all}
use Rattle.plain_machine.specs.Happening.{effect}
use Rattle.plain_machine.specs.Lists.{machine_after}
use Rattle.machine_laws.proofs.AllLemmas.{OnAll, Gives, AllGone, all_go}

-- Of all endpoints, whose lines are numbered from here

pub on_one : (P : ℕ → Endpoint → Type 0) (n : ℕ) (list : List Endpoint) (place : ℕ) (endpoint : Endpoint) → OnAll P n list → slice_get list place ≡ Some endpoint
    → P (n + place) endpoint
on_one P n [] place endpoint all at = absurd (none-some endpoint at)
on_one P n (first ∷ list) zero endpoint all at =
    let same : first ≡ endpoint = (cc) in
    let here : n ≡ n + zero = omega arith in
    subst (λ (i : ℕ). P i endpoint) here (subst (P n) same all.0)
on_one P n (first ∷ list) (suc place) endpoint all at =
    let here : n + 1 + place ≡ n + suc place = omega arith in
    subst (λ (i : ℕ). P i endpoint) here (on_one P (n + 1) list place endpoint all.1 at)

on_set : (P : ℕ → Endpoint → Type 0) (n : ℕ) (list : List Endpoint) (place : ℕ) (endpoint : Endpoint) → OnAll P n list → P (n + place) endpoint
    → OnAll P n (slice_set list place endpoint)
on_set P n [] place endpoint all is = tt
on_set P n (first ∷ list) zero endpoint all is =
    let here : n + zero ≡ n = omega arith in
    (subst (λ (i : ℕ). P i endpoint) here is, all.1)
on_set P n (first ∷ list) (suc place) endpoint all is =
    let here : n + suc place ≡ n + 1 + place = omega arith in
    (all.0, on_set P (n + 1) list place endpoint all.1 (subst (λ (i : ℕ). P i endpoint) here is))

pub on_made : (P : ℕ → Endpoint → Type 0) (made : ℕ → Endpoint) (n count : ℕ) → ((i : ℕ) → n ≤ i → i < n + count → P i (made i))
    → OnAll P n (map made (range_with_len n count))
on_made P made n zero each = tt
on_made P made n (suc count) each =
    (each n (omega arith) (omega arith), on_made P made (n + 1) count (λ i low high. each i (omega (arith, low)) (omega (arith, high))))

-- Whom a response names

-- the entity of some text
abbrev pub IsEntity : Setup → Entity → Type 0
IsEntity setup entity = (text : List ℕ) × (entity_of setup.names.table text ≡ Some entity)

-- whom it names was read
abbrev pub IsRead : Setup → Response → Type 0
IsRead setup response = IfSome response.entity (IsEntity setup)

abbrev pub HeardRead : Setup → Heard → Type 0
HeardRead setup Nothing = Unit {0}
HeardRead setup PutOff = Unit {0}
HeardRead setup (Redirected agent) = IsEntity setup agent
HeardRead setup (Answered agent) = IfSome agent (IsEntity setup)

pub heard_read : (setup : Setup) (post : Post) (response : Response) → IsRead setup response → HeardRead setup (heard_on post response)
heard_read setup post response read = by_pending post.pending where
  by_code : (b : Bool) (agent : Entity) → IsEntity setup agent → HeardRead setup (if b then Redirected agent else Answered (Some agent))
  by_code true agent is = is
  by_code false agent is = is

  by_entity : (entity : Option Entity) → IfSome entity (IsEntity setup) → HeardRead setup (answer_by response.code entity)
  by_entity None is = tt
  by_entity (Some agent) is = by_code (response.code == 521) agent is

  by_restart : (restart : Restart) → HeardRead setup (answer_of restart response.code response.entity)
  by_restart (Waiting until) = tt
  by_restart Announced = by_entity response.entity read
  by_restart Serving = tt

  by_reply : (reply : Reply) → HeardRead setup (heard_of post.restart reply response.code response.entity)
  by_reply replies.Stranger = tt
  by_reply replies.Provisional = tt
  by_reply replies.Answered = by_restart post.restart

  by_pending : (pending : Option InFlight) → HeardRead setup (heard_by pending post.restart response)
  by_pending None = tt
  by_pending (Some flight) = by_reply (reply_of flight response.id response.code)

pub response_read : (setup : Setup) (id code : ℕ) (params : List Param) → IsRead setup (response_with setup id code params)
response_read setup id code params = by_value (param_at (codes "N") params) where
  by_entity : (text : List ℕ) (entity : Option Entity) → entity_of setup.names.table text ≡ entity → IfSome entity (IsEntity setup)
  by_entity text None e = tt
  by_entity text (Some entity) e = (text, e)

  by_value : (found : Option Param) → IfSome (option_and_then (λ param. entity_of setup.names.table param.value) found) (IsEntity setup)
  by_value None = tt
  by_value (Some param) = by_entity param.value (entity_of setup.names.table param.value) refl

-- A turn

abbrev pub Good : (ℕ → Endpoint → Type 0) → (Sent → Type 0) → ℕ → Effect Endpoint → Type 0
Good P Q line turn = Gives (P line) Q turn

-- each turn keeps what holds of the endpoint, while the gateway serves and while it doesn't yet, and what it sends is so; the
-- answer to the gateway's announcement makes what holds while it serves
pub record Turns (setup : Setup) (P : Bool → ℕ → Endpoint → Type 0) (Q : Sent → Type 0) : Type 0 where
  pub act : (serving : Bool) (line moment : ℕ) (act : Act) (endpoint : Endpoint) → P serving line endpoint → Good (P serving) Q line (acted_on setup line moment act endpoint)
  pub deed : (command : Command) (confirms : KValue) (target : Target) (deed : Deed) → form_of command confirms setup.names ≡ Ok (Does target deed)
      → (line moment : ℕ) (endpoint : Endpoint) → P true line endpoint → Good (P true) Q line (deed_on setup deed moment line endpoint)
  pub response : (serving : Bool) (line moment : ℕ) (response : Response) (endpoint : Endpoint) → IsRead setup response → P serving line endpoint
      → Good (P serving) Q line (responded_on setup line moment response endpoint)
  pub happening : (serving : Bool) (due : DueKind) (line moment : ℕ) (endpoint : Endpoint) → P serving line endpoint → Good (P serving) Q line (happened_on due setup line moment endpoint)
  pub redirecting : (agent : Entity) (line : ℕ) (endpoint : Endpoint) → IsEntity setup agent → P false line endpoint → Good (P false) Q line (redirected_on agent line endpoint)
  pub opening : (agent : Option Entity) (line moment : ℕ) (endpoint : Endpoint) → IfSome agent (IsEntity setup) → P false line endpoint
      → Good (P true) Q line (opened_on agent setup moment line endpoint)

-- what holds whether or not it serves
abbrev pub Always : (ℕ → Endpoint → Type 0) → Bool → ℕ → Endpoint → Type 0
Always P serving line endpoint = P line endpoint

-- while the gateway serves it has nothing in flight
abbrev pub IsFree : Post → Type 0
IsFree own = is_serving own.restart ≡ true → own.pending ≡ None

-- it is all the same whether the gateway serves
abbrev pub IsEqual : (Bool → ℕ → Endpoint → Type 0) → Type 0
IsEqual P = (serving other : Bool) (line : ℕ) (endpoint : Endpoint) → P serving line endpoint → P other line endpoint

-- and so does each turn of the gateway itself
pub record OwnTurns (setup : Setup) (P : Bool → ℕ → Endpoint → Type 0) (R : Post → Type 0) (Q : Sent → Type 0) : Type 1 where
  pub free : (own : Post) → R own → IsFree own ⊎ IsEqual P
  pub response : (moment : ℕ) (response : Response) (own : Post) → IsRead setup response → R own
      → Gives R Q (replied_on setup 0 moment response own)
  pub happening : (due : DueKind) (moment : ℕ) (own : Post) → R own → Gives R Q (happened_under due setup 0 moment own)

-- what falls due of the gateway itself leaves it serving, or not yet
pub happening_serves : (setup : Setup) (due : DueKind) (moment : ℕ) (own : Post) → IsFree own → is_serving (happened_under due setup 0 moment own).value.restart ≡ is_serving own.restart
unfolding happened_under announced
happening_serves setup (OfLine due) moment own free = refl
happening_serves setup Resend moment own free = by_serving (is_serving own.restart) refl where
  by_repeat : (flight : InFlight) (repeat : Repeat) → is_serving own.restart ≡ false → is_serving (repeated_as repeat setup 0 moment own flight).value.restart ≡ is_serving own.restart
  by_repeat flight SentAgain e = refl
  by_repeat flight GivenUp e = sym e

  by_pending : (pending : Option InFlight) → is_serving own.restart ≡ false → is_serving (resent_by pending setup 0 moment own).value.restart ≡ is_serving own.restart
  by_pending None e = refl
  by_pending (Some flight) e = by_repeat flight (repeat_of flight moment) e

  by_serving : (b : Bool) → is_serving own.restart ≡ b → is_serving (resent_by own.pending setup 0 moment own).value.restart ≡ is_serving own.restart
  by_serving true e = ap (λ (pending : Option InFlight). is_serving (resent_by pending setup 0 moment own).value.restart) (free e)
  by_serving false e = by_pending own.pending e
happening_serves setup Announce moment own free = by_restart own.restart where
  by_restart : (restart : Restart) → is_serving (announced_by restart setup 0 moment (record own { restart = restart })).value.restart ≡ is_serving restart
  by_restart (Waiting until) = refl
  by_restart Announced = refl
  by_restart Serving = refl

-- of all endpoints, and of the gateway itself
pub record Holds (P : Bool → ℕ → Endpoint → Type 0) (R : Post → Type 0) (endpoints : Endpoints) : Type 0 where
  pub list : OnAll (P (serves endpoints)) 1 endpoints.list
  pub own : R endpoints.own

-- the endpoints after it, and what is sent
pub record GoesOn (P : Bool → ℕ → Endpoint → Type 0) (R : Post → Type 0) (Q : Sent → Type 0) (is : Effect Endpoints) : Type 0 where
  pub holds : Holds P R is.value
  pub sent : All Q is.sent

-- the endpoint of a line
pub of_line : (P : ℕ → Endpoint → Type 0) (endpoints : Endpoints) (line : ℕ) (endpoint : Endpoint) → OnAll P 1 endpoints.list → endpoint_at endpoints line ≡ Some endpoint
    → P line endpoint
of_line P endpoints line endpoint all at = by_zero (line == 0) refl at where
  one_more : (line == 0) ≡ false → 1 + (line - 1) ≡ line
  one_more some = grind (arith, nat_tests)

  by_zero : (b : Bool) → (line == 0) ≡ b → (if b then None else slice_get endpoints.list (line - 1)) ≡ Some endpoint → P line endpoint
  by_zero true e at = absurd (none-some endpoint at)
  by_zero false e at = subst (λ (i : ℕ). P i endpoint) (one_more e) (on_one P 1 endpoints.list (line - 1) endpoint all at)

turned : (P : Bool → ℕ → Endpoint → Type 0) (R : Post → Type 0) (Q : Sent → Type 0) (endpoints : Endpoints) (line : ℕ) (endpoint : Endpoint) (turn : Effect Endpoint) → Holds P R endpoints
    → endpoint_at endpoints line ≡ Some endpoint → Good (P (serves endpoints)) Q line turn → GoesOn P R Q (with_turn endpoints line turn)
turned P R Q endpoints line endpoint turn all at good = by_zero (line == 0) refl at where
  one_more : (line == 0) ≡ false → line ≡ 1 + (line - 1)
  one_more some = grind (arith, nat_tests)

  by_zero : (b : Bool) → (line == 0) ≡ b → (if b then None else slice_get endpoints.list (line - 1)) ≡ Some endpoint → GoesOn P R Q (with_turn endpoints line turn)
  by_zero true e at = absurd (none-some endpoint at)
  by_zero false e at =
      record {
        holds = record { list = on_set (P (serves endpoints)) 1 endpoints.list (line - 1) turn.value all.list (subst (λ (i : ℕ). P (serves endpoints) i turn.value) (one_more e) good.0); own = all.own };
        sent = good.1;
      }

module _ (setup : Setup) (P : Bool → ℕ → Endpoint → Type 0) (R : Post → Type 0) (Q : Sent → Type 0) (turns : Turns setup P Q) (own_turns : OwnTurns setup P R Q) where
  stays : (endpoints : Endpoints) → Holds P R endpoints → GoesOn P R Q (silently endpoints)
  stays endpoints all = record { holds = all; sent = All-nil Q }

  -- what holds of all endpoints holds of them whether or not the gateway serves
  moved : (serving other : Bool) → IsEqual P → (n : ℕ) (list : List Endpoint) → OnAll (P serving) n list → OnAll (P other) n list
  moved serving other equal n [] all = tt
  moved serving other equal n (endpoint ∷ list) all = (equal serving other n endpoint all.0, moved serving other equal (n + 1) list all.1)

  -- one line has a turn
  turned_goes : (endpoints : Endpoints) (line : ℕ) (turn : Endpoint → Effect Endpoint) → Holds P R endpoints
      → ((endpoint : Endpoint) → P (serves endpoints) line endpoint → Good (P (serves endpoints)) Q line (turn endpoint)) → GoesOn P R Q (on_line endpoints line turn)
  unfolding on_line
  turned_goes endpoints line turn all good = by_endpoint (endpoint_at endpoints line) refl where
    by_endpoint : (found : Option Endpoint) → endpoint_at endpoints line ≡ found → GoesOn P R Q (turned_at found endpoints line turn)
    by_endpoint None e = stays endpoints all
    by_endpoint (Some endpoint) e = turned P R Q endpoints line endpoint _ all e (good endpoint (of_line (P (serves endpoints)) endpoints line endpoint all.list e))

  -- it leaves the post of the gateway itself
  own_kept : (endpoints : Endpoints) (line : ℕ) (turn : Endpoint → Effect Endpoint) → (on_line endpoints line turn).value.own ≡ endpoints.own
  unfolding on_line
  own_kept endpoints line turn = by_endpoint (endpoint_at endpoints line) where
    by_endpoint : (found : Option Endpoint) → (turned_at found endpoints line turn).value.own ≡ endpoints.own
    by_endpoint None = refl
    by_endpoint (Some endpoint) = refl

  -- several lines have theirs
  several_go : (serving : Bool) (lines : List ℕ) (endpoints : Endpoints) (turn : ℕ → Endpoint → Effect Endpoint) → serves endpoints ≡ serving → Holds P R endpoints
      → ((line : ℕ) (endpoint : Endpoint) → P serving line endpoint → Good (P serving) Q line (turn line endpoint)) → GoesOn P R Q (on_lines lines endpoints turn)
  unfolding on_lines
  several_go serving [] endpoints turn is all good = stays endpoints all
  several_go serving (line ∷ lines) endpoints turn is all good =
      let here = subst (λ (b : Bool). (endpoint : Endpoint) → P b line endpoint → Good (P b) Q line (turn line endpoint)) (sym is) (good line) in
      let first = turned_goes endpoints line (turn line) all here in
      let still : serves (on_line endpoints line (turn line)).value ≡ serving = ap (λ (own : Post). is_serving own.restart) (own_kept endpoints line (turn line)) ∙ is in
      let rest = several_go serving lines (on_line endpoints line (turn line)).value turn still first.holds good in
      record { holds = rest.holds; sent = All-append Q (on_line endpoints line (turn line)).sent _ first.sent rest.sent }

  pub acted_goes : (endpoints : Endpoints) (line moment : ℕ) (act : Act) → Holds P R endpoints → GoesOn P R Q (acted setup endpoints line moment act)
  acted_goes endpoints line moment act all = turned_goes endpoints line (acted_on setup line moment act) all (turns.act (serves endpoints) line moment act)

  -- A response

  -- to the gateway itself, by what it is
  abbrev OwnAs : Heard → Endpoints → ℕ → Response → Effect Post
  OwnAs heard endpoints moment response = replied heard setup 0 moment response endpoints.own

  abbrev HeardAs : Heard → Endpoints → ℕ → Response → Effect Endpoints
  HeardAs heard endpoints moment response =
      afterwards (effect_map (with_own endpoints) (OwnAs heard endpoints moment response)) (λ next. lines_told heard setup moment next)

  -- the lines have their turns after it
  then_all : (serving : Bool) (first : Effect Endpoints) (turn : ℕ → Endpoint → Effect Endpoint) → serves first.value ≡ serving → R first.value.own → All Q first.sent
      → AllGone (P serving) Q first.value (on_all first.value turn) → GoesOn P R Q (afterwards first (λ next. on_all next turn))
  then_all serving first turn is own sent gone =
      let same : serves (on_all first.value turn).value ≡ serving = ap (λ (own : Post). is_serving own.restart) gone.own ∙ is in
      record {
        holds = record { list = subst (λ (b : Bool). OnAll (P b) 1 (on_all first.value turn).value.list) (sym same) gone.list; own = subst R (sym gone.own) own };
        sent = All-append Q first.sent _ sent gone.sent;
      }

  own_heard_goes : (endpoints : Endpoints) (moment : ℕ) (response : Response) → IsRead setup response → Holds P R endpoints → GoesOn P R Q (own_heard setup endpoints moment response)
  unfolding replied_on replied announced
  own_heard_goes endpoints moment response read all =
      by_heard (heard_on endpoints.own response) refl (heard_read setup endpoints.own response read) (own_turns.response moment response endpoints.own read all.own) where
        -- where it serves nothing is in flight
        not_serving : (heard : Heard) → IsFree endpoints.own → heard_on endpoints.own response ≡ heard → heard ≢ Nothing → serves endpoints ≡ false
        not_serving heard free e some = by_serving (serves endpoints) refl where
          by_serving : (b : Bool) → serves endpoints ≡ b → b ≡ false
          by_serving true is = absurd (some (sym e ∙ ap (λ (pending : Option InFlight). heard_by pending endpoints.own.restart response) (free is)))
          by_serving false is = refl

        closed : (heard : Heard) → heard_on endpoints.own response ≡ heard → heard ≢ Nothing → OnAll (P false) 1 endpoints.list
        closed heard e some = by_free (own_turns.free endpoints.own all.own) where
          by_free : (IsFree endpoints.own ⊎ IsEqual P) → OnAll (P false) 1 endpoints.list
          by_free (inl free) = subst (λ (b : Bool). OnAll (P b) 1 endpoints.list) (not_serving heard free e some) all.list
          by_free (inr equal) = moved (serves endpoints) false equal 1 endpoints.list all.list

        by_heard : (heard : Heard) → heard_on endpoints.own response ≡ heard → HeardRead setup heard
            → Gives R Q (OwnAs heard endpoints moment response) → GoesOn P R Q (HeardAs heard endpoints moment response)
        by_heard Nothing e named goes =
            record { holds = record { list = all.list; own = goes.0 }; sent = All-append Q (OwnAs Nothing endpoints moment response).sent [] goes.1 (All-nil Q) }
        by_heard PutOff e named goes =
            record { holds = record { list = all.list; own = goes.0 }; sent = All-append Q (OwnAs PutOff endpoints moment response).sent [] goes.1 (All-nil Q) }
        by_heard (Redirected agent) e named goes =
            let first : Effect Endpoints = effect_map (with_own endpoints) (OwnAs (Redirected agent) endpoints moment response) in
            let apart : Redirected agent ≢ Nothing = λ same. absurd cc in
            then_all false first (redirected_on agent) refl goes.0 goes.1
            (all_go (P false) (P false) Q (redirected_on agent) (λ line endpoint holds. turns.redirecting agent line endpoint named holds) first.value (closed (Redirected agent) e apart))
        by_heard (Answered agent) e named goes =
            let first : Effect Endpoints = effect_map (with_own endpoints) (OwnAs (Answered agent) endpoints moment response) in
            let apart : Answered agent ≢ Nothing = λ same. absurd cc in
            then_all true first (opened_on agent setup moment) refl goes.0 goes.1
            (all_go (P false) (P true) Q (opened_on agent setup moment) (λ line endpoint holds. turns.opening agent line moment endpoint named holds) first.value
            (closed (Answered agent) e apart))

  pub responded_goes : (endpoints : Endpoints) (moment : ℕ) (response : Response) → IsRead setup response → Holds P R endpoints → GoesOn P R Q (responded setup endpoints moment response)
  responded_goes endpoints moment response read all = by_test (line_of_id response.id == 0) where
    by_test : (b : Bool) → GoesOn P R Q (if b then own_heard setup endpoints moment response
        else on_line endpoints (line_of_id response.id) (responded_on setup (line_of_id response.id) moment response))
    by_test true = own_heard_goes endpoints moment response read all
    by_test false = turned_goes endpoints (line_of_id response.id) (responded_on setup (line_of_id response.id) moment response) all
        (λ endpoint holds. turns.response (serves endpoints) (line_of_id response.id) moment response endpoint read holds)

  -- What falls due

  pub happened_goes : (endpoints : Endpoints) (item : DueItem) → Holds P R endpoints → GoesOn P R Q (happened setup endpoints item)
  happened_goes endpoints item all = by_test (item.line == 0) where
    after : Bool
    after = is_serving (happened_under item.kind setup 0 item.moment endpoints.own).value.restart

    by_free : (IsFree endpoints.own ⊎ IsEqual P) → OnAll (P after) 1 endpoints.list
    by_free (inl free) = subst (λ (b : Bool). OnAll (P b) 1 endpoints.list) (sym (happening_serves setup item.kind item.moment endpoints.own free)) all.list
    by_free (inr equal) = moved (serves endpoints) after equal 1 endpoints.list all.list

    by_test : (b : Bool) → GoesOn P R Q (if b then on_own endpoints (happened_under item.kind setup 0 item.moment) else on_line endpoints item.line (happened_on item.kind setup item.line item.moment))
    by_test true =
        let goes = own_turns.happening item.kind item.moment endpoints.own all.own in
        record { holds = record { list = by_free (own_turns.free endpoints.own all.own); own = goes.0 }; sent = goes.1 }
    by_test false = turned_goes endpoints item.line (happened_on item.kind setup item.line item.moment) all (turns.happening (serves endpoints) item.kind item.line item.moment)

  passed_goes : (n : ℕ) (endpoints : Endpoints) (moment : ℕ) → Holds P R endpoints → GoesOn P R Q (passed n setup endpoints moment)
  unfolding passed
  passed_goes zero endpoints moment all = stays endpoints all
  passed_goes (suc n) endpoints moment all = by_due (due_by endpoints moment)
      (λ item. passed_goes n (happened setup endpoints item).value moment (happened_goes endpoints item all).holds) where
        by_due : (found : Option DueItem) → ((item : DueItem) → GoesOn P R Q (passed n setup (happened setup endpoints item).value moment))
            → GoesOn P R Q (go_on found setup endpoints (λ next. passed n setup next moment))
        by_due None rest = stays endpoints all
        by_due (Some item) rest = record {
          holds = (rest item).holds;
          sent = All-append Q (happened setup endpoints item).sent _ (happened_goes endpoints item all).sent (rest item).sent;
        }

  pub pass_goes : (endpoints : Endpoints) (moment : ℕ) → Holds P R endpoints → GoesOn P R Q (pass setup endpoints moment)
  unfolding pass
  pass_goes endpoints moment all = passed_goes (room endpoints moment) endpoints moment all

  -- a command
  abbrev DoneGoes : Done → Type 0
  DoneGoes done = GoesOn P R Q done.told

  unless_goes : (refusal : Option ℕ) (endpoints : Endpoints) (done : Done) → Holds P R endpoints → DoneGoes done → DoneGoes (unless_refused refusal endpoints done)
  unless_goes None endpoints done all goes = goes
  unless_goes (Some code) endpoints done all goes = stays endpoints all

  abbrev DeedGoes : Deed → Type 0
  DeedGoes deed = (line moment : ℕ) (endpoint : Endpoint) → P true line endpoint → Good (P true) Q line (deed_on setup deed moment line endpoint)

  deed_goes : (endpoints : Endpoints) (lines : Target) (more : List Param) (deed : Deed) (moment : ℕ) → serves endpoints ≡ true → Holds P R endpoints → DeedGoes deed
      → DoneGoes (deed_done setup endpoints lines more deed moment)
  deed_goes endpoints lines more deed moment is all good =
      unless_goes (refused_by endpoints lines deed) endpoints _ all
      (several_go true (lines_meant endpoints lines) endpoints _ is all (λ line endpoint. good line moment endpoint))

  target_goes : (endpoints : Endpoints) (target : Target) (deed : Deed) (moment : ℕ) → serves endpoints ≡ true → Holds P R endpoints → DeedGoes deed
      → DoneGoes (done_for setup endpoints target deed moment)
  target_goes endpoints (One line) deed moment is all good = deed_goes endpoints (One line) [] deed moment is all good
  target_goes endpoints AllLines deed moment is all good = deed_goes endpoints AllLines [] deed moment is all good
  target_goes endpoints Any deed moment is all good = by_line (line_with_place endpoints) where
    by_line : (found : Option ℕ) → DoneGoes (done_there found setup endpoints deed moment)
    by_line None = stays endpoints all
    by_line (Some line) = deed_goes endpoints (One line) _ deed moment is all good

  form_goes : (serving : Bool) (command : Command) (confirms : KValue) (asks : Result Asks ℕ) → form_while serving command confirms setup.names ≡ asks
      → (endpoints : Endpoints) (moment id : ℕ) → serves endpoints ≡ serving → Holds P R endpoints → DoneGoes (done_by asks setup endpoints moment id)
  form_goes serving command confirms (Err code) is endpoints moment id same all = stays endpoints all
  form_goes serving command confirms (Ok (Reports target audit)) is endpoints moment id same all = stays endpoints all
  form_goes false command confirms (Ok (Does target deed)) is endpoints moment id same all = absurd (while_none command confirms setup.names target deed is)
  form_goes true command confirms (Ok (Does target deed)) is endpoints moment id same all =
      target_goes endpoints target deed moment same all (turns.deed command confirms target deed (while_taken true command confirms setup.names (Does target deed) is))

  pub command_goes : (command : Command) (confirms : KValue) (endpoints : Endpoints) (moment id : ℕ) → Holds P R endpoints
      → DoneGoes (commanded setup endpoints moment id command confirms)
  command_goes command confirms endpoints moment id all =
      form_goes (serves endpoints) command confirms (form_while (serves endpoints) command confirms setup.names) refl endpoints moment id refl all

  -- an event
  transacted_on_all : (looked : Looked) (m : Machine) (source : SocketAddrV4) (t : Transaction) → Holds P R m.endpoints → Holds P R t.done.told.value
      → Holds P R (transacted_by looked m source t).value.endpoints
  unfolding executed
  transacted_on_all new m source t all after = after
  transacted_on_all (repeat text) m source t all after = all
  transacted_on_all confirmed m source t all after = all
  transacted_on_all full m source t all after = all

  pub handled_on_all : (m : Machine) (source : SocketAddrV4) (outcome : Outcome) → Holds P R m.endpoints
      → Holds P R (handled setup m source outcome).value.endpoints
  unfolding handled
  handled_on_all m source no_header all = all
  handled_on_all m source (bad_version id) all = transacted_on_all (look_of most_firsts m.history id m.now) m source _ all all
  handled_on_all m source (bad_body id) all = transacted_on_all (look_of most_firsts m.history id m.now) m source _ all all
  handled_on_all m source (message (messages.Command verb id name params body)) all =
      transacted_on_all (look_of most_firsts m.history id m.now) m source _ all
      (command_goes (record { verb = verb; name = name; params = params; body = body }) (k_of params) m.endpoints m.now id all).holds
  handled_on_all m source (message (messages.Response code id params body)) all =
      (responded_goes m.endpoints m.now (response_with setup id code params) (response_read setup id code params) all).holds

  pub took_on_all : (m : Machine) (source : SocketAddrV4) (texts : List (List ℕ)) → Holds P R m.endpoints
      → Holds P R (took_all setup m source texts).value.endpoints
  unfolding took_all
  took_on_all m source [] all = all
  took_on_all m source (text ∷ texts) all =
      took_on_all (handled setup m source (read_text text)).value source texts (handled_on_all m source (read_text text) all)

  pub event_on_all : (m : Machine) (event : GatewayEvent) → Holds P R m.endpoints → Holds P R (effect setup m event).value.endpoints
  unfolding effect
  event_on_all m (datagram source bytes) all = took_on_all m source (texts_of bytes) all
  event_on_all m (phone line act) all = (acted_goes m.endpoints line m.now act all).holds
  event_on_all m (tick moment) all = (pass_goes m.endpoints moment all).holds

  pub events_on_all : (m : Machine) (events : List GatewayEvent) → Holds P R m.endpoints → Holds P R (machine_after setup m events).endpoints
  unfolding machine_after
  events_on_all m [] all = all
  events_on_all m (event ∷ events) all = events_on_all (effect setup m event).value events (event_on_all m event all)
