-- What announcements do: when the gateway serves, and what becomes of a line that gave up.
use Rattle.std.proofs.Common.{◌≡◌, ℕ, ◌+◌, ◌≤◌, Bool, true, false, ◌==◌, if◌then◌else◌, List, [], ◌∷◌, ◌++◌, Option, Some, None, refl, sym, ap, subst, ◌∙◌, arith, ◌≢◌, zero, suc, Result, Ok, Err}
use Rattle.std.specs.Prelude.{option_map}
use Rattle.std.proofs.lemmas.Bool.Decides.{Decides-eqb}
use Rattle.std.specs.declared.net.socket_addr.SocketAddrV4.{SocketAddrV4}
use Rattle.mgcp_text.specs.declared.message.Message.TheVariants as messages
use Rattle.mgcp_text.specs.declared.message.Param.{Param}
use Rattle.transmission.specs.Acknowledging.{asks_for_acknowledgement}
use Rattle.command_forms.specs.declared.forms.Target.TheVariants.{All, One, All as AllLines, Any}
use Rattle.command_forms.specs.Meaning.{is_for, meant}
use Rattle.mg_line.specs.declared.phone.Act.{Act}
use Rattle.retransmission.specs.declared.heard.Heard.{Heard}
use Rattle.retransmission.specs.declared.heard.Heard.TheVariants.{Nothing, PutOff, Redirected, Answered}
use Rattle.plain_machine.specs.declared.post.Post.{Post}
use Rattle.plain_machine.specs.declared.response.Response.{Response}
use Rattle.plain_machine.specs.declared.setup.Setup.{Setup}
use Rattle.plain_machine.specs.declared.endpoint.Endpoint.{Endpoint}
use Rattle.plain_machine.specs.Effect.{Effect, silently, afterwards, effect_map}
use Rattle.plain_machine.specs.Message.{of_none, acknowledgement, Sent}
use Rattle.plain_machine.specs.Posting.{line_of_id, id_on, wait_of, with_command, repeated_as, resent_by, resent_on}
use Rattle.plain_machine.specs.Machine.{Endpoints, endpoint_at, on_line, on_own, Machine, serves, opening, with_own}
use Rattle.plain_machine.specs.Acting.{acted_on, acted}
use Rattle.plain_machine.specs.Announcing.{heard_on, replied_on, announcement, announced, announced_by, announced_on, heard_by, replied}
use Rattle.plain_machine.specs.Falling.{post_due, pass, command_item, announcement_item, due_by, happened_under, happened_on, happened, go_on, passed, room}
use Rattle.plain_machine.specs.Responding.{acknowledged, response_with, responded_on, redirected_on, opened_on, on_all, lines_told, own_heard, responded, heard_from}
use Rattle.machine_laws.proofs.OwningLemmas.{own_stays, passing_from, OwnedBy, of_both, turn_if, sent_by, LineTurns, silent_stays, silent_sends, on_one_line, on_many_lines, acted_owned, responded_owned, redirected_owned, opened_owned, own_stays as several_own}
use Rattle.machine_laws.proofs.FlightLaws.{own_stays_at as own_stays_on, Orders, OwnOrders, own_free, orders_on, orders_happened, orders_handled, all_order, is_own, own_stays_at}
use Rattle.machine_laws.specs.Belonging.{of_line}
use Rattle.machine_laws.specs.Passing.{seen, PassesAlone, line_due, line_happens, own_happens}
use Rattle.machine_laws.proofs.PassLemmas.{passes_once, line_passes, own_passes}
use Rattle.std.proofs.lemmas.Option.{none-some}
use Rattle.endpoint_names.specs.declared.entity.Entity.{Entity}
use Rattle.transmission.specs.Memory.{most_firsts}
use Rattle.transmission.specs.Looking.{Looked, new, repeat, confirmed, full, look_of}
use Rattle.mgcp_text.specs.declared.confirmation.KValue.{KValue}
use Rattle.mgcp_text.specs.Answer.{plain_code}
use Rattle.mgcp_text.specs.Confirmation.{k_of}
use Rattle.mgcp_text.specs.Reading.{Outcome, message, no_header, bad_version, bad_body, read_text}
use Rattle.command_forms.specs.declared.forms.Asks.{Asks}
use Rattle.command_forms.specs.declared.forms.Asks.TheVariants.{Reports, Does}
use Rattle.command_forms.specs.declared.forms.Target.{Target}
use Rattle.command_forms.specs.declared.refused.Refused.{Refused}
use Rattle.command_forms.specs.Codes.{Audits}
use Rattle.command_forms.specs.Command.{Command}
use Rattle.command_forms.specs.declared.verbs.Meant.{Meant}
use Rattle.command_forms.specs.Order.{form_of, form_while}
use Rattle.command_forms.proofs.RestartLemmas.{while_named, while_deed, while_audit, while_none}
use Rattle.retransmission.specs.declared.repeat.Repeat.{Repeat}
use Rattle.retransmission.specs.declared.repeat.Repeat.TheVariants.{GivenUp}
use Rattle.retransmission.specs.declared.reply.Reply.{Reply}
use Rattle.retransmission.specs.declared.reply.Reply.TheVariants as replies
use Rattle.retransmission.specs.Flight.{InFlight, repeat_of, reply_of}
use Rattle.retransmission.specs.declared.restart.Restart.{Restart}
use Rattle.retransmission.specs.declared.restart.Restart.TheVariants.{Waiting, Announced, Serving}
use Rattle.retransmission.specs.Restarting.{announced_at, is_serving, answer_by, answer_of, heard_of}
use Rattle.mg_line.specs.Answering.{answered}
use Rattle.timers.specs.declared.kind.DueKind.TheVariants.{Announce}
use Rattle.timers.specs.declared.due_item.DueItem.{DueItem}
use Rattle.timers.specs.Order.{earlier}
use Rattle.command_forms.specs.declared.forms.Deed.{Deed}
use Rattle.plain_machine.specs.Event.{GatewayEvent, datagram, phone, tick}
use Rattle.transmission.specs.Texts.{texts_of}
use Rattle.plain_machine.specs.Done.{Done}
use Rattle.plain_machine.specs.Requesting.{refused_by, deed_on, lines_meant, unless_refused, deed_done, line_with_place, done_there, done_for}
use Rattle.plain_machine.specs.Commanding.{done_by, commanded}
use Rattle.plain_machine.specs.Answering.{Transaction, executed, transacted_by, handled, took_all}
use Rattle.plain_machine.specs.Happening.{effect}
use Rattle.plain_machine.specs.Lists.{machine_after, plain}
use Rattle.plain_machine.specs.Flights.{OwnIsInOrder, OwnInOrderBy}
use Rattle.plain_machine.proofs.ListLaws.{machine_on}
use Rattle.machine_laws.proofs.TurnLemmas.{Holds, happening_serves}

-- Two gateways that are alike in a line, and in what they keep for themselves, go on so.

-- they have the same line, and the same of their own
pub record AreAlike (line : ℕ) (one other : Endpoints) : Type 0 where
  pub own : other.own ≡ one.own
  pub endpoint : endpoint_at other line ≡ endpoint_at one line

-- and the line sends the same
pub record ToldAlike (line : ℕ) (one other : Effect Endpoints) : Type 0 where
  pub endpoints : AreAlike line one.value other.value
  pub sent : of_line line one.sent ≡ of_line line other.sent

pub nothing_told : (line : ℕ) (one other : Endpoints) → AreAlike line one other → ToldAlike line (silently one) (silently other)
nothing_told line one other alike = record { endpoints = alike; sent = refl }

-- the same turn on both
pub turn_alike : (line : ℕ) (one other : Endpoints) (turn : Endpoint → Effect Endpoint) (is was : Effect Endpoints) → AreAlike line one other
    → LineTurns line one turn is → LineTurns line other turn was → is.value.own ≡ one.own → was.value.own ≡ other.own → ToldAlike line is was
turn_alike line one other turn is was alike here there own own' = record {
  endpoints = record {
    own = own' ∙ alike.own ∙ sym own;
    endpoint = there.endpoint ∙ ap (option_map (λ (s : Endpoint). (turn s).value)) alike.endpoint ∙ sym here.endpoint;
  };
  sent = here.sent ∙ ap (sent_by turn) (sym alike.endpoint) ∙ sym there.sent;
}

-- one thing after another
pub afterwards_alike : (line : ℕ) (first other : Effect Endpoints) (next : Endpoints → Effect Endpoints) → ToldAlike line first other
    → ToldAlike line (next first.value) (next other.value) → ToldAlike line (afterwards first next) (afterwards other next)
afterwards_alike line first other next alike rest = record {
  endpoints = rest.endpoints;
  sent = of_both line first.sent (next first.value).sent
      ∙ ap (λ (x : List Sent). x ++ of_line line (next first.value).sent) alike.sent
      ∙ ap (λ (x : List Sent). of_line line other.sent ++ x) rest.sent
      ∙ sym (of_both line other.sent (next other.value).sent);
}

module _ (setup : Setup) (line : ℕ) where
  -- what comes to one line
  one_line_alike : (one other : Endpoints) (n : ℕ) (turn : Endpoint → Effect Endpoint) → ((s : Endpoint) → OwnedBy n (turn s).sent) → AreAlike line one other
      → ToldAlike line (on_line one n turn) (on_line other n turn)
  one_line_alike one other n turn owned alike =
      turn_alike line one other (turn_if (n == line) turn) (on_line one n turn) (on_line other n turn) alike
      (on_one_line one line n turn owned) (on_one_line other line n turn owned) (own_stays_on one n turn) (own_stays_on other n turn)

  -- and to all of them
  all_alike : (one other : Endpoints) (turn : ℕ → Endpoint → Effect Endpoint) → ((n : ℕ) (s : Endpoint) → OwnedBy n (turn n s).sent) → AreAlike line one other
      → ToldAlike line (on_all one turn) (on_all other turn)
  all_alike one other turn owned alike =
      turn_alike line one other (turn_if true (turn line)) (on_all one turn) (on_all other turn) alike
      (on_many_lines (is_for All) turn owned one line) (on_many_lines (is_for All) turn owned other line)
      (own_stays (passing_from (is_for All) 1 one.list) one turn) (own_stays (passing_from (is_for All) 1 other.list) other turn)

  pub acted_alike : (one other : Endpoints) (n moment : ℕ) (act : Act) → AreAlike line one other
      → ToldAlike line (acted setup one n moment act) (acted setup other n moment act)
  acted_alike one other n moment act alike = one_line_alike one other n (acted_on setup n moment act) (acted_owned setup n moment act) alike

  -- an act on another line is none of this
  pub acted_elsewhere : (one other : Endpoints) (n moment : ℕ) (act : Act) → (n == line) ≡ false → AreAlike line one other
      → ToldAlike line (acted setup one n moment act) (silently other)
  acted_elsewhere one other n moment act apart alike =
      let turns : LineTurns line one silently (acted setup one n moment act) =
      subst (λ (b : Bool). LineTurns line one (turn_if b (acted_on setup n moment act)) (acted setup one n moment act)) apart
      (on_one_line one line n (acted_on setup n moment act) (acted_owned setup n moment act)) in
      turn_alike line one other silently (acted setup one n moment act) (silently other) alike turns
      (record { endpoint = silent_stays (endpoint_at other line); sent = sym (silent_sends (endpoint_at other line)) })
      (own_stays_on one n (acted_on setup n moment act)) refl

  -- Responses

  lines_told_alike : (heard : Heard) (one other : Endpoints) (moment : ℕ) → AreAlike line one other
      → ToldAlike line (lines_told heard setup moment one) (lines_told heard setup moment other)
  lines_told_alike Nothing one other moment alike = nothing_told line one other alike
  lines_told_alike PutOff one other moment alike = nothing_told line one other alike
  lines_told_alike (Redirected agent) one other moment alike = all_alike one other (redirected_on agent) (redirected_owned agent) alike
  lines_told_alike (Answered agent) one other moment alike = all_alike one other (opened_on agent setup moment) (opened_owned agent setup moment) alike

  own_turn_alike : (one other : Endpoints) (moment : ℕ) (response : Response) → AreAlike line one other
      → ToldAlike line (on_own one (replied_on setup 0 moment response)) (on_own other (replied_on setup 0 moment response))
  own_turn_alike one other moment response alike = record {
    endpoints = record { own = ap (λ (own : Post). (replied_on setup 0 moment response own).value) alike.own; endpoint = alike.endpoint };
    sent = ap (λ (own : Post). of_line line (replied_on setup 0 moment response own).sent) (sym alike.own);
  }

  own_heard_alike : (one other : Endpoints) (moment : ℕ) (response : Response) → AreAlike line one other
      → ToldAlike line (own_heard setup one moment response) (own_heard setup other moment response)
  own_heard_alike one other moment response alike =
      let heard : Heard = heard_on one.own response in
      let same : heard_on other.own response ≡ heard = ap (λ (own : Post). heard_on own response) alike.own in
      let first = own_turn_alike one other moment response alike in
      subst (λ (h : Heard). ToldAlike line (own_heard setup one moment response)
      (afterwards (on_own other (replied_on setup 0 moment response)) (λ next. lines_told h setup moment next))) (sym same)
      (afterwards_alike line (on_own one (replied_on setup 0 moment response)) (on_own other (replied_on setup 0 moment response))
      (λ next. lines_told heard setup moment next) first
      (lines_told_alike heard (on_own one (replied_on setup 0 moment response)).value (on_own other (replied_on setup 0 moment response)).value moment first.endpoints))

  responded_alike : (one other : Endpoints) (moment : ℕ) (response : Response) → AreAlike line one other
      → ToldAlike line (responded setup one moment response) (responded setup other moment response)
  responded_alike one other moment response alike = by_test (line_of_id response.id == 0) where
    n : ℕ
    n = line_of_id response.id

    by_test : (b : Bool) → ToldAlike line
        (if b then own_heard setup one moment response else on_line one n (responded_on setup n moment response))
        (if b then own_heard setup other moment response else on_line other n (responded_on setup n moment response))
    by_test true = own_heard_alike one other moment response alike
    by_test false = one_line_alike one other n (responded_on setup n moment response) (responded_owned setup n moment response) alike

  none_acknowledged : (moment : ℕ) (source : SocketAddrV4) (code id : ℕ) (params : List Param) → of_line line (acknowledged moment source code id params) ≡ []
  none_acknowledged moment source code id params = by_test (asks_for_acknowledgement code params) where
    by_test : (b : Bool)
        → of_line line (if b then (record { to = source; moment = moment; owner = of_none; said = acknowledgement (messages.Response 0 id [] []) }) ∷ [] else []) ≡ []
    by_test true = refl
    by_test false = refl

  pub behind_acknowledged : (moment : ℕ) (source : SocketAddrV4) (code id : ℕ) (params : List Param) (sent : List Sent)
      → of_line line (acknowledged moment source code id params ++ sent) ≡ of_line line sent
  behind_acknowledged moment source code id params sent =
      of_both line (acknowledged moment source code id params) sent
      ∙ ap (λ (x : List Sent). x ++ of_line line sent) (none_acknowledged moment source code id params)

  pub heard_alike : (one other : Endpoints) (moment : ℕ) (source : SocketAddrV4) (code id : ℕ) (params : List Param) → AreAlike line one other
      → ToldAlike line (heard_from setup one moment source code id params) (heard_from setup other moment source code id params)
  heard_alike one other moment source code id params alike =
      let h = responded_alike one other moment (response_with setup id code params) alike in
      record {
        endpoints = h.endpoints;
        sent = behind_acknowledged moment source code id params (responded setup one moment (response_with setup id code params)).sent ∙ h.sent
            ∙ sym (behind_acknowledged moment source code id params (responded setup other moment (response_with setup id code params)).sent);
      }

  -- A tick

  own_passed : (one other : Endpoints) (moment : ℕ) → AreAlike line one other
      → seen (λ (e : Endpoints). e.own) 0 (pass setup other moment)
      ≡ seen (λ (e : Endpoints). e.own) 0 (pass setup one moment)
  own_passed one other moment alike =
      passes_once (post_due 0) (own_happens setup) moment one.own _ _
      (subst (λ (own : Post). PassesAlone (post_due 0) (own_happens setup) moment own
      (seen (λ (e : Endpoints). e.own) 0 (pass setup other moment))) alike.own (own_passes setup moment other))
      (own_passes setup moment one)

  line_passed : (one other : Endpoints) (moment : ℕ) → 1 ≤ line → AreAlike line one other
      → seen (λ (e : Endpoints). endpoint_at e line) line (pass setup other moment)
      ≡ seen (λ (e : Endpoints). endpoint_at e line) line (pass setup one moment)
  line_passed one other moment some alike =
      passes_once (line_due line) (line_happens setup line) moment (endpoint_at one line) _ _
      (subst (λ (found : Option Endpoint). PassesAlone (line_due line) (line_happens setup line) moment found
      (seen (λ (e : Endpoints). endpoint_at e line) line (pass setup other moment))) alike.endpoint (line_passes setup line moment some other))
      (line_passes setup line moment some one)

  pub pass_alike : (one other : Endpoints) (moment : ℕ) → AreAlike line one other → ToldAlike line (pass setup one moment) (pass setup other moment)
  pass_alike one other moment alike = by_zero (line == 0) refl where
    own : seen (λ (e : Endpoints). e.own) 0 (pass setup other moment)
        ≡ seen (λ (e : Endpoints). e.own) 0 (pass setup one moment)
    own = own_passed one other moment alike

    by_zero : (b : Bool) → (line == 0) ≡ b → ToldAlike line (pass setup one moment) (pass setup other moment)
    by_zero true e =
        let none : line ≡ 0 = (Decides-eqb line 0).0 e in
        subst (λ (n : ℕ). ToldAlike n (pass setup one moment) (pass setup other moment)) (sym none)
        (record {
          endpoints = record { own = ap (λ (t : Effect Post). t.value) own; endpoint = refl };
          sent = sym (ap (λ (t : Effect Post). t.sent) own);
        })
    by_zero false e =
        let apart : line ≡ 0 → ⊥ = λ none. (let t : (line == 0) ≡ true = (Decides-eqb line 0).1 none in cc) in
        let mine = line_passed one other moment (omega (arith, apart)) alike in
        record {
          endpoints = record { own = ap (λ (t : Effect Post). t.value) own; endpoint = ap (λ (t : Effect (Option Endpoint)). t.value) mine };
          sent = sym (ap (λ (t : Effect (Option Endpoint)). t.sent) mine);
        }

-- The gateway's own stays, but at what comes to it

same_own : (endpoints others : Endpoints) → others.own ≡ endpoints.own → serves others ≡ serves endpoints
same_own endpoints others same = ap (λ (own : Post). is_serving own.restart) same

pub act_serves : (setup : Setup) (endpoints : Endpoints) (line moment : ℕ) (act : Act) → serves (acted setup endpoints line moment act).value ≡ serves endpoints
act_serves setup endpoints line moment act = same_own endpoints (acted setup endpoints line moment act).value (own_stays_at endpoints line (acted_on setup line moment act))

unless_own : (refusal : Option ℕ) (endpoints : Endpoints) (done : Done) → done.told.value.own ≡ endpoints.own → (unless_refused refusal endpoints done).told.value.own ≡ endpoints.own
unless_own None endpoints done same = same
unless_own (Some code) endpoints done same = refl

pub deed_own : (setup : Setup) (endpoints : Endpoints) (lines : Target) (more : List Param) (deed : Deed) (moment : ℕ)
    → (deed_done setup endpoints lines more deed moment).told.value.own ≡ endpoints.own
deed_own setup endpoints lines more deed moment =
    unless_own (refused_by endpoints lines deed) endpoints _ (several_own (lines_meant endpoints lines) endpoints (deed_on setup deed moment))

target_own : (setup : Setup) (endpoints : Endpoints) (target : Target) (deed : Deed) (moment : ℕ) → (done_for setup endpoints target deed moment).told.value.own ≡ endpoints.own
target_own setup endpoints (One line) deed moment = deed_own setup endpoints (One line) [] deed moment
target_own setup endpoints AllLines deed moment = deed_own setup endpoints AllLines [] deed moment
target_own setup endpoints Any deed moment = by_line (line_with_place endpoints) where
  by_line : (found : Option ℕ) → (done_there found setup endpoints deed moment).told.value.own ≡ endpoints.own
  by_line None = refl
  by_line (Some line) = deed_own setup endpoints (One line) _ deed moment

pub asks_own : (asks : Result Asks ℕ) (setup : Setup) (endpoints : Endpoints) (moment id : ℕ) → (done_by asks setup endpoints moment id).told.value.own ≡ endpoints.own
asks_own (Err code) setup endpoints moment id = refl
asks_own (Ok (Reports target audit)) setup endpoints moment id = refl
asks_own (Ok (Does target deed)) setup endpoints moment id = target_own setup endpoints target deed moment

pub deed_serves : (setup : Setup) (endpoints : Endpoints) (moment id : ℕ) (command : Command) (confirms : KValue)
    → serves (commanded setup endpoints moment id command confirms).told.value ≡ serves endpoints
deed_serves setup endpoints moment id command confirms =
    same_own endpoints (commanded setup endpoints moment id command confirms).told.value (asks_own (form_while (serves endpoints) command confirms setup.names) setup endpoints moment id)

pub due_serves : (setup : Setup) (endpoints : Endpoints) (item : DueItem) → OwnIsInOrder endpoints.own → serves (happened setup endpoints item).value ≡ serves endpoints
due_serves setup endpoints item order = by_test (item.line == 0) where
  by_test : (b : Bool) → serves (if b then on_own endpoints (happened_under item.kind setup 0 item.moment) else on_line endpoints item.line (happened_on item.kind setup item.line item.moment)).value ≡ serves endpoints
  by_test true = happening_serves setup item.kind item.moment endpoints.own (own_free endpoints.own order)
  by_test false =
      same_own endpoints (on_line endpoints item.line (happened_on item.kind setup item.line item.moment)).value
      (own_stays_at endpoints item.line (happened_on item.kind setup item.line item.moment))

-- The answer

-- the gateway itself after a response, by what that is
told_own : (heard : Heard) (setup : Setup) (moment : ℕ) (endpoints : Endpoints) → (lines_told heard setup moment endpoints).value.own ≡ endpoints.own
told_own Nothing setup moment endpoints = refl
told_own PutOff setup moment endpoints = refl
told_own (Redirected agent) setup moment endpoints = several_own (lines_meant endpoints AllLines) endpoints (redirected_on agent)
told_own (Answered agent) setup moment endpoints = several_own (lines_meant endpoints AllLines) endpoints (opened_on agent setup moment)

-- whether it serves then
abbrev ServesAfter : Heard → Bool → Bool
ServesAfter Nothing was = was
ServesAfter PutOff was = was
ServesAfter (Redirected agent) was = false
ServesAfter (Answered agent) was = true

heard_serves : (setup : Setup) (endpoints : Endpoints) (moment : ℕ) (response : Response)
    → serves (own_heard setup endpoints moment response).value ≡ ServesAfter (heard_on endpoints.own response) (serves endpoints)
unfolding replied_on replied announced
heard_serves setup endpoints moment response = by_heard (heard_on endpoints.own response) where
  by_heard : (heard : Heard) → is_serving (afterwards (effect_map (with_own endpoints) (replied heard setup 0 moment response endpoints.own)) (λ next. lines_told heard setup moment next)).value.own.restart
      ≡ ServesAfter heard (serves endpoints)
  by_heard Nothing = refl
  by_heard PutOff = refl
  by_heard (Redirected agent) = ap (λ (own : Post). is_serving own.restart) (told_own (Redirected agent) setup moment (with_own endpoints (replied (Redirected agent) setup 0 moment response endpoints.own).value))
  by_heard (Answered agent) = ap (λ (own : Post). is_serving own.restart) (told_own (Answered agent) setup moment (with_own endpoints (replied (Answered agent) setup 0 moment response endpoints.own).value))

pub answer_serves : (setup : Setup) (endpoints : Endpoints) (moment : ℕ) (response : Response) (agent : Option Entity) → line_of_id response.id ≡ 0
    → heard_on endpoints.own response ≡ Answered agent → serves (responded setup endpoints moment response).value ≡ true
answer_serves setup endpoints moment response agent none is =
    ap (λ (told : Effect Endpoints). serves told.value) (is_own setup endpoints moment response none)
    ∙ heard_serves setup endpoints moment response ∙ ap (λ (heard : Heard). ServesAfter heard (serves endpoints)) is

pub other_serves_not : (setup : Setup) (endpoints : Endpoints) (moment : ℕ) (response : Response) → serves endpoints ≡ false
    → ((agent : Option Entity) → heard_on endpoints.own response ≢ Answered agent) → serves (responded setup endpoints moment response).value ≡ false
other_serves_not setup endpoints moment response closed other = by_test (line_of_id response.id == 0) where
  by_heard : (heard : Heard) → heard_on endpoints.own response ≡ heard → ServesAfter heard (serves endpoints) ≡ false
  by_heard Nothing e = closed
  by_heard PutOff e = closed
  by_heard (Redirected agent) e = refl
  by_heard (Answered agent) e = absurd (other agent e)

  by_test : (b : Bool) → serves (if b then own_heard setup endpoints moment response
      else on_line endpoints (line_of_id response.id) (responded_on setup (line_of_id response.id) moment response)).value ≡ false
  by_test true = heard_serves setup endpoints moment response ∙ by_heard (heard_on endpoints.own response) refl
  by_test false =
      same_own endpoints (on_line endpoints (line_of_id response.id) (responded_on setup (line_of_id response.id) moment response)).value
      (own_stays_at endpoints (line_of_id response.id) (responded_on setup (line_of_id response.id) moment response)) ∙ closed

-- a response to a gateway that serves, in order
response_lasts : (setup : Setup) (endpoints : Endpoints) (moment : ℕ) (response : Response) → OwnIsInOrder endpoints.own → serves endpoints ≡ true
    → serves (responded setup endpoints moment response).value ≡ true
response_lasts setup endpoints moment response order served = by_test (line_of_id response.id == 0) where
  nothing : heard_on endpoints.own response ≡ Nothing
  nothing = ap (λ (p : Option InFlight). heard_by p endpoints.own.restart response) (own_free endpoints.own order served)

  by_test : (b : Bool) → serves (if b then own_heard setup endpoints moment response
      else on_line endpoints (line_of_id response.id) (responded_on setup (line_of_id response.id) moment response)).value ≡ true
  by_test true = heard_serves setup endpoints moment response ∙ ap (λ (heard : Heard). ServesAfter heard (serves endpoints)) nothing ∙ served
  by_test false =
      same_own endpoints (on_line endpoints (line_of_id response.id) (responded_on setup (line_of_id response.id) moment response)).value
      (own_stays_at endpoints (line_of_id response.id) (responded_on setup (line_of_id response.id) moment response)) ∙ served

-- Whatever happens

-- in order, and serving
record Lasts (endpoints : Endpoints) : Type 0 where
  order : Holds Orders OwnOrders endpoints
  served : serves endpoints ≡ true

passed_serves : (n : ℕ) (setup : Setup) (endpoints : Endpoints) (moment : ℕ) → Lasts endpoints → serves (passed n setup endpoints moment).value ≡ true
unfolding passed
passed_serves zero setup endpoints moment lasts = lasts.served
passed_serves (suc n) setup endpoints moment lasts = by_due (due_by endpoints moment)
    (λ item. passed_serves n setup (happened setup endpoints item).value moment (record {
      order = orders_happened setup endpoints item lasts.order;
      served = due_serves setup endpoints item lasts.order.own.order ∙ lasts.served;
    })) where
      by_due : (found : Option DueItem) → ((item : DueItem) → serves (passed n setup (happened setup endpoints item).value moment).value ≡ true)
          → serves (go_on found setup endpoints (λ next. passed n setup next moment)).value ≡ true
      by_due None rest = lasts.served
      by_due (Some item) rest = rest item

-- what holds of the endpoints stays at a text, where it does at what a command asks for and at a response
transacted_keeps : (P : Endpoints → Type 0) (looked : Looked) (m : Machine) (source : SocketAddrV4) (t : Transaction) → P m.endpoints → P t.done.told.value
    → P (transacted_by looked m source t).value.endpoints
unfolding executed
transacted_keeps P new m source t was is = is
transacted_keeps P (repeat text) m source t was is = was
transacted_keeps P confirmed m source t was is = was
transacted_keeps P full m source t was is = was

pub text_keeps : (setup : Setup) (P : Endpoints → Type 0) (m : Machine) (source : SocketAddrV4) (outcome : Outcome)
    → ((asks : Result Asks ℕ) (id : ℕ) → P (done_by asks setup m.endpoints m.now id).told.value)
    → ((code id : ℕ) (params : List Param) (body : List ℕ) → outcome ≡ message (messages.Response code id params body)
    → P (responded setup m.endpoints m.now (response_with setup id code params)).value) → P m.endpoints → P (handled setup m source outcome).value.endpoints
unfolding handled
text_keeps setup P m source no_header asked hears was = was
text_keeps setup P m source (bad_version id) asked hears was = transacted_keeps P (look_of most_firsts m.history id m.now) m source _ was was
text_keeps setup P m source (bad_body id) asked hears was = transacted_keeps P (look_of most_firsts m.history id m.now) m source _ was was
text_keeps setup P m source (message (messages.Command verb id name params body)) asked hears was =
    let said : Command = record { verb = verb; name = name; params = params; body = body } in
    transacted_keeps P (look_of most_firsts m.history id m.now) m source _ was (asked (form_while (serves m.endpoints) said (k_of params) setup.names) id)
text_keeps setup P m source (message (messages.Response code id params body)) asked hears was = hears code id params body refl

handled_serves : (setup : Setup) (m : Machine) (source : SocketAddrV4) (outcome : Outcome) → Lasts m.endpoints → serves (handled setup m source outcome).value.endpoints ≡ true
handled_serves setup m source outcome lasts =
    text_keeps setup (λ (endpoints : Endpoints). serves endpoints ≡ true) m source outcome
    (λ asks id. same_own m.endpoints (done_by asks setup m.endpoints m.now id).told.value (asks_own asks setup m.endpoints m.now id) ∙ lasts.served)
    (λ code id params body is. response_lasts setup m.endpoints m.now (response_with setup id code params) lasts.order.own.order lasts.served) lasts.served

took_serves : (setup : Setup) (m : Machine) (source : SocketAddrV4) (texts : List (List ℕ)) → Lasts m.endpoints → serves (took_all setup m source texts).value.endpoints ≡ true
unfolding took_all
took_serves setup m source [] lasts = lasts.served
took_serves setup m source (text ∷ texts) lasts =
    took_serves setup (handled setup m source (read_text text)).value source texts
    (record { order = orders_handled setup m source (read_text text) lasts.order; served = handled_serves setup m source (read_text text) lasts })

event_serves : (setup : Setup) (m : Machine) (event : GatewayEvent) → Lasts m.endpoints → serves (effect setup m event).value.endpoints ≡ true
unfolding effect pass
event_serves setup m (datagram source bytes) lasts = took_serves setup m source (texts_of bytes) lasts
event_serves setup m (phone line act) lasts = act_serves setup m.endpoints line m.now act ∙ lasts.served
event_serves setup m (tick moment) lasts = passed_serves (room m.endpoints moment) setup m.endpoints moment lasts

events_serve : (setup : Setup) (m : Machine) (events : List GatewayEvent) → Lasts m.endpoints → serves (machine_after setup m events).endpoints ≡ true
unfolding machine_after
events_serve setup m [] lasts = lasts.served
events_serve setup m (event ∷ events) lasts =
    events_serve setup (effect setup m event).value events (record { order = orders_on setup m event lasts.order; served = event_serves setup m event lasts })

pub serving_lasts : (setup : Setup) (before events : List GatewayEvent) → serves (plain setup before).endpoints ≡ true → serves (plain setup (before ++ events)).endpoints ≡ true
serving_lasts setup before events served =
    ap (λ (m : Machine). serves m.endpoints) (machine_on setup (opening setup) before events)
    ∙ events_serve setup (plain setup before) events (record { order = all_order setup before; served = served })

pub is_redirected : (post : Post) (flight : InFlight) (response : Response) (agent : Entity) → post.restart ≡ Announced → post.pending ≡ Some flight
    → reply_of flight response.id response.code ≡ replies.Answered → response.code ≡ 521 → response.entity ≡ Some agent → heard_on post response ≡ Redirected agent
is_redirected post flight response agent announced pending answered code named =
    let is : (response.code == 521) ≡ true = (Decides-eqb response.code 521).1 code in
    ap (λ (p : Option InFlight). heard_by p post.restart response) pending
    ∙ ap (λ (reply : Reply). heard_of post.restart reply response.code response.entity) answered
    ∙ ap (λ (restart : Restart). answer_of restart response.code response.entity) announced
    ∙ ap (answer_by response.code) named
    ∙ ap (λ (b : Bool). if b then Redirected agent else Answered (Some agent)) is

-- Commands while it doesn't serve

pub nothing_done : (setup : Setup) (endpoints : Endpoints) (moment id : ℕ) (command : Command) (confirms : KValue) → serves endpoints ≡ false
    → (commanded setup endpoints moment id command confirms).told ≡ silently endpoints
nothing_done setup endpoints moment id command confirms closed =
    by_asks (form_while (serves endpoints) command confirms setup.names) (ap (λ (b : Bool). form_while b command confirms setup.names) (sym closed)) where
      by_asks : (asks : Result Asks ℕ) → form_while false command confirms setup.names ≡ asks → (done_by asks setup endpoints moment id).told ≡ silently endpoints
      by_asks (Err code) is = refl
      by_asks (Ok (Reports target audit)) is = refl
      by_asks (Ok (Does target deed)) is = absurd (while_none command confirms setup.names target deed is)

by_form : (setup : Setup) (endpoints : Endpoints) (moment id : ℕ) (command : Command) (confirms : KValue) (asks : Result Asks ℕ)
    → form_while (serves endpoints) command confirms setup.names ≡ asks → commanded setup endpoints moment id command confirms ≡ done_by asks setup endpoints moment id
by_form setup endpoints moment id command confirms asks is = ap (λ (a : Result Asks ℕ). done_by a setup endpoints moment id) is

pub name_refused : (setup : Setup) (endpoints : Endpoints) (moment id : ℕ) (command : Command) (confirms : KValue) (refused : Refused) → meant command setup.names ≡ Err refused
    → (commanded setup endpoints moment id command confirms).answer ≡ plain_code refused.code
name_refused setup endpoints moment id command confirms refused is =
    ap (λ (done : Done). done.answer) (by_form setup endpoints moment id command confirms (Err refused.code) (while_named (serves endpoints) command confirms setup.names refused is))

pub deed_refused : (setup : Setup) (endpoints : Endpoints) (moment id : ℕ) (command : Command) (confirms : KValue) (found : Meant) → serves endpoints ≡ false
    → meant command setup.names ≡ Ok found → (Audits command.verb → ⊥) → (commanded setup endpoints moment id command confirms).answer ≡ plain_code 405
deed_refused setup endpoints moment id command confirms found closed is other =
    ap (λ (done : Done). done.answer) (by_form setup endpoints moment id command confirms (Err 405)
    (ap (λ (b : Bool). form_while b command confirms setup.names) closed ∙ while_deed command confirms setup.names found is other))

pub audit_served : (setup : Setup) (endpoints : Endpoints) (moment id : ℕ) (command : Command) (confirms : KValue) → Audits command.verb
    → commanded setup endpoints moment id command confirms ≡ done_by (form_of command confirms setup.names) setup endpoints moment id
audit_served setup endpoints moment id command confirms audits =
    by_form setup endpoints moment id command confirms (form_of command confirms setup.names) (while_audit (serves endpoints) command confirms setup.names audits)

pub all_served : (setup : Setup) (endpoints : Endpoints) (moment id : ℕ) (command : Command) (confirms : KValue) → serves endpoints ≡ true
    → commanded setup endpoints moment id command confirms ≡ done_by (form_of command confirms setup.names) setup endpoints moment id
all_served setup endpoints moment id command confirms served =
    by_form setup endpoints moment id command confirms (form_of command confirms setup.names) (ap (λ (b : Bool). form_while b command confirms setup.names) served)

-- An announcement goes on

pub waits_due : (line until : ℕ) (post : Post) → post.restart ≡ Waiting until → post.pending ≡ None
    → post_due line post ≡ Some (record { moment = until; line = line; kind = Announce })
unfolding post_due
waits_due line until post waits none =
    ap (λ (p : Option InFlight). earlier (option_map (command_item line) p) (option_map (announcement_item line) (announced_at post.restart))) none
    ∙ ap (λ (r : Restart). option_map (announcement_item line) (announced_at r)) waits

pub own_falls_due : (own : Post) → OwnIsInOrder own → is_serving own.restart ≡ false → post_due 0 own ≢ None
unfolding post_due
own_falls_due own order closed = by_restart own.restart order closed where
  DueAs : Restart → Option InFlight → Option DueItem
  DueAs restart pending = earlier (option_map (command_item 0) pending) (option_map (announcement_item 0) (announced_at restart))

  by_restart : (restart : Restart) → OwnInOrderBy restart own.pending → is_serving restart ≡ false → DueAs restart own.pending ≢ None
  by_restart (Waiting until) order closed = λ none. none-some _ (sym none ∙ ap (DueAs (Waiting until)) order)
  by_restart Announced order closed = λ none. none-some _ (sym none ∙ ap (DueAs Announced) order.flies)
  by_restart Serving order closed = absurd cc

pub waits_sent : (setup : Setup) (line moment until : ℕ) (post : Post) → post.restart ≡ Waiting until
    → announced_on setup line moment post ≡ with_command line moment (record post { restart = Announced }) (announcement setup line (id_on line post.number))
unfolding announced
waits_sent setup line moment until post waits = ap (λ (r : Restart). announced_by r setup line moment post) waits

pub waits_anew : (setup : Setup) (line moment : ℕ) (post : Post) (flight : InFlight) → post.pending ≡ Some flight → repeat_of flight moment ≡ GivenUp
    → resent_on setup line moment post ≡ silently (record post { pending = None; restart = Waiting (moment + wait_of setup line) })
waits_anew setup line moment post flight pending gives =
    ap (λ (p : Option InFlight). resent_by p setup line moment post) pending ∙ ap (λ (r : Repeat). repeated_as r setup line moment post flight) gives
