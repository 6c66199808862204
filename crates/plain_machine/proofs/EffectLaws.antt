-- What every event leaves as it is: the number of lines, and the clock but at a tick.
use Rattle.std.proofs.Common.{◌≡◌, ℕ, zero, suc, ◌-◌, Bool, true, false, List, [], ◌∷◌, length, Option, Some, None, Result, Ok, Err, refl, sym, ap, ◌∙◌, arith}
use Rattle.std.proofs.lemmas.List.{set-get_or}
use Rattle.std.proofs.lemmas.Option.{get_or_from_slice_get}
use Rattle.std.specs.Prelude.{slice_set, slice_get, ◌==◌, if◌then◌else◌}
use Rattle.std.proofs.lemmas.Grind.{common_steps}
use Rattle.std.specs.declared.net.socket_addr.SocketAddrV4.{SocketAddrV4}
use Rattle.mgcp_text.specs.declared.message.Message.TheVariants as messages
use Rattle.mgcp_text.specs.declared.message.Param.{Param}
use Rattle.mgcp_text.specs.Confirmation.{k_of}
use Rattle.mgcp_text.specs.Reading.{Outcome, message, no_header, bad_version, bad_body, read_text}
use Rattle.plain_machine.specs.declared.post.Post.{Post}
use Rattle.plain_machine.specs.declared.setup.Setup.{Setup}
use Rattle.plain_machine.specs.declared.endpoint.Endpoint.{Endpoint}
use Rattle.plain_machine.specs.Effect.{Effect, silently}
use Rattle.plain_machine.specs.Event.{GatewayEvent, datagram, phone, tick}
use Rattle.plain_machine.specs.Machine.{Endpoints, Machine, serves, endpoint_at, with_turn, turned_at, on_line, on_own, on_either, on_lines}
use Rattle.transmission.specs.Texts.{texts_of}
use Rattle.plain_machine.specs.Arriving.{clock_after}
use Rattle.transmission.specs.Memory.{most_firsts}
use Rattle.transmission.specs.Looking.{Looked, new, repeat, confirmed, full, look_of}
use Rattle.plain_machine.specs.Acting.{acted_on}
use Rattle.plain_machine.specs.Falling.{due_by, happened_on, happened_under, happened, go_on, passed, room, pass}
use Rattle.plain_machine.specs.Posting.{line_of_id}
use Rattle.plain_machine.specs.Announcing.{heard_on, replied_on}
use Rattle.plain_machine.specs.Responding.{response_with, responded_on, redirected_on, opened_on, lines_told, own_heard, responded}
use Rattle.retransmission.specs.declared.heard.Heard.{Heard}
use Rattle.retransmission.specs.declared.heard.Heard.TheVariants.{Nothing, PutOff, Redirected, Answered}
use Rattle.plain_machine.specs.declared.response.Response.{Response}
use Rattle.timers.specs.declared.due_item.DueItem.{DueItem}
use Rattle.plain_machine.specs.Done.{Done}
use Rattle.command_forms.specs.declared.forms.Deed.{Deed}
use Rattle.plain_machine.specs.Requesting.{refused_by, lines_meant, unless_refused, deed_done, line_with_place, done_there, done_for}
use Rattle.plain_machine.specs.Commanding.{done_by}
use Rattle.command_forms.specs.declared.forms.Asks.{Asks}
use Rattle.command_forms.specs.declared.forms.Asks.TheVariants.{Reports, Does}
use Rattle.command_forms.specs.declared.forms.Target.{Target}
use Rattle.command_forms.specs.declared.forms.Target.TheVariants.{One, All, Any}
use Rattle.command_forms.specs.Order.{form_while}
use Rattle.plain_machine.specs.Answering.{Transaction, executed, transacted_by, handled, took_all}
use Rattle.plain_machine.specs.Happening.{effect}

abbrev lines_in : Endpoints → ℕ
lines_in endpoints = length endpoints.list

set_same : (list : List Endpoint) (i : ℕ) (endpoint : Endpoint) → length (slice_set list i endpoint) ≡ length list
set_same list i endpoint = grind (arith, common_steps)

pub turned_lines : (endpoints : Endpoints) (line : ℕ) (turn : Endpoint → Effect Endpoint) → lines_in (on_line endpoints line turn).value ≡ lines_in endpoints
unfolding on_line
turned_lines endpoints line turn = by_endpoint (endpoint_at endpoints line) where
  by_endpoint : (found : Option Endpoint) → lines_in (turned_at found endpoints line turn).value ≡ lines_in endpoints
  by_endpoint None = refl
  by_endpoint (Some endpoint) = set_same endpoints.list (line - 1) _

either_lines : (endpoints : Endpoints) (line : ℕ) (own_turn : Post → Effect Post) (turn : Endpoint → Effect Endpoint) → lines_in (on_either endpoints line own_turn turn).value ≡ lines_in endpoints
either_lines endpoints line own_turn turn = by_test (line == 0) where
  by_test : (b : Bool) → lines_in (if b then on_own endpoints own_turn else on_line endpoints line turn).value ≡ lines_in endpoints
  by_test true = refl
  by_test false = turned_lines endpoints line turn

several_lines : (lines : List ℕ) (endpoints : Endpoints) (turn : ℕ → Endpoint → Effect Endpoint) → lines_in (on_lines lines endpoints turn).value ≡ lines_in endpoints
unfolding on_lines
several_lines [] endpoints turn = refl
several_lines (line ∷ lines) endpoints turn = several_lines lines (on_line endpoints line (turn line)).value turn ∙ turned_lines endpoints line (turn line)

-- what comes to the gateway itself, and then to its lines
told_lines : (heard : Heard) (setup : Setup) (moment : ℕ) (endpoints : Endpoints) → lines_in (lines_told heard setup moment endpoints).value ≡ lines_in endpoints
told_lines Nothing setup moment endpoints = refl
told_lines PutOff setup moment endpoints = refl
told_lines (Redirected agent) setup moment endpoints = several_lines (lines_meant endpoints All) endpoints (redirected_on agent)
told_lines (Answered agent) setup moment endpoints = several_lines (lines_meant endpoints All) endpoints (opened_on agent setup moment)

responded_lines : (setup : Setup) (endpoints : Endpoints) (moment : ℕ) (response : Response) → lines_in (responded setup endpoints moment response).value ≡ lines_in endpoints
responded_lines setup endpoints moment response = by_test (line_of_id response.id == 0) where
  by_test : (b : Bool) → lines_in (if b then own_heard setup endpoints moment response
      else on_line endpoints (line_of_id response.id) (responded_on setup (line_of_id response.id) moment response)).value ≡ lines_in endpoints
  by_test true = told_lines (heard_on endpoints.own response) setup moment (on_own endpoints (replied_on setup 0 moment response)).value
  by_test false = turned_lines endpoints (line_of_id response.id) (responded_on setup (line_of_id response.id) moment response)

-- what is done at texts
record Keeps (m : Machine) (done : Effect Machine) : Type 0 where
  lines : lines_in done.value.endpoints ≡ lines_in m.endpoints
  now : done.value.now ≡ m.now

transacted_keeps : (told : Looked) (m : Machine) (source : SocketAddrV4) (t : Transaction) → lines_in t.done.told.value ≡ lines_in m.endpoints
    → Keeps m (transacted_by told m source t)
unfolding executed
transacted_keeps new m source t same = record { lines = same; now = refl }
transacted_keeps (repeat text) m source t same = record { lines = refl; now = refl }
transacted_keeps confirmed m source t same = record { lines = refl; now = refl }
transacted_keeps full m source t same = record { lines = refl; now = refl }

asked_lines : (refusal : Option ℕ) (endpoints : Endpoints) (done : Done) → lines_in done.told.value ≡ lines_in endpoints → lines_in (unless_refused refusal endpoints done).told.value ≡ lines_in endpoints
asked_lines None endpoints done same = same
asked_lines (Some code) endpoints done same = refl

deed_lines : (setup : Setup) (endpoints : Endpoints) (lines : Target) (more : List Param) (deed : Deed) (moment : ℕ)
    → lines_in (deed_done setup endpoints lines more deed moment).told.value ≡ lines_in endpoints
deed_lines setup endpoints lines more deed moment =
    asked_lines (refused_by endpoints lines deed) endpoints _ (several_lines (lines_meant endpoints lines) endpoints _)

target_lines : (setup : Setup) (endpoints : Endpoints) (target : Target) (deed : Deed) (moment : ℕ)
    → lines_in (done_for setup endpoints target deed moment).told.value ≡ lines_in endpoints
target_lines setup endpoints (One line) deed moment = deed_lines setup endpoints (One line) [] deed moment
target_lines setup endpoints All deed moment = deed_lines setup endpoints All [] deed moment
target_lines setup endpoints Any deed moment = by_line (line_with_place endpoints) where
  by_line : (found : Option ℕ) → lines_in (done_there found setup endpoints deed moment).told.value ≡ lines_in endpoints
  by_line None = refl
  by_line (Some line) = deed_lines setup endpoints (One line) _ deed moment

done_lines : (asks : Result Asks ℕ) (setup : Setup) (endpoints : Endpoints) (moment id : ℕ) → lines_in (done_by asks setup endpoints moment id).told.value ≡ lines_in endpoints
done_lines (Err code) setup endpoints moment id = refl
done_lines (Ok (Reports target audit)) setup endpoints moment id = refl
done_lines (Ok (Does target deed)) setup endpoints moment id = target_lines setup endpoints target deed moment

handled_keeps : (setup : Setup) (m : Machine) (source : SocketAddrV4) (outcome : Outcome) → Keeps m (handled setup m source outcome)
unfolding handled
handled_keeps setup m source no_header = record { lines = refl; now = refl }
handled_keeps setup m source (bad_version id) = transacted_keeps (look_of most_firsts m.history id m.now) m source _ refl
handled_keeps setup m source (bad_body id) = transacted_keeps (look_of most_firsts m.history id m.now) m source _ refl
handled_keeps setup m source (message (messages.Command verb id name params body)) =
    transacted_keeps (look_of most_firsts m.history id m.now) m source _ (done_lines (form_while (serves m.endpoints) (record { verb = verb; name = name; params = params; body = body }) (k_of params) setup.names) setup m.endpoints m.now id)
handled_keeps setup m source (message (messages.Response code id params body)) = record { lines = responded_lines setup m.endpoints m.now (response_with setup id code params); now = refl }

pub handled_now : (setup : Setup) (m : Machine) (source : SocketAddrV4) (outcome : Outcome) → (handled setup m source outcome).value.now ≡ m.now
handled_now setup m source outcome = (handled_keeps setup m source outcome).now

pub handled_lines : (setup : Setup) (m : Machine) (source : SocketAddrV4) (outcome : Outcome) → length (handled setup m source outcome).value.endpoints.list ≡ length m.endpoints.list
handled_lines setup m source outcome = (handled_keeps setup m source outcome).lines

took_keeps : (setup : Setup) (m : Machine) (source : SocketAddrV4) (texts : List (List ℕ)) → Keeps m (took_all setup m source texts)
unfolding took_all
took_keeps setup m source [] = record { lines = refl; now = refl }
took_keeps setup m source (text ∷ texts) =
    let first = handled_keeps setup m source (read_text text) in
    let rest = took_keeps setup (handled setup m source (read_text text)).value source texts in
    record { lines = rest.lines ∙ first.lines; now = rest.now ∙ first.now }

pub took_lines : (setup : Setup) (m : Machine) (source : SocketAddrV4) (texts : List (List ℕ)) → length (took_all setup m source texts).value.endpoints.list ≡ length m.endpoints.list
took_lines setup m source texts = (took_keeps setup m source texts).lines

-- what falls due changes an endpoint, and adds none
pub happened_lines : (setup : Setup) (endpoints : Endpoints) (item : DueItem) → lines_in (happened setup endpoints item).value ≡ lines_in endpoints
happened_lines setup endpoints item =
    either_lines endpoints item.line (happened_under item.kind setup 0 item.moment) (happened_on item.kind setup item.line item.moment)

passed_lines : (n : ℕ) (setup : Setup) (endpoints : Endpoints) (moment : ℕ) → lines_in (passed n setup endpoints moment).value ≡ lines_in endpoints
unfolding passed
passed_lines zero setup endpoints moment = refl
passed_lines (suc n) setup endpoints moment = by_due (due_by endpoints moment) (λ item. passed_lines n setup (happened setup endpoints item).value moment) where
  by_due : (found : Option DueItem) → ((item : DueItem) → lines_in (passed n setup (happened setup endpoints item).value moment).value ≡ lines_in (happened setup endpoints item).value)
      → lines_in (go_on found setup endpoints (λ next. passed n setup next moment)).value ≡ lines_in endpoints
  by_due None rest = refl
  by_due (Some item) rest = rest item ∙ happened_lines setup endpoints item

pub pass_lines : (setup : Setup) (endpoints : Endpoints) (moment : ℕ) → lines_in (pass setup endpoints moment).value ≡ lines_in endpoints
unfolding pass
pass_lines setup endpoints moment = passed_lines (room endpoints moment) setup endpoints moment

-- no line is lost
pub effect_lines : (setup : Setup) (m : Machine) (event : GatewayEvent)
    → length (effect setup m event).value.endpoints.list ≡ length m.endpoints.list
unfolding effect
effect_lines setup m (datagram source bytes) = (took_keeps setup m source (texts_of bytes)).lines
effect_lines setup m (phone line act) = turned_lines m.endpoints line (acted_on setup line m.now act)
effect_lines setup m (tick moment) = pass_lines setup m.endpoints moment

-- a tick alone moves the clock
pub effect_now : (setup : Setup) (m : Machine) (event : GatewayEvent) → (effect setup m event).value.now ≡ clock_after m.now event
unfolding effect
effect_now setup m (datagram source bytes) = (took_keeps setup m source (texts_of bytes)).now
effect_now setup m (phone line act) = refl
effect_now setup m (tick moment) = refl

-- an endpoint that is put where it stands
pub same_endpoint : (test : Bool) (list : List Endpoint) (place : ℕ) (endpoint : Endpoint) → (if test then None else slice_get list place) ≡ Some endpoint
    → slice_set list place endpoint ≡ list
same_endpoint true list place endpoint at = absurd cc
same_endpoint false list place endpoint at =
    ap (λ (x : Endpoint). slice_set list place x) (sym (get_or_from_slice_get list place endpoint endpoint at)) ∙ set-get_or list place endpoint

-- and the others stand where they stood
pub other_endpoint : (list : List Endpoint) (place other : ℕ) (endpoint : Endpoint) → (other ≡ place → ⊥) → slice_get (slice_set list place endpoint) other ≡ slice_get list other
other_endpoint [] place other endpoint apart = refl
other_endpoint (first ∷ list) zero zero endpoint apart = absurd (apart refl)
other_endpoint (first ∷ list) zero (suc other) endpoint apart = refl
other_endpoint (first ∷ list) (suc place) zero endpoint apart = refl
other_endpoint (first ∷ list) (suc place) (suc other) endpoint apart = other_endpoint list place other endpoint (λ same. apart (ap suc same))

-- an endpoint that stays as it is, and sends nothing
pub turned_still : (endpoints : Endpoints) (line : ℕ) (endpoint : Endpoint) → endpoint_at endpoints line ≡ Some endpoint
    → with_turn endpoints line (silently endpoint) ≡ silently endpoints
turned_still endpoints line endpoint at =
    let same : slice_set endpoints.list (line - 1) endpoint ≡ endpoints.list = same_endpoint (line == 0) endpoints.list (line - 1) endpoint at in
    ap (λ (x : List Endpoint). let e : Endpoints = record endpoints { list = x } in silently e) same

-- the gateway itself, and a line
pub either_own : (endpoints : Endpoints) (line : ℕ) (own_turn : Post → Effect Post) (turn : Endpoint → Effect Endpoint) → (line == 0) ≡ true
    → on_either endpoints line own_turn turn ≡ on_own endpoints own_turn
either_own endpoints line own_turn turn is = ap (λ (b : Bool). if b then on_own endpoints own_turn else on_line endpoints line turn) is

pub either_line : (endpoints : Endpoints) (line : ℕ) (own_turn : Post → Effect Post) (turn : Endpoint → Effect Endpoint) → (line == 0) ≡ false
    → on_either endpoints line own_turn turn ≡ on_line endpoints line turn
either_line endpoints line own_turn turn is = ap (λ (b : Bool). if b then on_own endpoints own_turn else on_line endpoints line turn) is

-- a line that there is isn't the gateway itself
pub some_line : (endpoints : Endpoints) (line : ℕ) (endpoint : Endpoint) → endpoint_at endpoints line ≡ Some endpoint → (line == 0) ≡ false
some_line endpoints line endpoint at = by_zero (line == 0) refl at where
  by_zero : (b : Bool) → (line == 0) ≡ b → (if b then None else slice_get endpoints.list (line - 1)) ≡ Some endpoint → b ≡ false
  by_zero true e at = absurd cc
  by_zero false e at = refl

-- where there is such a line
pub on_this : (endpoints : Endpoints) (line : ℕ) (endpoint : Endpoint) (turn : Endpoint → Effect Endpoint) → endpoint_at endpoints line ≡ Some endpoint
    → on_line endpoints line turn ≡ with_turn endpoints line (turn endpoint)
unfolding on_line
on_this endpoints line endpoint turn at = ap (λ (x : Option Endpoint). turned_at x endpoints line turn) at

-- where there is none
pub on_nothing : (endpoints : Endpoints) (line : ℕ) (turn : Endpoint → Effect Endpoint) → endpoint_at endpoints line ≡ None → on_line endpoints line turn ≡ silently endpoints
unfolding on_line
on_nothing endpoints line turn at = ap (λ (x : Option Endpoint). turned_at x endpoints line turn) at

-- a line whose endpoint stays, and sends nothing
pub on_still : (endpoints : Endpoints) (line : ℕ) (endpoint : Endpoint) (turn : Endpoint → Effect Endpoint) → endpoint_at endpoints line ≡ Some endpoint → turn endpoint ≡ silently endpoint
    → on_line endpoints line turn ≡ silently endpoints
on_still endpoints line endpoint turn at still =
    on_this endpoints line endpoint turn at ∙ ap (λ (t : Effect Endpoint). with_turn endpoints line t) still ∙ turned_still endpoints line endpoint at
