-- What is sent at a datagram and at an act is sent at the clock.
use Rattle.std.proofs.Common.{◌≡◌, ℕ, Bool, true, false, ◌==◌, if◌then◌else◌, List, [], ◌∷◌, ◌++◌, Option, Some, None, Result, Ok, Err, refl, subst}
use Rattle.std.specs.declared.net.socket_addr.SocketAddrV4.{SocketAddrV4}
use Rattle.mgcp_text.specs.declared.message.Message.TheVariants as messages
use Rattle.mgcp_text.specs.declared.message.Param.{Param}
use Rattle.mgcp_text.specs.Confirmation.{k_of}
use Rattle.mgcp_text.specs.Reading.{Outcome, message, no_header, bad_version, bad_body, read_text}
use Rattle.transmission.specs.Looking.{Looked, new, repeat, confirmed, full, look_of}
use Rattle.transmission.specs.Memory.{most_firsts}
use Rattle.transmission.specs.Acknowledging.{asks_for_acknowledgement}
use Rattle.transmission.specs.Texts.{texts_of}
use Rattle.endpoint_names.specs.declared.entity.Entity.{Entity}
use Rattle.command_forms.specs.Command.{Command}
use Rattle.command_forms.specs.Order.{form_while}
use Rattle.command_forms.specs.declared.forms.Asks.{Asks}
use Rattle.command_forms.specs.declared.forms.Asks.TheVariants.{Reports, Does}
use Rattle.command_forms.specs.declared.forms.Deed.{Deed}
use Rattle.command_forms.specs.declared.forms.Target.{Target}
use Rattle.command_forms.specs.declared.forms.Target.TheVariants.{One, All, Any}
use Rattle.mg_line.specs.declared.phone.Act.{Act}
use Rattle.mg_line.specs.Line.{LineDone, Notice}
use Rattle.mg_line.specs.Acting.{phoned}
use Rattle.mg_line.specs.Opening.{opened}
use Rattle.retransmission.specs.declared.heard.Heard.{Heard}
use Rattle.retransmission.specs.declared.heard.Heard.TheVariants.{Nothing, PutOff, Redirected, Answered}
use Rattle.plain_machine.specs.declared.post.Post.{Post}
use Rattle.plain_machine.specs.declared.response.Response.{Response}
use Rattle.plain_machine.specs.declared.setup.Setup.{Setup}
use Rattle.plain_machine.specs.declared.endpoint.Endpoint.{Endpoint}
use Rattle.plain_machine.specs.Acting.{acted_on}
use Rattle.plain_machine.specs.Announcing.{announced, heard_on, replied, replied_on}
use Rattle.plain_machine.specs.Answering.{Transaction, executed, handled, took_all, transacted_by}
use Rattle.plain_machine.specs.Commanding.{done_by}
use Rattle.plain_machine.specs.Done.{Done}
use Rattle.plain_machine.specs.Effect.{Effect}
use Rattle.plain_machine.specs.Event.{datagram, phone}
use Rattle.plain_machine.specs.Happening.{effect}
use Rattle.plain_machine.specs.Machine.{Endpoints, Machine, endpoint_at, on_line, on_lines, on_own, serves, turned_at}
use Rattle.plain_machine.specs.Message.{Sent, acknowledgement, of_none}
use Rattle.plain_machine.specs.Notifying.{noted, with_notice}
use Rattle.plain_machine.specs.Posting.{line_of_id}
use Rattle.plain_machine.specs.Requesting.{asked_if, deed_done, deed_on, done_for, done_there, line_with_place, lines_meant, refused_by, unless_refused, with_connections, with_entity}
use Rattle.plain_machine.specs.Responding.{acknowledged, lines_told, opened_on, own_heard, redirected_on, responded, responded_as, responded_on, response_with}
use Rattle.plain_machine.proofs.EffectLaws.{handled_now}
use Rattle.machine_laws.proofs.EachLemmas.{Each, each_both}

-- all of it is sent at this moment
abbrev pub AreAt : ℕ → List Sent → Type 0
AreAt moment sent = Each (λ (one : Sent). one.moment ≡ moment) sent

both_at : (moment : ℕ) (some more : List Sent) → AreAt moment some → AreAt moment more → AreAt moment (some ++ more)
both_at moment some more one two = each_both (λ (one : Sent). one.moment ≡ moment) some more one two

-- One turn

noted_at : (setup : Setup) (line moment : ℕ) (endpoint : Endpoint) (done : LineDone) → AreAt moment (noted setup line moment endpoint done).sent
unfolding noted
noted_at setup line moment endpoint done = by_notice done.notice where
  by_notice : (notice : Option Notice) → AreAt moment (with_notice setup line moment (record endpoint { line = done.line }) notice).sent
  by_notice None = tt
  by_notice (Some notice) = (refl, tt)

deed_at : (setup : Setup) (deed : Deed) (moment line : ℕ) (endpoint : Endpoint) → AreAt moment (deed_on setup deed moment line endpoint).sent
unfolding deed_on
deed_at setup deed moment line endpoint = noted_at setup line moment (with_connections deed (with_entity deed.entity endpoint)) (asked_if deed.request endpoint.line moment)

responded_on_at : (setup : Setup) (line moment : ℕ) (response : Response) (endpoint : Endpoint) → AreAt moment (responded_on setup line moment response endpoint).sent
unfolding responded_on replied announced
responded_on_at setup line moment response endpoint = by_heard (heard_on endpoint.post response) where
  by_heard : (heard : Heard) → AreAt moment (responded_as heard setup line moment response endpoint).sent
  by_heard Nothing = tt
  by_heard PutOff = tt
  by_heard (Redirected agent) = (refl, tt)
  by_heard (Answered agent) = noted_at setup line moment _ _

replied_at : (setup : Setup) (moment : ℕ) (response : Response) (own : Post) → AreAt moment (replied_on setup 0 moment response own).sent
unfolding replied_on replied announced
replied_at setup moment response own = by_heard (heard_on own response) where
  by_heard : (heard : Heard) → AreAt moment (replied heard setup 0 moment response own).sent
  by_heard Nothing = tt
  by_heard PutOff = tt
  by_heard (Redirected agent) = (refl, tt)
  by_heard (Answered agent) = tt

redirected_at : (moment : ℕ) (agent : Entity) (line : ℕ) (endpoint : Endpoint) → AreAt moment (redirected_on agent line endpoint).sent
unfolding redirected_on
redirected_at moment agent line endpoint = tt

opened_at : (setup : Setup) (agent : Option Entity) (moment line : ℕ) (endpoint : Endpoint) → AreAt moment (opened_on agent setup moment line endpoint).sent
unfolding opened_on
opened_at setup agent moment line endpoint = noted_at setup line moment (with_entity agent endpoint) (opened endpoint.line moment)

-- Of lines

on_line_at : (moment : ℕ) (endpoints : Endpoints) (line : ℕ) (turn : Endpoint → Effect Endpoint) → ((endpoint : Endpoint) → AreAt moment (turn endpoint).sent) → AreAt moment (on_line endpoints line turn).sent
unfolding on_line
on_line_at moment endpoints line turn each = by_endpoint (endpoint_at endpoints line) where
  by_endpoint : (found : Option Endpoint) → AreAt moment (turned_at found endpoints line turn).sent
  by_endpoint None = tt
  by_endpoint (Some endpoint) = each endpoint

on_lines_at : (moment : ℕ) (lines : List ℕ) (endpoints : Endpoints) (turn : ℕ → Endpoint → Effect Endpoint) → ((line : ℕ) (endpoint : Endpoint) → AreAt moment (turn line endpoint).sent)
    → AreAt moment (on_lines lines endpoints turn).sent
unfolding on_lines
on_lines_at moment [] endpoints turn each = tt
on_lines_at moment (line ∷ lines) endpoints turn each =
    both_at moment (on_line endpoints line (turn line)).sent (on_lines lines (on_line endpoints line (turn line)).value turn).sent (on_line_at moment endpoints line (turn line) (each line))
    (on_lines_at moment lines (on_line endpoints line (turn line)).value turn each)

-- A response

told_at : (setup : Setup) (moment : ℕ) (endpoints : Endpoints) (heard : Heard) → AreAt moment (lines_told heard setup moment endpoints).sent
told_at setup moment endpoints Nothing = tt
told_at setup moment endpoints PutOff = tt
told_at setup moment endpoints (Redirected agent) = on_lines_at moment (lines_meant endpoints All) endpoints (redirected_on agent) (λ line endpoint. redirected_at moment agent line endpoint)
told_at setup moment endpoints (Answered agent) = on_lines_at moment (lines_meant endpoints All) endpoints (opened_on agent setup moment) (λ line endpoint. opened_at setup agent moment line endpoint)

responded_at : (setup : Setup) (endpoints : Endpoints) (moment : ℕ) (response : Response) → AreAt moment (responded setup endpoints moment response).sent
responded_at setup endpoints moment response = by_test (line_of_id response.id == 0) where
  by_test : (b : Bool) → AreAt moment (if b then own_heard setup endpoints moment response
      else on_line endpoints (line_of_id response.id) (responded_on setup (line_of_id response.id) moment response)).sent
  by_test true =
      both_at moment (on_own endpoints (replied_on setup 0 moment response)).sent
      (lines_told (heard_on endpoints.own response) setup moment (on_own endpoints (replied_on setup 0 moment response)).value).sent (replied_at setup moment response endpoints.own)
      (told_at setup moment (on_own endpoints (replied_on setup 0 moment response)).value (heard_on endpoints.own response))
  by_test false =
      on_line_at moment endpoints (line_of_id response.id) (responded_on setup (line_of_id response.id) moment response)
      (λ endpoint. responded_on_at setup (line_of_id response.id) moment response endpoint)

-- A command

unless_at : (moment : ℕ) (refusal : Option ℕ) (endpoints : Endpoints) (done : Done) → AreAt moment done.told.sent → AreAt moment (unless_refused refusal endpoints done).told.sent
unless_at moment None endpoints done at = at
unless_at moment (Some code) endpoints done at = tt

deed_done_at : (setup : Setup) (endpoints : Endpoints) (target : Target) (more : List Param) (deed : Deed) (moment : ℕ) → AreAt moment (deed_done setup endpoints target more deed moment).told.sent
deed_done_at setup endpoints target more deed moment =
    unless_at moment (refused_by endpoints target deed) endpoints _
    (on_lines_at moment (lines_meant endpoints target) endpoints (deed_on setup deed moment) (λ line endpoint. deed_at setup deed moment line endpoint))

done_for_at : (setup : Setup) (endpoints : Endpoints) (target : Target) (deed : Deed) (moment : ℕ) → AreAt moment (done_for setup endpoints target deed moment).told.sent
done_for_at setup endpoints (One line) deed moment = deed_done_at setup endpoints (One line) [] deed moment
done_for_at setup endpoints All deed moment = deed_done_at setup endpoints All [] deed moment
done_for_at setup endpoints Any deed moment = by_place (line_with_place endpoints) where
  by_place : (found : Option ℕ) → AreAt moment (done_there found setup endpoints deed moment).told.sent
  by_place None = tt
  by_place (Some line) = deed_done_at setup endpoints (One line) _ deed moment

done_at : (asks : Result Asks ℕ) (setup : Setup) (endpoints : Endpoints) (moment id : ℕ) → AreAt moment (done_by asks setup endpoints moment id).told.sent
done_at (Err code) setup endpoints moment id = tt
done_at (Ok (Reports target audit)) setup endpoints moment id = tt
done_at (Ok (Does target deed)) setup endpoints moment id = done_for_at setup endpoints target deed moment

-- Texts

transacted_at : (looked : Looked) (m : Machine) (source : SocketAddrV4) (t : Transaction) → AreAt m.now t.done.told.sent → AreAt m.now (transacted_by looked m source t).sent
unfolding executed
transacted_at new m source t at = (refl, at)
transacted_at (repeat text) m source t at = (refl, tt)
transacted_at confirmed m source t at = tt
transacted_at full m source t at = tt

acknowledged_at : (now : ℕ) (source : SocketAddrV4) (code id : ℕ) (params : List Param) → AreAt now (acknowledged now source code id params)
acknowledged_at now source code id params = by_test (asks_for_acknowledgement code params) where
  by_test : (b : Bool) → AreAt now (if b then (record { to = source; moment = now; owner = of_none; said = acknowledgement (messages.Response 0 id [] []) }) ∷ [] else [])
  by_test true = (refl, tt)
  by_test false = tt

handled_at : (setup : Setup) (m : Machine) (source : SocketAddrV4) (outcome : Outcome) → AreAt m.now (handled setup m source outcome).sent
unfolding handled
handled_at setup m source no_header = tt
handled_at setup m source (bad_version id) = transacted_at (look_of most_firsts m.history id m.now) m source _ tt
handled_at setup m source (bad_body id) = transacted_at (look_of most_firsts m.history id m.now) m source _ tt
handled_at setup m source (message (messages.Command verb id name params body)) =
    let said : Command = record { verb = verb; name = name; params = params; body = body } in
    transacted_at (look_of most_firsts m.history id m.now) m source _ (done_at (form_while (serves m.endpoints) said (k_of params) setup.names) setup m.endpoints m.now id)
handled_at setup m source (message (messages.Response code id params body)) =
    both_at m.now (acknowledged m.now source code id params) (responded setup m.endpoints m.now (response_with setup id code params)).sent
    (acknowledged_at m.now source code id params) (responded_at setup m.endpoints m.now (response_with setup id code params))

texts_at_once : (setup : Setup) (m : Machine) (source : SocketAddrV4) (texts : List (List ℕ)) → AreAt m.now (took_all setup m source texts).sent
unfolding took_all
texts_at_once setup m source [] = tt
texts_at_once setup m source (text ∷ texts) =
    let next = (handled setup m source (read_text text)).value in
    both_at m.now (handled setup m source (read_text text)).sent (took_all setup next source texts).sent (handled_at setup m source (read_text text))
    (subst (λ (now : ℕ). AreAt now (took_all setup next source texts).sent) (handled_now setup m source (read_text text)) (texts_at_once setup next source texts))

-- Events

pub datagram_at_once : (setup : Setup) (m : Machine) (source : SocketAddrV4) (bytes : List ℕ) → AreAt m.now (effect setup m (datagram source bytes)).sent
unfolding effect
datagram_at_once setup m source bytes = texts_at_once setup m source (texts_of bytes)

pub act_at_once : (setup : Setup) (m : Machine) (line : ℕ) (act : Act) → AreAt m.now (effect setup m (phone line act)).sent
unfolding effect
act_at_once setup m line act =
    on_line_at m.now m.endpoints line (acted_on setup line m.now act) (λ endpoint. noted_at setup line m.now endpoint (phoned endpoint.line act m.now))
