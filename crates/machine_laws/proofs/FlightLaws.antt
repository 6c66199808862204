-- The commands of lines, and of the gateway itself: one at a time, each under an id of its own, each the same whenever it is
-- sent.
use Rattle.std.proofs.Common.{◌≡◌, ◌≢◌, ℕ, ◌+◌, ◌<◌, ◌≤◌, Bool, true, false, ◌==◌, if◌then◌else◌, List, [], ◌∷◌, Option, Some, None, inl, inr, refl, sym, ap, ◌∙◌, subst, arith}
use Rattle.std.specs.Prelude.{◌⊎◌, All, IfSome, option_map}
use Rattle.std.specs.Option.{unwrap_or}
use Rattle.std.specs.declared.net.socket_addr.SocketAddrV4.{SocketAddrV4}
use Rattle.std.proofs.lemmas.Bool.Decides.{Decides-eqb}
use Rattle.std.proofs.lemmas.List.Elements.{All-nil, All-cons}
use Rattle.std.proofs.lemmas.Nat.{div-mul-add}
use Rattle.std.proofs.lemmas.Option.{none-some}
use Rattle.endpoint_names.specs.declared.route.Route.{Route}
use Rattle.endpoint_names.specs.Route.{at}
use Rattle.endpoint_names.specs.declared.entity.Entity.{Entity}
use Rattle.mgcp_text.specs.Writing.{written}
use Rattle.packages.specs.declared.event.LineEvent.TheVariants as events
use Rattle.packages.specs.declared.signal.Kind.{Kind}
use Rattle.packages.specs.declared.signal.Kind.TheVariants.{TimeOut, Brief, OnOff}
use Rattle.packages.specs.declared.signal.Signal.{Signal}
use Rattle.packages.specs.Looking.{kind_of}
use Rattle.mg_bytes.specs.declared.letter.Letter.TheVariants.{Timer}
use Rattle.packages.specs.declared.observed.Observed.{Observed}
use Rattle.packages.specs.declared.observed.Observed.TheVariants.{Happened, Ended}
use Rattle.events_and_signals.specs.Stopping.{without}
use Rattle.retransmission.specs.declared.repeat.Repeat.{Repeat}
use Rattle.retransmission.specs.declared.repeat.Repeat.TheVariants.{Sent as SentAgain, GivenUp}
use Rattle.retransmission.specs.declared.reply.Reply.{Reply}
use Rattle.retransmission.specs.declared.reply.Reply.TheVariants as replies
use Rattle.retransmission.specs.declared.reply.Reply.TheVariants.{Provisional, Stranger}
use Rattle.retransmission.specs.Flight.{InFlight, sent_to, sent_first, repeat_of, repeated, again_as, reply_by, reply_of, heard, heard_as}
use Rattle.retransmission.specs.declared.restart.Restart.{Restart}
use Rattle.retransmission.specs.declared.restart.Restart.TheVariants.{Waiting, Announced, Serving}
use Rattle.retransmission.specs.declared.heard.Heard.{Heard}
use Rattle.retransmission.specs.declared.heard.Heard.TheVariants.{Nothing, PutOff, Redirected, Answered}
use Rattle.retransmission.specs.Restarting.{is_serving, answer_of, heard_of}
use Rattle.timers.specs.declared.kind.LineDue.{LineDue}
use Rattle.timers.specs.declared.kind.LineDue.TheVariants.{DigitTimer, SignalEnd}
use Rattle.mg_line.specs.declared.phone.Act.{Act}
use Rattle.mg_line.specs.declared.phone.Act.TheVariants.{OffHook, OnHook, Flash, Key}
use Rattle.events_and_signals.specs.declared.request.Request.{Request}
use Rattle.mg_line.specs.State.{State}
use Rattle.mg_line.specs.State.TheVariants.{Notification}
use Rattle.mg_line.specs.Line.{LineState, LineDone, Notice}
use Rattle.mg_line.specs.Detecting.{quarantining, detected_in, detected}
use Rattle.mg_line.specs.Acting.{hooked, observed_at, phoned}
use Rattle.mg_line.specs.Requesting.{replaced, resumed_in, asked}
use Rattle.mg_line.specs.Answering.{answered}
use Rattle.mg_line.specs.Opening.{opened}
use Rattle.mg_line.specs.Falling.{ended_by, fired}
use Rattle.mg_line.specs.Laws.{AwaitsIfNotified}
use Rattle.mg_line.proofs.OnceLemmas.{notifies_once}
use Rattle.timers.specs.declared.kind.DueKind.{DueKind}
use Rattle.timers.specs.declared.kind.DueKind.TheVariants.{OfLine, Resend, Announce}
use Rattle.command_forms.specs.declared.forms.Deed.{Deed}
use Rattle.plain_machine.specs.declared.post.Post.{Post}
use Rattle.plain_machine.specs.declared.response.Response.{Response}
use Rattle.plain_machine.specs.declared.setup.Setup.{Setup}
use Rattle.plain_machine.specs.declared.endpoint.Endpoint.{Endpoint}
use Rattle.plain_machine.specs.Effect.{Effect, silently, effect_map, afterwards}
use Rattle.plain_machine.specs.Event.{GatewayEvent}
use Rattle.plain_machine.specs.Message.{Sent}
use Rattle.plain_machine.specs.Posting.{numbers, first_number, number_after, id_on, line_of_id, repeated_as, resent_by, resent_on}
use Rattle.plain_machine.specs.Announcing.{announced, announced_by, heard_by, heard_on, put_off, replied, replied_on}
use Rattle.plain_machine.specs.Notifying.{posted, notification, with_notice, noted}
use Rattle.plain_machine.specs.Machine.{Endpoints, Machine, serves, opening_endpoint, opening, endpoint_at, turned_at, on_line, with_own}
use Rattle.plain_machine.specs.Acting.{acted_on, acted}
use Rattle.plain_machine.specs.Requesting.{with_entity, with_connections, asked_if, deed_on}
use Rattle.plain_machine.specs.Falling.{happened_on, happened_under, happened, pass}
use Rattle.plain_machine.specs.Responding.{responded_as, responded_on, redirected_on, opened_on, lines_told, own_heard, responded}
use Rattle.plain_machine.specs.Happening.{effect}
use Rattle.plain_machine.specs.Lists.{machine_after}
use Rattle.plain_machine.specs.Flights.{Waits, IsWith, InOrderBy, OwnInOrderBy, OwnIsInOrder, InOrderWhile, AreInOrder, BeginsNothing, IsSame, Carries}
use Rattle.mgcp_text.specs.Reading.{Outcome}
use Rattle.timers.specs.declared.due_item.DueItem.{DueItem}
use Rattle.plain_machine.specs.Answering.{handled}
use Rattle.machine_laws.proofs.TurnLemmas.{acted_goes, pass_goes, happened_goes, handled_on_all, Turns, OwnTurns, IsFree, Holds, of_line, on_made, event_on_all, events_on_all}

-- A line that waits for the answer waits on, and tells nothing

pub record WaitsOn (done : LineDone) : Type 0 where
  pub state : done.line.state ≡ Notification
  pub silent : done.notice ≡ None

detected_waits : (line : LineState) (event : Observed) (moment : ℕ) → line.state ≡ Notification → WaitsOn (detected line event moment)
unfolding detected quarantining
detected_waits line event moment waits =
    subst (λ (s : State). WaitsOn (detected_in s line event moment)) (sym waits) (record { state = waits; silent = refl })

pub hooked_state : (line : LineState) (act : Act) → (hooked line act).state ≡ line.state
hooked_state line OffHook = refl
hooked_state line OnHook = refl
hooked_state line Flash = refl
hooked_state line (Key key) = refl

pub phoned_waits : (line : LineState) (act : Act) (moment : ℕ) → line.state ≡ Notification → WaitsOn (phoned line act moment)
unfolding phoned
phoned_waits line act moment waits = detected_waits (hooked line act) (observed_at act) moment (hooked_state line act ∙ waits)

ended_waits : (kind : Kind) (signal : Signal) (line : LineState) (moment : ℕ) → line.state ≡ Notification → WaitsOn (ended_by kind signal line moment)
ended_waits TimeOut signal line moment waits = detected_waits line (Ended signal) moment waits
ended_waits Brief signal line moment waits = record { state = waits; silent = refl }
ended_waits OnOff signal line moment waits = record { state = waits; silent = refl }

pub fired_waits : (line : LineState) (due : LineDue) (moment : ℕ) → line.state ≡ Notification → WaitsOn (fired line due moment)
unfolding fired
fired_waits line DigitTimer moment waits = detected_waits (record line { timer = None }) (Happened (events.Letter Timer)) moment waits
fired_waits line (SignalEnd signal) moment waits =
    ended_waits (kind_of signal) signal (record line { signals = without signal line.signals }) moment waits

requested_waits : (line : LineState) (request : Request) (moment : ℕ) → line.state ≡ Notification → WaitsOn (asked line request moment)
unfolding asked replaced
requested_waits line request moment waits =
    subst (λ (s : State). WaitsOn (resumed_in s (replaced line request moment) moment)) (sym waits) (record { state = waits; silent = refl })

pub asked_waits : (request : Option Request) (line : LineState) (moment : ℕ) → line.state ≡ Notification → WaitsOn (asked_if request line moment)
asked_waits None line moment waits = record { state = waits; silent = refl }
asked_waits (Some request) line moment waits = requested_waits line request moment waits

-- The same message

pub repeated_same : (message : InFlight) (moment : ℕ) → IsSame message (repeated message moment)
unfolding repeated
repeated_same message moment = by_repeat (repeat_of message moment) where
  by_repeat : (repeat : Repeat) → IsSame message (again_as repeat message moment)
  by_repeat SentAgain = record { id = refl; route = refl; text = refl }
  by_repeat GivenUp = record { id = refl; route = refl; text = refl }

pub heard_same : (message : InFlight) (id code moment : ℕ) → IsSame message (heard message id code moment)
unfolding heard
heard_same message id code moment = by_reply (reply_of message id code) where
  by_reply : (reply : Reply) → IsSame message (heard_as reply message moment)
  by_reply replies.Answered = record { id = refl; route = refl; text = refl }
  by_reply replies.Provisional = record { id = refl; route = refl; text = refl }
  by_reply replies.Stranger = record { id = refl; route = refl; text = refl }

-- Ids

pub line_of_its_id : (line number : ℕ) → number < numbers → line_of_id (id_on line number) ≡ line
line_of_its_id line number below = div-mul-add line numbers number below

first_below : (line : ℕ) → first_number line < numbers
first_below line = by_test (line == 0) where
  by_test : (b : Bool) → (if b then 1 else 0) < numbers
  by_test true = omega arith
  by_test false = omega arith

pub next_below : (line number : ℕ) → number < numbers → number_after line number < numbers
next_below line number below = by_test (number + 1 == numbers) refl where
  by_test : (b : Bool) → (number + 1 == numbers) ≡ b → (if b then first_number line else number + 1) < numbers
  by_test true e = first_below line
  by_test false e =
      let apart : number + 1 ≢ numbers = λ same. absurd (let b : (number + 1 == numbers) ≡ true = (Decides-eqb (number + 1) numbers).1 same in cc) in
      omega arith

-- those of the gateway itself are below those of lines
pub own_apart : (number next line : ℕ) → number < numbers → next < numbers → 1 ≤ line → id_on 0 number ≢ id_on line next
own_apart number next line below other some same = absurd (omega (arith, below, some, same))

-- and never 0
pub own_id_some : (number : ℕ) → 1 ≤ id_on 0 number → 1 ≤ id_on 0 (number_after 0 number)
own_id_some number some = by_test (number + 1 == numbers) where
  by_test : (b : Bool) → 1 ≤ id_on 0 (if b then 1 else number + 1)
  by_test true = omega arith
  by_test false = omega arith

-- Where announcements are, and lines with them

-- what is in flight is another send of it
same_with : (line : ℕ) (message other : InFlight) (pending : Option InFlight) → pending ≡ Some message → other.id ≡ message.id → IsWith line pending → IsWith line (Some other)
same_with line message other pending is id has =
    let same : has.message ≡ message = (let both : Some has.message ≡ Some message = sym has.flies ∙ is in cc) in
    record { message = other; flies = refl; own = ap line_of_id id ∙ ap (λ (m : InFlight). line_of_id m.id) (sym same) ∙ has.own }

-- a line in order waits, or has nothing in flight and nothing to announce
pub order_is : (restart : Restart) (line : ℕ) (pending : Option InFlight) (state : State) → InOrderBy restart line pending state
    → (state ≡ Notification) ⊎ ((restart ≡ Serving) × (pending ≡ None))
order_is (Waiting until) line pending state order = inl order.1
order_is Announced line pending state order = inl order.1
order_is Serving line None state order = inr (refl, refl)
order_is Serving line (Some message) state order = inl order.0

-- a state that goes on to wait
waits_in_order : (restart : Restart) (line : ℕ) (pending : Option InFlight) (was is : State) → InOrderBy restart line pending was → (was ≡ Notification → is ≡ Notification)
    → InOrderBy restart line pending is
waits_in_order (Waiting until) line pending was is order goes = (order.0, goes order.1)
waits_in_order Announced line pending was is order goes = (order.0, goes order.1)
waits_in_order Serving line None was is order goes = tt
waits_in_order Serving line (Some message) was is order goes = (goes order.0, order.1)

-- another send of what is in flight
sent_in_order : (restart : Restart) (line : ℕ) (message other : InFlight) (state : State) → other.id ≡ message.id → InOrderBy restart line (Some message) state
    → InOrderBy restart line (Some other) state
sent_in_order (Waiting until) line message other state same order = absurd (none-some message (sym order.0))
sent_in_order Announced line message other state same order = (same_with line message other (Some message) refl same order.0, order.1)
sent_in_order Serving line message other state same order = (order.0, ap line_of_id same ∙ order.1)

-- what is in flight: the line waits
flying_waits : (restart : Restart) (line : ℕ) (message : InFlight) (state : State) → InOrderBy restart line (Some message) state
    → (state ≡ Notification) × (line_of_id message.id ≡ line)
unfolding same_with
flying_waits (Waiting until) line message state order = absurd (none-some message (sym order.0))
flying_waits Announced line message state order =
    (order.1, (same_with line message message (Some message) refl refl order.0).own ∙ refl)
flying_waits Serving line message state order = order

-- what begins is under an id of its line
begins_with : (line number : ℕ) (route : Route SocketAddrV4) (text : List ℕ) (moment : ℕ) → number < numbers → IsWith line (Some (sent_first (id_on line number) route text moment))
begins_with line number route text moment below =
    record { message = sent_first (id_on line number) route text moment; flies = refl; own = line_of_its_id line number below }

-- of a line, and the number of its next command
pub record Orders (serving : Bool) (line : ℕ) (endpoint : Endpoint) : Type 0 where
  pub order : InOrderWhile serving line endpoint
  pub below : endpoint.post.number < numbers

abbrev Any : Sent → Type 0
Any sent = Unit {0}

all_any : (sent : List Sent) → All Any sent
all_any [] = All-nil Any
all_any (one ∷ sent) = All-cons Any one sent tt (all_any sent)

-- it tells nothing, or waits from then on for the answer to what it tells
pub noted_silent : (setup : Setup) (line moment : ℕ) (endpoint : Endpoint) (done : LineDone) → done.notice ≡ None → noted setup line moment endpoint done ≡ silently (record endpoint { line = done.line })
unfolding noted
noted_silent setup line moment endpoint done none = ap (with_notice setup line moment (record endpoint { line = done.line })) none

noted_free : (setup : Setup) (line moment : ℕ) (endpoint : Endpoint) (done : LineDone) → endpoint.post.number < numbers → endpoint.post.restart ≡ Serving → endpoint.post.pending ≡ None
    → AwaitsIfNotified done → Orders true line (noted setup line moment endpoint done).value
unfolding noted
noted_free setup line moment endpoint done below serving none awaits = by_notice done.notice awaits where
  by_notice : (notice : Option Notice) → AwaitsIfNotified (record { line = done.line; notice = notice })
      → Orders true line (with_notice setup line moment (record endpoint { line = done.line }) notice).value
  by_notice None awaits = record {
    order = subst (λ (r : Restart). InOrderBy r line endpoint.post.pending done.line.state) (sym serving)
        (subst (λ (p : Option InFlight). InOrderBy Serving line p done.line.state) (sym none) tt);
    below = below;
  }
  by_notice (Some notice) awaits = record {
    order = subst (λ (r : Restart). InOrderBy r line (Some (sent_first (id_on line endpoint.post.number) endpoint.post.entity.route (written (notification setup line (id_on line endpoint.post.number) notice)) moment)) done.line.state) (sym serving)
        (awaits.state, line_of_its_id line endpoint.post.number below);
    below = next_below line endpoint.post.number below;
  }

noted_orders : (setup : Setup) (line moment : ℕ) (endpoint : Endpoint) (done : LineDone) → Orders true line endpoint → AwaitsIfNotified done
    → (endpoint.line.state ≡ Notification → WaitsOn done) → Orders true line (noted setup line moment endpoint done).value
noted_orders setup line moment endpoint done orders awaits waits =
    by_order (order_is endpoint.post.restart line endpoint.post.pending endpoint.line.state orders.order) where
      by_order : ((endpoint.line.state ≡ Notification) ⊎ ((endpoint.post.restart ≡ Serving) × (endpoint.post.pending ≡ None)))
          → Orders true line (noted setup line moment endpoint done).value
      by_order (inl is) =
          let on = waits is in
          let still : Orders true line (record endpoint { line = done.line }) = record {
            order = waits_in_order endpoint.post.restart line endpoint.post.pending endpoint.line.state done.line.state orders.order (λ was. on.state);
            below = orders.below;
          } in
          subst (λ (t : Effect Endpoint). Orders true line t.value) (sym (noted_silent setup line moment endpoint done on.silent)) still
      by_order (inr free) = noted_free setup line moment endpoint done orders.below free.0 free.1 awaits

noted_closed : (setup : Setup) (line moment : ℕ) (endpoint : Endpoint) (done : LineDone) → Orders false line endpoint → WaitsOn done → Orders false line (noted setup line moment endpoint done).value
noted_closed setup line moment endpoint done orders on =
    let still : Orders false line (record endpoint { line = done.line }) = record {
      order = record { restart = orders.order.restart; pending = orders.order.pending; state = on.state };
      below = orders.below;
    } in
    subst (λ (t : Effect Endpoint). Orders false line t.value) (sym (noted_silent setup line moment endpoint done on.silent)) still

acted_orders : (setup : Setup) (serving : Bool) (line moment : ℕ) (act : Act) (endpoint : Endpoint) → Orders serving line endpoint → Orders serving line (acted_on setup line moment act endpoint).value
acted_orders setup false line moment act endpoint orders =
    noted_closed setup line moment endpoint (phoned endpoint.line act moment) orders (phoned_waits endpoint.line act moment orders.order.state)
acted_orders setup true line moment act endpoint orders =
    noted_orders setup line moment endpoint (phoned endpoint.line act moment) orders (notifies_once.act endpoint.line act moment) (phoned_waits endpoint.line act moment)

pub asked_awaits : (request : Option Request) (line : LineState) (moment : ℕ) → AwaitsIfNotified (asked_if request line moment)
asked_awaits None line moment = tt
asked_awaits (Some request) line moment = notifies_once.request line request moment

deed_orders : (setup : Setup) (deed : Deed) (line moment : ℕ) (endpoint : Endpoint) → Orders true line endpoint → Orders true line (deed_on setup deed moment line endpoint).value
unfolding deed_on
deed_orders setup deed line moment endpoint orders =
    noted_orders setup line moment (with_connections deed (with_entity deed.entity endpoint)) (asked_if deed.request endpoint.line moment)
    (record { order = orders.order; below = orders.below }) (asked_awaits deed.request endpoint.line moment) (asked_waits deed.request endpoint.line moment)

-- what falls due of a post

-- nothing is in flight of a line that is closed
happened_closed : (setup : Setup) (due : DueKind) (line moment : ℕ) (endpoint : Endpoint) → Orders false line endpoint → Orders false line (happened_on due setup line moment endpoint).value
unfolding happened_on
happened_closed setup (OfLine due) line moment endpoint orders =
    noted_closed setup line moment endpoint (fired endpoint.line due moment) orders (fired_waits endpoint.line due moment orders.order.state)
happened_closed setup Resend line moment endpoint orders =
    subst (λ (p : Option InFlight). Orders false line (posted endpoint (resent_by p setup line moment endpoint.post)).value) (sym orders.order.pending) orders
happened_closed setup Announce line moment endpoint orders =
    subst (λ (r : Restart). Orders false line (posted endpoint (announced_by r setup line moment endpoint.post)).value) (sym orders.order.restart) orders

happened_open : (setup : Setup) (due : DueKind) (line moment : ℕ) (endpoint : Endpoint) → Orders true line endpoint → Orders true line (happened_on due setup line moment endpoint).value
unfolding happened_on announced
happened_open setup (OfLine due) line moment endpoint orders =
    noted_orders setup line moment endpoint (fired endpoint.line due moment) orders (notifies_once.firing endpoint.line due moment) (fired_waits endpoint.line due moment)
happened_open setup Resend line moment endpoint orders = by_pending endpoint.post.pending orders.order where
  by_repeat : (message : InFlight) (repeat : Repeat) → InOrderBy endpoint.post.restart line (Some message) endpoint.line.state
      → Orders true line (posted endpoint (repeated_as repeat setup line moment endpoint.post message)).value
  by_repeat message SentAgain order =
      record { order = sent_in_order endpoint.post.restart line message (repeated message moment) endpoint.line.state (repeated_same message moment).id order; below = orders.below }
  by_repeat message GivenUp order =
      record { order = (refl, (flying_waits endpoint.post.restart line message endpoint.line.state order).0); below = orders.below }

  by_pending : (pending : Option InFlight) → InOrderBy endpoint.post.restart line pending endpoint.line.state
      → Orders true line (posted endpoint (resent_by pending setup line moment endpoint.post)).value
  by_pending None order = orders
  by_pending (Some message) order = by_repeat message (repeat_of message moment) order
happened_open setup Announce line moment endpoint orders = by_restart endpoint.post.restart orders.order where
  by_restart : (restart : Restart) → InOrderBy restart line endpoint.post.pending endpoint.line.state
      → Orders true line (posted endpoint (announced_by restart setup line moment endpoint.post)).value
  by_restart (Waiting until) order =
      record { order = (begins_with line endpoint.post.number _ _ moment orders.below, order.1); below = next_below line endpoint.post.number orders.below }
  by_restart Announced order = orders
  by_restart Serving order = orders

happened_orders : (setup : Setup) (serving : Bool) (due : DueKind) (line moment : ℕ) (endpoint : Endpoint) → Orders serving line endpoint → Orders serving line (happened_on due setup line moment endpoint).value
happened_orders setup false due line moment endpoint orders = happened_closed setup due line moment endpoint orders
happened_orders setup true due line moment endpoint orders = happened_open setup due line moment endpoint orders

-- a response

-- another agent is named for an announcement that is on its way alone
pub redirected_announced : (post : Post) (response : Response) (agent : Entity) → heard_on post response ≡ Redirected agent → post.restart ≡ Announced
redirected_announced post response agent e = by_pending post.pending e where
  by_restart : (restart : Restart) → answer_of restart response.code response.entity ≡ Redirected agent → restart ≡ Announced
  by_restart (Waiting until) e = absurd cc
  by_restart Announced e = refl
  by_restart Serving e = absurd cc

  by_reply : (reply : Reply) → heard_of post.restart reply response.code response.entity ≡ Redirected agent → post.restart ≡ Announced
  by_reply Stranger e = absurd cc
  by_reply Provisional e = absurd cc
  by_reply replies.Answered e = by_restart post.restart e

  by_pending : (pending : Option InFlight) → heard_by pending post.restart response ≡ Redirected agent → post.restart ≡ Announced
  by_pending None e = absurd cc
  by_pending (Some message) e = by_reply (reply_of message response.id response.code) e

-- what is put off stays in flight
put_off_in_order : (restart : Restart) (line : ℕ) (response : Response) (moment : ℕ) (pending : Option InFlight) (state : State) → InOrderBy restart line pending state
    → InOrderBy restart line (option_map (λ message. heard message response.id response.code moment) pending) state
put_off_in_order restart line response moment (Some message) state order =
    sent_in_order restart line message (heard message response.id response.code moment) state (heard_same message response.id response.code moment).id order
put_off_in_order (Waiting until) line response moment None state order = order
put_off_in_order Announced line response moment None state order = absurd (none-some order.0.message order.0.flies)
put_off_in_order Serving line response moment None state order = order

responded_open : (setup : Setup) (line moment : ℕ) (response : Response) (endpoint : Endpoint) → Orders true line endpoint → Orders true line (responded_on setup line moment response endpoint).value
unfolding responded_on replied announced
responded_open setup line moment response endpoint orders = by_heard (heard_on endpoint.post response) refl where
  by_heard : (heard : Heard) → heard_on endpoint.post response ≡ heard → Orders true line (responded_as heard setup line moment response endpoint).value
  by_heard Nothing e = orders
  by_heard PutOff e =
      record { order = put_off_in_order endpoint.post.restart line response moment endpoint.post.pending endpoint.line.state orders.order; below = orders.below }
  by_heard (Redirected agent) e =
      let order : InOrderBy Announced line endpoint.post.pending endpoint.line.state =
      subst (λ (r : Restart). InOrderBy r line endpoint.post.pending endpoint.line.state) (redirected_announced endpoint.post response agent e) orders.order in
      record { order = (begins_with line endpoint.post.number _ _ moment orders.below, order.1); below = next_below line endpoint.post.number orders.below }
  by_heard (Answered agent) e =
      noted_free setup line moment (record endpoint { post = record endpoint.post { entity = unwrap_or agent endpoint.post.entity; pending = None; restart = Serving } })
      (answered endpoint.line moment) orders.below refl refl (notifies_once.answering endpoint.line moment)

responded_closed : (setup : Setup) (line moment : ℕ) (response : Response) (endpoint : Endpoint) → Orders false line endpoint → Orders false line (responded_on setup line moment response endpoint).value
unfolding responded_on
responded_closed setup line moment response endpoint orders =
    let nothing : heard_on endpoint.post response ≡ Nothing = ap (λ (p : Option InFlight). heard_by p endpoint.post.restart response) orders.order.pending in
    subst (λ (heard : Heard). Orders false line (responded_as heard setup line moment response endpoint).value) (sym nothing) orders

responded_orders : (setup : Setup) (serving : Bool) (line moment : ℕ) (response : Response) (endpoint : Endpoint) → Orders serving line endpoint
    → Orders serving line (responded_on setup line moment response endpoint).value
responded_orders setup false line moment response endpoint orders = responded_closed setup line moment response endpoint orders
responded_orders setup true line moment response endpoint orders = responded_open setup line moment response endpoint orders

redirected_orders : (agent : Entity) (line : ℕ) (endpoint : Endpoint) → Orders false line endpoint → Orders false line (redirected_on agent line endpoint).value
unfolding redirected_on
redirected_orders agent line endpoint orders =
    record { order = record { restart = orders.order.restart; pending = orders.order.pending; state = orders.order.state }; below = orders.below }

opened_orders : (setup : Setup) (agent : Option Entity) (line moment : ℕ) (endpoint : Endpoint) → Orders false line endpoint → Orders true line (opened_on agent setup moment line endpoint).value
unfolding opened_on
opened_orders setup agent line moment endpoint orders =
    noted_free setup line moment (with_entity agent endpoint) (opened endpoint.line moment) orders.below orders.order.restart orders.order.pending (notifies_once.serving endpoint.line moment)

ordering : (setup : Setup) → Turns setup Orders Any
ordering setup = record {
  act = λ serving line moment act endpoint orders. (acted_orders setup serving line moment act endpoint orders, all_any _);
  deed = λ command confirms target deed is line moment endpoint orders.
      (deed_orders setup deed line moment endpoint orders, all_any _);
  response = λ serving line moment response endpoint read orders. (responded_orders setup serving line moment response endpoint orders, all_any _);
  happening = λ serving due line moment endpoint orders. (happened_orders setup serving due line moment endpoint orders, all_any _);
  redirecting = λ agent line endpoint read orders. (redirected_orders agent line endpoint orders, all_any _);
  opening = λ agent line moment endpoint read orders. (opened_orders setup agent line moment endpoint orders, all_any _);
}

-- the gateway itself

pub record OwnOrders (own : Post) : Type 0 where
  pub order : OwnIsInOrder own
  pub below : own.number < numbers

pub own_free : (own : Post) → OwnIsInOrder own → IsFree own
own_free own order = λ serving. by_restart own.restart order serving where
  by_restart : (restart : Restart) → OwnInOrderBy restart own.pending → is_serving restart ≡ true → own.pending ≡ None
  by_restart (Waiting until) order serving = order
  by_restart Announced order serving = absurd cc
  by_restart Serving order serving = order

own_sent_in_order : (restart : Restart) (message other : InFlight) → other.id ≡ message.id → OwnInOrderBy restart (Some message) → OwnInOrderBy restart (Some other)
own_sent_in_order (Waiting until) message other same order = absurd (none-some message (sym order))
own_sent_in_order Announced message other same order = same_with 0 message other (Some message) refl same order
own_sent_in_order Serving message other same order = absurd (none-some message (sym order))

own_put_off : (restart : Restart) (response : Response) (moment : ℕ) (pending : Option InFlight) → OwnInOrderBy restart pending
    → OwnInOrderBy restart (option_map (λ message. heard message response.id response.code moment) pending)
own_put_off restart response moment (Some message) order =
    own_sent_in_order restart message (heard message response.id response.code moment) (heard_same message response.id response.code moment).id order
own_put_off (Waiting until) response moment None order = order
own_put_off Announced response moment None order = absurd (none-some order.message order.flies)
own_put_off Serving response moment None order = order

own_happened_orders : (setup : Setup) (due : DueKind) (moment : ℕ) (own : Post) → OwnOrders own → OwnOrders (happened_under due setup 0 moment own).value
unfolding happened_under announced
own_happened_orders setup (OfLine due) moment own orders = orders
own_happened_orders setup Resend moment own orders = by_pending own.pending orders.order where
  by_repeat : (message : InFlight) (repeat : Repeat) → OwnInOrderBy own.restart (Some message)
      → OwnOrders (repeated_as repeat setup 0 moment own message).value
  by_repeat message SentAgain order =
      record { order = own_sent_in_order own.restart message (repeated message moment) (repeated_same message moment).id order; below = orders.below }
  by_repeat message GivenUp order = record { order = refl; below = orders.below }

  by_pending : (pending : Option InFlight) → OwnInOrderBy own.restart pending → OwnOrders (resent_by pending setup 0 moment own).value
  by_pending None order = orders
  by_pending (Some message) order = by_repeat message (repeat_of message moment) order
own_happened_orders setup Announce moment own orders = by_restart own.restart where
  by_restart : (restart : Restart) → OwnOrders (announced_by restart setup 0 moment own).value
  by_restart (Waiting until) = record { order = begins_with 0 own.number _ _ moment orders.below; below = next_below 0 own.number orders.below }
  by_restart Announced = orders
  by_restart Serving = orders

own_responded_orders : (setup : Setup) (moment : ℕ) (response : Response) (own : Post) → OwnOrders own → OwnOrders (replied_on setup 0 moment response own).value
unfolding replied_on replied announced
own_responded_orders setup moment response own orders = by_heard (heard_on own response) where
  by_heard : (heard : Heard) → OwnOrders (replied heard setup 0 moment response own).value
  by_heard Nothing = orders
  by_heard PutOff = record { order = own_put_off own.restart response moment own.pending orders.order; below = orders.below }
  by_heard (Redirected agent) = record { order = begins_with 0 own.number _ _ moment orders.below; below = next_below 0 own.number orders.below }
  by_heard (Answered agent) = record { order = refl; below = orders.below }

own_ordering : (setup : Setup) → OwnTurns setup Orders OwnOrders Any
own_ordering setup = record {
  free = λ own orders. inl (own_free own orders.order);
  response = λ moment response own read orders. (own_responded_orders setup moment response own orders, all_any _);
  happening = λ due moment own orders. (own_happened_orders setup due moment own orders, all_any _);
}

-- from the opening on

pub opening_orders : (setup : Setup) → Holds Orders OwnOrders (opening setup).endpoints
opening_orders setup = record {
  list = on_made (Orders false) (opening_endpoint setup) 1 setup.names.lines
      (λ i low high. record { order = record { restart = refl; pending = refl; state = refl }; below = omega arith });
  own = record { order = refl; below = omega arith };
}

pub all_order : (setup : Setup) (events : List GatewayEvent) → Holds Orders OwnOrders (machine_after setup (opening setup) events).endpoints
all_order setup events = events_on_all setup Orders OwnOrders Any (ordering setup) (own_ordering setup) (opening setup) events (opening_orders setup)

pub orders_on : (setup : Setup) (m : Machine) (event : GatewayEvent) → Holds Orders OwnOrders m.endpoints → Holds Orders OwnOrders (effect setup m event).value.endpoints
orders_on setup m event all = event_on_all setup Orders OwnOrders Any (ordering setup) (own_ordering setup) m event all

pub orders_happened : (setup : Setup) (endpoints : Endpoints) (item : DueItem) → Holds Orders OwnOrders endpoints → Holds Orders OwnOrders (happened setup endpoints item).value
orders_happened setup endpoints item all = (happened_goes setup Orders OwnOrders Any (ordering setup) (own_ordering setup) endpoints item all).holds

pub orders_acted : (setup : Setup) (endpoints : Endpoints) (line moment : ℕ) (act : Act) → Holds Orders OwnOrders endpoints → Holds Orders OwnOrders (acted setup endpoints line moment act).value
orders_acted setup endpoints line moment act all = (acted_goes setup Orders OwnOrders Any (ordering setup) (own_ordering setup) endpoints line moment act all).holds

pub orders_passed : (setup : Setup) (endpoints : Endpoints) (moment : ℕ) → Holds Orders OwnOrders endpoints → Holds Orders OwnOrders (pass setup endpoints moment).value
orders_passed setup endpoints moment all = (pass_goes setup Orders OwnOrders Any (ordering setup) (own_ordering setup) endpoints moment all).holds

pub orders_handled : (setup : Setup) (m : Machine) (source : SocketAddrV4) (outcome : Outcome) → Holds Orders OwnOrders m.endpoints
    → Holds Orders OwnOrders (handled setup m source outcome).value.endpoints
orders_handled setup m source outcome all = handled_on_all setup Orders OwnOrders Any (ordering setup) (own_ordering setup) m source outcome all

pub in_order : (endpoints : Endpoints) → Holds Orders OwnOrders endpoints → AreInOrder endpoints
in_order endpoints all = record {
  own = all.own.order;
  lines = λ line endpoint at. (of_line (Orders (serves endpoints)) endpoints line endpoint all.list at).order;
}

pub posts_in_order : (setup : Setup) (events : List GatewayEvent) → AreInOrder (machine_after setup (opening setup) events).endpoints
posts_in_order setup events = in_order (machine_after setup (opening setup) events).endpoints (all_order setup events)

-- A line waits for the answer to its command

pub order_waits : (serving : Bool) (line : ℕ) (endpoint : Endpoint) → InOrderWhile serving line endpoint → Waits line endpoint
order_waits false line endpoint order =
    subst (λ (p : Option InFlight). IfSome p (λ message. (endpoint.line.state ≡ Notification) × (line_of_id message.id ≡ line))) (sym order.pending) tt
order_waits true line endpoint order = by_pending endpoint.post.pending order where
  by_pending : (pending : Option InFlight) → InOrderBy endpoint.post.restart line pending endpoint.line.state
      → IfSome pending (λ message. (endpoint.line.state ≡ Notification) × (line_of_id message.id ≡ line))
  by_pending None order = tt
  by_pending (Some message) order = flying_waits endpoint.post.restart line message endpoint.line.state order

pub waits_for_the_answer : (setup : Setup) (events : List GatewayEvent) (line : ℕ) (endpoint : Endpoint)
    → endpoint_at (machine_after setup (opening setup) events).endpoints line ≡ Some endpoint → Waits line endpoint
waits_for_the_answer setup events line endpoint at =
    order_waits (serves (machine_after setup (opening setup) events).endpoints) line endpoint ((posts_in_order setup events).lines line endpoint at)

-- It has one command in flight

pub noted_begins_nothing : (setup : Setup) (line moment : ℕ) (endpoint : Endpoint) (done : LineDone) → done.notice ≡ None → BeginsNothing endpoint (noted setup line moment endpoint done)
unfolding noted
noted_begins_nothing setup line moment endpoint done none =
    subst (λ (n : Option Notice). BeginsNothing endpoint (with_notice setup line moment (record endpoint { line = done.line }) n)) (sym none) (record { pending = refl; sent = refl })

it_waits : (line : ℕ) (endpoint : Endpoint) (message : InFlight) → Waits line endpoint → endpoint.post.pending ≡ Some message → endpoint.line.state ≡ Notification
it_waits line endpoint message waits pending =
    (subst (λ (p : Option InFlight). IfSome p (λ message. (endpoint.line.state ≡ Notification) × (line_of_id message.id ≡ line))) pending waits).0

pub no_command_at_an_act : (setup : Setup) (line moment : ℕ) (act : Act) (endpoint : Endpoint) (message : InFlight) → Waits line endpoint → endpoint.post.pending ≡ Some message
    → BeginsNothing endpoint (acted_on setup line moment act endpoint)
no_command_at_an_act setup line moment act endpoint message waits pending =
    noted_begins_nothing setup line moment endpoint (phoned endpoint.line act moment)
    (phoned_waits endpoint.line act moment (it_waits line endpoint message waits pending)).silent

pub no_command_at_a_deed : (setup : Setup) (deed : Deed) (line moment : ℕ) (endpoint : Endpoint) (message : InFlight) → Waits line endpoint
    → endpoint.post.pending ≡ Some message → BeginsNothing endpoint (deed_on setup deed moment line endpoint)
unfolding deed_on
no_command_at_a_deed setup deed line moment endpoint message waits pending =
    let begins = noted_begins_nothing setup line moment (with_connections deed (with_entity deed.entity endpoint)) (asked_if deed.request endpoint.line moment)
    (asked_waits deed.request endpoint.line moment (it_waits line endpoint message waits pending)).silent in
    record { pending = begins.pending; sent = begins.sent }

pub no_command_when_due : (setup : Setup) (due : LineDue) (line moment : ℕ) (endpoint : Endpoint) (message : InFlight) → Waits line endpoint → endpoint.post.pending ≡ Some message
    → BeginsNothing endpoint (happened_on (OfLine due) setup line moment endpoint)
unfolding happened_on
no_command_when_due setup due line moment endpoint message waits pending =
    noted_begins_nothing setup line moment endpoint (fired endpoint.line due moment)
    (fired_waits endpoint.line due moment (it_waits line endpoint message waits pending)).silent

abbrev IsPutOff : Heard → Type 0
IsPutOff Nothing = Unit {0}
IsPutOff PutOff = Unit {0}
IsPutOff (Redirected agent) = ⊥
IsPutOff (Answered agent) = ⊥

other_is_no_answer : (post : Post) (response : Response) (message : InFlight) → post.pending ≡ Some message → reply_of message response.id response.code ≢ replies.Answered
    → IsPutOff (heard_on post response)
other_is_no_answer post response message pending other =
    subst (λ (p : Option InFlight). IsPutOff (heard_by p post.restart response)) (sym pending) (by_reply (reply_of message response.id response.code) refl) where
      by_reply : (reply : Reply) → reply_of message response.id response.code ≡ reply → IsPutOff (heard_of post.restart reply response.code response.entity)
      by_reply Stranger e = tt
      by_reply Provisional e = tt
      by_reply replies.Answered e = absurd (other e)

it_stays : (post : Post) (message : InFlight) → post.pending ≡ Some message → IfSome post.pending (IsSame message)
it_stays post message pending = subst (λ (p : Option InFlight). IfSome p (IsSame message)) (sym pending) (record { id = refl; route = refl; text = refl })

it_is_put_off : (response : Response) (moment : ℕ) (post : Post) (message : InFlight) → post.pending ≡ Some message → IfSome (put_off response moment post).pending (IsSame message)
it_is_put_off response moment post message pending =
    subst (λ (p : Option InFlight). IfSome (option_map (λ message. heard message response.id response.code moment) p) (IsSame message)) (sym pending)
    (heard_same message response.id response.code moment)

pub no_command_at_another_response : (setup : Setup) (line moment : ℕ) (response : Response) (endpoint : Endpoint) (message : InFlight) → endpoint.post.pending ≡ Some message
    → reply_of message response.id response.code ≢ replies.Answered
    → ((responded_on setup line moment response endpoint).sent ≡ []) × IfSome (responded_on setup line moment response endpoint).value.post.pending (IsSame message)
unfolding responded_on replied
no_command_at_another_response setup line moment response endpoint message pending other =
    by_heard (heard_on endpoint.post response) (other_is_no_answer endpoint.post response message pending other) where
      by_heard : (heard : Heard) → IsPutOff heard
          → ((responded_as heard setup line moment response endpoint).sent ≡ []) × IfSome (responded_as heard setup line moment response endpoint).value.post.pending (IsSame message)
      by_heard Nothing is = (refl, it_stays endpoint.post message pending)
      by_heard PutOff is = (refl, it_is_put_off response moment endpoint.post message pending)
      by_heard (Redirected agent) is = absurd is
      by_heard (Answered agent) is = absurd is

pub no_own_command_at_another_response : (setup : Setup) (moment : ℕ) (response : Response) (own : Post) (message : InFlight) → own.pending ≡ Some message
    → reply_of message response.id response.code ≢ replies.Answered
    → ((replied_on setup 0 moment response own).sent ≡ []) × IfSome (replied_on setup 0 moment response own).value.pending (IsSame message)
unfolding replied_on replied
no_own_command_at_another_response setup moment response own message pending other =
    by_heard (heard_on own response) (other_is_no_answer own response message pending other) where
      by_heard : (heard : Heard) → IsPutOff heard
          → ((replied heard setup 0 moment response own).sent ≡ []) × IfSome (replied heard setup 0 moment response own).value.pending (IsSame message)
      by_heard Nothing is = (refl, it_stays own message pending)
      by_heard PutOff is = (refl, it_is_put_off response moment own message pending)
      by_heard (Redirected agent) is = absurd is
      by_heard (Answered agent) is = absurd is

-- A repeat is the same message

-- it goes to the address of its route that is next
goes_on : (message : InFlight) (moment : ℕ) → repeat_of message moment ≡ SentAgain → sent_to (repeated message moment) ≡ at message.route (message.repeats + 1)
unfolding repeated
goes_on message moment again = ap (λ (r : Repeat). sent_to (again_as r message moment)) again

post_carries : (setup : Setup) (line moment : ℕ) (post : Post) (message : InFlight) → post.pending ≡ Some message
    → All (Carries line (message.repeats + 1) message) (resent_on setup line moment post).sent
post_carries setup line moment post message pending =
    subst (λ (p : Option InFlight). All (Carries line (message.repeats + 1) message) (resent_by p setup line moment post).sent) (sym pending) (by_repeat (repeat_of message moment) refl) where
      by_repeat : (repeat : Repeat) → repeat_of message moment ≡ repeat → All (Carries line (message.repeats + 1) message) (repeated_as repeat setup line moment post message).sent
      by_repeat SentAgain again =
          All-cons (Carries line (message.repeats + 1) message) _ [] (record { to = goes_on message moment again; text = refl; owner = refl }) (All-nil (Carries line (message.repeats + 1) message))
      by_repeat GivenUp again = All-nil (Carries line (message.repeats + 1) message)

post_keeps : (setup : Setup) (line moment : ℕ) (post : Post) (message : InFlight) → post.pending ≡ Some message → IfSome (resent_on setup line moment post).value.pending (IsSame message)
post_keeps setup line moment post message pending =
    subst (λ (p : Option InFlight). IfSome (resent_by p setup line moment post).value.pending (IsSame message)) (sym pending) (by_repeat (repeat_of message moment)) where
      by_repeat : (repeat : Repeat) → IfSome (repeated_as repeat setup line moment post message).value.pending (IsSame message)
      by_repeat SentAgain = repeated_same message moment
      by_repeat GivenUp = tt

pub repeat_carries : (setup : Setup) (line moment : ℕ) (endpoint : Endpoint) (message : InFlight) → endpoint.post.pending ≡ Some message
    → All (Carries line (message.repeats + 1) message) (happened_on Resend setup line moment endpoint).sent
unfolding happened_on
repeat_carries setup line moment endpoint message pending = post_carries setup line moment endpoint.post message pending

pub repeat_keeps : (setup : Setup) (line moment : ℕ) (endpoint : Endpoint) (message : InFlight) → endpoint.post.pending ≡ Some message
    → IfSome (happened_on Resend setup line moment endpoint).value.post.pending (IsSame message)
unfolding happened_on
repeat_keeps setup line moment endpoint message pending = post_keeps setup line moment endpoint.post message pending

pub own_carries : (setup : Setup) (moment : ℕ) (own : Post) (message : InFlight) → own.pending ≡ Some message
    → All (Carries 0 (message.repeats + 1) message) (happened_under Resend setup 0 moment own).sent
unfolding happened_under
own_carries setup moment own message pending = post_carries setup 0 moment own message pending

pub own_keeps : (setup : Setup) (moment : ℕ) (own : Post) (message : InFlight) → own.pending ≡ Some message
    → IfSome (happened_under Resend setup 0 moment own).value.pending (IsSame message)
unfolding happened_under
own_keeps setup moment own message pending = post_keeps setup 0 moment own message pending

-- A response changes its own line alone, or the gateway itself

-- a response to a line, and to the gateway itself
pub is_of_line : (setup : Setup) (endpoints : Endpoints) (moment : ℕ) (response : Response) → line_of_id response.id ≢ 0
    → responded setup endpoints moment response ≡ on_line endpoints (line_of_id response.id) (responded_on setup (line_of_id response.id) moment response)
is_of_line setup endpoints moment response some = by_test (line_of_id response.id == 0) refl where
  by_test : (b : Bool) → (line_of_id response.id == 0) ≡ b
      → (if b then own_heard setup endpoints moment response else on_line endpoints (line_of_id response.id) (responded_on setup (line_of_id response.id) moment response))
      ≡ on_line endpoints (line_of_id response.id) (responded_on setup (line_of_id response.id) moment response)
  by_test true e = absurd (some ((Decides-eqb (line_of_id response.id) 0).0 e))
  by_test false e = refl

pub is_own : (setup : Setup) (endpoints : Endpoints) (moment : ℕ) (response : Response) → line_of_id response.id ≡ 0
    → responded setup endpoints moment response ≡ own_heard setup endpoints moment response
is_own setup endpoints moment response none =
    ap (λ (b : Bool). if b then own_heard setup endpoints moment response else on_line endpoints (line_of_id response.id) (responded_on setup (line_of_id response.id) moment response))
    ((Decides-eqb (line_of_id response.id) 0).1 none)

pub own_stays_at : (endpoints : Endpoints) (line : ℕ) (turn : Endpoint → Effect Endpoint) → (on_line endpoints line turn).value.own ≡ endpoints.own
unfolding on_line
own_stays_at endpoints line turn = by_endpoint (endpoint_at endpoints line) where
  by_endpoint : (found : Option Endpoint) → (turned_at found endpoints line turn).value.own ≡ endpoints.own
  by_endpoint None = refl
  by_endpoint (Some endpoint) = refl

pub own_stays : (setup : Setup) (endpoints : Endpoints) (moment : ℕ) (response : Response) → line_of_id response.id ≢ 0
    → (responded setup endpoints moment response).value.own ≡ endpoints.own
own_stays setup endpoints moment response some =
    subst (λ (told : Effect Endpoints). told.value.own ≡ endpoints.own) (sym (is_of_line setup endpoints moment response some))
    (own_stays_at endpoints (line_of_id response.id) (responded_on setup (line_of_id response.id) moment response))

-- a response under another id is to nothing that is in flight
no_reply : (post : Post) (response : Response) → IfSome post.pending (λ message. message.id ≢ response.id) → heard_on post response ≡ Nothing
no_reply post response stranger = by_pending post.pending stranger where
  none_false : (b : Bool) → (b ≡ true → ⊥) → b ≡ false
  none_false true never = absurd (never refl)
  none_false false never = refl

  strange : (flight : InFlight) → flight.id ≢ response.id → reply_of flight response.id response.code ≡ Stranger
  strange flight apart =
      ap (λ (b : Bool). if b then reply_by response.code else Stranger) (none_false (flight.id == response.id) (λ e. apart ((Decides-eqb flight.id response.id).0 e)))

  by_pending : (pending : Option InFlight) → IfSome pending (λ message. message.id ≢ response.id) → heard_by pending post.restart response ≡ Nothing
  by_pending None stranger = refl
  by_pending (Some flight) apart = ap (λ (reply : Reply). heard_of post.restart reply response.code response.entity) (strange flight apart)

-- what is heard by the gateway itself
pub nothing_heard : (setup : Setup) (endpoints : Endpoints) (moment : ℕ) (response : Response) → line_of_id response.id ≡ 0 → heard_on endpoints.own response ≡ Nothing
    → responded setup endpoints moment response ≡ silently endpoints
unfolding replied_on replied
nothing_heard setup endpoints moment response none nothing =
    is_own setup endpoints moment response none
    ∙ ap (λ (heard : Heard). afterwards (effect_map (with_own endpoints) (replied heard setup 0 moment response endpoints.own)) (λ next. lines_told heard setup moment next)) nothing

pub a_stranger_to_itself : (setup : Setup) (endpoints : Endpoints) (moment : ℕ) (response : Response) → line_of_id response.id ≡ 0
    → IfSome endpoints.own.pending (λ message. message.id ≢ response.id) → responded setup endpoints moment response ≡ silently endpoints
a_stranger_to_itself setup endpoints moment response none stranger =
    nothing_heard setup endpoints moment response none (no_reply endpoints.own response stranger)

-- once it serves nothing is heard any more
pub a_served_gateway_hears_nothing : (setup : Setup) (endpoints : Endpoints) (moment : ℕ) (response : Response) → line_of_id response.id ≡ 0 → AreInOrder endpoints → serves endpoints ≡ true
    → responded setup endpoints moment response ≡ silently endpoints
a_served_gateway_hears_nothing setup endpoints moment response none order served =
    nothing_heard setup endpoints moment response none
    (ap (λ (p : Option InFlight). heard_by p endpoints.own.restart response) (own_free endpoints.own order.own served))
