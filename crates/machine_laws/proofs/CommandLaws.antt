-- Every command that lines send, and each time that it or one of the gateway itself is sent again, is a message as it goes out.
use Rattle.std.proofs.Common.{◌≡◌, ℕ, ◌<◌, ◌≤◌, true, List, [], ◌∷◌, Option, Some, None, Ok, inr, ap, ◌∙◌, arith}
use Rattle.std.specs.Prelude.{All, IfSome, option_map}
use Rattle.std.proofs.lemmas.List.Elements.{All-nil, All-cons}
use Rattle.mgcp_text.specs.declared.confirmation.KValue.{KValue}
use Rattle.mgcp_text.specs.declared.message.Param.{Param}
use Rattle.command_forms.specs.declared.forms.Asks.TheVariants.{Does}
use Rattle.command_forms.specs.declared.forms.Deed.{Deed}
use Rattle.events_and_signals.specs.declared.request.Request.{Request}
use Rattle.command_forms.specs.declared.forms.Target.{Target}
use Rattle.command_forms.specs.Command.{Command}
use Rattle.command_forms.specs.Codes.{HasValues}
use Rattle.command_forms.specs.Order.{form_of}
use Rattle.command_forms.proofs.FormLemmas.{deed_has_values}
use Rattle.retransmission.specs.declared.repeat.Repeat.{Repeat}
use Rattle.retransmission.specs.declared.repeat.Repeat.TheVariants.{Sent as SentAgain, GivenUp}
use Rattle.retransmission.specs.Flight.{InFlight, repeat_of, heard}
use Rattle.retransmission.specs.declared.restart.Restart.{Restart}
use Rattle.retransmission.specs.declared.restart.Restart.TheVariants.{Waiting, Announced, Serving}
use Rattle.retransmission.specs.declared.heard.Heard.{Heard}
use Rattle.retransmission.specs.declared.heard.Heard.TheVariants.{Nothing, PutOff, Redirected, Answered}
use Rattle.mg_line.specs.Line.{LineState, LineDone, Notice}
use Rattle.mg_line.specs.Acting.{phoned}
use Rattle.mg_line.specs.Answering.{answered}
use Rattle.mg_line.specs.Falling.{fired}
use Rattle.timers.specs.declared.kind.DueKind.{DueKind}
use Rattle.timers.specs.declared.kind.DueKind.TheVariants.{OfLine, Resend, Announce}
use Rattle.plain_machine.specs.declared.post.Post.{Post}
use Rattle.plain_machine.specs.declared.response.Response.{Response}
use Rattle.plain_machine.specs.declared.setup.Setup.{Setup}
use Rattle.plain_machine.specs.declared.endpoint.Endpoint.{Endpoint}
use Rattle.plain_machine.specs.Effect.{Effect, silently}
use Rattle.plain_machine.specs.Setup.{IsSetUp, most_lines}
use Rattle.plain_machine.specs.Message.{Sent, datagram_of}
use Rattle.plain_machine.specs.Posting.{numbers, id_on, repeated_as, resent_by, resent_on}
use Rattle.plain_machine.specs.Announcing.{announced, announced_by, announced_on, heard_on, put_off, replied, replied_on}
use Rattle.plain_machine.specs.Notifying.{posted, with_notice, noted}
use Rattle.plain_machine.specs.Machine.{opening_endpoint, opening}
use Rattle.transmission.specs.Texts.{largest_datagram}
use Rattle.plain_machine.specs.Requesting.{with_entity, with_connections, asked_if, deed_on}
use Rattle.plain_machine.specs.Falling.{happened_on, happened_under}
use Rattle.plain_machine.specs.Responding.{responded_as, responded_on, redirected_on, opened_on}
use Rattle.mg_line.specs.Opening.{opened}
use Rattle.endpoint_names.specs.declared.entity.Entity.{Entity}
use Rattle.mgcp_text.specs.Packing.{is_joinable}
use Rattle.transmission.proofs.PackingLaws.{IsMessage}
use Rattle.machine_laws.proofs.FlightLaws.{next_below, repeated_same, heard_same}
use Rattle.machine_laws.proofs.NotificationLemmas.{announcement_goes, notification_goes}
use Rattle.plain_machine.proofs.IdLemmas.{next_some}
use Rattle.machine_laws.proofs.MapLemmas.{read_change, requested_spelled}
use Rattle.machine_laws.proofs.NoticeLemmas.{IsFine, IsTold, IsDone, opening_is_fine, phoned_done, asked_done, answered_done, opened_done, fired_done}
use Rattle.machine_laws.proofs.AllLemmas.{Gives}
use Rattle.machine_laws.proofs.TurnLemmas.{Good, Always, Turns, OwnTurns, Holds, on_made}

-- a text that can go out
abbrev pub Goes : List ℕ → Type 0
Goes text = is_joinable largest_datagram text ≡ true

-- a message that goes out
abbrev pub IsOut : Sent → Type 0
IsOut sent = IsMessage (datagram_of sent)

-- an endpoint of which each command that it sends is a message
pub record Sound (line : ℕ) (endpoint : Endpoint) : Type 0 where
  pub some : 1 ≤ line
  pub few : line ≤ most_lines
  pub below : endpoint.post.number < numbers
  pub fine : IsFine endpoint.line
  pub flight : IfSome endpoint.post.pending (λ message. Goes message.text)

one_out : (sent : Sent) → IsOut sent → All IsOut (sent ∷ [])
one_out sent goes = All-cons IsOut sent [] goes (All-nil IsOut)

pub noted_sound : (setup : Setup) (line moment : ℕ) (endpoint : Endpoint) (done : LineDone) → IsSetUp setup → 1 ≤ line → line ≤ most_lines → endpoint.post.number < numbers → IsDone done
    → IfSome endpoint.post.pending (λ message. Goes message.text) → Good Sound IsOut line (noted setup line moment endpoint done)
unfolding noted
noted_sound setup line moment endpoint done set_up some few below is flight = by_notice done.notice is.told where
  by_notice : (notice : Option Notice) → IfSome notice IsTold → Good Sound IsOut line (with_notice setup line moment (record endpoint { line = done.line }) notice)
  by_notice None told = (record { some = some; few = few; below = below; fine = is.line; flight = flight }, All-nil IsOut)
  by_notice (Some notice) told =
      let goes = notification_goes setup line endpoint.post.number notice set_up some few below told in
      (record { some = some; few = few; below = next_below line endpoint.post.number below; fine = is.line; flight = goes }, one_out _ goes)

-- what a post has in flight can go out again, and its next command has a number
pub record CanGo (line : ℕ) (post : Post) : Type 0 where
  pub below : post.number < numbers
  pub some : 1 ≤ id_on line post.number
  pub flight : IfSome post.pending (λ message. Goes message.text)

-- a post that can go on, and what it sends goes out
record PostGoes (line : ℕ) (turn : Effect Post) : Type 0 where
  can : CanGo line turn.value
  sent : All IsOut turn.sent

unsent_goes : (line : ℕ) (post : Post) → CanGo line post → PostGoes line (silently post)
unsent_goes line post can = record { can = can; sent = All-nil IsOut }

resent_goes : (setup : Setup) (line moment : ℕ) (post : Post) → CanGo line post → PostGoes line (resent_on setup line moment post)
resent_goes setup line moment post can = by_pending post.pending can.flight where
  by_repeat : (flight : InFlight) (repeat : Repeat) → Goes flight.text → PostGoes line (repeated_as repeat setup line moment post flight)
  by_repeat flight SentAgain goes = record {
    can = record { below = can.below; some = can.some; flight = ap (is_joinable largest_datagram) (repeated_same flight moment).text ∙ goes };
    sent = one_out _ goes;
  }
  by_repeat flight GivenUp goes = record { can = record { below = can.below; some = can.some; flight = tt }; sent = All-nil IsOut }

  by_pending : (pending : Option InFlight) → IfSome pending (λ message. Goes message.text) → PostGoes line (resent_by pending setup line moment post)
  by_pending None goes = unsent_goes line post can
  by_pending (Some flight) goes = by_repeat flight (repeat_of flight moment) goes

announced_goes : (setup : Setup) (line moment : ℕ) (post : Post) → IsSetUp setup → line ≤ most_lines → post.number < numbers → 1 ≤ id_on line post.number → PostGoes line (announced setup line moment post)
unfolding announced
announced_goes setup line moment post set_up few below some =
    let goes = announcement_goes setup line post.number set_up few below some in
    record { can = record { below = next_below line post.number below; some = next_some line post.number some; flight = goes }; sent = one_out _ goes }

announced_on_goes : (setup : Setup) (line moment : ℕ) (post : Post) → IsSetUp setup → line ≤ most_lines → CanGo line post → PostGoes line (announced_on setup line moment post)
announced_on_goes setup line moment post set_up few can = by_restart post.restart where
  by_restart : (restart : Restart) → PostGoes line (announced_by restart setup line moment post)
  by_restart (Waiting until) = announced_goes setup line moment post set_up few can.below can.some
  by_restart Announced = unsent_goes line post can
  by_restart Serving = unsent_goes line post can

put_off_goes : (line : ℕ) (response : Response) (moment : ℕ) (post : Post) → CanGo line post → CanGo line (put_off response moment post)
put_off_goes line response moment post can = by_pending post.pending can.flight where
  by_pending : (pending : Option InFlight) → IfSome pending (λ message. Goes message.text)
      → CanGo line (record post { pending = option_map (λ message. heard message response.id response.code moment) pending })
  by_pending None goes = record { below = can.below; some = can.some; flight = tt }
  by_pending (Some flight) goes =
      record { below = can.below; some = can.some; flight = ap (is_joinable largest_datagram) (heard_same flight response.id response.code moment).text ∙ goes }

replied_goes : (heard : Heard) (setup : Setup) (line moment : ℕ) (response : Response) (post : Post) → IsSetUp setup → line ≤ most_lines → CanGo line post
    → PostGoes line (replied heard setup line moment response post)
unfolding replied
replied_goes Nothing setup line moment response post set_up few can = unsent_goes line post can
replied_goes PutOff setup line moment response post set_up few can = record { can = put_off_goes line response moment post can; sent = All-nil IsOut }
replied_goes (Redirected agent) setup line moment response post set_up few can =
    announced_goes setup line moment (record post { entity = agent }) set_up few can.below can.some
replied_goes (Answered agent) setup line moment response post set_up few can = record { can = record { below = can.below; some = can.some; flight = tt }; sent = All-nil IsOut }

-- an endpoint with a post that can go on
posted_sound : (line : ℕ) (endpoint : Endpoint) (turn : Effect Post) → Sound line endpoint → PostGoes line turn → Good Sound IsOut line (posted endpoint turn)
posted_sound line endpoint turn s goes =
    (record { some = s.some; few = s.few; below = goes.can.below; fine = s.fine; flight = goes.can.flight }, goes.sent)

can_go : (line : ℕ) (endpoint : Endpoint) → Sound line endpoint → CanGo line endpoint.post
can_go line endpoint s = let one : 1 ≤ line = s.some in record { below = s.below; some = omega (arith, one); flight = s.flight }

happened_sound : (setup : Setup) → IsSetUp setup → (due : DueKind) (line moment : ℕ) (endpoint : Endpoint) → Sound line endpoint
    → Good Sound IsOut line (happened_on due setup line moment endpoint)
unfolding happened_on
happened_sound setup set_up (OfLine due) line moment endpoint s =
    noted_sound setup line moment endpoint (fired endpoint.line due moment) set_up s.some s.few s.below (fired_done endpoint.line due moment s.fine) s.flight
happened_sound setup set_up Resend line moment endpoint s =
    posted_sound line endpoint (resent_on setup line moment endpoint.post) s (resent_goes setup line moment endpoint.post (can_go line endpoint s))
happened_sound setup set_up Announce line moment endpoint s =
    posted_sound line endpoint (announced_on setup line moment endpoint.post) s (announced_on_goes setup line moment endpoint.post set_up s.few (can_go line endpoint s))

pub responded_sound : (setup : Setup) → IsSetUp setup → (line moment : ℕ) (response : Response) (endpoint : Endpoint) → Sound line endpoint
    → Good Sound IsOut line (responded_on setup line moment response endpoint)
unfolding responded_on
responded_sound setup set_up line moment response endpoint s = by_heard (heard_on endpoint.post response) where
  by_post : (heard : Heard) → Good Sound IsOut line (posted endpoint (replied heard setup line moment response endpoint.post))
  by_post heard =
      posted_sound line endpoint (replied heard setup line moment response endpoint.post) s
      (replied_goes heard setup line moment response endpoint.post set_up s.few (can_go line endpoint s))

  by_heard : (heard : Heard) → Good Sound IsOut line (responded_as heard setup line moment response endpoint)
  by_heard Nothing = (s, All-nil IsOut)
  by_heard PutOff = by_post PutOff
  by_heard (Redirected agent) = by_post (Redirected agent)
  by_heard (Answered agent) =
      let becomes : Endpoint = (posted endpoint (replied (Answered agent) setup line moment response endpoint.post)).value in
      let is = (by_post (Answered agent)).0 in
      noted_sound setup line moment becomes (answered becomes.line moment) set_up is.some is.few is.below (answered_done becomes.line moment is.fine) is.flight

redirected_sound : (agent : Entity) (line : ℕ) (endpoint : Endpoint) → Sound line endpoint → Good Sound IsOut line (redirected_on agent line endpoint)
unfolding redirected_on
redirected_sound agent line endpoint s = (record { some = s.some; few = s.few; below = s.below; fine = s.fine; flight = s.flight }, All-nil IsOut)

opened_sound : (setup : Setup) → IsSetUp setup → (agent : Option Entity) (line moment : ℕ) (endpoint : Endpoint) → Sound line endpoint
    → Good Sound IsOut line (opened_on agent setup moment line endpoint)
unfolding opened_on
opened_sound setup set_up agent line moment endpoint s =
    noted_sound setup line moment (with_entity agent endpoint) (opened endpoint.line moment) set_up s.some s.few s.below (opened_done endpoint.line moment s.fine) s.flight

-- the line is asked where something is requested, and then its identifier is read
pub asked_if_done : (params : List Param) (line : LineState) (request : Option Request) (moment : ℕ) → IfSome request (HasValues params) → IsFine line
    → IsDone (asked_if request line moment)
asked_if_done params line None moment has fine = record { line = fine; told = tt }
asked_if_done params line (Some request) moment has fine =
    asked_done line request moment has.digits (read_change _ request.map has.map, requested_spelled request.events.requested has.writable_requested) fine.spelled

deed_sound : (setup : Setup) → IsSetUp setup → (command : Command) (confirms : KValue) (target : Target) (deed : Deed)
    → form_of command confirms setup.names ≡ Ok (Does target deed) → (line moment : ℕ) (endpoint : Endpoint) → Sound line endpoint
    → Good Sound IsOut line (deed_on setup deed moment line endpoint)
unfolding deed_on
deed_sound setup set_up command confirms target deed is line moment endpoint s =
    noted_sound setup line moment (with_connections deed (with_entity deed.entity endpoint)) (asked_if deed.request endpoint.line moment) set_up s.some s.few s.below
    (asked_if_done command.params endpoint.line deed.request moment (deed_has_values command confirms setup.names target deed is).request s.fine) s.flight

pub sound_turns : (setup : Setup) → IsSetUp setup → Turns setup (Always Sound) IsOut
sound_turns setup set_up = record {
  act = λ serving line moment act endpoint s.
      noted_sound setup line moment endpoint (phoned endpoint.line act moment) set_up s.some s.few s.below (phoned_done endpoint.line act moment s.fine) s.flight;
  deed = deed_sound setup set_up;
  response = λ serving line moment response endpoint read s. responded_sound setup set_up line moment response endpoint s;
  happening = λ serving due line moment endpoint s. happened_sound setup set_up due line moment endpoint s;
  redirecting = λ agent line endpoint read s. redirected_sound agent line endpoint s;
  opening = λ agent line moment endpoint read s. opened_sound setup set_up agent line moment endpoint s;
}

-- of the gateway itself
abbrev pub OwnSound : Post → Type 0
OwnSound own = CanGo 0 own

own_goes : (turn : Effect Post) → PostGoes 0 turn → Gives OwnSound IsOut turn
own_goes turn goes = (goes.can, goes.sent)

own_happened_sound : (setup : Setup) → IsSetUp setup → (due : DueKind) (moment : ℕ) (own : Post) → OwnSound own
    → Gives OwnSound IsOut (happened_under due setup 0 moment own)
unfolding happened_under
own_happened_sound setup set_up (OfLine due) moment own can = (can, All-nil IsOut)
own_happened_sound setup set_up Resend moment own can = own_goes (resent_on setup 0 moment own) (resent_goes setup 0 moment own can)
own_happened_sound setup set_up Announce moment own can =
    own_goes (announced_on setup 0 moment own) (announced_on_goes setup 0 moment own set_up (omega arith) can)

pub own_responded_sound : (setup : Setup) → IsSetUp setup → (moment : ℕ) (response : Response) (own : Post) → OwnSound own
    → Gives OwnSound IsOut (replied_on setup 0 moment response own)
unfolding replied_on
own_responded_sound setup set_up moment response own can =
    own_goes (replied (heard_on own response) setup 0 moment response own)
    (replied_goes (heard_on own response) setup 0 moment response own set_up (omega arith) can)

pub sound_own_turns : (setup : Setup) → IsSetUp setup → OwnTurns setup (Always Sound) OwnSound IsOut
sound_own_turns setup set_up = record {
  free = λ own can. inr (λ serving other line endpoint s. s);
  response = λ moment response own read can. own_responded_sound setup set_up moment response own can;
  happening = λ due moment own can. own_happened_sound setup set_up due moment own can;
}

pub opening_is_sound : (setup : Setup) → IsSetUp setup → Holds (Always Sound) OwnSound (opening setup).endpoints
opening_is_sound setup set_up =
    let lines : setup.names.lines ≤ most_lines = set_up.lines in
    record {
      list = on_made Sound (opening_endpoint setup) 1 setup.names.lines
          (λ i low high. record { some = low; few = omega (arith, high, lines); below = omega arith; fine = opening_is_fine; flight = tt });
      own = record { below = omega arith; some = omega arith; flight = tt };
    }
