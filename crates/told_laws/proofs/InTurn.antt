-- What each call of a line keeps beside its course, where an answer comes to a line that waits for it alone: so it is after every list of
-- events, from the opening on, and from any front of them.
use Rattle.std.proofs.Common.{◌≡◌, ℕ, ◌≤◌, Bool, true, false, List, [], ◌∷◌, ◌++◌, Option, Some, None, inl, refl, sym, subst, ◌∙◌, append-nil}
use Rattle.endpoint_names.specs.declared.entity.Entity.{Entity}
use Rattle.mg_line.specs.State.TheVariants.{Notification}
use Rattle.mg_line.specs.declared.phone.Act.{Act}
use Rattle.mg_line.specs.Line.{LineState, opening_line}
use Rattle.mg_line.specs.Acting.{phoned}
use Rattle.mg_line.specs.Requesting.{asked}
use Rattle.mg_line.specs.Answering.{answered}
use Rattle.mg_line.specs.Opening.{opened}
use Rattle.mg_line.specs.Falling.{fired}
use Rattle.events_and_signals.specs.declared.request.Request.{Request}
use Rattle.retransmission.specs.Flight.{InFlight}
use Rattle.retransmission.specs.declared.heard.Heard.{Heard}
use Rattle.retransmission.specs.declared.heard.Heard.TheVariants.{Nothing, PutOff, Redirected, Answered}
use Rattle.timers.specs.declared.kind.DueKind.{DueKind}
use Rattle.timers.specs.declared.kind.DueKind.TheVariants.{OfLine, Resend, Announce}
use Rattle.timers.specs.declared.kind.LineDue.{LineDue}
use Rattle.command_forms.specs.declared.forms.Deed.{Deed}
use Rattle.plain_machine.specs.declared.endpoint.Endpoint.{Endpoint}
use Rattle.plain_machine.specs.declared.post.Post.{Post}
use Rattle.plain_machine.specs.declared.response.Response.{Response}
use Rattle.plain_machine.specs.declared.setup.Setup.{Setup}
use Rattle.plain_machine.specs.Announcing.{announced_on, announcement, announced, heard_by, heard_on, replied}
use Rattle.plain_machine.specs.Arriving.{arrivals_of}
use Rattle.plain_machine.specs.Effect.{silently}
use Rattle.plain_machine.specs.Event.{GatewayEvent}
use Rattle.plain_machine.specs.Falling.{happened_on}
use Rattle.plain_machine.specs.Lists.{plain, sent_of}
use Rattle.plain_machine.specs.Machine.{endpoint_at, opening, opening_endpoint, serves}
use Rattle.plain_machine.specs.Message.{Sent}
use Rattle.plain_machine.specs.Notifying.{noted, posted}
use Rattle.plain_machine.specs.Posting.{resent_on}
use Rattle.plain_machine.specs.Requesting.{asked_if, deed_on, with_connections, with_entity}
use Rattle.plain_machine.specs.Responding.{opened_on, redirected_on, responded_as, responded_on}
use Rattle.machine_laws.specs.Belonging.{of_line}
use Rattle.machine_laws.proofs.TurnLemmas.{of_line as of_its_line, on_made}
use Rattle.machine_laws.proofs.WaitLaws.{opening_waits}
use Rattle.world_laws.specs.Course.{CourseStep, accepted, accepts, acts, course_of}
use Rattle.world_laws.proofs.CourseLemmas.{AnyResponse, EndpointTurns, Stands, events_stand, hear_all}
use Rattle.world_laws.proofs.EndpointLemmas.{Calls, Goes, TurnGoes, announced_steps, noted_goes, resent_steps, steps_of, still_goes}
use Rattle.world_laws.proofs.ReadingLemmas.{answered_readable, asked_readable, fired_readable, opened_readable, opening_readable, phoned_readable, IsReadable}
use Rattle.world_laws.proofs.OnTurns.{Rests, flight_waits}
use Rattle.told_laws.proofs.SettlingLemmas.{Flies, flight_turns}

-- The calls

pub record CallsInTurn (Q : Bool → List CourseStep → LineState → Type 0) : Type 0 where
  pub act : (serving : Bool) (course : List CourseStep) (line : LineState) (act : Act) (moment : ℕ) → Q serving course line
      → Q serving ((course ++ acts act ∷ []) ++ steps_of (phoned line act moment).notice) (phoned line act moment).line
  pub request : (course : List CourseStep) (line : LineState) (request : Request) (moment : ℕ) → Q true course line
      → Q true ((course ++ accepts request ∷ []) ++ steps_of (asked line request moment).notice) (asked line request moment).line
  pub answering : (serving : Bool) (course : List CourseStep) (line : LineState) (moment : ℕ) → line.state ≡ Notification → Q serving course line
      → Q serving (course ++ steps_of (answered line moment).notice) (answered line moment).line
  pub serving : (course : List CourseStep) (line : LineState) (moment : ℕ) → Q false course line
      → Q true (course ++ steps_of (opened line moment).notice) (opened line moment).line
  pub firing : (serving : Bool) (course : List CourseStep) (line : LineState) (due : LineDue) (moment : ℕ) → Q serving course line
      → Q serving (course ++ steps_of (fired line due moment).notice) (fired line due moment).line

-- of any line
abbrev pub AnyLine : Bool → List CourseStep → LineState → Type 0
AnyLine serving course line = Unit {0}

pub any_calls : Calls AnyLine
any_calls = record {
  act = λ serving course line act moment any. tt;
  request = λ course line request moment any. tt;
  answering = λ serving course line moment any. tt;
  serving = λ course line moment any. tt;
  firing = λ serving course line at due moment is any. tt;
}

abbrev AnyId : ℕ → Type 0
AnyId id = Unit {0}

-- Where an answer comes, something was in flight

some_flies : (post : Post) (response : Response) (agent : Option Entity) → heard_on post response ≡ Answered agent
    → (flight : InFlight) × (post.pending ≡ Some flight)
some_flies post response agent e = by_pending post.pending refl e where
  by_pending : (pending : Option InFlight) → post.pending ≡ pending → heard_by pending post.restart response ≡ Answered agent
      → (flight : InFlight) × (post.pending ≡ Some flight)
  by_pending None at e = absurd cc
  by_pending (Some flight) at e = (flight, at)

it_waits : (endpoint : Endpoint) (response : Response) (agent : Option Entity) → Rests endpoint.post.restart endpoint.post.pending endpoint.line.state
    → heard_on endpoint.post response ≡ Answered agent → endpoint.line.state ≡ Notification
it_waits endpoint response agent rests e =
    let is = some_flies endpoint.post response agent e in
    flight_waits endpoint.post.restart is.0 endpoint.line.state
    (subst (λ (pending : Option InFlight). Rests endpoint.post.restart pending endpoint.line.state) is.1 rests)

-- Turns of its endpoint

module _ (setup : Setup) (Q : Bool → List CourseStep → LineState → Type 0) (calls : CallsInTurn Q) where
  deed_turns : (course : List CourseStep) (deed : Deed) (moment line : ℕ) (endpoint : Endpoint) → Goes setup Q true course endpoint
      → TurnGoes setup Q true (course ++ accepted deed.request) (deed_on setup deed moment line endpoint)
  unfolding deed_on
  deed_turns course deed moment line endpoint goes = by_request deed.request where
    to : Endpoint
    to = with_connections deed (with_entity deed.entity endpoint)

    by_request : (request : Option Request)
        → TurnGoes setup Q true (course ++ accepted request) (noted setup line moment to (asked_if request endpoint.line moment))
    by_request None =
        noted_goes setup Q true (course ++ []) line moment to (record { line = endpoint.line; notice = None }) (record { line = goes.readable; told = tt })
        (subst (λ (c : List CourseStep). Q true c endpoint.line) (sym (append-nil (course ++ []) ∙ append-nil course)) goes.holds)
    by_request (Some request) =
        noted_goes setup Q true (course ++ accepts request ∷ []) line moment to (asked endpoint.line request moment)
        (asked_readable endpoint.line request moment goes.readable) (calls.request course endpoint.line request moment goes.holds)

  opened_turns : (course : List CourseStep) (agent : Option Entity) (moment line : ℕ) (endpoint : Endpoint) → Goes setup Q false course endpoint
      → TurnGoes setup Q true course (opened_on agent setup moment line endpoint)
  unfolding opened_on
  opened_turns course agent moment line endpoint goes =
      noted_goes setup Q true course line moment (with_entity agent endpoint) (opened endpoint.line moment)
      (opened_readable endpoint.line moment goes.readable) (calls.serving course endpoint.line moment goes.holds)

  redirected_turns : (serving : Bool) (course : List CourseStep) (agent : Entity) (line : ℕ) (endpoint : Endpoint) → Goes setup Q serving course endpoint
      → TurnGoes setup Q serving course (redirected_on agent line endpoint)
  unfolding redirected_on
  redirected_turns serving course agent line endpoint goes =
      still_goes setup Q serving course endpoint (silently (with_entity (Some agent) endpoint)) refl refl goes

  response_turns : (serving : Bool) (course : List CourseStep) (line moment : ℕ) (response : Response) (endpoint : Endpoint)
      → Rests endpoint.post.restart endpoint.post.pending endpoint.line.state → Goes setup Q serving course endpoint
      → TurnGoes setup Q serving course (responded_on setup line moment response endpoint)
  unfolding responded_on replied announced announcement
  response_turns serving course line moment response endpoint rests goes = by_heard (heard_on endpoint.post response) refl where
    by_heard : (heard : Heard) → heard_on endpoint.post response ≡ heard
        → TurnGoes setup Q serving course (responded_as heard setup line moment response endpoint)
    by_heard Nothing e = still_goes setup Q serving course endpoint (silently endpoint) refl refl goes
    by_heard PutOff e =
        still_goes setup Q serving course endpoint (posted endpoint (replied PutOff setup line moment response endpoint.post)) refl refl goes
    by_heard (Redirected agent) e =
        still_goes setup Q serving course endpoint (posted endpoint (replied (Redirected agent) setup line moment response endpoint.post)) refl refl goes
    by_heard (Answered agent) e =
        noted_goes setup Q serving course line moment (posted endpoint (replied (Answered agent) setup line moment response endpoint.post)).value
        (answered endpoint.line moment) (answered_readable endpoint.line moment goes.readable)
        (calls.answering serving course endpoint.line moment (it_waits endpoint response agent rests e) goes.holds)

  happened_turns : (serving : Bool) (course : List CourseStep) (line moment : ℕ) (due : DueKind) (endpoint : Endpoint) → Goes setup Q serving course endpoint
      → TurnGoes setup Q serving course (happened_on due setup line moment endpoint)
  unfolding happened_on
  happened_turns serving course line moment (OfLine due) endpoint goes =
      noted_goes setup Q serving course line moment endpoint (fired endpoint.line due moment) (fired_readable endpoint.line due moment goes.readable)
      (calls.firing serving course endpoint.line due moment goes.holds)
  happened_turns serving course line moment Resend endpoint goes =
      still_goes setup Q serving course endpoint (posted endpoint (resent_on setup line moment endpoint.post)) refl
      (resent_steps setup AnyLine any_calls line moment endpoint.post) goes
  happened_turns serving course line moment Announce endpoint goes =
      still_goes setup Q serving course endpoint (posted endpoint (announced_on setup line moment endpoint.post)) refl
      (announced_steps setup AnyLine any_calls line moment endpoint.post) goes

  abbrev pub GoesInTurn : Bool → List CourseStep → List Sent → Endpoint → Type 0
  GoesInTurn serving course sent endpoint = Goes setup Q serving course endpoint × Flies AnyId [] sent endpoint

  pub in_turn : EndpointTurns setup AnyResponse GoesInTurn
  in_turn =
      let flies = flight_turns AnyId [] setup in
      record {
        act = λ serving course sent line moment act endpoint g. (
          noted_goes setup Q serving (course ++ acts act ∷ []) line moment endpoint (phoned endpoint.line act moment)
              (phoned_readable endpoint.line act moment g.0.readable) (calls.act serving course endpoint.line act moment g.0.holds),
          flies.act serving course sent line moment act endpoint g.1,
        );
        deed = λ course sent deed moment line endpoint g.
            (deed_turns course deed moment line endpoint g.0, flies.deed course sent deed moment line endpoint g.1);
        response = λ serving course sent line moment response endpoint any g. (
          response_turns serving course line moment response endpoint g.1.rests g.0,
          flies.response serving course sent line moment response endpoint (λ final. tt) g.1,
        );
        happening = λ serving course sent line item endpoint is g. (
          happened_turns serving course line item.moment item.kind endpoint g.0,
          flies.happening serving course sent line item endpoint is g.1,
        );
        redirecting = λ serving course sent agent line endpoint g.
            (redirected_turns serving course agent line endpoint g.0, flies.redirecting serving course sent agent line endpoint g.1);
        opening = λ course sent agent moment line endpoint closed g.
            (opened_turns course agent moment line endpoint g.0, flies.opening course sent agent moment line endpoint closed g.1);
        answering = λ serving course sent one endpoint is g. (g.0, flies.answering serving course sent one endpoint is g.1);
      }

-- Whole lists of events

pub opens : (setup : Setup) (line : ℕ) (endpoint : Endpoint) → endpoint_at (opening setup).endpoints line ≡ Some endpoint
    → (endpoint.line ≡ opening_line) × Flies AnyId [] [] endpoint
opens setup line endpoint at =
    of_its_line (λ n s. (s.line ≡ opening_line) × Flies AnyId [] [] s) (opening setup).endpoints line endpoint
    (on_made (λ n s. (s.line ≡ opening_line) × Flies AnyId [] [] s) (opening_endpoint setup) 1 setup.names.lines
    (λ i low high. (refl, record { rests = tt; either = inl (record { settled = []; split = refl; answered = tt }) }))) at

abbrev IsThere : Setup → ℕ → List GatewayEvent → Endpoint → Type 0
IsThere setup line events endpoint = endpoint_at (plain setup events).endpoints line ≡ Some endpoint

module _ (setup : Setup) (line : ℕ) (some : 1 ≤ line) where
  begun : (Q : Bool → List CourseStep → LineState → Type 0) (calls : CallsInTurn Q) → Q false [] opening_line
      → Stands setup AnyResponse (GoesInTurn setup Q calls) (in_turn setup Q calls) line some [] [] (opening setup)
  begun Q calls begins = record {
    order = opening_waits setup;
    holds = λ s at.
        let is = opens setup line s at in (
          record { readable = subst IsReadable (sym is.0) opening_readable; holds = subst (Q false []) (sym is.0) begins },
          is.1,
        );
  }

  -- from the opening on
  stands_then : (Q : Bool → List CourseStep → LineState → Type 0) (calls : CallsInTurn Q) → Q false [] opening_line → (events : List GatewayEvent)
      → Stands setup AnyResponse (GoesInTurn setup Q calls) (in_turn setup Q calls) line some (course_of setup line events) (of_line line (sent_of setup events))
      (plain setup events)
  stands_then Q calls begins events =
      events_stand setup AnyResponse (GoesInTurn setup Q calls) (in_turn setup Q calls) line some (opening setup) [] [] 0 events
      (hear_all setup AnyResponse (λ response. tt) (arrivals_of events)) (begun Q calls begins)

  pub from_opening : (Q : Bool → List CourseStep → LineState → Type 0) → CallsInTurn Q → Q false [] opening_line → (events : List GatewayEvent)
      (endpoint : Endpoint) → IsThere setup line events endpoint → Q (serves (plain setup events).endpoints) (course_of setup line events) endpoint.line
  from_opening Q calls begins events endpoint at = ((stands_then Q calls begins events).holds endpoint at).0.holds
