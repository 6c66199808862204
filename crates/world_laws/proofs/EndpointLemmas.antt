-- What each turn of an endpoint adds to the course of its line.
use Rattle.std.proofs.Common.{◌≡◌, ℕ, Bool, true, false, List, [], ◌∷◌, ◌++◌, Option, Some, None, Result, inl, inr, refl, sym, ap, subst, ◌∙◌, append-nil}
use Rattle.std.specs.Prelude.{◌⊎◌, flat_map, IfSome}
use Rattle.endpoint_names.specs.declared.entity.Entity.{Entity}
use Rattle.packages.specs.declared.observed.Observed.{Observed}
use Rattle.timers.specs.declared.kind.LineDue.{LineDue}
use Rattle.mg_line.specs.declared.phone.Act.{Act}
use Rattle.events_and_signals.specs.declared.request.Request.{Request}
use Rattle.mg_line.specs.Line.{LineState, Notice, LineDone}
use Rattle.mg_line.specs.Acting.{phoned}
use Rattle.mg_line.specs.Requesting.{asked}
use Rattle.mg_line.specs.Answering.{answered}
use Rattle.mg_line.specs.Opening.{opened}
use Rattle.mg_line.specs.Falling.{due_of, fired}
use Rattle.retransmission.specs.declared.repeat.Repeat.{Repeat}
use Rattle.retransmission.specs.declared.repeat.Repeat.TheVariants.{Sent as SentAgain, GivenUp}
use Rattle.retransmission.specs.Flight.{InFlight, repeat_of}
use Rattle.retransmission.specs.declared.restart.Restart.{Restart}
use Rattle.retransmission.specs.declared.restart.Restart.TheVariants.{Waiting, Announced, Serving}
use Rattle.retransmission.specs.declared.heard.Heard.{Heard}
use Rattle.retransmission.specs.declared.heard.Heard.TheVariants.{Nothing, PutOff, Redirected, Answered}
use Rattle.timers.specs.declared.kind.DueKind.{DueKind}
use Rattle.timers.specs.declared.kind.DueKind.TheVariants.{OfLine, Resend, Announce}
use Rattle.timers.specs.declared.due_item.DueItem.{DueItem}
use Rattle.command_forms.specs.declared.forms.Deed.{Deed}
use Rattle.plain_machine.specs.declared.post.Post.{Post}
use Rattle.plain_machine.specs.declared.response.Response.{Response}
use Rattle.plain_machine.specs.declared.setup.Setup.{Setup}
use Rattle.plain_machine.specs.declared.endpoint.Endpoint.{Endpoint}
use Rattle.plain_machine.specs.Effect.{Effect, silently}
use Rattle.plain_machine.specs.Message.{Sent}
use Rattle.plain_machine.specs.Posting.{repeated_as, resent_by, resent_on}
use Rattle.plain_machine.specs.Announcing.{announcement, announced, announced_by, announced_on, heard_on, replied}
use Rattle.plain_machine.specs.Notifying.{posted, notification, with_notice, noted}
use Rattle.plain_machine.specs.Acting.{acted_on}
use Rattle.plain_machine.specs.Requesting.{with_entity, with_connections, asked_if, deed_on}
use Rattle.plain_machine.specs.Responding.{responded_as, responded_on, redirected_on, opened_on}
use Rattle.plain_machine.specs.Falling.{due_on, post_due, happened_on}
use Rattle.plain_machine.proofs.FirstLemmas.{OfItsCommand, OfItsAnnouncement, OfItsLine, post_cases, due_cases}
use Rattle.call_agent.specs.Notified.{observed_or_none}
use Rattle.world_laws.specs.Course.{CourseStep, acts, accepts, notifies, notified_by, accepted}
use Rattle.world_laws.proofs.ReadingLemmas.{CanBeTold, read_again, IsReadable, TellsReadable, phoned_readable, asked_readable, answered_readable, opened_readable, fired_readable}
use Rattle.machine_laws.proofs.EachLemmas.{Each}

-- what a line tells, as its course has it
abbrev pub steps_of : Option Notice → List CourseStep
steps_of None = []
steps_of (Some notice) = notifies notice.identifier notice.observed ∷ []

-- the same of what a line sends
abbrev pub steps_in : List Sent → List CourseStep
steps_in sent = flat_map (λ (one : Sent). notified_by one.said) sent

-- What each call of a line keeps beside the course so far, before the gateway serves and while it does
pub record Calls (Q : Bool → List CourseStep → LineState → Type 0) : Type 0 where
  pub act : (serving : Bool) (course : List CourseStep) (line : LineState) (act : Act) (moment : ℕ) → Q serving course line
      → Q serving ((course ++ acts act ∷ []) ++ steps_of (phoned line act moment).notice) (phoned line act moment).line
  pub request : (course : List CourseStep) (line : LineState) (request : Request) (moment : ℕ) → Q true course line
      → Q true ((course ++ accepts request ∷ []) ++ steps_of (asked line request moment).notice) (asked line request moment).line
  pub answering : (serving : Bool) (course : List CourseStep) (line : LineState) (moment : ℕ) → Q serving course line
      → Q serving (course ++ steps_of (answered line moment).notice) (answered line moment).line
  pub serving : (course : List CourseStep) (line : LineState) (moment : ℕ) → Q false course line
      → Q true (course ++ steps_of (opened line moment).notice) (opened line moment).line
  pub firing : (serving : Bool) (course : List CourseStep) (line : LineState) (at : ℕ) (due : LineDue) (moment : ℕ) → due_of line ≡ Some (at, due)
      → Q serving course line → Q serving (course ++ steps_of (fired line due moment).notice) (fired line due moment).line

module _ (setup : Setup) (Q : Bool → List CourseStep → LineState → Type 0) where
  -- the line of an endpoint, beside its course
  pub record Goes (serving : Bool) (course : List CourseStep) (endpoint : Endpoint) : Type 0 where
    pub readable : IsReadable endpoint.line
    pub holds : Q serving course endpoint.line

  -- and after a turn
  abbrev pub TurnGoes : Bool → List CourseStep → Effect Endpoint → Type 0
  TurnGoes serving course turn = Goes serving (course ++ steps_in turn.sent) turn.value

  pub same_goes : (serving : Bool) (course : List CourseStep) (endpoint other : Endpoint) → other.line ≡ endpoint.line → Goes serving course endpoint → Goes serving course other
  same_goes serving course endpoint other same goes =
      record { readable = subst IsReadable (sym same) goes.readable; holds = subst (λ (line : LineState). Q serving course line) (sym same) goes.holds }

  -- a turn that leaves the line, and notifies nothing
  pub still_goes : (serving : Bool) (course : List CourseStep) (endpoint : Endpoint) (turn : Effect Endpoint) → turn.value.line ≡ endpoint.line → steps_in turn.sent ≡ []
      → Goes serving course endpoint → TurnGoes serving course turn
  still_goes serving course endpoint turn same none goes =
      subst (λ (c : List CourseStep). Goes serving c turn.value) (sym (ap (λ (x : List CourseStep). course ++ x) none ∙ append-nil course))
      (same_goes serving course endpoint turn.value same goes)

  notice_steps : (line moment : ℕ) (endpoint : Endpoint) (notice : Option Notice) → IfSome notice (λ (n : Notice). Each CanBeTold n.observed)
      → steps_in (with_notice setup line moment endpoint notice).sent ≡ steps_of notice
  unfolding notification
  notice_steps line moment endpoint None told = refl
  notice_steps line moment endpoint (Some notice) told =
      ap (λ (read : Result (List Observed) ℕ). notifies notice.identifier (observed_or_none read) ∷ []) (read_again notice.observed told)

  notice_line : (line moment : ℕ) (endpoint : Endpoint) (notice : Option Notice) → (with_notice setup line moment endpoint notice).value.line ≡ endpoint.line
  notice_line line moment endpoint None = refl
  notice_line line moment endpoint (Some notice) = refl

  pub noted_goes : (serving : Bool) (course : List CourseStep) (line moment : ℕ) (endpoint : Endpoint) (done : LineDone) → TellsReadable done
      → Q serving (course ++ steps_of done.notice) done.line → TurnGoes serving course (noted setup line moment endpoint done)
  unfolding noted
  noted_goes serving course line moment endpoint done tells holds =
      let to : Endpoint = record endpoint { line = done.line } in
      let same : (with_notice setup line moment to done.notice).value.line ≡ done.line = notice_line line moment to done.notice in
      record {
        readable = subst IsReadable (sym same) tells.line;
        holds = subst (λ (x : List CourseStep). Q serving (course ++ x) (with_notice setup line moment to done.notice).value.line)
            (sym (notice_steps line moment to done.notice tells.told))
            (subst (λ (l : LineState). Q serving (course ++ steps_of done.notice) l) (sym same) holds);
      }

  module _ (calls : Calls Q) where
    pub act_goes : (serving : Bool) (course : List CourseStep) (line moment : ℕ) (act : Act) (endpoint : Endpoint) → Goes serving course endpoint
        → TurnGoes serving (course ++ acts act ∷ []) (acted_on setup line moment act endpoint)
    act_goes serving course line moment act endpoint goes =
        noted_goes serving (course ++ acts act ∷ []) line moment endpoint (phoned endpoint.line act moment) (phoned_readable endpoint.line act moment goes.readable)
        (calls.act serving course endpoint.line act moment goes.holds)

    pub deed_goes : (course : List CourseStep) (deed : Deed) (moment line : ℕ) (endpoint : Endpoint) → Goes true course endpoint
        → TurnGoes true (course ++ accepted deed.request) (deed_on setup deed moment line endpoint)
    unfolding deed_on
    deed_goes course deed moment line endpoint goes = by_request deed.request where
      to : Endpoint
      to = with_connections deed (with_entity deed.entity endpoint)

      by_request : (request : Option Request) → TurnGoes true (course ++ accepted request) (noted setup line moment to (asked_if request endpoint.line moment))
      by_request None =
          noted_goes true (course ++ []) line moment to (record { line = endpoint.line; notice = None }) (record { line = goes.readable; told = tt })
          (subst (λ (c : List CourseStep). Q true c endpoint.line) (sym (append-nil (course ++ []) ∙ append-nil course)) goes.holds)
      by_request (Some request) =
          noted_goes true (course ++ accepts request ∷ []) line moment to (asked endpoint.line request moment) (asked_readable endpoint.line request moment goes.readable)
          (calls.request course endpoint.line request moment goes.holds)

    pub opened_goes : (course : List CourseStep) (agent : Option Entity) (moment line : ℕ) (endpoint : Endpoint) → Goes false course endpoint
        → TurnGoes true course (opened_on agent setup moment line endpoint)
    unfolding opened_on
    opened_goes course agent moment line endpoint goes =
        noted_goes true course line moment (with_entity agent endpoint) (opened endpoint.line moment) (opened_readable endpoint.line moment goes.readable)
        (calls.serving course endpoint.line moment goes.holds)

    pub redirected_goes : (serving : Bool) (course : List CourseStep) (agent : Entity) (line : ℕ) (endpoint : Endpoint) → Goes serving course endpoint
        → TurnGoes serving course (redirected_on agent line endpoint)
    unfolding redirected_on
    redirected_goes serving course agent line endpoint goes = still_goes serving course endpoint (silently (with_entity (Some agent) endpoint)) refl refl goes

    pub response_goes : (serving : Bool) (course : List CourseStep) (line moment : ℕ) (response : Response) (endpoint : Endpoint) → Goes serving course endpoint
        → TurnGoes serving course (responded_on setup line moment response endpoint)
    unfolding responded_on replied announced announcement
    response_goes serving course line moment response endpoint goes = by_heard (heard_on endpoint.post response) where
      by_heard : (heard : Heard) → TurnGoes serving course (responded_as heard setup line moment response endpoint)
      by_heard Nothing = still_goes serving course endpoint (silently endpoint) refl refl goes
      by_heard PutOff = still_goes serving course endpoint (posted endpoint (replied PutOff setup line moment response endpoint.post)) refl refl goes
      by_heard (Redirected agent) = still_goes serving course endpoint (posted endpoint (replied (Redirected agent) setup line moment response endpoint.post)) refl refl goes
      by_heard (Answered agent) =
          noted_goes serving course line moment (posted endpoint (replied (Answered agent) setup line moment response endpoint.post)).value (answered endpoint.line moment)
          (answered_readable endpoint.line moment goes.readable) (calls.answering serving course endpoint.line moment goes.holds)

    pub resent_steps : (line moment : ℕ) (post : Post) → steps_in (resent_on setup line moment post).sent ≡ []
    resent_steps line moment post = by_pending post.pending where
      by_repeat : (flight : InFlight) (repeat : Repeat) → steps_in (repeated_as repeat setup line moment post flight).sent ≡ []
      by_repeat flight SentAgain = refl
      by_repeat flight GivenUp = refl

      by_pending : (pending : Option InFlight) → steps_in (resent_by pending setup line moment post).sent ≡ []
      by_pending None = refl
      by_pending (Some flight) = by_repeat flight (repeat_of flight moment)

    pub announced_steps : (line moment : ℕ) (post : Post) → steps_in (announced_on setup line moment post).sent ≡ []
    unfolding announced announcement
    announced_steps line moment post = by_restart post.restart where
      by_restart : (restart : Restart) → steps_in (announced_by restart setup line moment post).sent ≡ []
      by_restart (Waiting until) = refl
      by_restart Announced = refl
      by_restart Serving = refl

    -- what falls due of the line itself is what the line says
    pub of_the_line : (line : ℕ) (endpoint : Endpoint) (item : DueItem) (due : LineDue) → due_on (line, endpoint) ≡ Some item → item.kind ≡ OfLine due
        → (at : ℕ) × (due_of endpoint.line ≡ Some (at, due))
    of_the_line line endpoint item due is kind = by_case (due_cases line endpoint item is) where
      of_post : OfItsCommand line endpoint.post item ⊎ OfItsAnnouncement line endpoint.post item → (at : ℕ) × (due_of endpoint.line ≡ Some (at, due))
      of_post (inl of) = let clash : Resend ≡ OfLine due = ap (λ (i : DueItem). i.kind) of.same ∙ kind in absurd cc
      of_post (inr of) = let clash : Announce ≡ OfLine due = ap (λ (i : DueItem). i.kind) of.same ∙ kind in absurd cc

      by_case : OfItsLine line endpoint item ⊎ (post_due line endpoint.post ≡ Some item) → (at : ℕ) × (due_of endpoint.line ≡ Some (at, due))
      by_case (inl of) =
          let same : OfLine of.found.1 ≡ OfLine due = ap (λ (i : DueItem). i.kind) of.same ∙ kind in
          let equal : of.found.1 ≡ due = cc in
          (of.found.0, of.due ∙ ap (λ (d : LineDue). Some (of.found.0, d)) equal)
      by_case (inr of) = of_post (post_cases line endpoint.post item of)

    pub happened_goes : (serving : Bool) (course : List CourseStep) (line : ℕ) (item : DueItem) (endpoint : Endpoint) → due_on (line, endpoint) ≡ Some item
        → Goes serving course endpoint → TurnGoes serving course (happened_on item.kind setup line item.moment endpoint)
    unfolding happened_on
    happened_goes serving course line item endpoint is goes = by_due item.kind refl where
      by_due : (due : DueKind) → item.kind ≡ due → TurnGoes serving course (happened_on due setup line item.moment endpoint)
      by_due (OfLine due) kind =
          let of = of_the_line line endpoint item due is kind in
          noted_goes serving course line item.moment endpoint (fired endpoint.line due item.moment) (fired_readable endpoint.line due item.moment goes.readable)
          (calls.firing serving course endpoint.line of.0 due item.moment of.1 goes.holds)
      by_due Resend kind =
          still_goes serving course endpoint (posted endpoint (resent_on setup line item.moment endpoint.post)) refl (resent_steps line item.moment endpoint.post) goes
      by_due Announce kind =
          still_goes serving course endpoint (posted endpoint (announced_on setup line item.moment endpoint.post)) refl (announced_steps line item.moment endpoint.post) goes
