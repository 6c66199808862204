-- How what a line tells walks through what was done at its telephone (RFC 3435, 2.3.3 and 4.4.1): each act is told, or is kept to be told,
-- or was lost, and counted, or was dropped where the walk says so: neither R nor T named it, and it isn't persistent; R gave it nothing,
-- or I; E without A took it, or emptied the list in which it was; or a request emptied that list.
use Rattle.std.specs.Prelude.{◌≡◌, ◌⊎◌, ℕ, zero, suc, ◌≤◌, min, Bool, true, false, not, ◌&&◌, if◌then◌else◌, List, [], ◌∷◌, ◌++◌, filter}
use Rattle.std.specs.List.{list_all}
use Rattle.packages.specs.declared.event.LineEvent.{LineEvent}
use Rattle.packages.specs.declared.handling.Quarantined.{Quarantined}
use Rattle.packages.specs.declared.handling.Quarantined.TheVariants.{Process, Discard}
use Rattle.packages.specs.declared.observed.Observed.{Observed}
use Rattle.event_syntax.specs.declared.request.Action.TheVariants.{Notify, Accumulate, Dial, Ignore}
use Rattle.event_syntax.specs.declared.request.EmbeddedRequest.{EmbeddedRequest}
use Rattle.event_syntax.specs.declared.request.Reaction.{Reaction}
use Rattle.event_syntax.specs.declared.request.Reaction.TheVariants.{Plain, Embed, AccumulateAndEmbed}
use Rattle.events_and_signals.specs.Choice.{chosen, is_kept}
use Rattle.events_and_signals.specs.Naming.{event_of}
use Rattle.events_and_signals.specs.Requests.{EventRequests, no_requests, with_embedded}
use Rattle.events_and_signals.specs.declared.request.Request.{Request}
use Rattle.events_and_signals.specs.Held.{most_lost}
use Rattle.mg_line.specs.declared.phone.Act.{Act}
use Rattle.mg_line.specs.Acting.{observed_at}
use Rattle.mg_line.specs.Answering.{is_loop}
use Rattle.mg_line.specs.Line.{LineState}
use Rattle.mg_line.specs.State.{State}
use Rattle.mg_line.specs.State.TheVariants.{Normal, Notification, Lockstep}
use Rattle.world_laws.specs.Course.{CourseStep, acts, accepts, notifies}
use Rattle.world_laws.specs.Keeping.{is_bare}
use Rattle.world_laws.specs.Rounds.{of_telephone}
use Rattle.told_laws.specs.Among.{AreAmong}

-- What R does with an event

abbrev pub is_collected : Reaction → Bool
is_collected (Plain Notify) = true
is_collected (Plain Accumulate) = true
is_collected (Plain Dial) = true
is_collected (Plain Ignore) = false
is_collected (Embed request) = false
is_collected (AccumulateAndEmbed request) = true

-- it is told with others, or never, and nothing else comes of it
abbrev pub is_quiet : Reaction → Bool
is_quiet (Plain Notify) = false
is_quiet (Plain Accumulate) = true
is_quiet (Plain Dial) = true
is_quiet (Plain Ignore) = true
is_quiet (Embed request) = false
is_quiet (AccumulateAndEmbed request) = false

abbrev pub reaction_to : EventRequests → Observed → Reaction
reaction_to requests event = (chosen requests.requested (event_of event)).reaction

-- R has it told, at once or with others (N, A, D); so it is with a persistent event that R doesn't name
abbrev pub collects : EventRequests → Observed → Bool
collects requests event = is_collected (reaction_to requests event)

-- R has none of these told at once, nor a request embedded at one
abbrev pub are_quiet : EventRequests → List Observed → Bool
are_quiet requests events = list_all (λ event. is_quiet (reaction_to requests event)) events

-- none of these but the last is told at once, and at none a request is embedded
abbrev pub quiet_before : EventRequests → Observed → List Observed → Bool
quiet_before requests event [] = is_bare (reaction_to requests event)
quiet_before requests event (next ∷ events) = is_quiet (reaction_to requests event) && quiet_before requests next events

abbrev pub quiet_but_last : EventRequests → List Observed → Bool
quiet_but_last requests [] = true
quiet_but_last requests (event ∷ events) = quiet_before requests event events

-- what a request leaves of what is quarantined
abbrev pub left_by : Quarantined → List Observed → List Observed
left_by Process held = held
left_by Discard held = []

-- no entry of R embeds a request
abbrev pub EmbedsNone : EventRequests → Type 0
EmbedsNone requests = (event : LineEvent) → is_bare (chosen requests.requested event).reaction ≡ true

-- The walk

-- where it stands: R and T of the latest request, or R of the request that it embedded, once that is in force; what R had told before that,
-- which isn't told yet; whether a request is wanted behind each notification (in step), and whether there was a notification since, so that
-- one is waited for
pub record Place : Type 0 where
  pub requests : EventRequests
  pub carried : List Observed
  pub in_step : Bool
  pub is_shut : Bool

-- at the opening, where nothing was asked for: a line is in step until it is asked for something else
abbrev pub nothing_asked : Place
nothing_asked = record { requests = no_requests; carried = []; in_step = true; is_shut = false }

abbrev pub behind_request : Request → Place
behind_request request =
    record { requests = request.events; carried = []; in_step = not (is_loop request.handling.notifying); is_shut = false }

abbrev pub behind_notification : Place → Place
behind_notification place = record place { carried = []; is_shut = place.in_step }

-- where it ends, by that, and by what was done that isn't told, nor dropped for what the walk says
abbrev pub End : Type 1
End = Place → List Observed → Type 0

-- an act is kept where R or T names it, or it is persistent
abbrev pub with_act : EventRequests → List Observed → Observed → List Observed
with_act requests waiting event = if is_kept requests event then waiting ++ event ∷ [] else waiting

-- what R has told of these, behind what it had told before
abbrev pub told_of_front : Place → List Observed → List Observed
told_of_front place front = place.carried ++ filter (collects place.requests) front

-- An event occurs at which R embeds a request: with E alone it is dropped, and all that R has told; with A all that is carried on.
abbrev pub Brings : Reaction → List Observed → EmbeddedRequest → List Observed → Type 0
Brings (Plain action) gathered request carried = ⊥
Brings (Embed embedded) gathered request carried = (embedded ≡ request) × (carried ≡ [])
Brings (AccumulateAndEmbed embedded) gathered request carried = (embedded ≡ request) × (carried ≡ gathered)

-- the embedded request is in force, and this is carried on
abbrev pub behind_embedded : Place → EmbeddedRequest → List Observed → Place
behind_embedded place request carried = record place { requests = with_embedded place.requests request; carried = carried }

-- Embedded requests come into force, each by an event: one of those that wait, with a quiet front of them, or one that is no telephone's,
-- an end of a signal or of timer T. In step nothing occurs between a notification and the next request.
pub data Embeds : Place → List Observed → Place → List Observed → Type 0 where
  no_more : (place : Place) (waiting : List Observed) → Embeds place waiting place waiting
  by_event : (place next : Place) (waiting front rest left carried : List Observed) (event : Observed) (request : EmbeddedRequest)
      → place.is_shut ≡ false → waiting ≡ front ++ (of_telephone (event ∷ []) ++ rest) → are_quiet place.requests front ≡ true
      → Brings (reaction_to place.requests event) (told_of_front place (front ++ of_telephone (event ∷ []))) request carried
      → Embeds (behind_embedded place request carried) rest next left → Embeds place waiting next left

-- behind such requests
abbrev pub Then : Place → List Observed → End → Type 0
Then place waiting end = (next : Place) × (left : List Observed) × Embeds place waiting next left × end next left

-- A notification tells all that R has told of these: the last of them alone may be one that R has told at once, and there is none among
-- them at which R embeds a request.
abbrev pub TellsOf : Place → List Observed → List Observed → Type 0
TellsOf place front observed =
    (of_telephone observed ≡ told_of_front place front) × (quiet_but_last place.requests front ≡ true)

-- From there, and what is waiting to be told, in its order. A request: what had occurred (of it nothing is told at once) is dropped, and
-- the rest, which is quarantined, stays or is discarded; in step nothing occurs between a notification and the next request. A
-- notification: what it tells is all that R has told of a front of what waits, which passes over nothing that is told at once, and no
-- event at which R embeds a request; the rest waits on. Before each of them embedded requests may come into force.
abbrev pub Walks : Place → List Observed → List CourseStep → End → Type 0
Walks place waiting [] end = Then place waiting end
Walks place waiting (acts act ∷ course) end =
    Then place waiting (λ next left. Walks next (with_act next.requests left (observed_at act)) course end)
Walks place waiting (accepts request ∷ course) end =
    Then place waiting (λ next left. (occurred : List Observed) × (held : List Observed) × (left ≡ occurred ++ held)
    × (are_quiet next.requests occurred ≡ true) × (next.is_shut ≡ true → occurred ≡ [])
    × Walks (behind_request request) (left_by request.handling.quarantined held) course end)
Walks place waiting (notifies identifier observed ∷ course) end =
    Then place waiting (λ next left. (front : List Observed) × (held : List Observed) × (left ≡ front ++ held)
    × TellsOf next front observed × Walks (behind_notification next) held course end)

-- Where a line stands in the walk

-- no event occurs
abbrev pub is_waiting : State → Bool
is_waiting Normal = false
is_waiting Notification = true
is_waiting Lockstep = true

-- in step, a line waits for a request from its notification on: whatever answers that, events occur behind a request alone
abbrev pub awaits_request : LineState → Bool
awaits_request line = is_waiting line.state && (not (is_loop line.handling.notifying) && not line.renewed)

-- The place is the line's own: R and T in force there, also R of an embedded request, are those that the line has; it is in step where the
-- line is; and a request is waited for where the line waits for one. A line to which nothing was said, and that told nothing, waits for its
-- gateway to serve.
pub record IsItsPlace (line : LineState) (place : Place) : Type 0 where
  pub requests : place.requests ≡ line.requests
  pub in_step : place.in_step ≡ not (is_loop line.handling.notifying)
  pub is_shut : (place.is_shut ≡ awaits_request line) ⊎ (place ≡ nothing_asked)

-- a line at its end: what had occurred and R has told is accumulated, and the rest is quarantined; and the place is its own
abbrev pub Stays : LineState → End
Stays line place waiting =
    (occurred : List Observed) × (held : List Observed) × (waiting ≡ occurred ++ held)
    × (of_telephone line.accumulated ≡ told_of_front place occurred) × (are_quiet place.requests occurred ≡ true)
    × (of_telephone line.quarantined.events ≡ held) × IsItsPlace line place

-- Where acts are lost for want of room

-- these steps are left of a course: all, but for so many acts
pub data AllButLost : ℕ → List CourseStep → List CourseStep → Type 0 where
  no_step : AllButLost zero [] []
  a_step : (n : ℕ) (step : CourseStep) (left course : List CourseStep) → AllButLost n left course
      → AllButLost n (step ∷ left) (step ∷ course)
  a_lost_act : (n : ℕ) (act : Act) (left course : List CourseStep) → AllButLost n left course → AllButLost (suc n) left (acts act ∷ course)

-- An act that is lost might as well not have been done; the line counts each, up to the greatest count; and all others are walked through.
pub record WalksButLost (course : List CourseStep) (line : LineState) : Type 0 where
  pub lost : ℕ
  pub left : List CourseStep
  pub others : AllButLost lost left course
  pub counted : min most_lost lost ≤ line.quarantined.lost
  pub walk : Walks nothing_asked [] left (Stays line)

-- The first notification behind a request

-- nothing but acts
abbrev pub AreActs : List CourseStep → Type 0
AreActs [] = Unit {0}
AreActs (acts act ∷ course) = AreActs course
AreActs (accepts request ∷ course) = ⊥
AreActs (notifies identifier observed ∷ course) = ⊥

-- It tells, in their order, all that R has told of a front of these: what the request left of what waited, and what of the acts since is
-- kept. And what it left, behind all that was told before, was done before, in that order.
pub record TellsAFront (request : Request) (told done since observed : List Observed) : Type 0 where
  pub held : List Observed
  pub front : List Observed
  pub rest : List Observed
  pub before : AreAmong (told ++ held) done
  pub order : left_by request.handling.quarantined held ++ filter (is_kept request.events) since ≡ front ++ rest
  pub told_so : of_telephone observed ≡ filter (collects request.events) front

-- What was kept of the acts between a notification, in step, and the next request is quarantined still at that, behind what the
-- notification left.
pub record TellsWhatWasKept (latest request : Request) (told done some since observed : List Observed) : Type 0 where
  pub left : List Observed
  pub front : List Observed
  pub rest : List Observed
  pub before : AreAmong (told ++ left) done
  pub order : left_by request.handling.quarantined (left ++ filter (is_kept latest.events) some) ++ filter (is_kept request.events) since
      ≡ front ++ rest
  pub told_so : of_telephone observed ≡ filter (collects request.events) front
