-- Which request a notification follows, and that a line in step notifies once for each (RFC 3435, 2.3.4 and 4.4.1).
use Rattle.std.specs.Prelude.{◌≡◌, ℕ, Bool, true, false, codes, List, [], ◌∷◌, None, IfSome}
use Rattle.packages.specs.declared.handling.Handling.{Handling}
use Rattle.packages.specs.declared.handling.Notifying.TheVariants.{Step as InStep}
use Rattle.timers.specs.declared.kind.LineDue.{LineDue}
use Rattle.mg_line.specs.declared.phone.Act.{Act}
use Rattle.events_and_signals.specs.declared.request.Request.{Request}
use Rattle.mg_line.specs.Line.{LineState, LineDone}
use Rattle.mg_line.specs.Laws.{IsWaiting}
use Rattle.mg_line.specs.Acting.{phoned}
use Rattle.mg_line.specs.Requesting.{asked}
use Rattle.mg_line.specs.Answering.{answered}
use Rattle.mg_line.specs.Opening.{opened}
use Rattle.mg_line.specs.Falling.{fired}
use Rattle.world_laws.specs.Course.{CourseStep, acts, accepts, notifies}

-- Of a course

-- each notification has the identifier of the latest request that was accepted before it; this is that of the one before
-- the course
abbrev pub FollowFrom : List ℕ → List CourseStep → Type 0
FollowFrom latest [] = Unit {0}
FollowFrom latest (acts act ∷ course) = FollowFrom latest course
FollowFrom latest (accepts request ∷ course) = FollowFrom request.identifier course
FollowFrom latest (notifies identifier observed ∷ course) = (identifier ≡ latest) × FollowFrom latest course

-- `0` before any (this gateway's profile)
abbrev pub Follow : List CourseStep → Type 0
Follow course = FollowFrom (codes "0") course

-- all requests that are accepted ask for one notification
abbrev pub AreInStep : List CourseStep → Type 0
AreInStep [] = Unit {0}
AreInStep (acts act ∷ course) = AreInStep course
AreInStep (accepts request ∷ course) = (request.handling.notifying ≡ InStep) × AreInStep course
AreInStep (notifies identifier observed ∷ course) = AreInStep course

-- between two notifications a request is accepted; this says whether the line notified since the latest one
abbrev pub OnceFrom : Bool → List CourseStep → Type 0
OnceFrom notified [] = Unit {0}
OnceFrom notified (acts act ∷ course) = OnceFrom notified course
OnceFrom notified (accepts request ∷ course) = OnceFrom false course
OnceFrom notified (notifies identifier observed ∷ course) = (notified ≡ false) × OnceFrom true course

abbrev pub OnceForEach : List CourseStep → Type 0
OnceForEach course = OnceFrom false course

-- Of one call

-- the line follows a request with this X and this Q, and so does what it tells
pub record Follows (identifier : List ℕ) (handling : Handling) (done : LineDone) : Type 0 where
  pub identifier_is : done.line.identifier ≡ identifier
  pub handling_is : done.line.handling ≡ handling
  pub told : IfSome done.notice (λ notice. notice.identifier ≡ identifier)

-- a request is followed from then on, and nothing else changes which one is
pub record FollowsTheLatest : Type 0 where
  pub act : (line : LineState) (act : Act) (moment : ℕ) → Follows line.identifier line.handling (phoned line act moment)
  pub request : (line : LineState) (request : Request) (moment : ℕ)
      → Follows request.identifier request.handling (asked line request moment)
  pub answering : (line : LineState) (moment : ℕ) → Follows line.identifier line.handling (answered line moment)
  pub serving : (line : LineState) (moment : ℕ) → Follows line.identifier line.handling (opened line moment)
  pub firing : (line : LineState) (due : LineDue) (moment : ℕ) → Follows line.identifier line.handling (fired line due moment)

-- in step, a line that notified, to which no request came since
pub record IsResting (line : LineState) : Type 0 where
  pub step : line.handling.notifying ≡ InStep
  pub waits : IsWaiting line.state
  pub renewed : line.renewed ≡ false

pub record StaysResting (done : LineDone) : Type 0 where
  pub silent : done.notice ≡ None
  pub line : IsResting done.line

-- it rests until a request comes
pub record RestsUntilAsked : Type 0 where
  pub act : (line : LineState) (act : Act) (moment : ℕ) → IsResting line → StaysResting (phoned line act moment)
  pub answering : (line : LineState) (moment : ℕ) → IsResting line → StaysResting (answered line moment)
  pub firing : (line : LineState) (due : LineDue) (moment : ℕ) → IsResting line → StaysResting (fired line due moment)

abbrev pub RestsIfNotified : LineDone → Type 0
RestsIfNotified done = IfSome done.notice (λ notice. IsResting done.line)

-- and whatever it tells makes it rest
pub record RestsOnceNotified : Type 0 where
  pub act : (line : LineState) (act : Act) (moment : ℕ) → line.handling.notifying ≡ InStep → RestsIfNotified (phoned line act moment)
  pub request : (line : LineState) (request : Request) (moment : ℕ) → request.handling.notifying ≡ InStep
      → RestsIfNotified (asked line request moment)
  pub answering : (line : LineState) (moment : ℕ) → line.handling.notifying ≡ InStep → RestsIfNotified (answered line moment)
  pub serving : (line : LineState) (moment : ℕ) → line.handling.notifying ≡ InStep → RestsIfNotified (opened line moment)
  pub firing : (line : LineState) (due : LineDue) (moment : ℕ) → line.handling.notifying ≡ InStep
      → RestsIfNotified (fired line due moment)
