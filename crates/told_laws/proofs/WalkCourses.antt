-- How what a line tells walks through its course, from any place at which it stands: but for the acts that are lost.
use Rattle.std.proofs.Common.{◌≡◌, ◌≢◌, ℕ, Bool, true, false, List, [], ◌∷◌, None, refl, sym, ap, subst, ◌∙◌, ◌⊎◌, suc, ◌+◌, ◌≤◌, min, ◌++◌, Option, inl, inr, append_assoc, append-nil, arith}
use Rattle.std.specs.Prelude.{not, ◌&&◌, ◌||◌, if◌then◌else◌}
use Rattle.std.proofs.lemmas.Bool.{true≢false, not-true}
use Rattle.mg_bytes.specs.declared.letter.Letter.TheVariants as letters
use Rattle.packages.specs.declared.event.LineEvent.TheVariants as events
use Rattle.packages.specs.declared.signal.Kind.{Kind}
use Rattle.packages.specs.declared.signal.Kind.TheVariants.{TimeOut, Brief, OnOff}
use Rattle.packages.specs.declared.signal.Signal.{Signal}
use Rattle.packages.specs.Looking.{kind_of}
use Rattle.packages.specs.declared.handling.Quarantined.{Quarantined}
use Rattle.packages.specs.declared.handling.Quarantined.TheVariants.{Process, Discard}
use Rattle.packages.specs.declared.observed.Observed.{Observed}
use Rattle.packages.specs.declared.observed.Observed.TheVariants.{Happened, Ended}
use Rattle.events_and_signals.specs.declared.request.Request.{Request}
use Rattle.events_and_signals.specs.Stopping.{without}
use Rattle.timers.specs.declared.kind.LineDue.{LineDue}
use Rattle.timers.specs.declared.kind.LineDue.TheVariants.{DigitTimer, SignalEnd}
use Rattle.mg_line.specs.declared.phone.Act.{Act}
use Rattle.mg_line.specs.declared.phone.Act.TheVariants.{OffHook, OnHook, Flash, Key}
use Rattle.mg_line.specs.State.{State}
use Rattle.mg_line.specs.State.TheVariants.{Normal, Notification, Lockstep}
use Rattle.mg_line.specs.Line.{LineState, still, Notice, LineDone, opening_line}
use Rattle.mg_line.specs.Detecting.{detected, resumed}
use Rattle.mg_line.specs.Acting.{hooked, observed_at, phoned}
use Rattle.mg_line.specs.Requesting.{quarantined_after, replaced, resumed_in, asked}
use Rattle.mg_line.specs.Answering.{is_loop, answered}
use Rattle.mg_line.specs.Opening.{opened}
use Rattle.mg_line.specs.Falling.{ended_by, fired}
use Rattle.world_laws.specs.Rounds.{of_telephone}
use Rattle.world_laws.specs.Course.{accepts, CourseStep, acts}
use Rattle.world_laws.proofs.EndpointLemmas.{steps_of}
use Rattle.told_laws.specs.Walking.{left_by, Place, behind_request, no_more, Walks, is_waiting, nothing_asked, End, Then, with_act, Stays, AllButLost, no_step, a_step, a_lost_act, awaits_request}
use Rattle.told_laws.proofs.AmongLemmas.{IsDrained, act_of_phone, phoned_moves, asked_moves, answered_moves, opened_moves, fired_moves}
use Rattle.told_laws.proofs.WalkLemmas.{ActWalks, At, Has, Loses, WalksOn, act_walks, at_resumes, end_walks, from_hooked, has_at, here, keeps_same, open_by, other_at, renewed_open, resumes, embeds_keeps, walks_both, walks_map}
use Rattle.events_and_signals.specs.Held.{most_lost}
use Rattle.mg_line.proofs.LoseLemmas.{lost_only_grows}
use Rattle.world_laws.proofs.OutLemmas.{acts_count, fires_count}
use Rattle.told_laws.proofs.InTurn.{CallsInTurn}
use Rattle.told_laws.proofs.StateLemmas.{answered_quiet, fired_quiet, phoned_quiet, neither}

-- How the walk goes on at each call of a line.

pub phoned_walks : (line : LineState) (act : Act) (moment : ℕ) → IsDrained line
    → ActWalks line (observed_at act) (phoned line act moment) ⊎ Loses line (phoned line act moment)
unfolding phoned
phoned_walks line OffHook moment drained =
    let to : LineState = hooked line OffHook in
    from_hooked line to (observed_at OffHook) (detected to (observed_at OffHook) moment) (keeps_same line to (refl, refl) refl refl refl refl) refl
    (act_walks to (observed_at OffHook) moment drained (act_of_phone OffHook))
phoned_walks line OnHook moment drained =
    let to : LineState = hooked line OnHook in
    from_hooked line to (observed_at OnHook) (detected to (observed_at OnHook) moment) (keeps_same line to (refl, refl) refl refl refl refl) refl
    (act_walks to (observed_at OnHook) moment drained (act_of_phone OnHook))
phoned_walks line Flash moment drained = act_walks line (observed_at Flash) moment drained (act_of_phone Flash)
phoned_walks line (Key key) moment drained = act_walks line (observed_at (Key key)) moment drained (act_of_phone (Key key))

-- a request
left_held : (handling : Quarantined) (line : LineState) (held : List Observed) → of_telephone line.quarantined.events ≡ held
    → of_telephone (quarantined_after handling line.quarantined).events ≡ left_by handling held
left_held Process line held same = same
left_held Discard line held same = refl

replaced_has : (line : LineState) (request : Request) (moment : ℕ) → Has (replaced line request moment) (behind_request request) []
unfolding replaced
replaced_has line request moment = record {
  asks = refl;
  accumulated = refl;
  quiet = refl;
  steps = refl;
  unshut = refl;
}

request_by : (state : State) (line : LineState) (moment : ℕ) (place : Place) → Has line place []
    → WalksOn place (of_telephone line.quarantined.events) (resumed_in state line moment)
request_by Normal line moment place has = resumes line moment place [] has
request_by Lockstep line moment place has = resumes line moment place [] has
request_by Notification line moment place has =
    let to : LineState = record line { renewed = true } in
    here (At to) place (of_telephone line.quarantined.events)
    (has_at to place [] (renewed_open to refl)
    (record { asks = has.asks; accumulated = has.accumulated; quiet = has.quiet; steps = has.steps; unshut = has.unshut }))

-- behind it the walk begins anew, with what it leaves of what is quarantined
pub request_walks : (line : LineState) (request : Request) (moment : ℕ)
    → WalksOn (behind_request request) (left_by request.handling.quarantined (of_telephone line.quarantined.events)) (asked line request moment)
unfolding asked replaced
request_walks line request moment =
    let to : LineState = replaced line request moment in
    let goes : WalksOn (behind_request request) (of_telephone to.quarantined.events) (asked line request moment) =
    request_by line.state to moment (behind_request request) (replaced_has line request moment) in
    subst (λ (w : List Observed). WalksOn (behind_request request) w (asked line request moment))
    (left_held request.handling.quarantined line (of_telephone line.quarantined.events) refl) goes

pub asked_walks : (line : LineState) (request : Request) (moment : ℕ) (place : Place) (waiting : List Observed) → At line place waiting
    → Walks place waiting (accepts request ∷ steps_of (asked line request moment).notice) (At (asked line request moment).line)
asked_walks line request moment place waiting at =
    let walk : WalksOn (behind_request request) (left_by request.handling.quarantined at.held) (asked line request moment) =
    subst (λ (held : List Observed). WalksOn (behind_request request) (left_by request.handling.quarantined held) (asked line request moment))
    at.quarantined (request_walks line request moment) in
    let shut : place.is_shut ≡ true → at.past ≡ [] = λ (is : place.is_shut ≡ true). (at.shut is).none_past in
    (place, waiting, no_more place waiting, (at.past, at.held, at.order, at.quiet, shut, walk))

answered_by : (line : LineState) (moment : ℕ) (place : Place) (waiting : List Observed) (b : Bool) → line.state ≡ Notification
    → At line place waiting → (place.is_shut ≡ true → b ≡ false)
    → WalksOn place waiting (if b then resumed line moment else still (record line { state = Lockstep }))
answered_by line moment place waiting true waits at shut =
    at_resumes line moment place waiting at (open_by place place.is_shut refl (λ (is : place.is_shut ≡ true). true≢false (shut is)))
answered_by line moment place waiting false waits at shut =
    let to : LineState = record line { state = Lockstep } in
    here (At to) place waiting
    (other_at line to place waiting at
    (record {
      asks = (refl, refl);
      accumulated = refl;
      quarantined = refl;
      awaits = λ (awaits : line.state ≢ Normal) (normal : Lockstep ≡ Normal). cc;
      renewed = refl;
      waits = sym (ap (λ (s : State). is_waiting s && (not (is_loop line.handling.notifying) && not line.renewed)) waits);
    }))

-- the answer to a notification, for which the line waits
pub answered_walks : (line : LineState) (moment : ℕ) (place : Place) (waiting : List Observed) → line.state ≡ Notification → At line place waiting
    → WalksOn place waiting (answered line moment)
unfolding answered
answered_walks line moment place waiting waits at =
    answered_by line moment place waiting (is_loop line.handling.notifying || line.renewed) waits at
    (λ (is : place.is_shut ≡ true). neither (is_loop line.handling.notifying) line.renewed
    (not-true (is_loop line.handling.notifying) (sym at.steps ∙ at.shuts is)) (at.shut is).fresh)

pub opened_walks : (line : LineState) (moment : ℕ) (place : Place) (waiting : List Observed) → At line place waiting → place.is_shut ≡ false
    → WalksOn place waiting (opened line moment)
unfolding opened
opened_walks line moment place waiting at unshut = at_resumes line moment place waiting at unshut

ended_walks : (kind : Kind) (signal : Signal) (line : LineState) (moment : ℕ) (place : Place) (waiting : List Observed) → IsDrained line
    → At line place waiting → WalksOn place waiting (ended_by kind signal line moment)
ended_walks TimeOut signal line moment place waiting drained at = end_walks line (Ended signal) moment place waiting drained refl at
ended_walks Brief signal line moment place waiting drained at = here (At line) place waiting at
ended_walks OnOff signal line moment place waiting drained at = here (At line) place waiting at

pub fired_walks : (line : LineState) (due : LineDue) (moment : ℕ) (place : Place) (waiting : List Observed) → IsDrained line
    → At line place waiting → WalksOn place waiting (fired line due moment)
unfolding fired
fired_walks line DigitTimer moment place waiting drained at =
    end_walks (record line { timer = None }) (Happened (events.Letter letters.Timer)) moment place waiting drained refl
    (other_at line (record line { timer = None }) place waiting at
    (keeps_same line (record line { timer = None }) (refl, refl) refl refl refl refl))
fired_walks line (SignalEnd signal) moment place waiting drained at =
    let to : LineState = record line { signals = without signal line.signals } in
    ended_walks (kind_of signal) signal to moment place waiting drained
    (other_at line to place waiting at (keeps_same line to (refl, refl) refl refl refl refl))

-- but for the lost acts

pub all_there : (course : List CourseStep) → AllButLost 0 course course
all_there [] = no_step
all_there (step ∷ course) = a_step 0 step course course (all_there course)

but_more : (n : ℕ) (left course more : List CourseStep) → AllButLost n left course → AllButLost n (left ++ more) (course ++ more)
but_more n left course more no_step = all_there more
but_more n left course more (a_step m step some all so) = a_step m step (some ++ more) (all ++ more) (but_more m some all more so)
but_more n left course more (a_lost_act m act some all so) = a_lost_act m act (some ++ more) (all ++ more) (but_more m some all more so)

but_one : (n : ℕ) (left course : List CourseStep) (act : Act) → AllButLost n left course → AllButLost (suc n) left (course ++ acts act ∷ [])
but_one n left course act no_step = a_lost_act 0 act [] [] no_step
but_one n left course act (a_step m step some all so) = a_step (suc m) step some (all ++ acts act ∷ []) (but_one m some all act so)
but_one n left course act (a_lost_act m other some all so) = a_lost_act (suc m) other some (all ++ acts act ∷ []) (but_one m some all act so)

-- where none was lost all are left
pub none_lost : (n : ℕ) (left course : List CourseStep) → AllButLost n left course → n ≡ 0 → left ≡ course
none_lost n left course no_step none = refl
none_lost n left course (a_step m step some all so) none = ap (λ (steps : List CourseStep). step ∷ steps) (none_lost m some all so none)
none_lost n left course (a_lost_act m act some all so) none = absurd (omega arith)

-- Where the line stands

-- before the gateway serves no request is waited for
abbrev pub StandsAt : Bool → LineState → End
StandsAt serving line place waiting = At line place waiting × (serving ≡ false → place.is_shut ≡ false)

-- once it serves
pub serves_at : (line : LineState) (place : Place) (waiting : List Observed) → At line place waiting → StandsAt true line place waiting
serves_at line place waiting at = (at, λ never. absurd (true≢false never))

-- a call, and what it tells: before the gateway serves nothing
on_stands : (serving : Bool) (place : Place) (waiting : List Observed) (done : LineDone) → (serving ≡ false → place.is_shut ≡ false)
    → (serving ≡ false → done.notice ≡ None) → WalksOn place waiting done → Walks place waiting (steps_of done.notice) (StandsAt serving done.line)
on_stands true place waiting done unshut silent walk =
    walks_map (steps_of done.notice) (At done.line) (StandsAt true done.line) place waiting (serves_at done.line) walk
on_stands false place waiting done unshut silent walk =
    subst (λ (n : Option Notice). Walks place waiting (steps_of n) (StandsAt false done.line)) (sym (silent refl))
    (still_stands (subst (λ (n : Option Notice). Walks place waiting (steps_of n) (At done.line)) (silent refl) walk)) where
      still_stands : Then place waiting (At done.line) → Then place waiting (StandsAt false done.line)
      still_stands (next, left, moves, at) = (next, left, moves, (at, λ is. (embeds_keeps place next waiting left moves).1 ∙ unshut refl))

-- it goes on from where the course stands
goes_on : (place : Place) (waiting : List Observed) (course step : List CourseStep) (was is : Bool) (line : LineState) (done : LineDone)
    → Walks place waiting course (StandsAt was line)
    → ((p : Place) (w : List Observed) → StandsAt was line p w → Walks p w (step ++ steps_of done.notice) (StandsAt is done.line))
    → Walks place waiting ((course ++ step) ++ steps_of done.notice) (StandsAt is done.line)
goes_on place waiting course step was is line done walk call =
    subst (λ (c : List CourseStep). Walks place waiting c (StandsAt is done.line)) (sym (append_assoc course step (steps_of done.notice)))
    (walks_both course (step ++ steps_of done.notice) (StandsAt is done.line) place waiting
    (walks_map course (StandsAt was line) (λ (p : Place) (w : List Observed). Walks p w (step ++ steps_of done.notice) (StandsAt is done.line)) place waiting call walk))

goes_plain : (place : Place) (waiting : List Observed) (course : List CourseStep) (was is : Bool) (line : LineState) (done : LineDone)
    → Walks place waiting course (StandsAt was line)
    → ((p : Place) (w : List Observed) → StandsAt was line p w → Walks p w (steps_of done.notice) (StandsAt is done.line))
    → Walks place waiting (course ++ steps_of done.notice) (StandsAt is done.line)
goes_plain place waiting course was is line done walk call =
    walks_both course (steps_of done.notice) (StandsAt is done.line) place waiting
    (walks_map course (StandsAt was line) (λ (p : Place) (w : List Observed). Walks p w (steps_of done.notice) (StandsAt is done.line)) place waiting call walk)

still_counted : (n was is : ℕ) → n ≤ was → was ≤ is → n ≤ is
still_counted n was is few grows = omega arith

one_counted : (base n lost : ℕ) → min most_lost (base + n) ≤ lost → min most_lost (base + suc n) ≤ min most_lost (lost + 1)
one_counted base n lost counted = omega (arith, counted)

-- from that place on, where so many were lost
pub record Walked (place : Place) (waiting : List Observed) (base : ℕ) (serving : Bool) (course : List CourseStep) (line : LineState) : Type 0 where
  pub drained : IsDrained line
  pub few : line.quarantined.lost ≤ most_lost
  pub awaits : serving ≡ false → awaits_request line ≡ true
  pub lost : ℕ
  pub left : List CourseStep
  pub others : AllButLost lost left course
  pub counted : min most_lost (base + lost) ≤ line.quarantined.lost
  pub walk : Walks place waiting left (StandsAt serving line)

-- An act is lost, and counted, or it isn't.
abbrev pub ActCounts : ℕ → ℕ → ℕ → ℕ → Type 0
ActCounts lost then_lost count then_count =
    ((then_lost ≡ lost) × (then_count ≡ count)) ⊎ ((then_lost ≡ suc lost) × (then_count ≡ min most_lost (count + 1)))

module _ (place : Place) (waiting : List Observed) (base : ℕ) where
  abbrev W : Bool → List CourseStep → LineState → Type 0
  W = Walked place waiting base

  acted_on : (serving : Bool) (course : List CourseStep) (line : LineState) (act : Act) (moment : ℕ) → (f : W serving course line)
      → ActWalks line (observed_at act) (phoned line act moment) ⊎ Loses line (phoned line act moment)
      → (g : W serving ((course ++ acts act ∷ []) ++ steps_of (phoned line act moment).notice) (phoned line act moment).line)
      × ActCounts f.lost g.lost line.quarantined.lost (phoned line act moment).line.quarantined.lost
  acted_on serving course line act moment f (inl walks) =
      let done : LineDone = phoned line act moment in (
        record {
          drained = (phoned_moves line act moment f.drained).drained;
          few = acts_count line act moment f.few;
          awaits = λ is. (phoned_quiet line act moment (f.awaits is)).awaits;
          lost = f.lost;
          left = (f.left ++ acts act ∷ []) ++ steps_of done.notice;
          others = but_more f.lost (f.left ++ acts act ∷ []) (course ++ acts act ∷ []) (steps_of done.notice)
              (but_more f.lost f.left course (acts act ∷ []) f.others);
          counted = still_counted (min most_lost (base + f.lost)) line.quarantined.lost done.line.quarantined.lost f.counted
              ((lost_only_grows.act line act moment).grows f.few);
          walk = goes_on place waiting f.left (acts act ∷ []) serving serving line done f.walk
              (λ p w stands. here
              (λ (next : Place) (left : List Observed).
              Walks next (with_act next.requests left (observed_at act)) (steps_of done.notice) (StandsAt serving done.line))
              p w
              (on_stands serving p (with_act p.requests w (observed_at act)) done stands.1
              (λ is. (phoned_quiet line act moment (f.awaits is)).silent) (walks.walks p w stands.0)));
        },
        inl (refl, walks.same),
      )
  acted_on serving course line act moment f (inr loses) =
      let done : LineDone = phoned line act moment in (
        record {
          drained = (phoned_moves line act moment f.drained).drained;
          few = acts_count line act moment f.few;
          awaits = λ is. (phoned_quiet line act moment (f.awaits is)).awaits;
          lost = suc f.lost;
          left = f.left;
          others = subst (λ (n : Option Notice). AllButLost (suc f.lost) f.left ((course ++ acts act ∷ []) ++ steps_of n)) (sym loses.silent)
              (subst (AllButLost (suc f.lost) f.left) (sym (append-nil (course ++ acts act ∷ []))) (but_one f.lost f.left course act f.others));
          counted = subst (λ (n : ℕ). min most_lost (base + suc f.lost) ≤ n) (sym loses.counted)
              (one_counted base f.lost line.quarantined.lost f.counted);
          walk = walks_map f.left (StandsAt serving line) (StandsAt serving done.line) place waiting
              (λ p w stands. (other_at line done.line p w stands.0 loses.keeps, stands.1)) f.walk;
        },
        inr (refl, loses.counted),
      )

  pub act_walked : (serving : Bool) (course : List CourseStep) (line : LineState) (act : Act) (moment : ℕ) → (f : W serving course line)
      → (g : W serving ((course ++ acts act ∷ []) ++ steps_of (phoned line act moment).notice) (phoned line act moment).line)
      × ActCounts f.lost g.lost line.quarantined.lost (phoned line act moment).line.quarantined.lost
  act_walked serving course line act moment f = acted_on serving course line act moment f (phoned_walks line act moment f.drained)

  -- by nothing else an act is lost
  pub request_walked : (course : List CourseStep) (line : LineState) (request : Request) (moment : ℕ) → (f : W true course line)
      → (g : W true ((course ++ accepts request ∷ []) ++ steps_of (asked line request moment).notice) (asked line request moment).line)
      × (g.lost ≡ f.lost)
  request_walked course line request moment f =
      let done : LineDone = asked line request moment in (
        record {
          drained = (asked_moves line request moment).drained;
          few = subst (λ (n : ℕ). n ≤ most_lost) (sym (lost_only_grows.request line request moment)) f.few;
          awaits = λ nor. absurd (true≢false nor);
          lost = f.lost;
          left = (f.left ++ accepts request ∷ []) ++ steps_of done.notice;
          others = but_more f.lost (f.left ++ accepts request ∷ []) (course ++ accepts request ∷ []) (steps_of done.notice)
              (but_more f.lost f.left course (accepts request ∷ []) f.others);
          counted = subst (λ (n : ℕ). min most_lost (base + f.lost) ≤ n) (sym (lost_only_grows.request line request moment)) f.counted;
          walk = goes_on place waiting f.left (accepts request ∷ []) true true line done f.walk
              (λ p w stands. walks_map (accepts request ∷ steps_of done.notice) (At done.line) (StandsAt true done.line) p w (serves_at done.line)
              (asked_walks line request moment p w stands.0));
        },
        refl,
      )

  pub answer_walked : (serving : Bool) (course : List CourseStep) (line : LineState) (moment : ℕ) → line.state ≡ Notification → (f : W serving course line)
      → (g : W serving (course ++ steps_of (answered line moment).notice) (answered line moment).line) × (g.lost ≡ f.lost)
  answer_walked serving course line moment waits f =
      let done : LineDone = answered line moment in (
        record {
          drained = (answered_moves line moment).drained;
          few = subst (λ (n : ℕ). n ≤ most_lost) (sym (lost_only_grows.answering line moment)) f.few;
          awaits = λ is. (answered_quiet line moment (f.awaits is)).awaits;
          lost = f.lost;
          left = f.left ++ steps_of done.notice;
          others = but_more f.lost f.left course (steps_of done.notice) f.others;
          counted = subst (λ (n : ℕ). min most_lost (base + f.lost) ≤ n) (sym (lost_only_grows.answering line moment)) f.counted;
          walk = goes_plain place waiting f.left serving serving line done f.walk
              (λ p w stands. on_stands serving p w done stands.1 (λ is. (answered_quiet line moment (f.awaits is)).silent)
              (answered_walks line moment p w waits stands.0));
        },
        refl,
      )

  pub serving_walked : (course : List CourseStep) (line : LineState) (moment : ℕ) → (f : W false course line)
      → (g : W true (course ++ steps_of (opened line moment).notice) (opened line moment).line) × (g.lost ≡ f.lost)
  serving_walked course line moment f =
      let done : LineDone = opened line moment in (
        record {
          drained = (opened_moves line moment).drained;
          few = subst (λ (n : ℕ). n ≤ most_lost) (sym (lost_only_grows.serving line moment)) f.few;
          awaits = λ nor. absurd (true≢false nor);
          lost = f.lost;
          left = f.left ++ steps_of done.notice;
          others = but_more f.lost f.left course (steps_of done.notice) f.others;
          counted = subst (λ (n : ℕ). min most_lost (base + f.lost) ≤ n) (sym (lost_only_grows.serving line moment)) f.counted;
          walk = goes_plain place waiting f.left false true line done f.walk
              (λ p w stands. walks_map (steps_of done.notice) (At done.line) (StandsAt true done.line) p w (serves_at done.line)
              (opened_walks line moment p w stands.0 (stands.1 refl)));
        },
        refl,
      )

  pub firing_walked : (serving : Bool) (course : List CourseStep) (line : LineState) (due : LineDue) (moment : ℕ) → (f : W serving course line)
      → (g : W serving (course ++ steps_of (fired line due moment).notice) (fired line due moment).line) × (g.lost ≡ f.lost)
  firing_walked serving course line due moment f =
      let done : LineDone = fired line due moment in (
        record {
          drained = (fired_moves line due moment f.drained).drained;
          few = fires_count line due moment f.few;
          awaits = λ is. (fired_quiet line due moment (f.awaits is)).awaits;
          lost = f.lost;
          left = f.left ++ steps_of done.notice;
          others = but_more f.lost f.left course (steps_of done.notice) f.others;
          counted = still_counted (min most_lost (base + f.lost)) line.quarantined.lost done.line.quarantined.lost f.counted
              ((lost_only_grows.firing line due moment).grows f.few);
          walk = goes_plain place waiting f.left serving serving line done f.walk
              (λ p w stands. on_stands serving p w done stands.1 (λ is. (fired_quiet line due moment (f.awaits is)).silent)
              (fired_walks line due moment p w f.drained stands.0));
        },
        refl,
      )

  pub calls_walk : CallsInTurn W
  calls_walk = record {
    act = λ serving course line act moment f. (act_walked serving course line act moment f).0;
    request = λ course line request moment f. (request_walked course line request moment f).0;
    answering = λ serving course line moment waits f. (answer_walked serving course line moment waits f).0;
    serving = λ course line moment f. (serving_walked course line moment f).0;
    firing = λ serving course line due moment f. (firing_walked serving course line due moment f).0;
  }

-- where it begins
none_yet : (lost : ℕ) → min most_lost (lost + 0) ≤ lost
none_yet lost = omega arith

pub starts : (serving : Bool) (line : LineState) (place : Place) (waiting : List Observed) → IsDrained line → line.quarantined.lost ≤ most_lost
    → (serving ≡ false → awaits_request line ≡ true) → StandsAt serving line place waiting
    → Walked place waiting line.quarantined.lost serving [] line
starts serving line place waiting drained few awaits stands = record {
  drained = drained;
  few = few;
  awaits = awaits;
  lost = 0;
  left = [];
  others = no_step;
  counted = none_yet line.quarantined.lost;
  walk = here (StandsAt serving line) place waiting stands;
}

pub opening_at : At opening_line nothing_asked []
opening_at = record {
  past = [];
  held = [];
  order = refl;
  asks = refl;
  accumulated = refl;
  quiet = refl;
  quarantined = refl;
  steps = refl;
  shuts = λ (is : false ≡ true). absurd (true≢false (sym is));
  shut = λ (is : false ≡ true). absurd (true≢false (sym is));
  own = inr refl;
}

pub opening_walks : Walked nothing_asked [] 0 false [] opening_line
opening_walks = starts false opening_line nothing_asked [] (λ normal. absurd cc) (omega arith) (λ is. refl) (opening_at, λ is. refl)

-- where it stands, in the words of the law
pub stays : (line : LineState) (place : Place) (waiting : List Observed) → At line place waiting → Stays line place waiting
stays line place waiting at = (
  at.past,
  at.held,
  at.order,
  at.accumulated,
  at.quiet,
  at.quarantined,
  record { requests = sym at.asks; in_step = at.steps; is_shut = at.own },
)
