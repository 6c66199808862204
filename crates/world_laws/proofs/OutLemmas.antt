-- What comes into the quarantine of a line, and what goes out of it.
use Rattle.std.proofs.Common.{rules, ℕ, ◌+◌, ◌≤◌, Bool, true, false, if◌then◌else◌, length, None, sym, subst, ◌≡◌, List, [], ◌∷◌, ◌++◌, Option, Some, inl, inr, refl, ap, ◌∙◌, arith, append-nil, append_assoc}
use Rattle.std.specs.Prelude.{nat_lt, min, ◌⊎◌, ◌||◌, IfNone, IfSome}
use Rattle.mg_bytes.specs.declared.letter.Letter.TheVariants as letters
use Rattle.packages.specs.declared.event.LineEvent.TheVariants as events
use Rattle.packages.specs.declared.signal.Kind.{Kind}
use Rattle.packages.specs.declared.signal.Kind.TheVariants.{TimeOut, Brief, OnOff}
use Rattle.packages.specs.declared.signal.Signal.{Signal}
use Rattle.packages.specs.Looking.{kind_of}
use Rattle.packages.specs.declared.observed.Observed.{Observed}
use Rattle.packages.specs.declared.observed.Observed.TheVariants.{Happened, Ended}
use Rattle.events_and_signals.specs.Choice.{is_kept}
use Rattle.events_and_signals.specs.Held.{Held, most_lost, one_lost, one_kept, holding}
use Rattle.events_and_signals.specs.Stopping.{without}
use Rattle.timers.specs.declared.kind.LineDue.{LineDue}
use Rattle.timers.specs.declared.kind.LineDue.TheVariants.{DigitTimer, SignalEnd}
use Rattle.mg_line.specs.declared.phone.Act.{Act}
use Rattle.mg_line.specs.declared.phone.Act.TheVariants.{OffHook, OnHook, Flash, Key}
use Rattle.mg_line.specs.State.{State}
use Rattle.mg_line.specs.State.TheVariants.{Normal, Notification, Lockstep}
use Rattle.mg_line.specs.Acting.{hooked, observed_at, phoned}
use Rattle.mg_line.specs.Detecting.{quarantining, detected_in, detected, drained, drained_of, resumed, unless_notified, with_quarantined}
use Rattle.mg_line.specs.Falling.{ended_by, fired}
use Rattle.mg_line.specs.Line.{LineState, LineDone, Notice, still}
use Rattle.mg_line.proofs.DrainLemmas.{occurred_keeps}
use Rattle.std.proofs.lemmas.List.{length-append}
use Rattle.std.proofs.lemmas.List.Elements.{filter-append}
use Rattle.mg_bytes.specs.declared.letter.Letter.TheVariants.{Timer}
use Rattle.packages.specs.declared.handling.Quarantined.{Quarantined}
use Rattle.packages.specs.declared.handling.Quarantined.TheVariants.{Process, Discard}
use Rattle.events_and_signals.specs.declared.request.Request.{Request}
use Rattle.mg_line.specs.Answering.{answered, is_loop}
use Rattle.mg_line.specs.Laws.{Awaits, Drains, IsWaiting}
use Rattle.mg_line.specs.Occurring.{occurred}
use Rattle.mg_line.specs.Opening.{opened}
use Rattle.mg_line.specs.Requesting.{asked, quarantined_after, replaced, resumed_in}
use Rattle.mg_line.proofs.OnceLemmas.{notifies_once}
use Rattle.mg_line.proofs.TellLemmas.{drains_a_front}
use Rattle.world_laws.specs.Course.{CourseStep}
use Rattle.world_laws.proofs.EndpointLemmas.{Calls}
use Rattle.world_laws.specs.Rounds.{is_of_telephone, of_telephone}

-- The count of lost events stays within its greatest value.

abbrev pub IsCounted : LineState → Type 0
IsCounted line = line.quarantined.lost ≤ most_lost

least : (n : ℕ) → min most_lost n ≤ most_lost
least n = search rules

held_counts : (held : Held) (event : Observed) → held.lost ≤ most_lost → (holding held event).lost ≤ most_lost
unfolding holding
held_counts held event few = by_room (nat_lt (length held.events) held.room) where
  by_room : (b : Bool) → (if b then one_kept held event else one_lost held).lost ≤ most_lost
  by_room true = few
  by_room false = least (held.lost + 1)

left_counts : (line : LineState) (event : Observed) → IsCounted line → IsCounted (quarantining line event)
unfolding quarantining
left_counts line event few = by_kept (is_kept line.requests event) where
  by_kept : (b : Bool) → (if b then holding line.quarantined event else line.quarantined).lost ≤ most_lost
  by_kept true = held_counts line.quarantined event few
  by_kept false = few

detected_in_counts : (state : State) (line : LineState) (event : Observed) (moment : ℕ) → IsCounted line → IsCounted (detected_in state line event moment).line
detected_in_counts Normal line event moment few = subst (λ (held : Held). held.lost ≤ most_lost) (sym (occurred_keeps line event moment)) few
detected_in_counts Notification line event moment few = left_counts line event few
detected_in_counts Lockstep line event moment few = left_counts line event few

detected_counts : (line : LineState) (event : Observed) (moment : ℕ) → IsCounted line → IsCounted (detected line event moment).line
unfolding detected
detected_counts line event moment few = detected_in_counts line.state line event moment few

pub acts_count : (line : LineState) (act : Act) (moment : ℕ) → IsCounted line → IsCounted (phoned line act moment).line
unfolding phoned
acts_count line OffHook moment few = detected_counts (hooked line OffHook) (observed_at OffHook) moment few
acts_count line OnHook moment few = detected_counts (hooked line OnHook) (observed_at OnHook) moment few
acts_count line Flash moment few = detected_counts line (observed_at Flash) moment few
acts_count line (Key key) moment few = detected_counts line (observed_at (Key key)) moment few

ended_counts : (kind : Kind) (signal : Signal) (line : LineState) (moment : ℕ) → IsCounted line → IsCounted (ended_by kind signal line moment).line
ended_counts TimeOut signal line moment few = detected_counts line (Ended signal) moment few
ended_counts Brief signal line moment few = few
ended_counts OnOff signal line moment few = few

pub fires_count : (line : LineState) (due : LineDue) (moment : ℕ) → IsCounted line → IsCounted (fired line due moment).line
unfolding fired
fires_count line DigitTimer moment few = detected_counts (record line { timer = None }) (Happened (events.Letter letters.Timer)) moment few
fires_count line (SignalEnd signal) moment few = ended_counts (kind_of signal) signal (record line { signals = without signal line.signals }) moment few

-- what is quarantined after a call
abbrev pub held_in : LineDone → List Observed
held_in done = done.line.quarantined.events

-- A front of these events went out

pub record BackOf (was is : List Observed) : Type 0 where
  pub front : List Observed
  pub order : was ≡ front ++ is

back_same : (events : List Observed) → BackOf events events
back_same events = record { front = []; order = refl }

back_none : (events : List Observed) → BackOf events []
back_none events = record { front = events; order = sym (append-nil events) }

back_both : (a b c : List Observed) → BackOf a b → BackOf b c → BackOf a c
back_both a b c one two = record {
  front = one.front ++ two.front;
  order = one.order ∙ ap (λ (x : List Observed). one.front ++ x) two.order ∙ sym (append_assoc one.front two.front c);
}

none_left : (is : List Observed) → BackOf [] is → is ≡ []
none_left is back = by_front back.front back.order where
  by_front : (front : List Observed) → [] ≡ front ++ is → is ≡ []
  by_front [] same = sym same
  by_front (event ∷ front) same = absurd cc

-- what is left of two lists: of the first no more than there was
pub record Parts (some more is : List Observed) : Type 0 where
  pub old : List Observed
  pub new : List Observed
  pub order : is ≡ old ++ new
  pub few : length old ≤ length some
  pub back : BackOf more new

behind : (x y : Observed) (xs ys : List Observed) → x ∷ xs ≡ y ∷ ys → xs ≡ ys
behind x y xs ys same = cc

parts_from : (front some more is : List Observed) → some ++ more ≡ front ++ is → Parts some more is
parts_from [] some more is same = record { old = some; new = more; order = sym same; few = omega arith; back = back_same more }
parts_from (event ∷ front) [] more is same = record { old = []; new = is; order = refl; few = omega arith; back = record { front = event ∷ front; order = same } }
parts_from (event ∷ front) (other ∷ some) more is same =
    let rest = parts_from front some more is (behind other event (some ++ more) (front ++ is) same) in
    let few : length rest.old ≤ length some = rest.few in
    record { old = rest.old; new = rest.new; order = rest.order; few = omega (arith, few); back = rest.back }

pub parts_of_back : (some more is : List Observed) → BackOf (some ++ more) is → Parts some more is
parts_of_back some more is back = parts_from back.front some more is back.order

-- no more of it is the telephone's than was
pub back_few : (was is : List Observed) → BackOf was is → length (of_telephone is) ≤ length (of_telephone was)
back_few was is back =
    let sum : length (of_telephone was) ≡ length (of_telephone back.front) + length (of_telephone is) =
    ap (λ (x : List Observed). length (of_telephone x)) back.order ∙ ap (λ (x : List Observed). length x) (filter-append is_of_telephone back.front is)
    ∙ length-append (of_telephone back.front) (of_telephone is) in
    omega (arith, sum)

-- One event came, or none

-- of it so much at most is the telephone's
abbrev pub Grows : ℕ → List Observed → List Observed → Type 0
Grows most was is = (is ≡ was) ⊎ ((event : Observed) × (is ≡ was ++ event ∷ []) × (length (of_telephone (event ∷ [])) ≤ most))

pub record Grown (most : ℕ) (old new is : List Observed) : Type 0 where
  pub now : List Observed
  pub order : is ≡ old ++ now
  pub few : length (of_telephone now) ≤ length (of_telephone new) + most

pub grown : (most : ℕ) (old new is : List Observed) → Grows most (old ++ new) is → Grown most old new is
grown most old new is (inl same) = record { now = new; order = same; few = omega arith }
grown most old new is (inr one) =
    let sum : length (of_telephone (new ++ one.0 ∷ [])) ≡ length (of_telephone new) + length (of_telephone (one.0 ∷ [])) =
    ap (λ (x : List Observed). length x) (filter-append is_of_telephone new (one.0 ∷ [])) ∙ length-append (of_telephone new) (of_telephone (one.0 ∷ [])) in
    let few : length (of_telephone (one.0 ∷ [])) ≤ most = one.2 in
    record { now = new ++ one.0 ∷ []; order = one.1 ∙ append_assoc old new (one.0 ∷ []); few = omega (arith, sum, few) }

-- An event is detected

-- a line that waits goes on to do so, and tells nothing; in the state normal nothing comes into its quarantine
pub record Detects (most : ℕ) (line : LineState) (done : LineDone) : Type 0 where
  pub grows : Grows most line.quarantined.events (held_in done)
  pub waits : IsWaiting line.state → (done.notice ≡ None) × (done.line.state ≡ line.state)
  pub free : line.state ≡ Normal → held_in done ≡ line.quarantined.events

either_grows : (most : ℕ) (event : Observed) (kept room : Bool) (held : Held) → length (of_telephone (event ∷ [])) ≤ most
    → Grows most held.events (if kept then (if room then one_kept held event else one_lost held) else held).events
either_grows most event true true held few = inr (event, refl, few)
either_grows most event true false held few = inl refl
either_grows most event false room held few = inl refl

left_grows : (most : ℕ) (line : LineState) (event : Observed) → length (of_telephone (event ∷ [])) ≤ most
    → Grows most line.quarantined.events (quarantining line event).quarantined.events
unfolding quarantining holding
left_grows most line event few =
    either_grows most event (is_kept line.requests event) (nat_lt (length line.quarantined.events) line.quarantined.room) line.quarantined few

detected_shape : (most : ℕ) (line : LineState) (event : Observed) (moment : ℕ) → length (of_telephone (event ∷ [])) ≤ most → Detects most line (detected line event moment)
unfolding detected quarantining
detected_shape most line event moment few = by_state line.state refl where
  left : Grows most line.quarantined.events (quarantining line event).quarantined.events
  left = left_grows most line event few

  by_state : (state : State) → line.state ≡ state → Detects most line (detected_in state line event moment)
  by_state Normal is = record {
    grows = inl (ap (λ (q : Held). q.events) (occurred_keeps line event moment));
    waits = λ waits. absurd (subst IsWaiting is waits);
    free = λ normal. ap (λ (q : Held). q.events) (occurred_keeps line event moment);
  }
  by_state Notification is = record { grows = left; waits = λ waits. (refl, refl); free = λ normal. absurd (let clash : Notification ≡ Normal = sym is ∙ normal in cc) }
  by_state Lockstep is = record { grows = left; waits = λ waits. (refl, refl); free = λ normal. absurd (let clash : Lockstep ≡ Normal = sym is ∙ normal in cc) }

one_at_most : (event : Observed) → length (of_telephone (event ∷ [])) ≤ 1
one_at_most event = by_test (is_of_telephone event) where
  by_test : (b : Bool) → length (if b then event ∷ [] else []) ≤ 1
  by_test true = omega arith
  by_test false = omega arith

pub phoned_shape : (line : LineState) (act : Act) (moment : ℕ) → Detects 1 line (phoned line act moment)
unfolding phoned
phoned_shape line OffHook moment =
    let h = detected_shape 1 (hooked line OffHook) (observed_at OffHook) moment (one_at_most (observed_at OffHook)) in record { grows = h.grows; waits = h.waits; free = h.free }
phoned_shape line OnHook moment =
    let h = detected_shape 1 (hooked line OnHook) (observed_at OnHook) moment (one_at_most (observed_at OnHook)) in record { grows = h.grows; waits = h.waits; free = h.free }
phoned_shape line Flash moment =
    let h = detected_shape 1 (hooked line Flash) (observed_at Flash) moment (one_at_most (observed_at Flash)) in record { grows = h.grows; waits = h.waits; free = h.free }
phoned_shape line (Key key) moment =
    let h = detected_shape 1 (hooked line (Key key)) (observed_at (Key key)) moment (one_at_most (observed_at (Key key))) in record { grows = h.grows; waits = h.waits; free = h.free }

ended_shape : (kind : Kind) (signal : Signal) (line : LineState) (moment : ℕ) → Detects 0 line (ended_by kind signal line moment)
ended_shape TimeOut signal line moment = detected_shape 0 line (Ended signal) moment (omega arith)
ended_shape Brief signal line moment = record { grows = inl refl; waits = λ waits. (refl, refl); free = λ normal. refl }
ended_shape OnOff signal line moment = record { grows = inl refl; waits = λ waits. (refl, refl); free = λ normal. refl }

pub fired_shape : (line : LineState) (due : LineDue) (moment : ℕ) → Detects 0 line (fired line due moment)
unfolding fired
fired_shape line DigitTimer moment =
    let h = detected_shape 0 (record line { timer = None }) (Happened (events.Letter Timer)) moment (omega arith) in record { grows = h.grows; waits = h.waits; free = h.free }
fired_shape line (SignalEnd signal) moment =
    let h = ended_shape (kind_of signal) signal (record line { signals = without signal line.signals }) moment in record { grows = h.grows; waits = h.waits; free = h.free }

-- Quarantined events occur

-- all are out where nothing is told of them
resumed_drains : (line : LineState) (moment : ℕ) → Drains line.quarantined.events (resumed line moment)
unfolding opened
resumed_drains line moment = drains_a_front.serving line moment

resumed_back : (line : LineState) (moment : ℕ) → BackOf line.quarantined.events (held_in (resumed line moment))
resumed_back line moment = let drains = resumed_drains line moment in record { front = drains.front; order = drains.rest }

-- the first is out, and of the rest these are left; and all are out where nothing is told
pub record Out (rest : List Observed) (done : LineDone) : Type 0 where
  pub back : BackOf rest (held_in done)
  pub whole : IfNone done.notice (held_in done ≡ [])

drains_next : (events : List Observed) (line : LineState) (moment : ℕ) → line.quarantined.events ≡ events → Drains events (drained_of events line moment)
unfolding drained
drains_next events line moment same = subst (λ (x : List Observed). Drains x (drained_of x line moment)) same (drains_a_front.draining line moment)

unless_out : (events : List Observed) (notice : Option Notice) (done : LineDone) (next : LineState → LineDone) → held_in done ≡ events → BackOf events (held_in (next done.line))
    → BackOf events (held_in (unless_notified notice done next))
unless_out events None done next same back = back
unless_out events (Some notice) done next same back = record { front = []; order = sym same }

first_out : (event : Observed) (rest : List Observed) (line : LineState) (moment : ℕ) → BackOf rest (held_in (drained_of (event ∷ rest) line moment))
unfolding drained_of
first_out event rest line moment =
    let done : LineDone = occurred (with_quarantined line rest) event moment in
    let same : held_in done ≡ rest = ap (λ (q : Held). q.events) (occurred_keeps (with_quarantined line rest) event moment) in
    let drains = drains_next rest done.line moment same in
    unless_out rest done.notice done (λ next. drained_of rest next moment) same (record { front = drains.front; order = drains.rest })

resumed_out : (line : LineState) (moment : ℕ) (event : Observed) (rest : List Observed) → line.quarantined.events ≡ event ∷ rest → Out rest (resumed line moment)
unfolding resumed drained
resumed_out line moment event rest same = record {
  back = subst (λ (x : List Observed). BackOf rest (held_in (drained_of x (record line { state = Normal }) moment))) (sym same) (first_out event rest (record line { state = Normal }) moment);
  whole = (resumed_drains line moment).whole;
}

replaced_out : (line : LineState) (request : Request) (moment : ℕ) (event : Observed) (rest : List Observed) → line.quarantined.events ≡ event ∷ rest
    → Out rest (resumed (replaced line request moment) moment)
unfolding replaced
replaced_out line request moment event rest same = by_handling request.handling.quarantined refl where
  done : LineDone
  done = resumed (replaced line request moment) moment

  after : (handling : Quarantined) → request.handling.quarantined ≡ handling → (replaced line request moment).quarantined.events ≡ (quarantined_after handling line.quarantined).events
  after handling is = ap (λ (q : Quarantined). (quarantined_after q line.quarantined).events) is

  by_handling : (handling : Quarantined) → request.handling.quarantined ≡ handling → Out rest done
  by_handling Process is = resumed_out (replaced line request moment) moment event rest (after Process is ∙ same)
  by_handling Discard is =
      let drains = resumed_drains (replaced line request moment) moment in
      record {
        back = subst (BackOf rest) (sym (none_left (held_in done) (record { front = drains.front; order = sym (after Discard is) ∙ drains.rest }))) (back_none rest);
        whole = drains.whole;
      }

-- in lockstep a request lets one out
pub asked_out : (line : LineState) (request : Request) (moment : ℕ) (event : Observed) (rest : List Observed) → line.state ≡ Lockstep → line.quarantined.events ≡ event ∷ rest
    → Out rest (asked line request moment)
unfolding asked
asked_out line request moment event rest is same =
    subst (λ (state : State). Out rest (resumed_in state (replaced line request moment) moment)) (sym is) (replaced_out line request moment event rest same)

-- while it waits for an answer a request leaves what is quarantined, or discards it
pub asked_waiting : (line : LineState) (request : Request) (moment : ℕ) → line.state ≡ Notification
    → (held_in (asked line request moment) ≡ line.quarantined.events) ⊎ (held_in (asked line request moment) ≡ [])
unfolding asked replaced
asked_waiting line request moment is =
    subst (λ (state : State). (held_in (resumed_in state (replaced line request moment) moment) ≡ line.quarantined.events) ⊎ (held_in (resumed_in state (replaced line request moment) moment) ≡ []))
    (sym is) (by_handling request.handling.quarantined) where
      by_handling : (handling : Quarantined)
          → ((quarantined_after handling line.quarantined).events ≡ line.quarantined.events) ⊎ ((quarantined_after handling line.quarantined).events ≡ [])
      by_handling Process = inl refl
      by_handling Discard = inr refl

after_back : (handling : Quarantined) (held : Held) → BackOf held.events (quarantined_after handling held).events
after_back Process held = back_same held.events
after_back Discard held = back_none held.events

resumed_in_back : (state : State) (line : LineState) (moment : ℕ) → BackOf line.quarantined.events (held_in (resumed_in state line moment))
resumed_in_back Normal line moment = resumed_back line moment
resumed_in_back Notification line moment = back_same line.quarantined.events
resumed_in_back Lockstep line moment = resumed_back line moment

pub asked_back : (line : LineState) (request : Request) (moment : ℕ) → BackOf line.quarantined.events (held_in (asked line request moment))
unfolding asked replaced
asked_back line request moment =
    back_both line.quarantined.events (replaced line request moment).quarantined.events (held_in (asked line request moment)) (after_back request.handling.quarantined line.quarantined)
    (resumed_in_back line.state (replaced line request moment) moment)

-- the answer lets one out, or the line waits for a request
pub answered_out : (line : LineState) (moment : ℕ) (event : Observed) (rest : List Observed) → line.quarantined.events ≡ event ∷ rest
    → Out rest (answered line moment) ⊎ (answered line moment ≡ still (record line { state = Lockstep }))
unfolding answered
answered_out line moment event rest same = by_test (is_loop line.handling.notifying || line.renewed) where
  by_test : (b : Bool) → Out rest (if b then resumed line moment else still (record line { state = Lockstep }))
      ⊎ ((if b then resumed line moment else still (record line { state = Lockstep })) ≡ still (record line { state = Lockstep }))
  by_test true = inl (resumed_out line moment event rest same)
  by_test false = inr refl

pub answered_back : (line : LineState) (moment : ℕ) → BackOf line.quarantined.events (held_in (answered line moment))
unfolding answered
answered_back line moment = by_test (is_loop line.handling.notifying || line.renewed) where
  by_test : (b : Bool) → BackOf line.quarantined.events (held_in (if b then resumed line moment else still (record line { state = Lockstep })))
  by_test true = resumed_back line moment
  by_test false = back_same line.quarantined.events

pub opened_back : (line : LineState) (moment : ℕ) → BackOf line.quarantined.events (held_in (opened line moment))
opened_back line moment = let drains = drains_a_front.serving line moment in record { front = drains.front; order = drains.rest }

-- In the state normal nothing is quarantined

abbrev pub NormalIsFree : Bool → List CourseStep → LineState → Type 0
NormalIsFree serving course line = line.state ≡ Normal → line.quarantined.events ≡ []

detects_free : (most : ℕ) (line : LineState) (done : LineDone) → Detects most line done → (line.state ≡ Normal → line.quarantined.events ≡ []) → done.line.state ≡ Normal → held_in done ≡ []
detects_free most line done shape free normal = by_state line.state refl where
  by_state : (state : State) → line.state ≡ state → held_in done ≡ []
  by_state Normal is = shape.free is ∙ free is
  by_state Notification is = absurd (let clash : Notification ≡ Normal = sym is ∙ sym (shape.waits (subst IsWaiting (sym is) tt)).1 ∙ normal in cc)
  by_state Lockstep is = absurd (let clash : Lockstep ≡ Normal = sym is ∙ sym (shape.waits (subst IsWaiting (sym is) tt)).1 ∙ normal in cc)

resumed_free : (line : LineState) (moment : ℕ) → (resumed line moment).line.state ≡ Normal → held_in (resumed line moment) ≡ []
unfolding opened
resumed_free line moment normal = by_notice (resumed line moment).notice (notifies_once.serving line moment) (resumed_drains line moment).whole where
  by_notice : (notice : Option Notice) → IfSome notice (λ n. Awaits (resumed line moment).line) → IfNone notice (held_in (resumed line moment) ≡ []) → held_in (resumed line moment) ≡ []
  by_notice None awaits whole = whole
  by_notice (Some notice) awaits whole = absurd (let clash : Notification ≡ Normal = sym awaits.state ∙ normal in cc)

asked_free : (line : LineState) (request : Request) (moment : ℕ) → (asked line request moment).line.state ≡ Normal → held_in (asked line request moment) ≡ []
unfolding asked replaced
asked_free line request moment normal = by_state line.state refl normal where
  by_state : (state : State) → line.state ≡ state → (resumed_in state (replaced line request moment) moment).line.state ≡ Normal
      → held_in (resumed_in state (replaced line request moment) moment) ≡ []
  by_state Normal is normal = resumed_free (replaced line request moment) moment normal
  by_state Notification is normal = absurd (let clash : Notification ≡ Normal = sym is ∙ normal in cc)
  by_state Lockstep is normal = resumed_free (replaced line request moment) moment normal

answered_free : (line : LineState) (moment : ℕ) → (answered line moment).line.state ≡ Normal → held_in (answered line moment) ≡ []
unfolding answered
answered_free line moment normal = by_test (is_loop line.handling.notifying || line.renewed) normal where
  by_test : (b : Bool) → (if b then resumed line moment else still (record line { state = Lockstep })).line.state ≡ Normal
      → held_in (if b then resumed line moment else still (record line { state = Lockstep })) ≡ []
  by_test true normal = resumed_free line moment normal
  by_test false normal = absurd (let clash : Lockstep ≡ Normal = normal in cc)

opened_free : (line : LineState) (moment : ℕ) → (opened line moment).line.state ≡ Normal → held_in (opened line moment) ≡ []
unfolding opened
opened_free line moment normal = resumed_free line moment normal

pub calls_free : Calls NormalIsFree
calls_free = record {
  act = λ serving course line act moment free normal. detects_free 1 line (phoned line act moment) (phoned_shape line act moment) free normal;
  request = λ course line request moment free normal. asked_free line request moment normal;
  answering = λ serving course line moment free normal. answered_free line moment normal;
  serving = λ course line moment free normal. opened_free line moment normal;
  firing = λ serving course line at due moment is free normal. detects_free 0 line (fired line due moment) (fired_shape line due moment) free normal;
}
