-- A line follows the latest request.
use Rattle.std.proofs.Common.{◌≡◌, ℕ, Bool, true, false, List, [], ◌∷◌, ◌++◌, refl, sym, ap, subst, ◌∙◌}
use Rattle.std.specs.Prelude.{Option, Some, None, IfSome, ◌||◌, if◌then◌else◌}
use Rattle.mg_bytes.specs.declared.letter.Letter.{Letter}
use Rattle.mg_bytes.specs.declared.letter.Letter.TheVariants.{Timer}
use Rattle.packages.specs.declared.event.LineEvent.TheVariants as events
use Rattle.packages.specs.declared.signal.Kind.{Kind}
use Rattle.packages.specs.declared.signal.Kind.TheVariants.{TimeOut, Brief, OnOff}
use Rattle.packages.specs.declared.signal.Signal.{Signal}
use Rattle.packages.specs.Looking.{kind_of}
use Rattle.digit_map.specs.declared.verdict.Verdict.{Verdict}
use Rattle.digit_map.specs.declared.verdict.Verdict.TheVariants.{Perfect, Partial, Impossible}
use Rattle.packages.specs.declared.handling.Handling.{Handling}
use Rattle.packages.specs.declared.handling.Notifying.TheVariants.{Step}
use Rattle.packages.specs.declared.observed.Observed.{Observed}
use Rattle.packages.specs.declared.observed.Observed.TheVariants.{Happened, Ended}
use Rattle.event_syntax.specs.declared.request.Action.TheVariants.{Notify, Accumulate, Dial, Ignore}
use Rattle.event_syntax.specs.declared.request.Reaction.{Reaction}
use Rattle.event_syntax.specs.declared.request.Reaction.TheVariants.{Plain, Embed, AccumulateAndEmbed}
use Rattle.events_and_signals.specs.Choice.{Chosen, chosen}
use Rattle.events_and_signals.specs.Naming.{event_of}
use Rattle.events_and_signals.specs.Stopping.{without}
use Rattle.timers.specs.declared.kind.LineDue.{LineDue}
use Rattle.timers.specs.declared.kind.LineDue.TheVariants.{DigitTimer, SignalEnd}
use Rattle.mg_line.specs.declared.phone.Act.{Act}
use Rattle.mg_line.specs.declared.phone.Act.TheVariants.{OffHook, OnHook, Flash, Key}
use Rattle.events_and_signals.specs.declared.request.Request.{Request}
use Rattle.mg_line.specs.State.{State}
use Rattle.mg_line.specs.State.TheVariants.{Normal, Notification, Lockstep}
use Rattle.mg_line.specs.Line.{LineState, Notice, LineDone, still}
use Rattle.mg_line.specs.Occurring.{notified, notified_if_full, with_event, letter_of, timed, judged, with_letter, dialled_by, embedded, acted, signals_after, occurred}
use Rattle.mg_line.specs.Detecting.{quarantining, detected_in, detected, with_quarantined, unless_notified, drained_of, drained, resumed}
use Rattle.mg_line.specs.Acting.{hooked, observed_at, phoned}
use Rattle.mg_line.specs.Requesting.{replaced, resumed_in, asked}
use Rattle.mg_line.specs.Answering.{is_loop, answered}
use Rattle.mg_line.specs.Opening.{opened}
use Rattle.mg_line.specs.Falling.{ended_by, fired}
use Rattle.mg_line.specs.Laws.{IsWaiting, Awaits}
use Rattle.mg_line.proofs.OnceLemmas.{notifies_once}
use Rattle.mg_line.proofs.TellLemmas.{waits_in_silence, steps_wait}
use Rattle.world_laws.specs.Following.{Follows, FollowsTheLatest, IsResting, StaysResting, RestsUntilAsked, RestsOnceNotified}

abbrev Same : LineState → LineDone → Type 0
Same line done = Follows line.identifier line.handling done

either_same : (line : LineState) (b : Bool) (one other : LineDone) → Same line one → Same line other → Same line (if b then one else other)
either_same line true one other h k = h
either_same line false one other h k = k

still_same : (line : LineState) → Same line (still line)
still_same line = record { identifier_is = refl; handling_is = refl; told = tt }

notified_same : (line : LineState) → Same line (notified line)
unfolding notified
notified_same line = record { identifier_is = refl; handling_is = refl; told = refl }

full_same : (line : LineState) → Same line (notified_if_full line)
unfolding notified_if_full
full_same line = either_same line _ (notified line) (still line) (notified_same line) (still_same line)

judged_same : (verdict : Verdict) (line : LineState) (letter : Letter) (moment : ℕ) → Same line (judged verdict line letter moment)
unfolding timed
judged_same Perfect line letter moment = notified_same line
judged_same Impossible line letter moment = notified_same line
judged_same Partial line letter moment = full_same (timed line letter moment)

dialled_same : (letter : Option Letter) (line : LineState) (moment : ℕ) → Same line (dialled_by letter line moment)
unfolding with_letter
dialled_same None line moment = full_same line
dialled_same (Some letter) line moment = judged_same _ (record line { dialled = line.dialled ++ letter ∷ [] }) letter moment

acted_same : (reaction : Reaction) (line : LineState) (event : Observed) (moment : ℕ) → Same line (acted reaction line event moment)
unfolding acted embedded
acted_same (Plain Ignore) line event moment = still_same line
acted_same (Plain Notify) line event moment = notified_same (with_event line event)
acted_same (Plain Accumulate) line event moment = full_same (with_event line event)
acted_same (Plain Dial) line event moment = dialled_same (letter_of (event_of event)) (with_event line event) moment
acted_same (Embed request) line event moment = record { identifier_is = refl; handling_is = refl; told = tt }
acted_same (AccumulateAndEmbed request) line event moment = full_same (embedded (with_event line event) request moment)

occurred_same : (line : LineState) (event : Observed) (moment : ℕ) → Same line (occurred line event moment)
unfolding occurred
occurred_same line event moment =
    let choice : Chosen = chosen line.requests.requested (event_of event) in
    acted_same choice.reaction (signals_after choice line) event moment

detected_in_same : (state : State) (line : LineState) (event : Observed) (moment : ℕ) → Same line (detected_in state line event moment)
unfolding quarantining
detected_in_same Normal line event moment = occurred_same line event moment
detected_in_same Notification line event moment = record { identifier_is = refl; handling_is = refl; told = tt }
detected_in_same Lockstep line event moment = record { identifier_is = refl; handling_is = refl; told = tt }

detected_same : (line : LineState) (event : Observed) (moment : ℕ) → Same line (detected line event moment)
unfolding detected
detected_same line event moment = detected_in_same line.state line event moment

next_same : (line : LineState) (done after : LineDone) → Same line done → Same done.line after → Same line after
next_same line done after h k = record {
  identifier_is = k.identifier_is ∙ h.identifier_is;
  handling_is = k.handling_is ∙ h.handling_is;
  told = subst (λ (x : List ℕ). IfSome after.notice (λ notice. notice.identifier ≡ x)) h.identifier_is k.told;
}

unless_same : (line : LineState) (notice : Option Notice) (done : LineDone) (next : LineState → LineDone) → Same line done → Same done.line (next done.line)
    → Same line (unless_notified notice done next)
unless_same line None done next h k = next_same line done (next done.line) h k
unless_same line (Some notice) done next h k = h

drained_same : (events : List Observed) (line : LineState) (moment : ℕ) → Same line (drained_of events line moment)
unfolding drained_of
drained_same [] line moment = still_same line
drained_same (event ∷ events) line moment =
    let done : LineDone = occurred (with_quarantined line events) event moment in
    unless_same line done.notice done (λ next. drained_of events next moment) (occurred_same (with_quarantined line events) event moment)
    (drained_same events done.line moment)

resumed_same : (line : LineState) (moment : ℕ) → Same line (resumed line moment)
unfolding resumed drained
resumed_same line moment = drained_same line.quarantined.events (record line { state = Normal }) moment

resumed_in_same : (state : State) (line : LineState) (moment : ℕ) → Same line (resumed_in state line moment)
resumed_in_same Normal line moment = resumed_same line moment
resumed_in_same Notification line moment = record { identifier_is = refl; handling_is = refl; told = tt }
resumed_in_same Lockstep line moment = resumed_same line moment

asked_follows : (line : LineState) (request : Request) (moment : ℕ) → Follows request.identifier request.handling (asked line request moment)
unfolding asked replaced
asked_follows line request moment = resumed_in_same line.state (replaced line request moment) moment

answered_same : (line : LineState) (moment : ℕ) → Same line (answered line moment)
unfolding answered
answered_same line moment =
    either_same line (is_loop line.handling.notifying || line.renewed) (resumed line moment) (still (record line { state = Lockstep }))
    (resumed_same line moment) (record { identifier_is = refl; handling_is = refl; told = tt })

phoned_same : (line : LineState) (act : Act) (moment : ℕ) → Same line (phoned line act moment)
unfolding phoned
phoned_same line OffHook moment = detected_same (hooked line OffHook) (observed_at OffHook) moment
phoned_same line OnHook moment = detected_same (hooked line OnHook) (observed_at OnHook) moment
phoned_same line Flash moment = detected_same line (observed_at Flash) moment
phoned_same line (Key key) moment = detected_same line (observed_at (Key key)) moment

ended_same : (kind : Kind) (signal : Signal) (line : LineState) (moment : ℕ) → Same line (ended_by kind signal line moment)
ended_same TimeOut signal line moment = detected_same line (Ended signal) moment
ended_same Brief signal line moment = still_same line
ended_same OnOff signal line moment = still_same line

fired_same : (line : LineState) (due : LineDue) (moment : ℕ) → Same line (fired line due moment)
unfolding fired
fired_same line DigitTimer moment = detected_same (record line { timer = None }) (Happened (events.Letter Timer)) moment
fired_same line (SignalEnd signal) moment =
    ended_same (kind_of signal) signal (record line { signals = without signal line.signals }) moment

opened_same : (line : LineState) (moment : ℕ) → Same line (opened line moment)
unfolding opened
opened_same line moment = resumed_same line moment

pub follows_the_latest : FollowsTheLatest
follows_the_latest = record { act = phoned_same; request = asked_follows; answering = answered_same; serving = opened_same; firing = fired_same }

-- Resting

-- what waits when something is detected waits on, and no request came
record WaitsOn (line : LineState) (done : LineDone) : Type 0 where
  waits : IsWaiting done.line.state
  renewed : done.line.renewed ≡ line.renewed

detected_in_waits : (state : State) (line : LineState) (event : Observed) (moment : ℕ) → line.state ≡ state → IsWaiting state → WaitsOn line (detected_in state line event moment)
unfolding quarantining
detected_in_waits Normal line event moment is waits = absurd waits
detected_in_waits Notification line event moment is waits = record { waits = subst IsWaiting (sym is) waits; renewed = refl }
detected_in_waits Lockstep line event moment is waits = record { waits = subst IsWaiting (sym is) waits; renewed = refl }

detected_waits : (line : LineState) (event : Observed) (moment : ℕ) → IsWaiting line.state → WaitsOn line (detected line event moment)
unfolding detected
detected_waits line event moment waits = detected_in_waits line.state line event moment refl waits

phoned_waits : (line : LineState) (act : Act) (moment : ℕ) → IsWaiting line.state → WaitsOn line (phoned line act moment)
unfolding phoned
phoned_waits line OffHook moment waits =
    let h = detected_waits (hooked line OffHook) (observed_at OffHook) moment waits in record { waits = h.waits; renewed = h.renewed }
phoned_waits line OnHook moment waits =
    let h = detected_waits (hooked line OnHook) (observed_at OnHook) moment waits in record { waits = h.waits; renewed = h.renewed }
phoned_waits line Flash moment waits = detected_waits line (observed_at Flash) moment waits
phoned_waits line (Key key) moment waits = detected_waits line (observed_at (Key key)) moment waits

ended_waits : (kind : Kind) (signal : Signal) (line : LineState) (moment : ℕ) → IsWaiting line.state → WaitsOn line (ended_by kind signal line moment)
ended_waits TimeOut signal line moment waits = detected_waits line (Ended signal) moment waits
ended_waits Brief signal line moment waits = record { waits = waits; renewed = refl }
ended_waits OnOff signal line moment waits = record { waits = waits; renewed = refl }

fired_waits : (line : LineState) (due : LineDue) (moment : ℕ) → IsWaiting line.state → WaitsOn line (fired line due moment)
unfolding fired
fired_waits line DigitTimer moment waits =
    let h = detected_waits (record line { timer = None }) (Happened (events.Letter Timer)) moment waits in record { waits = h.waits; renewed = h.renewed }
fired_waits line (SignalEnd signal) moment waits =
    let h = ended_waits (kind_of signal) signal (record line { signals = without signal line.signals }) moment waits in record { waits = h.waits; renewed = h.renewed }

stays_resting : (line : LineState) (done : LineDone) → IsResting line → done.notice ≡ None → Same line done → WaitsOn line done → StaysResting done
stays_resting line done rests silent same waits = record {
  silent = silent;
  line = record {
    step = ap (λ (h : Handling). h.notifying) same.handling_is ∙ rests.step;
    waits = waits.waits;
    renewed = waits.renewed ∙ rests.renewed;
  };
}

answered_rests : (line : LineState) (moment : ℕ) → IsResting line → StaysResting (answered line moment)
answered_rests line moment rests =
    subst StaysResting (sym (steps_wait line moment rests.step rests.renewed))
    (record { silent = refl; line = record { step = rests.step; waits = tt; renewed = rests.renewed } })

pub rests_until_asked : RestsUntilAsked
rests_until_asked = record {
  act = λ line act moment rests. stays_resting line (phoned line act moment) rests (waits_in_silence.act line act moment rests.waits) (phoned_same line act moment)
      (phoned_waits line act moment rests.waits);
  answering = answered_rests;
  firing = λ line due moment rests. stays_resting line (fired line due moment) rests (waits_in_silence.firing line due moment rests.waits) (fired_same line due moment)
      (fired_waits line due moment rests.waits);
}

rests_by : (handling : Handling) (identifier : List ℕ) (done : LineDone) (notice : Option Notice) → done.notice ≡ notice → handling.notifying ≡ Step → Follows identifier handling done
    → IfSome notice (λ n. Awaits done.line) → IfSome notice (λ n. IsResting done.line)
rests_by handling identifier done None e step follows awaits = tt
rests_by handling identifier done (Some notice) e step follows awaits = record {
  step = ap (λ (h : Handling). h.notifying) follows.handling_is ∙ step;
  waits = subst IsWaiting (sym awaits.state) tt;
  renewed = awaits.renewed;
}

pub rests_once_notified : RestsOnceNotified
rests_once_notified = record {
  act = λ line act moment step. rests_by line.handling line.identifier (phoned line act moment) (phoned line act moment).notice refl step (phoned_same line act moment) (notifies_once.act line act moment);
  request = λ line request moment step.
      rests_by request.handling request.identifier (asked line request moment) (asked line request moment).notice refl step (asked_follows line request moment) (notifies_once.request line request moment);
  answering = λ line moment step. rests_by line.handling line.identifier (answered line moment) (answered line moment).notice refl step (answered_same line moment) (notifies_once.answering line moment);
  serving = λ line moment step. rests_by line.handling line.identifier (opened line moment) (opened line moment).notice refl step (opened_same line moment) (notifies_once.serving line moment);
  firing = λ line due moment step. rests_by line.handling line.identifier (fired line due moment) (fired line due moment).notice refl step (fired_same line due moment) (notifies_once.firing line due moment);
}
