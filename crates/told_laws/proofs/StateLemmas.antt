-- What tells nothing leaves a line in its state; and a line that waits for its gateway, or for a request, tells nothing.
use Rattle.std.proofs.Common.{◌≡◌, ℕ, Bool, true, false, [], ◌∷◌, ◌++◌, Option, Some, None, refl, sym, ap, ◌∙◌, if◌then◌else◌}
use Rattle.std.specs.Prelude.{not, ◌&&◌, ◌||◌}
use Rattle.std.proofs.lemmas.Bool.{and_parts, not-true}
use Rattle.mg_bytes.specs.declared.letter.Letter.{Letter}
use Rattle.mg_bytes.specs.declared.letter.Letter.TheVariants.{Timer}
use Rattle.packages.specs.declared.event.LineEvent.TheVariants as events
use Rattle.packages.specs.declared.signal.Kind.{Kind}
use Rattle.packages.specs.declared.signal.Kind.TheVariants.{TimeOut, Brief, OnOff}
use Rattle.packages.specs.declared.signal.Signal.{Signal}
use Rattle.packages.specs.Looking.{kind_of}
use Rattle.digit_map.specs.declared.verdict.Verdict.{Verdict}
use Rattle.digit_map.specs.declared.verdict.Verdict.TheVariants.{Perfect, Partial, Impossible}
use Rattle.packages.specs.declared.observed.Observed.{Observed}
use Rattle.packages.specs.declared.observed.Observed.TheVariants.{Happened, Ended}
use Rattle.event_syntax.specs.declared.request.Action.TheVariants.{Notify, Accumulate, Dial, Ignore}
use Rattle.event_syntax.specs.declared.request.Reaction.{Reaction}
use Rattle.event_syntax.specs.declared.request.Reaction.TheVariants.{Plain, Embed, AccumulateAndEmbed}
use Rattle.events_and_signals.specs.Choice.{Chosen, chosen}
use Rattle.events_and_signals.specs.Naming.{event_of}
use Rattle.events_and_signals.specs.Stopping.{without}
use Rattle.timers.specs.declared.kind.LineDue.{LineDue}
use Rattle.timers.specs.declared.kind.LineDue.TheVariants.{DigitTimer, SignalEnd}
use Rattle.mg_line.specs.declared.phone.Act.{Act}
use Rattle.mg_line.specs.declared.phone.Act.TheVariants.{OffHook, OnHook, Flash, Key}
use Rattle.mg_line.specs.State.{State}
use Rattle.mg_line.specs.State.TheVariants.{Normal, Notification, Lockstep}
use Rattle.mg_line.specs.Line.{LineState, LineDone, still}
use Rattle.mg_line.specs.Occurring.{notified, notified_if_full, with_event, letter_of, judged, timed, with_letter, dialled_by, embedded, acted, signals_after, occurred}
use Rattle.mg_line.specs.Detecting.{quarantining, detected_in, detected, resumed}
use Rattle.mg_line.specs.Acting.{hooked, observed_at, phoned}
use Rattle.mg_line.specs.Answering.{is_loop, answered}
use Rattle.mg_line.specs.Falling.{ended_by, fired}
use Rattle.told_laws.specs.Walking.{is_waiting, awaits_request}
use Rattle.world_laws.proofs.WaitingTurns.{timed_state, embedded_state}

-- An event occurs

-- it is in this state
abbrev StaysIn : State → LineDone → Type 0
StaysIn state done = done.notice ≡ None → done.line.state ≡ state

either_stays : (state : State) (b : Bool) (one other : LineDone) → StaysIn state one → StaysIn state other → StaysIn state (if b then one else other)
either_stays state true one other h k = h
either_stays state false one other h k = k

notified_stays : (state : State) (line : LineState) → StaysIn state (notified line)
unfolding notified
notified_stays state line = λ none. absurd cc

full_stays : (line : LineState) → StaysIn line.state (notified_if_full line)
unfolding notified_if_full
full_stays line = either_stays line.state _ (notified line) (still line) (notified_stays line.state line) (λ none. refl)

judged_stays : (verdict : Verdict) (line : LineState) (letter : Letter) (moment : ℕ) → StaysIn line.state (judged verdict line letter moment)
judged_stays Perfect line letter moment = notified_stays line.state line
judged_stays Impossible line letter moment = notified_stays line.state line
judged_stays Partial line letter moment = λ none. full_stays (timed line letter moment) none ∙ timed_state line letter moment

dialled_stays : (letter : Option Letter) (line : LineState) (moment : ℕ) → StaysIn line.state (dialled_by letter line moment)
unfolding with_letter
dialled_stays None line moment = full_stays line
dialled_stays (Some letter) line moment = judged_stays _ (record line { dialled = line.dialled ++ letter ∷ [] }) letter moment

acted_stays : (reaction : Reaction) (line : LineState) (event : Observed) (moment : ℕ) → StaysIn line.state (acted reaction line event moment)
unfolding acted
acted_stays (Plain Ignore) line event moment = λ none. refl
acted_stays (Plain Notify) line event moment = notified_stays line.state (with_event line event)
acted_stays (Plain Accumulate) line event moment = full_stays (with_event line event)
acted_stays (Plain Dial) line event moment = dialled_stays (letter_of (event_of event)) (with_event line event) moment
acted_stays (Embed request) line event moment = λ none. embedded_state (record line { accumulated = [] }) request moment
acted_stays (AccumulateAndEmbed request) line event moment = λ none.
    full_stays (embedded (with_event line event) request moment) none ∙ embedded_state (with_event line event) request moment

pub occurred_state : (line : LineState) (event : Observed) (moment : ℕ) → (occurred line event moment).notice ≡ None
    → (occurred line event moment).line.state ≡ line.state
unfolding occurred
occurred_state line event moment =
    let choice : Chosen = chosen line.requests.requested (event_of event) in
    acted_stays choice.reaction (signals_after choice line) event moment

-- A line on which no event occurs, in step, and to which no request came

-- it tells nothing, and stays so
pub record IsQuiet (done : LineDone) : Type 0 where
  pub silent : done.notice ≡ None
  pub awaits : awaits_request done.line ≡ true

pub opening_awaits : (state : State) (line : LineState) → line.state ≡ state → awaits_request line ≡ true → state ≡ Normal → ⊥
opening_awaits Normal line is awaits normal =
    (let clash : false ≡ true = sym (ap (λ (s : State). is_waiting s && (not (is_loop line.handling.notifying) && not line.renewed)) is) ∙ awaits in cc)
opening_awaits Notification line is awaits normal = (let clash : Notification ≡ Normal = normal in cc)
opening_awaits Lockstep line is awaits normal = (let clash : Lockstep ≡ Normal = normal in cc)

detected_by : (state : State) (line : LineState) (event : Observed) (moment : ℕ) → line.state ≡ state → awaits_request line ≡ true
    → IsQuiet (detected_in state line event moment)
unfolding quarantining
detected_by Normal line event moment is awaits = absurd (opening_awaits Normal line is awaits refl)
detected_by Notification line event moment is awaits = record { silent = refl; awaits = awaits }
detected_by Lockstep line event moment is awaits = record { silent = refl; awaits = awaits }

detected_quiet : (line : LineState) (event : Observed) (moment : ℕ) → awaits_request line ≡ true → IsQuiet (detected line event moment)
unfolding detected
detected_quiet line event moment awaits = detected_by line.state line event moment refl awaits

pub phoned_quiet : (line : LineState) (act : Act) (moment : ℕ) → awaits_request line ≡ true → IsQuiet (phoned line act moment)
unfolding phoned
phoned_quiet line OffHook moment awaits = detected_quiet (hooked line OffHook) (observed_at OffHook) moment awaits
phoned_quiet line OnHook moment awaits = detected_quiet (hooked line OnHook) (observed_at OnHook) moment awaits
phoned_quiet line Flash moment awaits = detected_quiet line (observed_at Flash) moment awaits
phoned_quiet line (Key key) moment awaits = detected_quiet line (observed_at (Key key)) moment awaits

ended_quiet : (kind : Kind) (signal : Signal) (line : LineState) (moment : ℕ) → awaits_request line ≡ true → IsQuiet (ended_by kind signal line moment)
ended_quiet TimeOut signal line moment awaits = detected_quiet line (Ended signal) moment awaits
ended_quiet Brief signal line moment awaits = record { silent = refl; awaits = awaits }
ended_quiet OnOff signal line moment awaits = record { silent = refl; awaits = awaits }

pub fired_quiet : (line : LineState) (due : LineDue) (moment : ℕ) → awaits_request line ≡ true → IsQuiet (fired line due moment)
unfolding fired
fired_quiet line DigitTimer moment awaits = detected_quiet (record line { timer = None }) (Happened (events.Letter Timer)) moment awaits
fired_quiet line (SignalEnd signal) moment awaits =
    ended_quiet (kind_of signal) signal (record line { signals = without signal line.signals }) moment awaits

-- an answer doesn't have events occur on it
answered_by : (line : LineState) (moment : ℕ) (b : Bool) → b ≡ false → is_waiting line.state ≡ true
    → (not (is_loop line.handling.notifying) && not line.renewed) ≡ true
    → IsQuiet (if b then resumed line moment else still (record line { state = Lockstep }))
answered_by line moment true is waits steps = absurd (let clash : true ≡ false = is in cc)
answered_by line moment false is waits steps = record { silent = refl; awaits = steps }

pub neither : (one other : Bool) → one ≡ false → other ≡ false → (one || other) ≡ false
neither one other none nor = ap (λ (b : Bool). b || other) none ∙ nor

pub answered_quiet : (line : LineState) (moment : ℕ) → awaits_request line ≡ true → IsQuiet (answered line moment)
unfolding answered
answered_quiet line moment awaits =
    let parts = and_parts (is_waiting line.state) (not (is_loop line.handling.notifying) && not line.renewed) awaits in
    let steps = and_parts (not (is_loop line.handling.notifying)) (not line.renewed) parts.1 in
    answered_by line moment (is_loop line.handling.notifying || line.renewed)
    (neither (is_loop line.handling.notifying) line.renewed (not-true (is_loop line.handling.notifying) steps.0) (not-true line.renewed steps.1))
    parts.0 parts.1
