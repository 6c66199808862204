-- What a line tells has an identifier that was asked for, and so many events at most.
use Rattle.std.proofs.Common.{◌≡◌, ℕ, ◌<◌, ◌≤◌, ◌||◌, Bool, true, false, if◌then◌else◌, List, [], ◌∷◌, ◌++◌, length, length-append, Option, Some, None, refl, sym, ap, ◌∙◌, subst, arith}
use Rattle.std.specs.Prelude.{IfSome}
use Rattle.mg_bytes.specs.declared.letter.Letter.{Letter}
use Rattle.mg_bytes.specs.declared.letter.Letter.TheVariants.{Timer}
use Rattle.mg_bytes.specs.Numbers.{is_hex_text}
use Rattle.packages.specs.declared.event.LineEvent.TheVariants as events
use Rattle.packages.specs.declared.signal.Kind.{Kind}
use Rattle.packages.specs.declared.signal.Kind.TheVariants.{TimeOut, Brief, OnOff}
use Rattle.packages.specs.declared.signal.Signal.{Signal}
use Rattle.packages.specs.Looking.{kind_of}
use Rattle.digit_map.specs.declared.verdict.Verdict.{Verdict}
use Rattle.digit_map.specs.declared.verdict.Verdict.TheVariants.{Perfect, Partial, Impossible}
use Rattle.packages.specs.declared.observed.Observed.{Observed}
use Rattle.packages.specs.declared.observed.Observed.TheVariants.{Happened, Ended}
use Rattle.event_syntax.specs.declared.request.Action.TheVariants.{Notify, Accumulate, Dial, Ignore}
use Rattle.event_syntax.specs.declared.request.Reaction.{Reaction}
use Rattle.event_syntax.specs.declared.request.Reaction.TheVariants.{Plain, Embed, AccumulateAndEmbed}
use Rattle.events_and_signals.specs.Choice.{Chosen, chosen}
use Rattle.events_and_signals.specs.Naming.{event_of}
use Rattle.events_and_signals.specs.Stopping.{without}
use Rattle.timers.specs.declared.kind.LineDue.{LineDue}
use Rattle.timers.specs.declared.kind.LineDue.TheVariants.{DigitTimer, SignalEnd}
use Rattle.mg_line.specs.declared.phone.Act.{Act}
use Rattle.mg_line.specs.declared.phone.Act.TheVariants.{OffHook, OnHook, Flash, Key}
use Rattle.events_and_signals.specs.declared.request.Request.{Request}
use Rattle.mg_line.specs.State.{State}
use Rattle.mg_line.specs.State.TheVariants.{Normal, Notification, Lockstep}
use Rattle.mg_line.specs.Line.{LineState, LineDone, Notice, still, opening_line, most_accumulated}
use Rattle.mg_line.specs.Room.{HasRoom}
use Rattle.mg_line.specs.Occurring.{notified, notified_if_full, with_event, letter_of, timed, judged, with_letter, dialled_by, embedded, acted, signals_after, occurred}
use Rattle.mg_line.specs.Detecting.{quarantining, detected_in, detected, with_quarantined, unless_notified, drained_of, drained, resumed}
use Rattle.mg_line.specs.Acting.{hooked, observed_at, phoned}
use Rattle.mg_line.specs.Requesting.{replaced, resumed_in, asked}
use Rattle.mg_line.specs.Opening.{opened}
use Rattle.mg_line.specs.Answering.{is_loop, answered}
use Rattle.mg_line.specs.Falling.{ended_by, fired}
use Rattle.mg_line.proofs.RoomLemmas.{occurred_room, replaced_room}
use Rattle.mg_line.proofs.TellLemmas.{tells_what_is_accumulated}
use Rattle.machine_laws.proofs.MapLemmas.{AreSpelled, IsSpelledRequest, occurred_spelled, replaced_spelled}

-- The identifier stays at an event

full_stays : (line : LineState) → (notified_if_full line).line.identifier ≡ line.identifier
unfolding notified_if_full notified
full_stays line = by_test _ where
  by_test : (b : Bool) → (if b then notified line else still line).line.identifier ≡ line.identifier
  by_test true = refl
  by_test false = refl

judged_stays : (verdict : Verdict) (line : LineState) (letter : Letter) (moment : ℕ) → (judged verdict line letter moment).line.identifier ≡ line.identifier
unfolding timed notified
judged_stays Perfect line letter moment = refl
judged_stays Impossible line letter moment = refl
judged_stays Partial line letter moment = full_stays (timed line letter moment)

dialled_stays : (letter : Option Letter) (line : LineState) (moment : ℕ) → (dialled_by letter line moment).line.identifier ≡ line.identifier
unfolding with_letter
dialled_stays None line moment = full_stays line
dialled_stays (Some letter) line moment = judged_stays _ (record line { dialled = line.dialled ++ letter ∷ [] }) letter moment

acted_stays : (reaction : Reaction) (line : LineState) (event : Observed) (moment : ℕ) → (acted reaction line event moment).line.identifier ≡ line.identifier
unfolding acted embedded notified
acted_stays (Plain Ignore) line event moment = refl
acted_stays (Plain Notify) line event moment = refl
acted_stays (Plain Accumulate) line event moment = full_stays (with_event line event)
acted_stays (Plain Dial) line event moment = dialled_stays (letter_of (event_of event)) (with_event line event) moment
acted_stays (Embed request) line event moment = refl
acted_stays (AccumulateAndEmbed request) line event moment = full_stays (embedded (with_event line event) request moment)

occurred_stays : (line : LineState) (event : Observed) (moment : ℕ) → (occurred line event moment).line.identifier ≡ line.identifier
unfolding occurred
occurred_stays line event moment =
    let choice : Chosen = chosen line.requests.requested (event_of event) in
    acted_stays choice.reaction (signals_after choice line) event moment

-- A line, and what it tells

pub record IsFine (line : LineState) : Type 0 where
  pub room : HasRoom line
  pub digits : is_hex_text line.identifier ≡ true
  pub spelled : AreSpelled line

pub record IsTold (notice : Notice) : Type 0 where
  pub digits : is_hex_text notice.identifier ≡ true
  pub few : length notice.observed ≤ most_accumulated

pub record IsDone (done : LineDone) : Type 0 where
  pub line : IsFine done.line
  pub told : IfSome done.notice IsTold

pub opening_is_fine : IsFine opening_line
opening_is_fine = record { room = record { few = omega arith; dialled_few = omega arith }; digits = refl; spelled = (refl, refl) }

still_done : (line : LineState) → IsFine line → IsDone (still line)
still_done line is = record { line = is; told = tt }

either_done : (b : Bool) (one other : LineDone) → IsDone one → IsDone other → IsDone (if b then one else other)
either_done true one other h k = h
either_done false one other h k = k

occurred_done : (line : LineState) (event : Observed) (moment : ℕ) → IsFine line → IsDone (occurred line event moment)
occurred_done line event moment is = record {
  line = record { room = occurred_room line event moment is.room; digits = ap is_hex_text (occurred_stays line event moment) ∙ is.digits; spelled = occurred_spelled line event moment is.spelled };
  told = told_by (occurred line event moment).notice (tells_what_is_accumulated line event moment);
} where
  told_by : (notice : Option Notice) → IfSome notice (λ notice. notice ≡ record { identifier = line.identifier; observed = line.accumulated ++ event ∷ [] }) → IfSome notice IsTold
  told_by None tells = tt
  told_by (Some notice) tells =
      let few : length line.accumulated < most_accumulated = is.room.few in
      subst IsTold (sym tells) (record { digits = is.digits; few = omega (arith, few, length-append line.accumulated (event ∷ [])) })

detected_in_done : (state : State) (line : LineState) (event : Observed) (moment : ℕ) → IsFine line → IsDone (detected_in state line event moment)
unfolding quarantining
detected_in_done Normal line event moment is = occurred_done line event moment is
detected_in_done Notification line event moment is = still_done (quarantining line event) (record { room = is.room; digits = is.digits; spelled = is.spelled })
detected_in_done Lockstep line event moment is = still_done (quarantining line event) (record { room = is.room; digits = is.digits; spelled = is.spelled })

detected_done : (line : LineState) (event : Observed) (moment : ℕ) → IsFine line → IsDone (detected line event moment)
unfolding detected
detected_done line event moment is = detected_in_done line.state line event moment is

unless_done : (notice : Option Notice) (done : LineDone) (next : LineState → LineDone) → IsDone done → IsDone (next done.line) → IsDone (unless_notified notice done next)
unless_done None done next h k = k
unless_done (Some notice) done next h k = h

drained_done : (events : List Observed) (line : LineState) (moment : ℕ) → IsFine line → IsDone (drained_of events line moment)
unfolding drained_of
drained_done [] line moment is = still_done line is
drained_done (event ∷ events) line moment is =
    let done : LineDone = occurred (with_quarantined line events) event moment in
    let h : IsDone done = occurred_done (with_quarantined line events) event moment (record { room = is.room; digits = is.digits; spelled = is.spelled }) in
    unless_done done.notice done (λ next. drained_of events next moment) h (drained_done events done.line moment h.line)

resumed_done : (line : LineState) (moment : ℕ) → IsFine line → IsDone (resumed line moment)
unfolding resumed drained
resumed_done line moment is = drained_done line.quarantined.events (record line { state = Normal }) moment (record { room = is.room; digits = is.digits; spelled = is.spelled })

resumed_in_done : (state : State) (line : LineState) (moment : ℕ) → IsFine line → IsDone (resumed_in state line moment)
resumed_in_done Normal line moment is = resumed_done line moment is
resumed_in_done Notification line moment is = still_done (record line { renewed = true }) (record { room = is.room; digits = is.digits; spelled = is.spelled })
resumed_in_done Lockstep line moment is = resumed_done line moment is

-- Acts, requests, answers, and what falls due

hooked_fine : (line : LineState) (act : Act) → IsFine line → IsFine (hooked line act)
hooked_fine line OffHook is = record { room = is.room; digits = is.digits; spelled = is.spelled }
hooked_fine line OnHook is = record { room = is.room; digits = is.digits; spelled = is.spelled }
hooked_fine line Flash is = is
hooked_fine line (Key key) is = is

pub phoned_done : (line : LineState) (act : Act) (moment : ℕ) → IsFine line → IsDone (phoned line act moment)
unfolding phoned
phoned_done line act moment is = detected_done (hooked line act) (observed_at act) moment (hooked_fine line act is)

replaced_digits : (line : LineState) (request : Request) (moment : ℕ) → (replaced line request moment).identifier ≡ request.identifier
unfolding replaced
replaced_digits line request moment = refl

pub asked_done : (line : LineState) (request : Request) (moment : ℕ) → is_hex_text request.identifier ≡ true → IsSpelledRequest request → AreSpelled line
    → IsDone (asked line request moment)
unfolding asked
asked_done line request moment digits spelled are =
    resumed_in_done line.state (replaced line request moment) moment
    (record { room = replaced_room line request moment; digits = ap is_hex_text (replaced_digits line request moment) ∙ digits; spelled = replaced_spelled line request moment spelled are })

pub answered_done : (line : LineState) (moment : ℕ) → IsFine line → IsDone (answered line moment)
unfolding answered
answered_done line moment is =
    either_done (is_loop line.handling.notifying || line.renewed) (resumed line moment) (still (record line { state = Lockstep })) (resumed_done line moment is)
    (still_done (record line { state = Lockstep }) (record { room = is.room; digits = is.digits; spelled = is.spelled }))

pub opened_done : (line : LineState) (moment : ℕ) → IsFine line → IsDone (opened line moment)
unfolding opened
opened_done line moment is = resumed_done line moment is

ended_done : (kind : Kind) (signal : Signal) (line : LineState) (moment : ℕ) → IsFine line → IsDone (ended_by kind signal line moment)
ended_done TimeOut signal line moment is = detected_done line (Ended signal) moment is
ended_done Brief signal line moment is = still_done line is
ended_done OnOff signal line moment is = still_done line is

pub fired_done : (line : LineState) (due : LineDue) (moment : ℕ) → IsFine line → IsDone (fired line due moment)
unfolding fired
fired_done line DigitTimer moment is =
    detected_done (record line { timer = None }) (Happened (events.Letter Timer)) moment (record { room = is.room; digits = is.digits; spelled = is.spelled })
fired_done line (SignalEnd signal) moment is =
    ended_done (kind_of signal) signal (record line { signals = without signal line.signals }) moment (record { room = is.room; digits = is.digits; spelled = is.spelled })
