-- What a line tells can be read again, whatever came before.
use Rattle.std.proofs.Common.{◌≡◌, ℕ, Bool, true, false, ◌&&◌, if◌then◌else◌, List, [], ◌∷◌, ◌++◌, length, Option, Some, None, refl, ap, ◌∙◌}
use Rattle.std.specs.Prelude.{IfSome, ◌||◌, nat_lt, Ok}
use Rattle.mg_bytes.specs.declared.letter.Letter.{Letter}
use Rattle.mg_bytes.specs.declared.letter.Letter.TheVariants as letters
use Rattle.packages.specs.declared.event.LineEvent.TheVariants as events
use Rattle.packages.specs.declared.signal.Kind.{Kind}
use Rattle.packages.specs.declared.signal.Kind.TheVariants.{TimeOut, Brief, OnOff}
use Rattle.packages.specs.declared.signal.Signal.{Signal}
use Rattle.packages.specs.Looking.{kind_of}
use Rattle.digit_map.specs.declared.verdict.Verdict.{Verdict}
use Rattle.digit_map.specs.declared.verdict.Verdict.TheVariants.{Perfect, Partial, Impossible}
use Rattle.packages.specs.declared.handling.Quarantined.{Quarantined}
use Rattle.packages.specs.declared.handling.Quarantined.TheVariants.{Process, Discard}
use Rattle.packages.specs.declared.observed.Observed.{Observed}
use Rattle.packages.specs.declared.observed.Observed.TheVariants.{Happened, Ended}
use Rattle.packages.specs.Observed.{observed_of, observed_text, is_timed, is_writable_observed, are_writable_observed}
use Rattle.packages.proofs.ValueComputing.{on_examples as values_open}
use Rattle.packages.proofs.ObservedLaws.{observed_again}
use Rattle.event_syntax.specs.declared.request.Action.TheVariants.{Notify, Accumulate, Dial, Ignore}
use Rattle.event_syntax.specs.declared.request.Reaction.{Reaction}
use Rattle.event_syntax.specs.declared.request.Reaction.TheVariants.{Plain, Embed, AccumulateAndEmbed}
use Rattle.events_and_signals.specs.Choice.{Chosen, chosen, is_kept}
use Rattle.events_and_signals.specs.Naming.{event_of}
use Rattle.events_and_signals.specs.Held.{Held, one_lost, one_kept, holding}
use Rattle.events_and_signals.specs.Stopping.{without}
use Rattle.timers.specs.declared.kind.LineDue.{LineDue}
use Rattle.timers.specs.declared.kind.LineDue.TheVariants.{DigitTimer, SignalEnd}
use Rattle.mg_line.specs.declared.phone.Act.{Act}
use Rattle.mg_line.specs.declared.phone.Act.TheVariants.{OffHook, OnHook, Flash, Key}
use Rattle.mg_line.specs.declared.phone.Key.{Key as OneKey}
use Rattle.mg_line.specs.declared.phone.Key.TheVariants as keys
use Rattle.events_and_signals.specs.declared.request.Request.{Request}
use Rattle.mg_line.specs.State.{State}
use Rattle.mg_line.specs.State.TheVariants.{Normal, Notification, Lockstep}
use Rattle.mg_line.specs.Line.{LineState, Notice, LineDone, still, opening_line}
use Rattle.mg_line.specs.Occurring.{notified, notified_if_full, with_event, letter_of, timed, judged, with_letter, dialled_by, embedded, acted, signals_after, occurred}
use Rattle.mg_line.specs.Detecting.{quarantining, detected_in, detected, with_quarantined, unless_notified, drained_of, drained, resumed}
use Rattle.mg_line.specs.Acting.{letter_at, hooked, observed_at, phoned}
use Rattle.mg_line.specs.Requesting.{quarantined_after, replaced, resumed_in, asked}
use Rattle.mg_line.specs.Answering.{is_loop, answered}
use Rattle.mg_line.specs.Opening.{opened}
use Rattle.mg_line.specs.Falling.{ended_by, fired}
use Rattle.machine_laws.proofs.EachLemmas.{Each, each_push}

abbrev pub CanBeTold : Observed → Type 0
CanBeTold event = is_writable_observed event ≡ true

writable_from : (list : List Observed) → Each CanBeTold list → are_writable_observed list ≡ true
unfolding are_writable_observed
writable_from [] each = refl
writable_from (event ∷ list) each = ap (λ (b : Bool). b && are_writable_observed list) each.0 ∙ writable_from list each.1

pub read_again : (list : List Observed) → Each CanBeTold list → observed_of (observed_text list) ≡ Ok list
read_again list each = observed_again list (writable_from list each)

-- what it accumulates and what it quarantines
pub record IsReadable (line : LineState) : Type 0 where
  pub accumulated : Each CanBeTold line.accumulated
  pub quarantined : Each CanBeTold line.quarantined.events

pub record TellsReadable (done : LineDone) : Type 0 where
  pub line : IsReadable done.line
  pub told : IfSome done.notice (λ notice. Each CanBeTold notice.observed)

pub opening_readable : IsReadable opening_line
opening_readable = record { accumulated = tt; quarantined = tt }

-- An event occurs

pub still_readable : (line : LineState) → IsReadable line → TellsReadable (still line)
still_readable line is = record { line = is; told = tt }

either_readable : (b : Bool) (one other : LineDone) → TellsReadable one → TellsReadable other → TellsReadable (if b then one else other)
either_readable true one other h k = h
either_readable false one other h k = k

notified_readable : (line : LineState) → IsReadable line → TellsReadable (notified line)
unfolding notified
notified_readable line is = record { line = record { accumulated = tt; quarantined = is.quarantined }; told = is.accumulated }

full_readable : (line : LineState) → IsReadable line → TellsReadable (notified_if_full line)
unfolding notified_if_full
full_readable line is = either_readable _ (notified line) (still line) (notified_readable line is) (still_readable line is)

event_readable : (line : LineState) (event : Observed) → CanBeTold event → IsReadable line → IsReadable (with_event line event)
event_readable line event can is = record { accumulated = each_push CanBeTold line.accumulated event is.accumulated can; quarantined = is.quarantined }

judged_readable : (verdict : Verdict) (line : LineState) (letter : Letter) (moment : ℕ) → IsReadable line → TellsReadable (judged verdict line letter moment)
unfolding timed
judged_readable Perfect line letter moment is = notified_readable line is
judged_readable Impossible line letter moment is = notified_readable line is
judged_readable Partial line letter moment is = full_readable (timed line letter moment) (record { accumulated = is.accumulated; quarantined = is.quarantined })

dialled_readable : (letter : Option Letter) (line : LineState) (moment : ℕ) → IsReadable line → TellsReadable (dialled_by letter line moment)
unfolding with_letter
dialled_readable None line moment is = full_readable line is
dialled_readable (Some letter) line moment is =
    judged_readable _ (record line { dialled = line.dialled ++ letter ∷ [] }) letter moment (record { accumulated = is.accumulated; quarantined = is.quarantined })

acted_readable : (reaction : Reaction) (line : LineState) (event : Observed) (moment : ℕ) → CanBeTold event → IsReadable line → TellsReadable (acted reaction line event moment)
unfolding acted embedded
acted_readable (Plain Ignore) line event moment can is = still_readable line is
acted_readable (Plain Notify) line event moment can is = notified_readable (with_event line event) (event_readable line event can is)
acted_readable (Plain Accumulate) line event moment can is = full_readable (with_event line event) (event_readable line event can is)
acted_readable (Plain Dial) line event moment can is = dialled_readable (letter_of (event_of event)) (with_event line event) moment (event_readable line event can is)
acted_readable (Embed request) line event moment can is = record { line = record { accumulated = tt; quarantined = is.quarantined }; told = tt }
acted_readable (AccumulateAndEmbed request) line event moment can is =
    let with : IsReadable (with_event line event) = event_readable line event can is in
    full_readable (embedded (with_event line event) request moment) (record { accumulated = with.accumulated; quarantined = with.quarantined })

occurred_readable : (line : LineState) (event : Observed) (moment : ℕ) → CanBeTold event → IsReadable line → TellsReadable (occurred line event moment)
unfolding occurred
occurred_readable line event moment can is =
    let choice : Chosen = chosen line.requests.requested (event_of event) in
    acted_readable choice.reaction (signals_after choice line) event moment can (record { accumulated = is.accumulated; quarantined = is.quarantined })

-- An event is detected

held_readable : (held : Held) (event : Observed) → CanBeTold event → Each CanBeTold held.events → Each CanBeTold (holding held event).events
unfolding holding
held_readable held event can each = by_room (nat_lt (length held.events) held.room) where
  by_room : (b : Bool) → Each CanBeTold (if b then one_kept held event else one_lost held).events
  by_room true = each_push CanBeTold held.events event each can
  by_room false = each

left_readable : (line : LineState) (event : Observed) → CanBeTold event → IsReadable line → IsReadable (quarantining line event)
unfolding quarantining
left_readable line event can is = record { accumulated = is.accumulated; quarantined = by_kept (is_kept line.requests event) } where
  by_kept : (b : Bool) → Each CanBeTold (if b then holding line.quarantined event else line.quarantined).events
  by_kept true = held_readable line.quarantined event can is.quarantined
  by_kept false = is.quarantined

detected_in_readable : (state : State) (line : LineState) (event : Observed) (moment : ℕ) → CanBeTold event → IsReadable line → TellsReadable (detected_in state line event moment)
detected_in_readable Normal line event moment can is = occurred_readable line event moment can is
detected_in_readable Notification line event moment can is = still_readable (quarantining line event) (left_readable line event can is)
detected_in_readable Lockstep line event moment can is = still_readable (quarantining line event) (left_readable line event can is)

detected_readable : (line : LineState) (event : Observed) (moment : ℕ) → CanBeTold event → IsReadable line → TellsReadable (detected line event moment)
unfolding detected
detected_readable line event moment can is = detected_in_readable line.state line event moment can is

-- Quarantined events occur

unless_readable : (notice : Option Notice) (done : LineDone) (next : LineState → LineDone) → TellsReadable done → TellsReadable (next done.line) → TellsReadable (unless_notified notice done next)
unless_readable None done next h k = k
unless_readable (Some notice) done next h k = h

drained_readable : (held : List Observed) (line : LineState) (moment : ℕ) → Each CanBeTold held → Each CanBeTold line.accumulated → Each CanBeTold line.quarantined.events
    → TellsReadable (drained_of held line moment)
unfolding drained_of
drained_readable [] line moment each all left = still_readable line (record { accumulated = all; quarantined = left })
drained_readable (event ∷ held) line moment each all left =
    let done : LineDone = occurred (with_quarantined line held) event moment in
    let h : TellsReadable done = occurred_readable (with_quarantined line held) event moment each.0 (record { accumulated = all; quarantined = each.1 }) in
    unless_readable done.notice done (λ next. drained_of held next moment) h (drained_readable held done.line moment each.1 h.line.accumulated h.line.quarantined)

resumed_readable : (line : LineState) (moment : ℕ) → IsReadable line → TellsReadable (resumed line moment)
unfolding resumed drained
resumed_readable line moment is = drained_readable line.quarantined.events (record line { state = Normal }) moment is.quarantined is.accumulated is.quarantined

-- The calls

of_key : (key : OneKey) → CanBeTold (Happened (events.Letter (letter_at key)))
unfolding values_open
of_key keys.Zero = refl
of_key keys.One = refl
of_key keys.Two = refl
of_key keys.Three = refl
of_key keys.Four = refl
of_key keys.Five = refl
of_key keys.Six = refl
of_key keys.Seven = refl
of_key keys.Eight = refl
of_key keys.Nine = refl
of_key keys.Star = refl
of_key keys.Hash = refl
of_key keys.A = refl
of_key keys.B = refl
of_key keys.C = refl
of_key keys.D = refl

of_timer : CanBeTold (Happened (events.Letter letters.Timer))
unfolding values_open
of_timer = refl

of_act : (act : Act) → CanBeTold (observed_at act)
unfolding values_open
of_act OffHook = refl
of_act OnHook = refl
of_act Flash = refl
of_act (Key key) = of_key key

hooked_readable : (line : LineState) (act : Act) → IsReadable line → IsReadable (hooked line act)
hooked_readable line OffHook is = record { accumulated = is.accumulated; quarantined = is.quarantined }
hooked_readable line OnHook is = record { accumulated = is.accumulated; quarantined = is.quarantined }
hooked_readable line Flash is = is
hooked_readable line (Key key) is = is

pub phoned_readable : (line : LineState) (act : Act) (moment : ℕ) → IsReadable line → TellsReadable (phoned line act moment)
unfolding phoned
phoned_readable line act moment is = detected_readable (hooked line act) (observed_at act) moment (of_act act) (hooked_readable line act is)

after_readable : (handling : Quarantined) (held : Held) → Each CanBeTold held.events → Each CanBeTold (quarantined_after handling held).events
after_readable Process held each = each
after_readable Discard held each = tt

resumed_in_readable : (state : State) (line : LineState) (moment : ℕ) → IsReadable line → TellsReadable (resumed_in state line moment)
resumed_in_readable Normal line moment is = resumed_readable line moment is
resumed_in_readable Notification line moment is = still_readable (record line { renewed = true }) (record { accumulated = is.accumulated; quarantined = is.quarantined })
resumed_in_readable Lockstep line moment is = resumed_readable line moment is

pub asked_readable : (line : LineState) (request : Request) (moment : ℕ) → IsReadable line → TellsReadable (asked line request moment)
unfolding asked replaced
asked_readable line request moment is =
    resumed_in_readable line.state (replaced line request moment) moment
    (record { accumulated = tt; quarantined = after_readable request.handling.quarantined line.quarantined is.quarantined })

pub answered_readable : (line : LineState) (moment : ℕ) → IsReadable line → TellsReadable (answered line moment)
unfolding answered
answered_readable line moment is =
    either_readable (is_loop line.handling.notifying || line.renewed) (resumed line moment) (still (record line { state = Lockstep })) (resumed_readable line moment is)
    (still_readable (record line { state = Lockstep }) (record { accumulated = is.accumulated; quarantined = is.quarantined }))

pub opened_readable : (line : LineState) (moment : ℕ) → IsReadable line → TellsReadable (opened line moment)
unfolding opened
opened_readable line moment is = resumed_readable line moment is

ended_readable : (kind : Kind) (signal : Signal) (line : LineState) (moment : ℕ) → kind_of signal ≡ kind → IsReadable line → TellsReadable (ended_by kind signal line moment)
ended_readable TimeOut signal line moment e is = detected_readable line (Ended signal) moment (ap is_timed e) is
ended_readable Brief signal line moment e is = still_readable line is
ended_readable OnOff signal line moment e is = still_readable line is

pub fired_readable : (line : LineState) (due : LineDue) (moment : ℕ) → IsReadable line → TellsReadable (fired line due moment)
unfolding fired
fired_readable line DigitTimer moment is =
    detected_readable (record line { timer = None }) (Happened (events.Letter letters.Timer)) moment of_timer (record { accumulated = is.accumulated; quarantined = is.quarantined })
fired_readable line (SignalEnd signal) moment is =
    ended_readable (kind_of signal) signal (record line { signals = without signal line.signals }) moment refl
    (record { accumulated = is.accumulated; quarantined = is.quarantined })
