-- What a line keeps of what its telephone does.
use Rattle.std.proofs.Common.{◌≡◌, ℕ, Bool, true, false, List, [], ◌∷◌, ◌++◌, length, refl, sym, ap, subst, ◌∙◌, arith, append-nil}
use Rattle.std.specs.Prelude.{Option, Some, None, IfSome, ◌||◌, nat_lt, if◌then◌else◌}
use Rattle.mg_bytes.specs.declared.letter.Letter.{Letter}
use Rattle.packages.specs.declared.event.LineEvent.{LineEvent}
use Rattle.packages.specs.declared.event.LineEvent.TheVariants as events
use Rattle.packages.specs.declared.signal.Kind.{Kind}
use Rattle.packages.specs.declared.signal.Kind.TheVariants.{TimeOut, Brief, OnOff}
use Rattle.packages.specs.declared.signal.Signal.{Signal}
use Rattle.packages.specs.Looking.{kind_of, is_persistent}
use Rattle.packages.specs.declared.handling.Quarantined.{Quarantined}
use Rattle.packages.specs.declared.handling.Quarantined.TheVariants.{Process, Discard}
use Rattle.packages.specs.declared.observed.Observed.{Observed}
use Rattle.packages.specs.declared.observed.Observed.TheVariants.{Happened, Ended}
use Rattle.event_syntax.specs.declared.request.Action.TheVariants.{Notify, Accumulate, Dial, Ignore}
use Rattle.event_syntax.specs.declared.request.Reaction.{Reaction}
use Rattle.event_syntax.specs.declared.request.Reaction.TheVariants.{Plain, Embed, AccumulateAndEmbed}
use Rattle.events_and_signals.specs.Choice.{Chosen, chosen, is_requested, is_detected, is_kept}
use Rattle.events_and_signals.specs.Naming.{event_of}
use Rattle.events_and_signals.specs.Held.{Held, one_lost, one_kept, holding}
use Rattle.events_and_signals.specs.Due.{due_first}
use Rattle.events_and_signals.specs.Stopping.{without}
use Rattle.timers.specs.declared.kind.LineDue.{LineDue}
use Rattle.timers.specs.declared.kind.LineDue.TheVariants.{DigitTimer, SignalEnd}
use Rattle.mg_line.specs.declared.phone.Act.{Act}
use Rattle.mg_line.specs.declared.phone.Act.TheVariants.{OffHook, OnHook, Flash, Key}
use Rattle.mg_line.specs.declared.phone.Key.{Key as OneKey}
use Rattle.mg_line.specs.declared.phone.Key.TheVariants as keys
use Rattle.events_and_signals.specs.declared.request.Request.{Request}
use Rattle.mg_line.specs.State.{State}
use Rattle.mg_line.specs.State.TheVariants.{Normal, Notification, Lockstep}
use Rattle.mg_line.specs.Line.{LineState, Notice, LineDone, still}
use Rattle.mg_line.specs.Occurring.{notified, notified_if_full, with_event, dialled_by, embedded, acted, signals_after, occurred}
use Rattle.mg_line.specs.Detecting.{quarantining, detected_in, detected, with_quarantined, unless_notified, drained_of, drained, resumed}
use Rattle.mg_line.specs.Acting.{letter_at, hooked, observed_at, phoned}
use Rattle.mg_line.specs.Requesting.{quarantined_after, replaced, resumed_in, asked}
use Rattle.mg_line.specs.Answering.{is_loop, answered}
use Rattle.mg_line.specs.Opening.{opened}
use Rattle.mg_line.specs.Falling.{signal_end, first_end, due_of, ended_by, fired}
use Rattle.mg_line.proofs.DrainLemmas.{occurred_keeps}
use Rattle.mg_line.proofs.LetterLemmas.{ends_have_no_letter}
use Rattle.mg_line.proofs.LoseLemmas.{unasked_events_do_nothing}
use Rattle.world_laws.specs.Keeping.{happened_in, is_of_phone, AreOfPhone, told_of, is_bare, NotifiesAll, AsksForAll, IsUntouched, KeepsAll, Conserves, StaysUntouched, NothingIsSkipped, NothingIsMadeUp}

-- Lists

pub happened_both : (some more : List Observed) → happened_in (some ++ more) ≡ happened_in some ++ happened_in more
happened_both [] more = refl
happened_both (Happened event ∷ some) more = ap (λ xs. Happened event ∷ xs) (happened_both some more)
happened_both (Ended signal ∷ some) more = happened_both some more

-- nothing, and then this
behind_none : (some : List Observed) (event : Observed) → happened_in some ≡ [] → happened_in (some ++ event ∷ []) ≡ happened_in (event ∷ [])
behind_none some event none = happened_both some (event ∷ []) ∙ ap (λ xs. xs ++ happened_in (event ∷ [])) none

pub phone_more : (some : List Observed) (event : LineEvent) → AreOfPhone some → is_of_phone event ≡ true → AreOfPhone (some ++ Happened event ∷ [])
phone_more [] event all is = (is, tt)
phone_more (Happened x ∷ some) event all is = (all.0, phone_more some event all.1 is)
phone_more (Ended signal ∷ some) event all is = phone_more some event all is

phone_end : (some : List Observed) (signal : Signal) → AreOfPhone some → AreOfPhone (some ++ Ended signal ∷ [])
phone_end [] signal all = tt
phone_end (Happened x ∷ some) signal all = (all.0, phone_end some signal all.1)
phone_end (Ended other ∷ some) signal all = phone_end some signal all

none_of_phone : (some : List Observed) → happened_in some ≡ [] → AreOfPhone some
none_of_phone [] e = tt
none_of_phone (Happened x ∷ some) e = absurd cc
none_of_phone (Ended signal ∷ some) e = none_of_phone some e

-- The end of a signal occurs

record Calm (line : LineState) (done : LineDone) : Type 0 where
  untimed : done.line.timer ≡ None
  accumulated : happened_in done.line.accumulated ≡ []
  told : happened_in (told_of done.notice) ≡ []
  waits : IfSome done.notice (λ notice. done.line.state ≡ Notification)

still_calm : (line : LineState) → line.timer ≡ None → happened_in line.accumulated ≡ [] → Calm line (still line)
still_calm line untimed none = record { untimed = untimed; accumulated = none; told = refl; waits = tt }

notified_calm : (line : LineState) → happened_in line.accumulated ≡ [] → Calm line (notified line)
unfolding notified
notified_calm line none = record { untimed = refl; accumulated = refl; told = none; waits = refl }

either_calm : (line : LineState) (b : Bool) (one other : LineDone) → Calm line one → Calm line other → Calm line (if b then one else other)
either_calm line true one other h k = h
either_calm line false one other h k = k

full_calm : (line : LineState) → line.timer ≡ None → happened_in line.accumulated ≡ [] → Calm line (notified_if_full line)
unfolding notified_if_full
full_calm line untimed none = either_calm line _ (notified line) (still line) (notified_calm line none) (still_calm line untimed none)

other_calm : (line other : LineState) (done : LineDone) → Calm other done → Calm line done
other_calm line other done h = record { untimed = h.untimed; accumulated = h.accumulated; told = h.told; waits = h.waits }

acted_calm : (reaction : Reaction) (line : LineState) (signal : Signal) (moment : ℕ) → line.timer ≡ None → happened_in line.accumulated ≡ []
    → Calm line (acted reaction line (Ended signal) moment)
unfolding acted embedded
acted_calm (Plain Ignore) line signal moment untimed none = still_calm line untimed none
acted_calm (Plain Notify) line signal moment untimed none =
    other_calm line (with_event line (Ended signal)) _ (notified_calm (with_event line (Ended signal)) (behind_none line.accumulated (Ended signal) none))
acted_calm (Plain Accumulate) line signal moment untimed none =
    other_calm line (with_event line (Ended signal)) _ (full_calm (with_event line (Ended signal)) untimed (behind_none line.accumulated (Ended signal) none))
acted_calm (Plain Dial) line signal moment untimed none =
    subst (λ (letter : Option Letter). Calm line (dialled_by letter (with_event line (Ended signal)) moment)) (sym (ends_have_no_letter signal))
    (other_calm line (with_event line (Ended signal)) _ (full_calm (with_event line (Ended signal)) untimed (behind_none line.accumulated (Ended signal) none)))
acted_calm (Embed request) line signal moment untimed none = record { untimed = refl; accumulated = refl; told = refl; waits = tt }
acted_calm (AccumulateAndEmbed request) line signal moment untimed none =
    other_calm line (embedded (with_event line (Ended signal)) request moment) _
    (full_calm (embedded (with_event line (Ended signal)) request moment) refl (behind_none line.accumulated (Ended signal) none))

end_calm : (line : LineState) (signal : Signal) (moment : ℕ) → line.timer ≡ None → happened_in line.accumulated ≡ []
    → Calm line (occurred line (Ended signal) moment)
unfolding occurred
end_calm line signal moment untimed none =
    let choice : Chosen = chosen line.requests.requested (event_of (Ended signal)) in
    other_calm line (signals_after choice line) _ (acted_calm choice.reaction (signals_after choice line) signal moment untimed none)

-- what was asked for stays, where nothing is embedded
either_asks : (b : Bool) (line : LineState) (one other : LineDone) → one.line.requests ≡ line.requests → other.line.requests ≡ line.requests
    → (if b then one else other).line.requests ≡ line.requests
either_asks true line one other h k = h
either_asks false line one other h k = k

full_asks : (line : LineState) → (notified_if_full line).line.requests ≡ line.requests
unfolding notified_if_full notified
full_asks line = either_asks _ line (notified line) (still line) refl refl

acted_asks : (reaction : Reaction) (line : LineState) (signal : Signal) (moment : ℕ) → is_bare reaction ≡ true
    → (acted reaction line (Ended signal) moment).line.requests ≡ line.requests
unfolding acted notified
acted_asks (Plain Ignore) line signal moment bare = refl
acted_asks (Plain Notify) line signal moment bare = refl
acted_asks (Plain Accumulate) line signal moment bare = full_asks (with_event line (Ended signal))
acted_asks (Plain Dial) line signal moment bare =
    ap (λ (letter : Option Letter). (dialled_by letter (with_event line (Ended signal)) moment).line.requests) (ends_have_no_letter signal)
    ∙ full_asks (with_event line (Ended signal))
acted_asks (Embed request) line signal moment bare = absurd cc
acted_asks (AccumulateAndEmbed request) line signal moment bare = absurd cc

end_asks : (line : LineState) (signal : Signal) (moment : ℕ) → NotifiesAll line.requests.requested
    → (occurred line (Ended signal) moment).line.requests ≡ line.requests
unfolding occurred
end_asks line signal moment all =
    let choice : Chosen = chosen line.requests.requested (event_of (Ended signal)) in
    acted_asks choice.reaction (signals_after choice line) signal moment (all.bare (event_of (Ended signal)))

-- What the telephone does occurs: it is notified

abbrev hushed_for : LineState → LineEvent → LineState
hushed_for line event = with_event (signals_after (chosen line.requests.requested event) line) (Happened event)

is_notified : (line : LineState) (event : LineEvent) (moment : ℕ) → NotifiesAll line.requests.requested → is_of_phone event ≡ true
    → occurred line (Happened event) moment ≡ notified (hushed_for line event)
unfolding occurred acted
is_notified line event moment all is =
    ap (λ (reaction : Reaction). acted reaction (signals_after (chosen line.requests.requested event) line) (Happened event) moment) (all.phone event is)

pub record Tells (line : LineState) (event : LineEvent) (done : LineDone) : Type 0 where
  pub keeps : KeepsAll done.line
  pub told : happened_in (told_of done.notice) ≡ Happened event ∷ []
  pub quarantined : done.line.quarantined ≡ line.quarantined
  pub some : (next : LineState → LineDone) → unless_notified done.notice done next ≡ done

notified_tells : (line : LineState) (event : LineEvent) → NotifiesAll line.requests.requested → happened_in line.accumulated ≡ [] → AreOfPhone line.quarantined.events
    → Tells line event (notified (hushed_for line event))
unfolding notified
notified_tells line event all none phone = record {
  keeps = record { asked = all; untimed = refl; accumulated = refl; of_phone = phone; normal = λ e. absurd cc };
  told = behind_none line.accumulated (Happened event) none;
  quarantined = refl;
  some = λ next. refl;
}

pub occurred_tells : (line : LineState) (event : LineEvent) (moment : ℕ) → NotifiesAll line.requests.requested → happened_in line.accumulated ≡ []
    → AreOfPhone line.quarantined.events → is_of_phone event ≡ true → Tells line event (occurred line (Happened event) moment)
occurred_tells line event moment all none phone is =
    subst (Tells line event) (sym (is_notified line event moment all is)) (notified_tells line event all none phone)

-- Draining

record Drained (was : List Observed) (done : LineDone) : Type 0 where
  keeps : KeepsAll done.line
  whole : happened_in (told_of done.notice) ++ happened_in done.line.quarantined.events ≡ happened_in was

first_drained : (event : LineEvent) (was : List Observed) (line : LineState) (done : LineDone) (next : LineState → LineDone) → line.quarantined.events ≡ was
    → Tells line event done → Drained (Happened event ∷ was) (unless_notified done.notice done next)
first_drained event was line done next same h = subst (Drained (Happened event ∷ was)) (sym (h.some next)) (record {
  keeps = h.keeps;
  whole = ap (λ xs. xs ++ happened_in done.line.quarantined.events) h.told ∙ ap (λ (held : Held). Happened event ∷ happened_in held.events) h.quarantined
      ∙ ap (λ xs. Happened event ∷ happened_in xs) same;
})

end_drained : (signal : Signal) (was : List Observed) (line : LineState) (done : LineDone) (notice : Option Notice) (next : LineState → LineDone)
    → done.notice ≡ notice → done.line.quarantined.events ≡ was → NotifiesAll done.line.requests.requested → AreOfPhone was
    → Calm line done → Drained was (next done.line) → Drained (Ended signal ∷ was) (unless_notified notice done next)
end_drained signal was line done None next told same all phone calm rest = record { keeps = rest.keeps; whole = rest.whole }
end_drained signal was line done (Some notice) next told same all phone calm rest =
    let waits : done.line.state ≡ Notification =
    subst (λ (n : Option Notice). IfSome n (λ notice. done.line.state ≡ Notification)) told calm.waits in
    record {
      keeps = record {
        asked = all;
        untimed = calm.untimed;
        accumulated = calm.accumulated;
        of_phone = subst AreOfPhone (sym same) phone;
        normal = λ e. absurd (let clash : Notification ≡ Normal = sym waits ∙ e in cc);
      };
      whole = ap (λ xs. xs ++ happened_in done.line.quarantined.events) calm.told ∙ ap happened_in same;
    }

drained_keeps : (was : List Observed) (line : LineState) (moment : ℕ) → line.quarantined.events ≡ was → NotifiesAll line.requests.requested
    → line.timer ≡ None → happened_in line.accumulated ≡ [] → AreOfPhone was → Drained was (drained_of was line moment)
unfolding drained_of
drained_keeps [] line moment same all untimed none phone = record {
  keeps = record {
    asked = all;
    untimed = untimed;
    accumulated = none;
    of_phone = subst AreOfPhone (sym same) phone;
    normal = λ e. ap happened_in same;
  };
  whole = ap happened_in same;
}
drained_keeps (Happened event ∷ was) line moment same all untimed none phone =
    let done : LineDone = occurred (with_quarantined line was) (Happened event) moment in
    first_drained event was (with_quarantined line was) done (λ next. drained_of was next moment) refl
    (occurred_tells (with_quarantined line was) event moment all none phone.1 phone.0)
drained_keeps (Ended signal ∷ was) line moment same all untimed none phone =
    let from : LineState = with_quarantined line was in
    let done : LineDone = occurred from (Ended signal) moment in
    let left : done.line.quarantined.events ≡ was = ap (λ q. q.events) (occurred_keeps from (Ended signal) moment) in
    let calm = end_calm from signal moment untimed none in
    let asks : NotifiesAll done.line.requests.requested =
    subst (λ r. NotifiesAll r.requested) (sym (end_asks from signal moment all)) all in
    end_drained signal was from done done.notice (λ next. drained_of was next moment) refl left asks phone calm
    (drained_keeps was done.line moment left asks calm.untimed calm.accumulated phone)

resumed_keeps : (line : LineState) (moment : ℕ) → NotifiesAll line.requests.requested
    → line.timer ≡ None → happened_in line.accumulated ≡ [] → AreOfPhone line.quarantined.events → Drained line.quarantined.events (resumed line moment)
unfolding resumed drained
resumed_keeps line moment all untimed none phone =
    drained_keeps line.quarantined.events (record line { state = Normal }) moment refl all untimed none phone

-- Requests and answers

in_all : (line : LineState) (done : LineDone) → Drained line.quarantined.events done → Conserves line [] done
in_all line done h = record { keeps = h.keeps; whole = h.whole ∙ sym (append-nil (happened_in line.quarantined.events)) }

resumed_in_keeps : (state : State) (line : LineState) (moment : ℕ) → line.state ≡ state → NotifiesAll line.requests.requested
    → line.timer ≡ None → happened_in line.accumulated ≡ [] → AreOfPhone line.quarantined.events
    → Drained line.quarantined.events (resumed_in state line moment)
resumed_in_keeps Normal line moment is all untimed none phone = resumed_keeps line moment all untimed none phone
resumed_in_keeps Lockstep line moment is all untimed none phone = resumed_keeps line moment all untimed none phone
resumed_in_keeps Notification line moment is all untimed none phone = record {
  keeps = record {
    asked = all;
    untimed = untimed;
    accumulated = none;
    of_phone = phone;
    normal = λ e. absurd (let clash : Notification ≡ Normal = sym is ∙ e in cc);
  };
  whole = refl;
}

asked_keeps : (line : LineState) (request : Request) (moment : ℕ) → AsksForAll request → AreOfPhone line.quarantined.events
    → Conserves line [] (asked line request moment)
unfolding asked replaced
asked_keeps line request moment asks phone =
    let to : LineState = replaced line request moment in
    let held : to.quarantined ≡ line.quarantined = ap (λ (q : Quarantined). quarantined_after q line.quarantined) asks.quarantined in
    in_all line (asked line request moment)
    (subst (λ (xs : List Observed). Drained xs (asked line request moment)) (ap (λ (h : Held). h.events) held)
    (resumed_in_keeps line.state to moment refl asks.requested refl refl (subst (λ (h : Held). AreOfPhone h.events) (sym held) phone)))

either_all : (line : LineState) (b : Bool) (one other : LineDone) → Conserves line [] one → Conserves line [] other → Conserves line [] (if b then one else other)
either_all line true one other h k = h
either_all line false one other h k = k

answered_keeps : (line : LineState) (moment : ℕ) → KeepsAll line → Conserves line [] (answered line moment)
unfolding answered
answered_keeps line moment k =
    either_all line (is_loop line.handling.notifying || line.renewed) (resumed line moment) (still (record line { state = Lockstep }))
    (in_all line (resumed line moment) (resumed_keeps line moment k.asked k.untimed k.accumulated k.of_phone))
    (record {
      keeps = record { asked = k.asked; untimed = k.untimed; accumulated = k.accumulated; of_phone = k.of_phone; normal = λ e. absurd cc };
      whole = sym (append-nil (happened_in line.quarantined.events));
    })

opened_keeps : (line : LineState) (moment : ℕ) → KeepsAll line → Conserves line [] (opened line moment)
unfolding opened
opened_keeps line moment k = in_all line (resumed line moment) (resumed_keeps line moment k.asked k.untimed k.accumulated k.of_phone)

-- What falls due

no_timer : (timer : Option ℕ) (ends : Option (ℕ × Signal)) (at : ℕ) → timer ≡ None → first_end timer ends ≡ Some (at, DigitTimer) → ⊥
no_timer (Some end) ends at none e = cc
no_timer None None at none e = cc
no_timer None (Some first) at none e = let clash : is_digit (Some (signal_end first)) ≡ true = ap is_digit e in cc where
  is_digit : Option (ℕ × LineDue) → Bool
  is_digit None = false
  is_digit (Some (at, DigitTimer)) = true
  is_digit (Some (at, SignalEnd signal)) = false

held_end : (held : Held) (signal : Signal) → AreOfPhone held.events → (happened_in (holding held (Ended signal)).events ≡ happened_in held.events) × AreOfPhone (holding held (Ended signal)).events
unfolding holding
held_end held signal phone = by_room (nat_lt (length held.events) held.room) where
  by_room : (b : Bool) → (happened_in (if b then one_kept held (Ended signal) else one_lost held).events ≡ happened_in held.events)
      × AreOfPhone (if b then one_kept held (Ended signal) else one_lost held).events
  by_room true = (happened_both held.events (Ended signal ∷ []) ∙ append-nil (happened_in held.events), phone_end held.events signal phone)
  by_room false = (refl, phone)

left_end : (line : LineState) (signal : Signal) → AreOfPhone line.quarantined.events
    → (happened_in (quarantining line (Ended signal)).quarantined.events ≡ happened_in line.quarantined.events) × AreOfPhone (quarantining line (Ended signal)).quarantined.events
unfolding quarantining
left_end line signal phone = by_kept (is_kept line.requests (Ended signal)) where
  by_kept : (b : Bool) → (happened_in (if b then holding line.quarantined (Ended signal) else line.quarantined).events ≡ happened_in line.quarantined.events)
      × AreOfPhone (if b then holding line.quarantined (Ended signal) else line.quarantined).events
  by_kept true = held_end line.quarantined signal phone
  by_kept false = (refl, phone)

left_keeps : (state : State) (line : LineState) (signal : Signal) → line.state ≡ state → (state ≡ Normal → ⊥) → KeepsAll line
    → Conserves line [] (still (quarantining line (Ended signal)))
unfolding quarantining
left_keeps state line signal is waits k =
    let held = left_end line signal k.of_phone in
    record {
      keeps = record {
        asked = k.asked;
        untimed = k.untimed;
        accumulated = k.accumulated;
        of_phone = held.1;
        normal = λ e. absurd (waits (sym is ∙ e));
      };
      whole = held.0 ∙ sym (append-nil (happened_in line.quarantined.events));
    }

end_detected_in : (state : State) (line : LineState) (signal : Signal) (moment : ℕ) → line.state ≡ state → KeepsAll line
    → Conserves line [] (detected_in state line (Ended signal) moment)
end_detected_in Notification line signal moment is k = left_keeps Notification line signal is (λ e. absurd cc) k
end_detected_in Lockstep line signal moment is k = left_keeps Lockstep line signal is (λ e. absurd cc) k
end_detected_in Normal line signal moment is k =
    let done : LineDone = occurred line (Ended signal) moment in
    let calm = end_calm line signal moment k.untimed k.accumulated in
    let held : done.line.quarantined ≡ line.quarantined = occurred_keeps line (Ended signal) moment in
    record {
      keeps = record {
        asked = subst (λ r. NotifiesAll r.requested) (sym (end_asks line signal moment k.asked)) k.asked;
        untimed = calm.untimed;
        accumulated = calm.accumulated;
        of_phone = subst (λ (h : Held). AreOfPhone h.events) (sym held) k.of_phone;
        normal = λ e. ap (λ (h : Held). happened_in h.events) held ∙ k.normal is;
      };
      whole = ap (λ xs. xs ++ happened_in done.line.quarantined.events) calm.told ∙ ap (λ (h : Held). happened_in h.events) held
          ∙ sym (append-nil (happened_in line.quarantined.events));
    }

ended_keeps : (kind : Kind) (signal : Signal) (line : LineState) (moment : ℕ) → KeepsAll line → Conserves line [] (ended_by kind signal line moment)
unfolding detected
ended_keeps TimeOut signal line moment k = end_detected_in line.state line signal moment refl k
ended_keeps Brief signal line moment k = record { keeps = k; whole = sym (append-nil (happened_in line.quarantined.events)) }
ended_keeps OnOff signal line moment k = record { keeps = k; whole = sym (append-nil (happened_in line.quarantined.events)) }

with_signals_keeps : (line : LineState) (signal : Signal) → KeepsAll line → KeepsAll (record line { signals = without signal line.signals })
with_signals_keeps line signal k =
    record { asked = k.asked; untimed = k.untimed; accumulated = k.accumulated; of_phone = k.of_phone; normal = k.normal }

fired_keeps : (line : LineState) (at : ℕ) (due : LineDue) (moment : ℕ) → KeepsAll line → due_of line ≡ Some (at, due) → Conserves line [] (fired line due moment)
unfolding due_of fired
fired_keeps line at DigitTimer moment k is = absurd (no_timer line.timer (due_first line.signals) at k.untimed is)
fired_keeps line at (SignalEnd signal) moment k is =
    let h = ended_keeps (kind_of signal) signal (record line { signals = without signal line.signals }) moment (with_signals_keeps line signal k) in
    record { keeps = h.keeps; whole = h.whole }

-- Acts

-- what the telephone does is asked for, or persistent: else nothing would be done at it
some_asked : (line : LineState) (event : LineEvent) → NotifiesAll line.requests.requested → is_of_phone event ≡ true → (a b : Bool)
    → is_requested line.requests.requested event ≡ a → is_persistent event ≡ b → (c : Bool) → (a || c || b) ≡ true
unfolding notified
some_asked line event all is true b ea eb c = refl
some_asked line event all is false true ea eb true = refl
some_asked line event all is false true ea eb false = refl
some_asked line event all is false false ea eb c =
    let nothing : occurred line (Happened event) 0 ≡ still line = unasked_events_do_nothing.occurring line (Happened event) 0 ea eb in
    let clash : None ≡ (notified (hushed_for line event)).notice = ap (λ (done : LineDone). done.notice) (sym nothing ∙ is_notified line event 0 all is) in
    absurd cc

pub phone_kept : (line : LineState) (event : LineEvent) → NotifiesAll line.requests.requested → is_of_phone event ≡ true → is_kept line.requests (Happened event) ≡ true
unfolding is_kept
phone_kept line event all is =
    some_asked line event all is (is_requested line.requests.requested event) (is_persistent event) refl refl (is_detected line.requests.detected event)

held_act : (held : Held) (event : LineEvent) → (holding held (Happened event)).lost ≡ 0 → (holding held (Happened event)).events ≡ held.events ++ Happened event ∷ []
unfolding holding
held_act held event = by_room (nat_lt (length held.events) held.room) where
  by_room : (b : Bool) → (if b then one_kept held (Happened event) else one_lost held).lost ≡ 0
      → (if b then one_kept held (Happened event) else one_lost held).events ≡ held.events ++ Happened event ∷ []
  by_room true none = refl
  by_room false none = absurd (omega (arith, none))

left_act : (line : LineState) (event : LineEvent) → is_kept line.requests (Happened event) ≡ true → (quarantining line (Happened event)).quarantined.lost ≡ 0
    → (quarantining line (Happened event)).quarantined.events ≡ line.quarantined.events ++ Happened event ∷ []
unfolding quarantining
left_act line event kept = by_kept (is_kept line.requests (Happened event)) kept where
  by_kept : (b : Bool) → b ≡ true → (if b then holding line.quarantined (Happened event) else line.quarantined).lost ≡ 0
      → (if b then holding line.quarantined (Happened event) else line.quarantined).events ≡ line.quarantined.events ++ Happened event ∷ []
  by_kept true is none = held_act line.quarantined event none
  by_kept false is none = absurd cc

kept_act : (state : State) (line : LineState) (event : LineEvent) → line.state ≡ state → (state ≡ Normal → ⊥) → is_of_phone event ≡ true → KeepsAll line
    → (quarantining line (Happened event)).quarantined.lost ≡ 0 → Conserves line (Happened event ∷ []) (still (quarantining line (Happened event)))
unfolding quarantining
kept_act state line event is waits phone k none =
    let held = left_act line event (phone_kept line event k.asked phone) none in
    record {
      keeps = record {
        asked = k.asked;
        untimed = k.untimed;
        accumulated = k.accumulated;
        of_phone = subst AreOfPhone (sym held) (phone_more line.quarantined.events event k.of_phone phone);
        normal = λ e. absurd (waits (sym is ∙ e));
      };
      whole = ap happened_in held ∙ happened_both line.quarantined.events (Happened event ∷ []);
    }

act_detected_in : (state : State) (line : LineState) (event : LineEvent) (moment : ℕ) → line.state ≡ state → is_of_phone event ≡ true → KeepsAll line
    → (detected_in state line (Happened event) moment).line.quarantined.lost ≡ 0 → Conserves line (Happened event ∷ []) (detected_in state line (Happened event) moment)
act_detected_in Notification line event moment is phone k none = kept_act Notification line event is (λ e. absurd cc) phone k none
act_detected_in Lockstep line event moment is phone k none = kept_act Lockstep line event is (λ e. absurd cc) phone k none
act_detected_in Normal line event moment is phone k none =
    let h = occurred_tells line event moment k.asked k.accumulated k.of_phone phone in
    let empty : happened_in (occurred line (Happened event) moment).line.quarantined.events ≡ [] =
    ap (λ (held : Held). happened_in held.events) h.quarantined ∙ k.normal is in
    record {
      keeps = h.keeps;
      whole = ap (λ xs. xs ++ happened_in (occurred line (Happened event) moment).line.quarantined.events) h.told
          ∙ ap (λ xs. Happened event ∷ xs) empty ∙ sym (ap (λ xs. xs ++ Happened event ∷ []) (k.normal is));
    }

act_detected : (line : LineState) (event : LineEvent) (moment : ℕ) → is_of_phone event ≡ true → KeepsAll line
    → (detected line (Happened event) moment).line.quarantined.lost ≡ 0 → Conserves line (Happened event ∷ []) (detected line (Happened event) moment)
unfolding detected
act_detected line event moment phone k none = act_detected_in line.state line event moment refl phone k none

pub of_key : (key : OneKey) → is_of_phone (events.Letter (letter_at key)) ≡ true
of_key keys.Zero = refl
of_key keys.One = refl
of_key keys.Two = refl
of_key keys.Three = refl
of_key keys.Four = refl
of_key keys.Five = refl
of_key keys.Six = refl
of_key keys.Seven = refl
of_key keys.Eight = refl
of_key keys.Nine = refl
of_key keys.Star = refl
of_key keys.Hash = refl
of_key keys.A = refl
of_key keys.B = refl
of_key keys.C = refl
of_key keys.D = refl

pub hooked_keeps : (line : LineState) (act : Act) → KeepsAll line → KeepsAll (hooked line act)
hooked_keeps line OffHook k = record { asked = k.asked; untimed = k.untimed; accumulated = k.accumulated; of_phone = k.of_phone; normal = k.normal }
hooked_keeps line OnHook k = record { asked = k.asked; untimed = k.untimed; accumulated = k.accumulated; of_phone = k.of_phone; normal = k.normal }
hooked_keeps line Flash k = k
hooked_keeps line (Key key) k = k

phoned_keeps : (line : LineState) (act : Act) (moment : ℕ) → KeepsAll line → (phoned line act moment).line.quarantined.lost ≡ 0
    → Conserves line (observed_at act ∷ []) (phoned line act moment)
unfolding phoned
phoned_keeps line OffHook moment k none =
    let h = act_detected (hooked line OffHook) events.OffHook moment refl (hooked_keeps line OffHook k) none in record { keeps = h.keeps; whole = h.whole }
phoned_keeps line OnHook moment k none =
    let h = act_detected (hooked line OnHook) events.OnHook moment refl (hooked_keeps line OnHook k) none in record { keeps = h.keeps; whole = h.whole }
phoned_keeps line Flash moment k none = act_detected line events.Flash moment refl k none
phoned_keeps line (Key key) moment k none = act_detected line (events.Letter (letter_at key)) moment (of_key key) k none

pub nothing_is_skipped : NothingIsSkipped
nothing_is_skipped = record {
  act = phoned_keeps;
  request = λ line request moment asks k. asked_keeps line request moment asks k.of_phone;
  answering = answered_keeps;
  serving = opened_keeps;
  firing = fired_keeps;
}

-- Before the telephone does anything

untouched_drains : (was : List Observed) (line : LineState) (moment : ℕ) → happened_in was ≡ [] → line.quarantined.events ≡ was
    → line.timer ≡ None → happened_in line.accumulated ≡ [] → StaysUntouched (drained_of was line moment)
unfolding drained_of
untouched_drains [] line moment nothing same untimed none =
    record { line = record { untimed = untimed; accumulated = none; quarantined = ap happened_in same }; told = refl }
untouched_drains (Happened event ∷ was) line moment nothing same untimed none = absurd cc
untouched_drains (Ended signal ∷ was) line moment nothing same untimed none =
    let from : LineState = with_quarantined line was in
    let done : LineDone = occurred from (Ended signal) moment in
    let left : done.line.quarantined.events ≡ was = ap (λ q. q.events) (occurred_keeps from (Ended signal) moment) in
    let calm = end_calm from signal moment untimed none in
    by_notice from done done.notice (λ next. drained_of was next moment) calm (ap happened_in left ∙ nothing)
    (untouched_drains was done.line moment nothing left calm.untimed calm.accumulated) where
      by_notice : (from : LineState) (done : LineDone) (notice : Option Notice) (next : LineState → LineDone) → Calm from done
          → happened_in done.line.quarantined.events ≡ [] → StaysUntouched (next done.line) → StaysUntouched (unless_notified notice done next)
      by_notice from done None next calm left rest = rest
      by_notice from done (Some notice) next calm left rest =
          record { line = record { untimed = calm.untimed; accumulated = calm.accumulated; quarantined = left }; told = calm.told }

untouched_resumes : (line : LineState) (moment : ℕ) → IsUntouched line → StaysUntouched (resumed line moment)
unfolding resumed drained
untouched_resumes line moment u =
    untouched_drains line.quarantined.events (record line { state = Normal }) moment u.quarantined refl u.untimed u.accumulated

untouched_resumes_in : (state : State) (line : LineState) (moment : ℕ) → IsUntouched line → StaysUntouched (resumed_in state line moment)
untouched_resumes_in Normal line moment u = untouched_resumes line moment u
untouched_resumes_in Lockstep line moment u = untouched_resumes line moment u
untouched_resumes_in Notification line moment u =
    record { line = record { untimed = u.untimed; accumulated = u.accumulated; quarantined = u.quarantined }; told = refl }

after_none : (handling : Quarantined) (held : Held) → happened_in held.events ≡ [] → happened_in (quarantined_after handling held).events ≡ []
after_none Process held none = none
after_none Discard held none = refl

untouched_asked : (line : LineState) (request : Request) (moment : ℕ) → IsUntouched line → StaysUntouched (asked line request moment)
unfolding asked replaced
untouched_asked line request moment u =
    untouched_resumes_in line.state (replaced line request moment) moment
    (record { untimed = refl; accumulated = refl; quarantined = after_none request.handling.quarantined line.quarantined u.quarantined })

untouched_either : (b : Bool) (one other : LineDone) → StaysUntouched one → StaysUntouched other → StaysUntouched (if b then one else other)
untouched_either true one other h k = h
untouched_either false one other h k = k

untouched_answered : (line : LineState) (moment : ℕ) → IsUntouched line → StaysUntouched (answered line moment)
unfolding answered
untouched_answered line moment u =
    untouched_either (is_loop line.handling.notifying || line.renewed) (resumed line moment) (still (record line { state = Lockstep }))
    (untouched_resumes line moment u) (record { line = record { untimed = u.untimed; accumulated = u.accumulated; quarantined = u.quarantined }; told = refl })

untouched_opened : (line : LineState) (moment : ℕ) → IsUntouched line → StaysUntouched (opened line moment)
unfolding opened
untouched_opened line moment u = untouched_resumes line moment u

untouched_left : (line : LineState) (signal : Signal) → IsUntouched line → StaysUntouched (still (quarantining line (Ended signal)))
unfolding quarantining
untouched_left line signal u =
    record { line = record { untimed = u.untimed; accumulated = u.accumulated; quarantined = (left_end line signal (none_of_phone line.quarantined.events u.quarantined)).0 ∙ u.quarantined }; told = refl }

untouched_detected : (state : State) (line : LineState) (signal : Signal) (moment : ℕ) → IsUntouched line → StaysUntouched (detected_in state line (Ended signal) moment)
untouched_detected Notification line signal moment u = untouched_left line signal u
untouched_detected Lockstep line signal moment u = untouched_left line signal u
untouched_detected Normal line signal moment u =
    let calm = end_calm line signal moment u.untimed u.accumulated in
    record {
      line = record {
        untimed = calm.untimed;
        accumulated = calm.accumulated;
        quarantined = ap (λ (h : Held). happened_in h.events) (occurred_keeps line (Ended signal) moment) ∙ u.quarantined;
      };
      told = calm.told;
    }

untouched_ended : (kind : Kind) (signal : Signal) (line : LineState) (moment : ℕ) → IsUntouched line → StaysUntouched (ended_by kind signal line moment)
unfolding detected
untouched_ended TimeOut signal line moment u = untouched_detected line.state line signal moment u
untouched_ended Brief signal line moment u = record { line = u; told = refl }
untouched_ended OnOff signal line moment u = record { line = u; told = refl }

untouched_fired : (line : LineState) (at : ℕ) (due : LineDue) (moment : ℕ) → IsUntouched line → due_of line ≡ Some (at, due) → StaysUntouched (fired line due moment)
unfolding due_of fired
untouched_fired line at DigitTimer moment u is = absurd (no_timer line.timer (due_first line.signals) at u.untimed is)
untouched_fired line at (SignalEnd signal) moment u is =
    untouched_ended (kind_of signal) signal (record line { signals = without signal line.signals }) moment
    (record { untimed = u.untimed; accumulated = u.accumulated; quarantined = u.quarantined })

pub nothing_is_made_up : NothingIsMadeUp
nothing_is_made_up = record {
  request = untouched_asked;
  answering = untouched_answered;
  serving = untouched_opened;
  firing = untouched_fired;
  begins = λ line request moment asks u. asked_keeps line request moment asks (none_of_phone line.quarantined.events u.quarantined);
}
