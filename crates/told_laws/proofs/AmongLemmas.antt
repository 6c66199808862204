-- What a line tells is some of what was done at its telephone, in its order.
use Rattle.std.proofs.Common.{◌≡◌, ℕ, suc, Bool, true, false, List, [], ◌∷◌, ◌++◌, Option, Some, None, refl, sym, ap, subst, ◌∙◌, append_assoc, append-nil}
use Rattle.std.specs.Prelude.{IfSome, ◌||◌, nat_lt, nat_le, length, if◌then◌else◌}
use Rattle.std.proofs.lemmas.List.Elements.{filter-append}
use Rattle.mg_bytes.specs.declared.letter.Letter.{Letter}
use Rattle.mg_bytes.specs.declared.letter.Letter.TheVariants as letters
use Rattle.packages.specs.declared.event.LineEvent.TheVariants as events
use Rattle.packages.specs.declared.signal.Kind.{Kind}
use Rattle.packages.specs.declared.signal.Kind.TheVariants.{TimeOut, Brief, OnOff}
use Rattle.packages.specs.declared.signal.Signal.{Signal}
use Rattle.packages.specs.Looking.{kind_of}
use Rattle.digit_map.specs.declared.verdict.Verdict.{Verdict}
use Rattle.digit_map.specs.declared.verdict.Verdict.TheVariants.{Perfect, Partial, Impossible}
use Rattle.packages.specs.declared.handling.Quarantined.{Quarantined}
use Rattle.packages.specs.declared.handling.Quarantined.TheVariants.{Process, Discard}
use Rattle.packages.specs.declared.observed.Observed.{Observed}
use Rattle.packages.specs.declared.observed.Observed.TheVariants.{Happened, Ended}
use Rattle.event_syntax.specs.declared.request.Action.TheVariants.{Notify, Accumulate, Dial, Ignore}
use Rattle.event_syntax.specs.declared.request.EmbeddedRequest.{EmbeddedRequest}
use Rattle.event_syntax.specs.declared.request.Reaction.{Reaction}
use Rattle.event_syntax.specs.declared.request.Reaction.TheVariants.{Plain, Embed, AccumulateAndEmbed}
use Rattle.events_and_signals.specs.Choice.{chosen, is_kept}
use Rattle.events_and_signals.specs.Naming.{event_of}
use Rattle.events_and_signals.specs.declared.request.Request.{Request}
use Rattle.events_and_signals.specs.Held.{Held, one_lost, one_kept, holding}
use Rattle.events_and_signals.specs.Given.{InOrderBut, none, kept, left_out}
use Rattle.events_and_signals.specs.Stopping.{without}
use Rattle.timers.specs.declared.kind.LineDue.{LineDue}
use Rattle.timers.specs.declared.kind.LineDue.TheVariants.{DigitTimer, SignalEnd}
use Rattle.mg_line.specs.declared.phone.Act.{Act}
use Rattle.mg_line.specs.declared.phone.Act.TheVariants.{OffHook, OnHook, Flash, Key}
use Rattle.mg_line.specs.State.{State}
use Rattle.mg_line.specs.State.TheVariants.{Normal, Notification, Lockstep}
use Rattle.mg_line.specs.Line.{LineState, Notice, LineDone, still, most_accumulated, opening_line}
use Rattle.mg_line.specs.Occurring.{notified, notified_if_full, with_event, letter_of, verdict_by, judged, timed, with_letter, dialled_by, embedded, acted, signals_after, occurred}
use Rattle.mg_line.specs.Detecting.{quarantining, detected_in, detected, with_quarantined, unless_notified, drained_of, drained, resumed}
use Rattle.mg_line.specs.Acting.{hooked, observed_at, phoned}
use Rattle.mg_line.specs.Requesting.{quarantined_after, replaced, resumed_in, asked}
use Rattle.mg_line.specs.Answering.{is_loop, answered}
use Rattle.mg_line.specs.Opening.{opened}
use Rattle.mg_line.specs.Falling.{ended_by, fired}
use Rattle.mg_line.specs.Laws.{Awaits, AwaitsIfNotified}
use Rattle.mg_line.proofs.DrainLemmas.{occurred_keeps}
use Rattle.mg_line.proofs.OnceLemmas.{notifies_once}
use Rattle.world_laws.specs.Rounds.{is_of_telephone, of_telephone}
use Rattle.told_laws.specs.Among.{AreAmong, kept_by, IsToldInOrder}
use Rattle.world_laws.specs.Course.{CourseStep, acts, accepts}
use Rattle.world_laws.specs.Dialled.{done_in, told_along}
use Rattle.world_laws.specs.Keeping.{told_of}
use Rattle.world_laws.proofs.DialledLemmas.{done_both, told_both, none_done, told_is}
use Rattle.world_laws.proofs.EndpointLemmas.{steps_of, Calls}
use Rattle.world_laws.proofs.KeepingLemmas.{of_key}

-- Some of a list, in its order

pub some_left : (event : Observed) (some all : List Observed) → AreAmong some all → AreAmong some (event ∷ all)
some_left event some all (n, so) = (suc n, left_out n event some all so)

pub some_kept : (event : Observed) (some all : List Observed) → AreAmong some all → AreAmong (event ∷ some) (event ∷ all)
some_kept event some all (n, so) = (n, kept n event some all so)

pub among_none : (all : List Observed) → AreAmong [] all
among_none [] = (0, none)
among_none (event ∷ all) = some_left event [] all (among_none all)

pub among_same : (all : List Observed) → AreAmong all all
among_same [] = (0, none)
among_same (event ∷ all) = some_kept event all all (among_same all)

pub among_is : (some all : List Observed) → some ≡ all → AreAmong some all
among_is some all same = subst (λ (xs : List Observed). AreAmong xs all) (sym same) (among_same all)

-- a front of it
pub among_front : (front rest : List Observed) → AreAmong front (front ++ rest)
among_front [] rest = among_none rest
among_front (event ∷ front) rest = some_kept event front (front ++ rest) (among_front front rest)

both_by : (n : ℕ) (some all more rest : List Observed) → InOrderBut n some all → AreAmong more rest → AreAmong (some ++ more) (all ++ rest)
both_by n some all more rest none then_so = then_so
both_by n some all more rest (kept m event fewer others so) then_so =
    some_kept event (fewer ++ more) (others ++ rest) (both_by m fewer others more rest so then_so)
both_by n some all more rest (left_out m event fewer others so) then_so =
    some_left event (fewer ++ more) (others ++ rest) (both_by m fewer others more rest so then_so)

pub among_both : (some all more rest : List Observed) → AreAmong some all → AreAmong more rest → AreAmong (some ++ more) (all ++ rest)
among_both some all more rest (n, so) then_so = both_by n some all more rest so then_so

-- some of some
pass_by : (n m : ℕ) (few some all : List Observed) → InOrderBut n few some → InOrderBut m some all → AreAmong few all
pass_by n m few some all so (left_out k event fewer rest outer) = some_left event few rest (pass_by n k few fewer rest so outer)
pass_by n m few some all none none = (0, none)
pass_by n m few some all (kept k event less fewer inner) (kept l other fewest rest outer) =
    some_kept event less rest (pass_by k l less fewer rest inner outer)
pass_by n m few some all (left_out k event less fewer inner) (kept l other fewest rest outer) =
    some_left event few rest (pass_by k l few fewer rest inner outer)

pub among_pass : (few some all : List Observed) → AreAmong few some → AreAmong some all → AreAmong few all
among_pass few some all (n, inner) (m, outer) = pass_by n m few some all inner outer

-- without the ends of signals and of timer T
phone_by : (b : Bool) (event : Observed) (some all : List Observed) → is_of_telephone event ≡ b → AreAmong (of_telephone some) (of_telephone all)
    → AreAmong (of_telephone (event ∷ some)) (of_telephone (event ∷ all)) × AreAmong (of_telephone some) (of_telephone (event ∷ all))
phone_by true event some all is so =
    let keeps : (xs : List Observed) → of_telephone (event ∷ xs) ≡ event ∷ of_telephone xs =
    λ xs. ap (λ (b : Bool). if b then event ∷ of_telephone xs else of_telephone xs) is in (
      subst (λ (xs : List Observed). AreAmong xs (of_telephone (event ∷ all))) (sym (keeps some))
          (subst (λ (ys : List Observed). AreAmong (event ∷ of_telephone some) ys) (sym (keeps all)) (some_kept event (of_telephone some) (of_telephone all) so)),
      subst (λ (ys : List Observed). AreAmong (of_telephone some) ys) (sym (keeps all)) (some_left event (of_telephone some) (of_telephone all) so),
    )
phone_by false event some all is so =
    let leaves : (xs : List Observed) → of_telephone (event ∷ xs) ≡ of_telephone xs =
    λ xs. ap (λ (b : Bool). if b then event ∷ of_telephone xs else of_telephone xs) is in (
      subst (λ (xs : List Observed). AreAmong xs (of_telephone (event ∷ all))) (sym (leaves some))
          (subst (λ (ys : List Observed). AreAmong (of_telephone some) ys) (sym (leaves all)) so),
      subst (λ (ys : List Observed). AreAmong (of_telephone some) ys) (sym (leaves all)) so,
    )

phone_all : (n : ℕ) (some all : List Observed) → InOrderBut n some all → AreAmong (of_telephone some) (of_telephone all)
phone_all n some all none = (0, none)
phone_all n some all (kept m event fewer rest so) = (phone_by (is_of_telephone event) event fewer rest refl (phone_all m fewer rest so)).0
phone_all n some all (left_out m event fewer rest so) = (phone_by (is_of_telephone event) event some rest refl (phone_all m some rest so)).1

pub among_phone : (some all : List Observed) → AreAmong some all → AreAmong (of_telephone some) (of_telephone all)
among_phone some all (n, so) = phone_all n some all so

-- An event occurs: what was accumulated, and then the event, is told or accumulated, or some of it is

abbrev left_in : LineDone → List Observed
left_in done = told_of done.notice ++ done.line.accumulated

either_left : (all : List Observed) (b : Bool) (one other : LineDone) → AreAmong (left_in one) all → AreAmong (left_in other) all
    → AreAmong (left_in (if b then one else other)) all
either_left all true one other h k = h
either_left all false one other h k = k

notified_left : (line : LineState) → AreAmong (left_in (notified line)) line.accumulated
unfolding notified
notified_left line = among_is (line.accumulated ++ []) line.accumulated (append-nil line.accumulated)

full_left : (line : LineState) → AreAmong (left_in (notified_if_full line)) line.accumulated
unfolding notified_if_full
full_left line =
    either_left line.accumulated (nat_le most_accumulated (length line.accumulated)) (notified line) (still line) (notified_left line)
    (among_same line.accumulated)

timed_same : (line : LineState) (letter : Letter) (moment : ℕ) → (timed line letter moment).accumulated ≡ line.accumulated
unfolding timed
timed_same line letter moment = refl

judged_left : (verdict : Verdict) (line : LineState) (letter : Letter) (moment : ℕ) → AreAmong (left_in (judged verdict line letter moment)) line.accumulated
judged_left Perfect line letter moment = notified_left line
judged_left Impossible line letter moment = notified_left line
judged_left Partial line letter moment =
    subst (λ (xs : List Observed). AreAmong (left_in (notified_if_full (timed line letter moment))) xs) (timed_same line letter moment)
    (full_left (timed line letter moment))

letter_left : (line : LineState) (letter : Letter) (moment : ℕ) → AreAmong (left_in (with_letter line letter moment)) line.accumulated
unfolding with_letter
letter_left line letter moment =
    judged_left (verdict_by line.digit_map (line.dialled ++ letter ∷ [])) (record line { dialled = line.dialled ++ letter ∷ [] }) letter moment

dialled_left : (letter : Option Letter) (line : LineState) (moment : ℕ) → AreAmong (left_in (dialled_by letter line moment)) line.accumulated
dialled_left None line moment = full_left line
dialled_left (Some letter) line moment = letter_left line letter moment

embedded_full : (line : LineState) (request : EmbeddedRequest) (moment : ℕ) → AreAmong (left_in (notified_if_full (embedded line request moment))) line.accumulated
unfolding embedded
embedded_full line request moment = full_left (embedded line request moment)

acted_left : (reaction : Reaction) (line : LineState) (event : Observed) (moment : ℕ)
    → AreAmong (left_in (acted reaction line event moment)) (line.accumulated ++ event ∷ [])
unfolding acted embedded
acted_left (Plain Ignore) line event moment = among_front line.accumulated (event ∷ [])
acted_left (Plain Notify) line event moment = notified_left (with_event line event)
acted_left (Plain Accumulate) line event moment = full_left (with_event line event)
acted_left (Plain Dial) line event moment = dialled_left (letter_of (event_of event)) (with_event line event) moment
acted_left (Embed request) line event moment = among_none (line.accumulated ++ event ∷ [])
acted_left (AccumulateAndEmbed request) line event moment = embedded_full (with_event line event) request moment

occurred_left : (line : LineState) (event : Observed) (moment : ℕ) → AreAmong (left_in (occurred line event moment)) (line.accumulated ++ event ∷ [])
unfolding occurred
occurred_left line event moment =
    let choice = chosen line.requests.requested (event_of event) in
    acted_left choice.reaction (signals_after choice line) event moment

-- What a call leaves: told, and then kept, of what was kept and is new; and where events occur none is quarantined

abbrev pub leaves : LineDone → List Observed
leaves done = told_of done.notice ++ kept_by done.line

abbrev pub IsDrained : LineState → Type 0
IsDrained line = line.state ≡ Normal → line.quarantined.events ≡ []

pub record Moves (was new : List Observed) (done : LineDone) : Type 0 where
  pub among : AreAmong (leaves done) (was ++ new)
  pub drained : IsDrained done.line

-- beside what is quarantined
beside_held : (told acc held was : List Observed) → AreAmong (told ++ acc) was → AreAmong (told ++ (acc ++ held)) (was ++ held)
beside_held told acc held was so =
    subst (λ (xs : List Observed). AreAmong xs (was ++ held)) (append_assoc told acc held)
    (among_both (told ++ acc) was held held so (among_same held))

-- Draining

record Drained (was : List Observed) (done : LineDone) : Type 0 where
  among : AreAmong (leaves done) was
  empty : done.notice ≡ None → done.line.quarantined.events ≡ []

drain_more : (acc : List Observed) (event : Observed) (events : List Observed) (done : LineDone) (notice : Option Notice) (next : LineState → LineDone)
    → done.notice ≡ notice → done.line.quarantined.events ≡ events → AreAmong (left_in done) (acc ++ event ∷ [])
    → Drained (done.line.accumulated ++ events) (next done.line) → Drained (acc ++ event ∷ events) (unless_notified notice done next)
drain_more acc event events done (Some notice) next told same so rest = record {
  among =
      let beside = beside_held (told_of done.notice) done.line.accumulated done.line.quarantined.events (acc ++ event ∷ []) so in
      subst (λ (xs : List Observed). AreAmong (leaves done) xs)
      (ap (λ (held : List Observed). (acc ++ event ∷ []) ++ held) same ∙ append_assoc acc (event ∷ []) events) beside;
  empty = λ none. absurd (let clash : ◌≡◌ {A = Option Notice} (Some notice) None = sym told ∙ none in cc);
}
drain_more acc event events done None next told same so rest = record {
  among =
      let first : AreAmong done.line.accumulated (acc ++ event ∷ []) = subst (λ (n : Option Notice). AreAmong (told_of n ++ done.line.accumulated) (acc ++ event ∷ [])) told so in
      among_pass (leaves (next done.line)) (done.line.accumulated ++ events) (acc ++ event ∷ events) rest.among
      (subst (λ (xs : List Observed). AreAmong (done.line.accumulated ++ events) xs) (append_assoc acc (event ∷ []) events)
      (among_both done.line.accumulated (acc ++ event ∷ []) events events first (among_same events)));
  empty = rest.empty;
}

drained_moves : (was : List Observed) (line : LineState) (moment : ℕ) → line.quarantined.events ≡ was
    → Drained (line.accumulated ++ was) (drained_of was line moment)
unfolding drained_of
drained_moves [] line moment same =
    record { among = among_is (kept_by line) (line.accumulated ++ []) (ap (λ (xs : List Observed). line.accumulated ++ xs) same); empty = λ none. same }
drained_moves (event ∷ events) line moment same =
    let from : LineState = with_quarantined line events in
    let done : LineDone = occurred from event moment in
    let left : done.line.quarantined.events ≡ events = ap (λ (held : Held). held.events) (occurred_keeps from event moment) in
    drain_more line.accumulated event events done done.notice (λ next. drained_of events next moment) refl left (occurred_left from event moment)
    (drained_moves events done.line moment left)

resumed_moves : (line : LineState) (moment : ℕ) → Drained (kept_by line) (resumed line moment)
unfolding resumed drained
resumed_moves line moment = drained_moves line.quarantined.events (record line { state = Normal }) moment refl

-- a line that notified waits
not_normal : (done : LineDone) (notice : Option Notice) → done.notice ≡ notice → AwaitsIfNotified done
    → (notice ≡ None → done.line.quarantined.events ≡ []) → IsDrained done.line
not_normal done None told awaits empty = λ normal. empty refl
not_normal done (Some notice) told awaits empty =
    λ normal.
    let waits : done.line.state ≡ Notification = (subst (λ (n : Option Notice). IfSome n (λ (one : Notice). Awaits done.line)) told awaits).state in
    absurd (let clash : Notification ≡ Normal = sym waits ∙ normal in cc)

resumed_all : (line : LineState) (moment : ℕ) (done : LineDone) → done ≡ resumed line moment → AwaitsIfNotified done → Moves (kept_by line) [] done
resumed_all line moment done is awaits =
    let moves = subst (Drained (kept_by line)) (sym is) (resumed_moves line moment) in
    record {
      among = subst (λ (xs : List Observed). AreAmong (leaves done) xs) (sym (append-nil (kept_by line))) moves.among;
      drained = not_normal done done.notice refl awaits moves.empty;
    }

-- nothing moves
still_moves : (line other : LineState) → kept_by other ≡ kept_by line → IsDrained other → Moves (kept_by line) [] (still other)
still_moves line other same drained =
    record { among = among_is (kept_by other) (kept_by line ++ []) (same ∙ sym (append-nil (kept_by line))); drained = drained }

-- Events

held_among : (held : Held) (event : Observed) (b : Bool) → AreAmong (if b then one_kept held event else one_lost held).events (held.events ++ event ∷ [])
held_among held event true = among_same (held.events ++ event ∷ [])
held_among held event false = among_front held.events (event ∷ [])

holding_among : (held : Held) (event : Observed) → AreAmong (holding held event).events (held.events ++ event ∷ [])
unfolding holding
holding_among held event = held_among held event (nat_lt (length held.events) held.room)

kept_among : (held : Held) (event : Observed) (b : Bool) → AreAmong (if b then holding held event else held).events (held.events ++ event ∷ [])
kept_among held event true = holding_among held event
kept_among held event false = among_front held.events (event ∷ [])

quarantined_moves : (line : LineState) (event : Observed) → (line.state ≡ Normal → ⊥) → Moves (kept_by line) (event ∷ []) (still (quarantining line event))
unfolding quarantining
quarantined_moves line event waits = record {
  among =
      subst (λ (xs : List Observed). AreAmong (kept_by (quarantining line event)) xs)
      (sym (append_assoc line.accumulated line.quarantined.events (event ∷ [])))
      (among_both line.accumulated line.accumulated (quarantining line event).quarantined.events (line.quarantined.events ++ event ∷ [])
      (among_same line.accumulated) (kept_among line.quarantined event (is_kept line.requests event)));
  drained = λ normal. absurd (waits normal);
}

occurred_moves : (line : LineState) (event : Observed) (moment : ℕ) → line.quarantined.events ≡ [] → Moves (kept_by line) (event ∷ []) (occurred line event moment)
occurred_moves line event moment none_held =
    let done : LineDone = occurred line event moment in
    let held : done.line.quarantined.events ≡ [] = ap (λ (h : Held). h.events) (occurred_keeps line event moment) ∙ none_held in
    let now : leaves done ≡ left_in done =
    ap (λ (h : List Observed). told_of done.notice ++ (done.line.accumulated ++ h)) held ∙ ap (λ (xs : List Observed). told_of done.notice ++ xs) (append-nil done.line.accumulated) in
    let before : kept_by line ≡ line.accumulated = ap (λ (h : List Observed). line.accumulated ++ h) none_held ∙ append-nil line.accumulated in
    record {
      among = subst (λ (xs : List Observed). AreAmong xs (kept_by line ++ event ∷ [])) (sym now)
          (subst (λ (xs : List Observed). AreAmong (left_in done) (xs ++ event ∷ [])) (sym before) (occurred_left line event moment));
      drained = λ normal. held;
    }

detected_by : (state : State) (line : LineState) (event : Observed) (moment : ℕ) → line.state ≡ state → IsDrained line
    → Moves (kept_by line) (event ∷ []) (detected_in state line event moment)
detected_by Normal line event moment is drained = occurred_moves line event moment (drained is)
detected_by Notification line event moment is drained =
    quarantined_moves line event (λ normal. let clash : Notification ≡ Normal = sym is ∙ normal in cc)
detected_by Lockstep line event moment is drained =
    quarantined_moves line event (λ normal. let clash : Lockstep ≡ Normal = sym is ∙ normal in cc)

pub detected_moves : (line : LineState) (event : Observed) (moment : ℕ) → IsDrained line → Moves (kept_by line) (event ∷ []) (detected line event moment)
unfolding detected
detected_moves line event moment drained = detected_by line.state line event moment refl drained

-- Each call

pub phoned_moves : (line : LineState) (act : Act) (moment : ℕ) → IsDrained line → Moves (kept_by line) (observed_at act ∷ []) (phoned line act moment)
unfolding phoned
phoned_moves line OffHook moment drained = detected_moves (hooked line OffHook) (observed_at OffHook) moment drained
phoned_moves line OnHook moment drained = detected_moves (hooked line OnHook) (observed_at OnHook) moment drained
phoned_moves line Flash moment drained = detected_moves line (observed_at Flash) moment drained
phoned_moves line (Key key) moment drained = detected_moves line (observed_at (Key key)) moment drained

answered_by : (line : LineState) (moment : ℕ) (b : Bool) (done : LineDone) → done ≡ (if b then resumed line moment else still (record line { state = Lockstep }))
    → AwaitsIfNotified done → Moves (kept_by line) [] done
answered_by line moment true done is awaits = resumed_all line moment done is awaits
answered_by line moment false done is awaits =
    subst (Moves (kept_by line) []) (sym is) (still_moves line (record line { state = Lockstep }) refl (λ normal. absurd cc))

pub answered_moves : (line : LineState) (moment : ℕ) → Moves (kept_by line) [] (answered line moment)
unfolding answered
answered_moves line moment =
    answered_by line moment (is_loop line.handling.notifying || line.renewed) (answered line moment) refl (notifies_once.answering line moment)

pub opened_moves : (line : LineState) (moment : ℕ) → Moves (kept_by line) [] (opened line moment)
unfolding opened
opened_moves line moment = resumed_all line moment (opened line moment) refl (notifies_once.serving line moment)

-- a request drops what was accumulated, and what is quarantined where it says so
replaced_among : (handling : Quarantined) (line : LineState) → AreAmong (quarantined_after handling line.quarantined).events (kept_by line)
replaced_among Process line = among_both [] line.accumulated line.quarantined.events line.quarantined.events (among_none line.accumulated) (among_same line.quarantined.events)
replaced_among Discard line = among_none (kept_by line)

request_moves : (line : LineState) (request : Request) (moment : ℕ) (state : State) (done : LineDone) → line.state ≡ state
    → done ≡ resumed_in state (replaced line request moment) moment → AwaitsIfNotified done → Moves (kept_by (replaced line request moment)) [] done
unfolding replaced
request_moves line request moment Normal done was is awaits = resumed_all (replaced line request moment) moment done is awaits
request_moves line request moment Lockstep done was is awaits = resumed_all (replaced line request moment) moment done is awaits
request_moves line request moment Notification done was is awaits =
    let to : LineState = replaced line request moment in
    subst (Moves (kept_by to) []) (sym is)
    (still_moves to (record to { renewed = true }) refl (λ normal. absurd (let clash : Notification ≡ Normal = sym was ∙ normal in cc)))

pub asked_moves : (line : LineState) (request : Request) (moment : ℕ) → Moves (kept_by line) [] (asked line request moment)
unfolding asked replaced
asked_moves line request moment =
    let to : LineState = replaced line request moment in
    let moves = request_moves line request moment line.state (asked line request moment) refl refl (notifies_once.request line request moment) in
    record {
      among =
          subst (λ (xs : List Observed). AreAmong (leaves (asked line request moment)) xs) (sym (append-nil (kept_by line)))
          (among_pass (leaves (asked line request moment)) (kept_by to) (kept_by line)
          (subst (λ (xs : List Observed). AreAmong (leaves (asked line request moment)) xs) (append-nil (kept_by to)) moves.among)
          (replaced_among request.handling.quarantined line));
      drained = moves.drained;
    }

-- what falls due is nothing that a telephone does
pub record MovesOn (line : LineState) (done : LineDone) : Type 0 where
  pub among : AreAmong (of_telephone (leaves done)) (of_telephone (kept_by line))
  pub drained : IsDrained done.line

without_it : (line : LineState) (event : Observed) (done : LineDone) → is_of_telephone event ≡ false → Moves (kept_by line) (event ∷ []) done → MovesOn line done
without_it line event done is moves = record {
  among =
      subst (λ (xs : List Observed). AreAmong (of_telephone (leaves done)) xs)
      (filter-append is_of_telephone (kept_by line) (event ∷ [])
      ∙ ap (λ (xs : List Observed). of_telephone (kept_by line) ++ xs) (ap (λ (b : Bool). if b then event ∷ [] else []) is)
      ∙ append-nil (of_telephone (kept_by line)))
      (among_phone (leaves done) (kept_by line ++ event ∷ []) moves.among);
  drained = moves.drained;
}

ended_moves : (kind : Kind) (signal : Signal) (line : LineState) (moment : ℕ) → IsDrained line → MovesOn line (ended_by kind signal line moment)
ended_moves TimeOut signal line moment drained =
    without_it line (Ended signal) (detected line (Ended signal) moment) refl (detected_moves line (Ended signal) moment drained)
ended_moves Brief signal line moment drained = record { among = among_same (of_telephone (kept_by line)); drained = drained }
ended_moves OnOff signal line moment drained = record { among = among_same (of_telephone (kept_by line)); drained = drained }

pub fired_moves : (line : LineState) (due : LineDue) (moment : ℕ) → IsDrained line → MovesOn line (fired line due moment)
unfolding fired
fired_moves line DigitTimer moment drained =
    let moves = detected_moves (record line { timer = None }) (Happened (events.Letter letters.Timer)) moment drained in
    without_it line (Happened (events.Letter letters.Timer)) (detected (record line { timer = None }) (Happened (events.Letter letters.Timer)) moment) refl
    (record { among = moves.among; drained = moves.drained })
fired_moves line (SignalEnd signal) moment drained =
    let moves = ended_moves (kind_of signal) signal (record line { signals = without signal line.signals }) moment drained in
    record { among = moves.among; drained = moves.drained }

moves_on : (line : LineState) (done : LineDone) → Moves (kept_by line) [] done → MovesOn line done
moves_on line done moves = record {
  among = among_phone (leaves done) (kept_by line)
      (subst (λ (xs : List Observed). AreAmong (leaves done) xs) (append-nil (kept_by line)) moves.among);
  drained = moves.drained;
}

-- The course

pub record ToldInOrder (serving : Bool) (course : List CourseStep) (line : LineState) : Type 0 where
  pub among : IsToldInOrder course line
  pub drained : IsDrained line

-- a call, with what is new in the course, and in what was done
course_moves : (serving : Bool) (course step : List CourseStep) (line : LineState) (done : LineDone) (new : List Observed) → IsToldInOrder course line
    → done_in step ≡ new → told_along step ≡ [] → AreAmong (of_telephone (leaves done)) (of_telephone (kept_by line) ++ new) → IsDrained done.line
    → ToldInOrder serving ((course ++ step) ++ steps_of done.notice) done.line
course_moves serving course step line done new so does tells moves drained = record {
  among =
      let before = of_telephone (told_along course) in
      let told : told_along ((course ++ step) ++ steps_of done.notice) ≡ told_along course ++ told_of done.notice =
      told_both (course ++ step) (steps_of done.notice)
      ∙ ap (λ (x : List Observed). told_along (course ++ step) ++ x) (told_is done.notice)
      ∙ ap (λ (x : List Observed). x ++ told_of done.notice)
      (told_both course step ∙ ap (λ (x : List Observed). told_along course ++ x) tells ∙ append-nil (told_along course)) in
      let did : done_in ((course ++ step) ++ steps_of done.notice) ≡ done_in course ++ new =
      done_both (course ++ step) (steps_of done.notice)
      ∙ ap (λ (x : List Observed). done_in (course ++ step) ++ x) (none_done done.notice)
      ∙ append-nil (done_in (course ++ step))
      ∙ done_both course step
      ∙ ap (λ (x : List Observed). done_in course ++ x) does in
      let left : of_telephone (told_along ((course ++ step) ++ steps_of done.notice)) ++ of_telephone (kept_by done.line)
      ≡ before ++ of_telephone (leaves done) =
      ap (λ (x : List Observed). of_telephone x ++ of_telephone (kept_by done.line)) told
      ∙ ap (λ (x : List Observed). x ++ of_telephone (kept_by done.line)) (filter-append is_of_telephone (told_along course) (told_of done.notice))
      ∙ append_assoc before (of_telephone (told_of done.notice)) (of_telephone (kept_by done.line))
      ∙ ap (λ (x : List Observed). before ++ x) (sym (filter-append is_of_telephone (told_of done.notice) (kept_by done.line))) in
      let grown : AreAmong (before ++ (of_telephone (kept_by line) ++ new)) (done_in course ++ new) =
      subst (λ (x : List Observed). AreAmong x (done_in course ++ new)) (append_assoc before (of_telephone (kept_by line)) new)
      (among_both (before ++ of_telephone (kept_by line)) (done_in course) new new so (among_same new)) in
      let all : AreAmong (before ++ of_telephone (leaves done)) (done_in course ++ new) =
      among_pass (before ++ of_telephone (leaves done)) (before ++ (of_telephone (kept_by line) ++ new)) (done_in course ++ new)
      (among_both before before (of_telephone (leaves done)) (of_telephone (kept_by line) ++ new) (among_same before) moves) grown in
      subst (λ (x : List Observed). AreAmong x (done_in ((course ++ step) ++ steps_of done.notice))) (sym left)
      (subst (λ (x : List Observed). AreAmong (before ++ of_telephone (leaves done)) x) (sym did) all);
  drained = drained;
}

plain_moves : (serving : Bool) (course : List CourseStep) (line : LineState) (done : LineDone) → IsToldInOrder course line → MovesOn line done
    → ToldInOrder serving (course ++ steps_of done.notice) done.line
plain_moves serving course line done so moves =
    subst (λ (c : List CourseStep). ToldInOrder serving (c ++ steps_of done.notice) done.line) (append-nil course)
    (course_moves serving course [] line done [] so refl refl
    (subst (λ (x : List Observed). AreAmong (of_telephone (leaves done)) x) (sym (append-nil (of_telephone (kept_by line)))) moves.among) moves.drained)

-- what is done at a telephone is of it
pub act_of_phone : (act : Act) → is_of_telephone (observed_at act) ≡ true
act_of_phone OffHook = refl
act_of_phone OnHook = refl
act_of_phone Flash = refl
act_of_phone (Key key) = of_key key

act_kept : (line : LineState) (act : Act) → of_telephone (kept_by line ++ observed_at act ∷ []) ≡ of_telephone (kept_by line) ++ observed_at act ∷ []
act_kept line act =
    filter-append is_of_telephone (kept_by line) (observed_at act ∷ [])
    ∙ ap (λ (x : List Observed). of_telephone (kept_by line) ++ x) (ap (λ (b : Bool). if b then observed_at act ∷ [] else []) (act_of_phone act))

pub calls_in_order : Calls ToldInOrder
calls_in_order = record {
  act = λ serving course line act moment told.
      let moves = phoned_moves line act moment told.drained in
      course_moves serving course (acts act ∷ []) line (phoned line act moment) (observed_at act ∷ []) told.among refl refl
      (subst (λ (x : List Observed). AreAmong (of_telephone (leaves (phoned line act moment))) x) (act_kept line act)
      (among_phone (leaves (phoned line act moment)) (kept_by line ++ observed_at act ∷ []) moves.among)) moves.drained;
  request = λ course line request moment told.
      let moves = moves_on line (asked line request moment) (asked_moves line request moment) in
      course_moves true course (accepts request ∷ []) line (asked line request moment) [] told.among refl refl
      (subst (λ (x : List Observed). AreAmong (of_telephone (leaves (asked line request moment))) x) (sym (append-nil (of_telephone (kept_by line)))) moves.among)
      moves.drained;
  answering = λ serving course line moment told.
      plain_moves serving course line (answered line moment) told.among (moves_on line (answered line moment) (answered_moves line moment));
  serving = λ course line moment told.
      plain_moves true course line (opened line moment) told.among (moves_on line (opened line moment) (opened_moves line moment));
  firing = λ serving course line at due moment is told.
      plain_moves serving course line (fired line due moment) told.among (fired_moves line due moment told.drained);
}

pub opening_in_order : ToldInOrder false [] opening_line
opening_in_order = record { among = (0, none); drained = λ normal. absurd cc }

-- what was told alone
pub told_alone : (course : List CourseStep) (line : LineState) → IsToldInOrder course line → AreAmong (of_telephone (told_along course)) (done_in course)
told_alone course line so =
    among_pass (of_telephone (told_along course)) (of_telephone (told_along course) ++ of_telephone (kept_by line)) (done_in course)
    (among_front (of_telephone (told_along course)) (of_telephone (kept_by line))) so
