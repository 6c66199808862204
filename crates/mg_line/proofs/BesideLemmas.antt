-- What occurs does the same whatever is quarantined, so that quarantined events can stand elsewhere until they have occurred.
use Rattle.std.proofs.Common.{◌≡◌, ℕ, zero, suc, ◌+◌, ◌-◌, ◌<◌, ◌≤◌, nat_le, Bool, true, false, List, [], ◌∷◌, ◌++◌, length, drop, refl, sym, ap, ◌∙◌, arith}
use Rattle.std.specs.Prelude.{Option, Some, None, if◌then◌else◌, slice_get}
use Rattle.std.proofs.lemmas.List.{drop_all}
use Rattle.mg_bytes.specs.declared.letter.Letter.{Letter}
use Rattle.digit_map.specs.declared.verdict.Verdict.{Verdict}
use Rattle.digit_map.specs.declared.verdict.Verdict.TheVariants.{Perfect, Partial, Impossible}
use Rattle.packages.specs.declared.observed.Observed.{Observed}
use Rattle.event_syntax.specs.declared.request.Action.TheVariants.{Notify, Accumulate, Dial, Ignore}
use Rattle.event_syntax.specs.declared.request.Reaction.{Reaction}
use Rattle.event_syntax.specs.declared.request.Reaction.TheVariants.{Plain, Embed, AccumulateAndEmbed}
use Rattle.events_and_signals.specs.Choice.{Chosen, chosen}
use Rattle.events_and_signals.specs.Naming.{event_of}
use Rattle.events_and_signals.specs.Held.{Held, without_front, nothing_held, cleared}
use Rattle.events_and_signals.specs.declared.request.Request.{Request}
use Rattle.machine_rules.specs.declared.state.State.TheVariants.{Normal}
use Rattle.machine_rules.specs.Rules.{ends_drain, discards}
use Rattle.mg_line.specs.Line.{LineState, Notice, LineDone, still, most_accumulated}
use Rattle.mg_line.specs.Occurring.{notified, notified_if_full, with_event, letter_of, timed, judged, with_letter, dialled_by, embedded, acted, signals_after, occurred, verdict_by}
use Rattle.mg_line.specs.Detecting.{unless_notified, drained_of, drained, resumed, with_held, beside}
use Rattle.mg_line.specs.Requesting.{replaced}
use Rattle.mg_line.proofs.DrainLemmas.{onward}

-- An event that occurs

either_beside : (held : Held) (b : Bool) (one other one' other' : LineDone) → one' ≡ beside held one → other' ≡ beside held other
    → (if b then one' else other') ≡ beside held (if b then one else other)
either_beside held true one other one' other' h k = h
either_beside held false one other one' other' h k = k

full_beside : (held : Held) (line : LineState) → notified_if_full (with_held held line) ≡ beside held (notified_if_full line)
unfolding notified_if_full notified
full_beside held line =
    either_beside held (nat_le most_accumulated (length line.accumulated)) (notified line) (still line) (notified (with_held held line)) (still (with_held held line)) refl refl

judged_beside : (held : Held) (verdict : Verdict) (line : LineState) (letter : Letter) (moment : ℕ)
    → judged verdict (with_held held line) letter moment ≡ beside held (judged verdict line letter moment)
unfolding timed notified
judged_beside held Perfect line letter moment = refl
judged_beside held Impossible line letter moment = refl
judged_beside held Partial line letter moment = full_beside held (timed line letter moment)

dialled_beside : (held : Held) (letter : Option Letter) (line : LineState) (moment : ℕ)
    → dialled_by letter (with_held held line) moment ≡ beside held (dialled_by letter line moment)
unfolding with_letter
dialled_beside held None line moment = full_beside held line
dialled_beside held (Some letter) line moment =
    judged_beside held (verdict_by line.digit_map (line.dialled ++ letter ∷ [])) (record line { dialled = line.dialled ++ letter ∷ [] }) letter moment

acted_beside : (held : Held) (reaction : Reaction) (line : LineState) (event : Observed) (moment : ℕ)
    → acted reaction (with_held held line) event moment ≡ beside held (acted reaction line event moment)
unfolding acted embedded notified
acted_beside held (Plain Ignore) line event moment = refl
acted_beside held (Plain Notify) line event moment = refl
acted_beside held (Plain Accumulate) line event moment = full_beside held (with_event line event)
acted_beside held (Plain Dial) line event moment = dialled_beside held (letter_of (event_of event)) (with_event line event) moment
acted_beside held (Embed request) line event moment = refl
acted_beside held (AccumulateAndEmbed request) line event moment = full_beside held (embedded (with_event line event) request moment)

occurred_beside : (held : Held) (line : LineState) (event : Observed) (moment : ℕ) → occurred (with_held held line) event moment ≡ beside held (occurred line event moment)
unfolding occurred
occurred_beside held line event moment =
    let choice : Chosen = chosen line.requests.requested (event_of event) in
    acted_beside held choice.reaction (signals_after choice line) event moment

-- The events before which so many came

some_same : (a b : Observed) → Some a ≡ Some b → a ≡ b
some_same a b e = cc

pub got_drop : (events : List Observed) (count : ℕ) (event : Observed) → Some event ≡ slice_get events count → drop count events ≡ event ∷ drop (count + 1) events
got_drop [] count event e = cc
got_drop (one ∷ more) zero event e = ap (λ (x : Observed). x ∷ more) (sym (some_same event one e))
got_drop (one ∷ more) (suc count) event e =
    let next : suc (count + 1) ≡ suc count + 1 = omega arith in
    got_drop more count event e ∙ ap (λ (n : ℕ). event ∷ drop n (one ∷ more)) next

none_drop : (events : List Observed) (count : ℕ) → None ≡ slice_get events count → drop count events ≡ []
none_drop [] zero e = refl
none_drop [] (suc count) e = refl
none_drop (one ∷ more) zero e = cc
none_drop (one ∷ more) (suc count) e = none_drop more count e

inside_from : (events : List Observed) (count : ℕ) (event : Observed) → Some event ≡ slice_get events count → count < length events
inside_from [] count event e = cc
inside_from (one ∷ more) zero event e = omega arith
inside_from (one ∷ more) (suc count) event e = omega (arith, inside_from more count event e)

-- What those that are left do

-- those before which so many came are quarantined on the line
abbrev pub left_of : ℕ → Held → LineState → ℕ → LineDone
left_of count held line moment = drained_of (drop count held.events) (with_held (without_front count held) line) moment

-- one of them occurs
pub record Occurs (count : ℕ) (held : Held) (line after : LineState) (event : Observed) (moment : ℕ) (notice : Option Notice) : Type 0 where
  pub found : Some event ≡ slice_get held.events count
  pub done : record { line = after; notice = notice } ≡ occurred line event moment

drop_next : (events : List Observed) (held : Held) (line : LineState) (event : Observed) (rest : List Observed) (moment : ℕ) → events ≡ event ∷ rest
    → drained_of events (with_held (record held { events = events }) line) moment ≡ onward rest moment (beside (record held { events = rest }) (occurred line event moment))
unfolding drained_of
drop_next events held line event rest moment e =
    ap (λ (x : List Observed). drained_of x (with_held (record held { events = x }) line) moment) e
    ∙ ap (onward rest moment) (occurred_beside (record held { events = rest }) line event moment)

one_on : (count : ℕ) (held : Held) (line after : LineState) (event : Observed) (moment : ℕ) (notice : Option Notice) → Occurs count held line after event moment notice
    → left_of count held line moment ≡ onward (drop (count + 1) held.events) moment (beside (without_front (count + 1) held) (record { line = after; notice = notice }))
one_on count held line after event moment notice h =
    drop_next (drop count held.events) held line event (drop (count + 1) held.events) moment (got_drop held.events count event h.found)
    ∙ ap (λ (d : LineDone). onward (drop (count + 1) held.events) moment (beside (without_front (count + 1) held) d)) (sym h.done)

pub beside_stops : (count : ℕ) (held : Held) (line after : LineState) (event : Observed) (moment : ℕ) (notice : Option Notice) (all : LineDone)
    → Occurs count held line after event moment notice → ends_drain notice ≡ true → left_of count held line moment ≡ all
    → all ≡ beside (without_front (count + 1) held) (record { line = after; notice = notice })
beside_stops count held line after event moment None all h told whole = cc
beside_stops count held line after event moment (Some notice) all h told whole = sym whole ∙ one_on count held line after event moment (Some notice) h

pub beside_goes : (count : ℕ) (held : Held) (line after : LineState) (event : Observed) (moment : ℕ) (notice : Option Notice) (all : LineDone)
    → Occurs count held line after event moment notice → ends_drain notice ≡ false → left_of count held line moment ≡ all → left_of (count + 1) held after moment ≡ all
beside_goes count held line after event moment (Some notice) all h told whole = cc
beside_goes count held line after event moment None all h told whole = sym (one_on count held line after event moment None h) ∙ whole

pub beside_ends : (count : ℕ) (held : Held) (line : LineState) (moment : ℕ) (all : LineDone) → None ≡ slice_get held.events count → left_of count held line moment ≡ all
    → all ≡ beside (without_front count held) (still line)
unfolding drained_of
beside_ends count held line moment all none whole =
    sym whole ∙ ap (λ (x : List Observed). drained_of x (with_held (without_front count held) line) moment) (none_drop held.events count none)

pub beside_less : (count : ℕ) (held : Held) (line after : LineState) (event : Observed) (moment : ℕ) (notice : Option Notice) → Occurs count held line after event moment notice
    → length held.events - (count + 1) < length held.events - count
beside_less count held line after event moment notice h = omega (arith, inside_from held.events count event h.found)

pub beside_inside : (events : List Observed) (count : ℕ) (event : Observed) → Some event ≡ slice_get events count → count < length events
beside_inside events count event e = inside_from events count event e

pub beside_first : (held : Held) (line : LineState) (moment : ℕ) → left_of 0 held line moment ≡ drained (with_held held line) moment
unfolding drained
beside_first held line moment = refl

-- A line that goes on

pub beside_resumed : (held : Held) (line : LineState) (moment : ℕ) (done : LineDone) → drained (with_held held (record line { state = Normal })) moment ≡ done
    → resumed (with_held held line) moment ≡ done
unfolding resumed
beside_resumed held line moment done h = h

-- and one that a request came to
replaced_beside : (drops : Bool) (held : Held) (line after : LineState) (request : Request) (moment : ℕ) → discards request.handling.quarantined ≡ drops
    → after ≡ replaced line request moment → with_held (if drops then cleared held else held) after ≡ replaced (with_held held line) request moment
unfolding replaced
replaced_beside drops held line after request moment same done =
    ap (with_held (if drops then cleared held else held)) done
    ∙ ap (λ (b : Bool). with_held (if b then cleared held else held) (replaced line request moment)) (sym same)

pub process_beside : (held : Held) (line after : LineState) (request : Request) (moment : ℕ) (done : LineDone) → discards request.handling.quarantined ≡ false → after ≡ replaced line request moment
    → resumed (with_held held after) moment ≡ done → resumed (replaced (with_held held line) request moment) moment ≡ done
process_beside held line after request moment done same is h =
    ap (λ (l : LineState). resumed l moment) (sym (replaced_beside false held line after request moment same is)) ∙ h

pub discard_beside : (held : Held) (line after : LineState) (request : Request) (moment count : ℕ) → discards request.handling.quarantined ≡ true → after ≡ replaced line request moment
    → length held.events ≤ count → resumed (replaced (with_held held line) request moment) moment ≡ beside (without_front count held) (still (record after { state = Normal }))
unfolding resumed drained drained_of
discard_beside held line after request moment count same is all =
    ap (λ (l : LineState). resumed l moment) (sym (replaced_beside true held line after request moment same is))
    ∙ ap (λ (x : List Observed). beside (record held { events = x }) (still (record after { state = Normal }))) (sym (drop_all count held.events all))
