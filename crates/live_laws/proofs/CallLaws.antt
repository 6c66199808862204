-- Both ends of a call name each other, whatever happens.
use Rattle.std.proofs.Common.{◌≡◌, ◌≢◌, ℕ, ◌+◌, Bool, true, false, List, [], ◌∷◌, Option, Some, None, refl, sym, ap, subst, ◌∙◌}
use Rattle.std.specs.Prelude.{not, nat_lt, slice_get, slice_set, if◌then◌else◌}
use Rattle.packages.specs.declared.hook.Hook.{Hook}
use Rattle.packages.specs.declared.hook.Hook.TheVariants as hooks
use Rattle.call_processing.specs.declared.phase.Part.{Part}
use Rattle.call_processing.specs.declared.phase.Tone.{Tone}
use Rattle.call_processing.specs.declared.phase.Tone.TheVariants.{Busy, Reorder}
use Rattle.call_processing.specs.declared.phase.Phase.{Phase}
use Rattle.call_processing.specs.declared.phase.Phase.TheVariants.{Resting, Dialling, Hearing, InCall}
use Rattle.call_processing.specs.declared.told.Told.{Told}
use Rattle.call_processing.specs.declared.told.Told.TheVariants.{OffHook, OnHook, Flash, Dialled, TimedOut, Restarted, Disconnected}
use Rattle.call_processing.specs.declared.command.Command.{Command}
use Rattle.call_processing.specs.Phases.{other_end, left, rings, ringing_in, is_in_call, is_free, is_in, waits}
use Rattle.call_processing.specs.Calls.{CallState, joined, parted, cut_off, cut_off_in, turned, answered_by, picked_up, hearing, greatest_call, caller_of, begun, put_through, reached, dialled, dialled_in, given_up_in, timed_out, heard, failed, found, found_in}
use Rattle.call_processing.specs.Line.{failing, finding}
use Rattle.call_processing.specs.Exchange.{ExchangeState, opening, phase_of, line_of, flight_in, told, fate_at, answered, cleared_at, due, sent_by, sent_to}
use Rattle.live_laws.specs.CallTurns.{Turn, tells, answers, sends, clears, after_one, after}
use Rattle.call_processing.proofs.ElementLemmas.{set_here, set_other, set_still}
use Rattle.live_laws.proofs.PhaseLemmas.{AreMutual, same_part, not_itself, left_free, free_here, free_still, unnamed, named_once, named_once_there, set_mutual, parted_mutual, joined_mutual, resting_mutual}

-- A line that is in no call

free_mutual : (phases : List Phase) (line : ℕ) (phase : Phase) → is_in_call (Some phase) ≡ false → is_in_call (slice_get phases line) ≡ false
    → AreMutual phases → AreMutual (slice_set phases line phase)
free_mutual phases line phase free was named =
    set_mutual phases line phase free (λ (of : ℕ) (part : Part) (e : slice_get phases of ≡ Some (InCall part)) (apart : line ≢ of). unnamed phases line of part named was e) named

-- A call is over

over_mutual : (tone : Tone) (phases : List Phase) (line : ℕ) (part : Part) → slice_get phases line ≡ Some (InCall part) → AreMutual phases
    → AreMutual (parted tone phases line part)
over_mutual tone phases line part e named =
    parted_mutual phases line part (left tone part) (left tone (other_end line part)) (left_free tone part) (left_free tone (other_end line part)) e named

cut_by : (tone : Tone) (phases : List Phase) (line : ℕ) (found : Option Phase) → slice_get phases line ≡ found → AreMutual phases
    → AreMutual (cut_off_in tone phases line found)
cut_by tone phases line (Some (InCall part)) e named = over_mutual tone phases line part e named
cut_by tone phases line (Some Resting) e named = named
cut_by tone phases line (Some Dialling) e named = named
cut_by tone phases line (Some (Hearing other)) e named = named
cut_by tone phases line None e named = named

pub cut_mutual : (tone : Tone) (phases : List Phase) (line : ℕ) → AreMutual phases → AreMutual (cut_off tone phases line)
unfolding cut_off
cut_mutual tone phases line named = cut_by tone phases line (slice_get phases line) refl named

cut_free_by : (tone : Tone) (phases : List Phase) (line : ℕ) (found : Option Phase) → slice_get phases line ≡ found
    → is_in_call (slice_get (cut_off_in tone phases line found) line) ≡ false
cut_free_by tone phases line (Some (InCall part)) e =
    free_still (slice_set phases line (left tone part)) part.other line (left tone (other_end line part)) (left_free tone (other_end line part))
    (free_here phases line (left tone part) (left_free tone part))
cut_free_by tone phases line (Some Resting) e = ap is_in_call e
cut_free_by tone phases line (Some Dialling) e = ap is_in_call e
cut_free_by tone phases line (Some (Hearing other)) e = ap is_in_call e
cut_free_by tone phases line None e = ap is_in_call e

pub cut_free : (tone : Tone) (phases : List Phase) (line : ℕ) → is_in_call (slice_get (cut_off tone phases line) line) ≡ false
unfolding cut_off
cut_free tone phases line = cut_free_by tone phases line (slice_get phases line) refl

turned_mutual : (tone : Tone) (phases : List Phase) (line : ℕ) (phase : Phase) → is_in_call (Some phase) ≡ false → AreMutual phases
    → AreMutual (turned tone phases line phase)
turned_mutual tone phases line phase free named =
    free_mutual (cut_off tone phases line) line phase free (cut_free tone phases line) (cut_mutual tone phases line named)

-- Off hook

answer_mutual : (phases : List Phase) (line : ℕ) (part : Part) → slice_get phases line ≡ Some (InCall part) → AreMutual phases
    → AreMutual (joined phases line (record part { answered = true }))
answer_mutual phases line part e named =
    joined_mutual phases line (record part { answered = true }) (InCall part) (InCall (other_end line part))
    (λ (same : line ≡ part.other). not_itself phases line part named e (sym same)) e (named line part e)
    (λ (of : ℕ) (its : Part) (is : slice_get phases of ≡ Some (InCall its)) (far : line ≢ of) (far_too : part.other ≢ of).
    (named_once phases line of part its named e is far_too, named_once_there phases line of part its named e is far))
    named

picked_ringing : (phases : List Phase) (line : ℕ) (part : Part) (b : Bool) → slice_get phases line ≡ Some (InCall part) → AreMutual phases
    → AreMutual (answered_by phases line (if b then Some part else None))
picked_ringing phases line part true e named = answer_mutual phases line part e named
picked_ringing phases line part false e named = turned_mutual Busy phases line Dialling refl named

picked_by : (phases : List Phase) (line : ℕ) (found : Option Phase) → slice_get phases line ≡ found → AreMutual phases
    → AreMutual (answered_by phases line (ringing_in found))
picked_by phases line (Some (InCall part)) e named = picked_ringing phases line part (rings part) e named
picked_by phases line (Some Resting) e named = turned_mutual Busy phases line Dialling refl named
picked_by phases line (Some Dialling) e named = turned_mutual Busy phases line Dialling refl named
picked_by phases line (Some (Hearing tone)) e named = turned_mutual Busy phases line Dialling refl named
picked_by phases line None e named = turned_mutual Busy phases line Dialling refl named

picked_mutual : (phases : List Phase) (line : ℕ) → AreMutual phases → AreMutual (picked_up phases line)
unfolding picked_up
picked_mutual phases line named = picked_by phases line (slice_get phases line) refl named

-- Digits

apart_from_free : (phases : List Phase) (line other : ℕ) → slice_get phases line ≡ Some Dialling → slice_get phases other ≡ Some Resting → line ≢ other
apart_from_free phases line other here there same =
    let both : ◌≡◌ {A = Option Phase} (Some Dialling) (Some Resting) = sym here ∙ ap (slice_get phases) same ∙ there in
    absurd cc

begun_mutual : (calls : CallState) (line other : ℕ) → slice_get calls.phases line ≡ Some Dialling → slice_get calls.phases other ≡ Some Resting
    → AreMutual calls.phases → AreMutual (begun calls line other).phases
begun_mutual calls line other here there named =
    joined_mutual calls.phases line (caller_of (calls.last + 1) other) Dialling Resting (apart_from_free calls.phases line other here there) here there
    (λ (of : ℕ) (its : Part) (is : slice_get calls.phases of ≡ Some (InCall its)) (far : line ≢ of) (far_too : other ≢ of).
    (unnamed calls.phases line of its named (ap is_in_call here) is, unnamed calls.phases other of its named (ap is_in_call there) is))
    named

hearing_mutual : (tone : Tone) (calls : CallState) (line : ℕ) → slice_get calls.phases line ≡ Some Dialling → AreMutual calls.phases
    → AreMutual (hearing tone calls line).phases
hearing_mutual tone calls line here named = free_mutual calls.phases line (Hearing tone) refl (ap is_in_call here) named

through_by : (calls : CallState) (line other : ℕ) (b : Bool) → slice_get calls.phases line ≡ Some Dialling → slice_get calls.phases other ≡ Some Resting
    → AreMutual calls.phases → AreMutual (if b then begun calls line other else hearing Reorder calls line).phases
through_by calls line other true here there named = begun_mutual calls line other here there named
through_by calls line other false here there named = hearing_mutual Reorder calls line here named

through_mutual : (calls : CallState) (line other : ℕ) → slice_get calls.phases line ≡ Some Dialling → slice_get calls.phases other ≡ Some Resting
    → AreMutual calls.phases → AreMutual (put_through calls line other).phases
unfolding put_through
through_mutual calls line other here there named = through_by calls line other (nat_lt calls.last greatest_call) here there named

reached_by : (calls : CallState) (line other : ℕ) (found : Option Phase) → slice_get calls.phases other ≡ found
    → slice_get calls.phases line ≡ Some Dialling → AreMutual calls.phases
    → AreMutual (if is_free found then put_through calls line other else hearing Busy calls line).phases
reached_by calls line other (Some Resting) e here named = through_mutual calls line other here e named
reached_by calls line other (Some Dialling) e here named = hearing_mutual Busy calls line here named
reached_by calls line other (Some (Hearing tone)) e here named = hearing_mutual Busy calls line here named
reached_by calls line other (Some (InCall part)) e here named = hearing_mutual Busy calls line here named
reached_by calls line other None e here named = hearing_mutual Busy calls line here named

reached_mutual : (calls : CallState) (line : ℕ) (to : Option ℕ) → slice_get calls.phases line ≡ Some Dialling → AreMutual calls.phases
    → AreMutual (reached calls line to).phases
unfolding reached
reached_mutual calls line None here named = hearing_mutual Reorder calls line here named
reached_mutual calls line (Some other) here named = reached_by calls line other (slice_get calls.phases other) refl here named

dialled_by : (calls : CallState) (line : ℕ) (to : Option ℕ) (found : Option Phase) → slice_get calls.phases line ≡ found → AreMutual calls.phases
    → AreMutual (dialled_in calls line to found).phases
dialled_by calls line to (Some Dialling) e named = reached_mutual calls line to e named
dialled_by calls line to (Some Resting) e named = named
dialled_by calls line to (Some (Hearing tone)) e named = named
dialled_by calls line to (Some (InCall part)) e named = named
dialled_by calls line to None e named = named

dialled_mutual : (calls : CallState) (line : ℕ) (to : Option ℕ) → AreMutual calls.phases → AreMutual (dialled calls line to).phases
unfolding dialled
dialled_mutual calls line to named = dialled_by calls line to (slice_get calls.phases line) refl named

-- What takes too long

timed_call : (phases : List Phase) (line : ℕ) (part : Part) (b : Bool) → slice_get phases line ≡ Some (InCall part) → AreMutual phases
    → AreMutual (if not b then parted Reorder phases line part else phases)
timed_call phases line part true e named = named
timed_call phases line part false e named = over_mutual Reorder phases line part e named

timed_by : (phases : List Phase) (line : ℕ) (found : Option Phase) → slice_get phases line ≡ found → AreMutual phases
    → AreMutual (if waits found then given_up_in phases line found else phases)
timed_by phases line (Some (InCall part)) e named = timed_call phases line part part.answered e named
timed_by phases line (Some Dialling) e named = free_mutual phases line (Hearing Reorder) refl (ap is_in_call e) named
timed_by phases line (Some Resting) e named = named
timed_by phases line (Some (Hearing tone)) e named = named
timed_by phases line None e named = named

timed_mutual : (phases : List Phase) (line : ℕ) → AreMutual phases → AreMutual (timed_out phases line)
unfolding timed_out
timed_mutual phases line named = timed_by phases line (slice_get phases line) refl named

-- What lines tell, and gateways

heard_mutual : (calls : CallState) (line : ℕ) (event : Told) → AreMutual calls.phases → AreMutual (heard calls line event).phases
unfolding heard
heard_mutual calls line OffHook named = picked_mutual calls.phases line named
heard_mutual calls line OnHook named = turned_mutual Busy calls.phases line Resting refl named
heard_mutual calls line Flash named = named
heard_mutual calls line (Dialled to) named = dialled_mutual calls line to named
heard_mutual calls line TimedOut named = timed_mutual calls.phases line named
heard_mutual calls line Restarted named = turned_mutual Reorder calls.phases line Resting refl named
heard_mutual calls line Disconnected named = named

failed_by : (phases : List Phase) (line : ℕ) (b : Bool) → AreMutual phases → AreMutual (if b then cut_off Reorder phases line else phases)
failed_by phases line true named = cut_mutual Reorder phases line named
failed_by phases line false named = named

pub failed_mutual : (phases : List Phase) (line : ℕ) (call : Option ℕ) → AreMutual phases → AreMutual (failed phases line call)
unfolding failed
failed_mutual phases line None named = named
failed_mutual phases line (Some call) named = failed_by phases line (is_in call (slice_get phases line)) named

found_free : (phases : List Phase) (line : ℕ) (hook : Hook) → AreMutual phases → AreMutual (found_in phases line hook None)
found_free phases line hooks.OnHook named = turned_mutual Busy phases line Resting refl named
found_free phases line hooks.OffHook named = named

found_ringing : (phases : List Phase) (line : ℕ) (hook : Hook) (part : Part) (b : Bool) → slice_get phases line ≡ Some (InCall part) → AreMutual phases
    → AreMutual (found_in phases line hook (if b then Some part else None))
found_ringing phases line hook part false e named = found_free phases line hook named
found_ringing phases line hooks.OnHook part true e named = named
found_ringing phases line hooks.OffHook part true e named = over_mutual Busy phases line part e named

found_by : (phases : List Phase) (line : ℕ) (hook : Hook) (at : Option Phase) → slice_get phases line ≡ at → AreMutual phases
    → AreMutual (found_in phases line hook (ringing_in at))
found_by phases line hook (Some (InCall part)) e named = found_ringing phases line hook part (rings part) e named
found_by phases line hook (Some Resting) e named = found_free phases line hook named
found_by phases line hook (Some Dialling) e named = found_free phases line hook named
found_by phases line hook (Some (Hearing tone)) e named = found_free phases line hook named
found_by phases line hook None e named = found_free phases line hook named

pub found_mutual : (phases : List Phase) (line : ℕ) (hook : Option Hook) → AreMutual phases → AreMutual (found phases line hook)
unfolding found
found_mutual phases line None named = named
found_mutual phases line (Some hook) named = found_by phases line hook (slice_get phases line) refl named

-- Turns

sent_phases : (exchange : ExchangeState) (line : ℕ) (command : Option Command) → (sent_by exchange line command).calls.phases ≡ exchange.calls.phases
sent_phases exchange line None = refl
sent_phases exchange line (Some command) = refl

pub sent_to_phases : (exchange : ExchangeState) (line : ℕ) → (sent_to exchange line).calls.phases ≡ exchange.calls.phases
unfolding sent_to
sent_to_phases exchange line = sent_phases exchange line (due exchange line)

pub one_mutual : (exchange : ExchangeState) (turn : Turn) → AreMutual exchange.calls.phases → AreMutual (after_one exchange turn).calls.phases
unfolding told answered cleared_at
one_mutual exchange (tells line event) named = heard_mutual exchange.calls line event named
one_mutual exchange (answers line outcome) named =
    let flight = flight_in (line_of exchange line) in
    let hook = finding flight outcome in
    failed_mutual (found exchange.calls.phases line hook) line (failing flight (fate_at exchange line outcome))
    (found_mutual exchange.calls.phases line hook named)
one_mutual exchange (sends line) named = subst AreMutual (sym (sent_to_phases exchange line)) named
one_mutual exchange (clears line code) named = named

pub after_mutual : (exchange : ExchangeState) (turns : List Turn) → AreMutual exchange.calls.phases → AreMutual (after exchange turns).calls.phases
unfolding after
after_mutual exchange [] named = named
after_mutual exchange (turn ∷ turns) named = after_mutual (after_one exchange turn) turns (one_mutual exchange turn named)

pub always_mutual : (count last : ℕ) (turns : List Turn) → AreMutual (after (opening count last) turns).calls.phases
always_mutual count last turns = after_mutual (opening count last) turns (resting_mutual count)

-- The laws

pub name_each_other : (count last line : ℕ) (turns : List Turn) (part : Part) → phase_of (after (opening count last) turns) line ≡ Some (InCall part)
    → phase_of (after (opening count last) turns) part.other ≡ Some (InCall (other_end line part))
name_each_other count last line turns part e = always_mutual count last turns line part e

pub one_call : (count last line other : ℕ) (turns : List Turn) (part its : Part) → phase_of (after (opening count last) turns) line ≡ Some (InCall part)
    → phase_of (after (opening count last) turns) other ≡ Some (InCall its) → part.other ≡ its.other → line ≡ other
one_call count last line other turns part its here there same =
    let phases = (after (opening count last) turns).calls.phases in
    let named = always_mutual count last turns in
    ap (λ (p : Part). p.other)
    (same_part (other_end line part) (other_end other its) (sym (named line part here) ∙ ap (slice_get phases) same ∙ named other its there))

pub never_itself : (count last line : ℕ) (turns : List Turn) (part : Part) → phase_of (after (opening count last) turns) line ≡ Some (InCall part) → part.other ≢ line
never_itself count last line turns part e = not_itself (after (opening count last) turns).calls.phases line part (always_mutual count last turns) e

-- On hook

still_by : (tone : Tone) (phases : List Phase) (line of : ℕ) (was : Phase) (found : Option Phase) → slice_get phases of ≡ Some was
    → (is : Phase) × (slice_get (cut_off_in tone phases line found) of ≡ Some is)
still_by tone phases line of was (Some (InCall part)) e =
    let one = set_still phases line of (left tone part) was e in
    set_still (slice_set phases line (left tone part)) part.other of (left tone (other_end line part)) one.0 one.1
still_by tone phases line of was (Some Resting) e = (was, e)
still_by tone phases line of was (Some Dialling) e = (was, e)
still_by tone phases line of was (Some (Hearing other)) e = (was, e)
still_by tone phases line of was None e = (was, e)

turned_here : (tone : Tone) (phases : List Phase) (line : ℕ) (was phase : Phase) → slice_get phases line ≡ Some was
    → slice_get (turned tone phases line phase) line ≡ Some phase
unfolding cut_off
turned_here tone phases line was phase e =
    let still = still_by tone phases line line was (slice_get phases line) e in
    set_here (cut_off tone phases line) line phase still.0 still.1

pub rests_then : (exchange : ExchangeState) (line : ℕ) (phase : Phase) → phase_of exchange line ≡ Some phase
    → phase_of (told exchange line OnHook) line ≡ Some Resting
unfolding told heard
rests_then exchange line phase e = turned_here Busy exchange.calls.phases line phase Resting e

pub rests_after_restart : (exchange : ExchangeState) (line : ℕ) (phase : Phase) → phase_of exchange line ≡ Some phase
    → phase_of (told exchange line Restarted) line ≡ Some Resting
unfolding told heard
rests_after_restart exchange line phase e = turned_here Reorder exchange.calls.phases line phase Resting e

cut_there : (tone : Tone) (phases : List Phase) (line : ℕ) (part : Part) → slice_get phases line ≡ Some (InCall part) → AreMutual phases
    → slice_get (cut_off tone phases line) part.other ≡ Some (left tone (other_end line part))
unfolding cut_off
cut_there tone phases line part e named =
    let apart : line ≢ part.other = λ (same : line ≡ part.other). not_itself phases line part named e (sym same) in
    ap (λ (found : Option Phase). slice_get (cut_off_in tone phases line found) part.other) e
    ∙ set_here (slice_set phases line (left tone part)) part.other (left tone (other_end line part)) (InCall (other_end line part))
    (set_other phases line part.other (left tone part) apart ∙ named line part e)

turned_there : (tone : Tone) (phases : List Phase) (line : ℕ) (part : Part) → slice_get phases line ≡ Some (InCall part) → AreMutual phases
    → slice_get (turned tone phases line Resting) part.other ≡ Some (left tone (other_end line part))
turned_there tone phases line part e named =
    set_other (cut_off tone phases line) line part.other Resting (λ (same : line ≡ part.other). not_itself phases line part named e (sym same))
    ∙ cut_there tone phases line part e named

other_left : (exchange : ExchangeState) (line : ℕ) (part : Part) → AreMutual exchange.calls.phases → phase_of exchange line ≡ Some (InCall part)
    → phase_of (told exchange line OnHook) part.other ≡ Some (left Busy (other_end line part))
unfolding told heard
other_left exchange line part named e = turned_there Busy exchange.calls.phases line part e named

left_by_restart : (exchange : ExchangeState) (line : ℕ) (part : Part) → AreMutual exchange.calls.phases → phase_of exchange line ≡ Some (InCall part)
    → phase_of (told exchange line Restarted) part.other ≡ Some (left Reorder (other_end line part))
unfolding told heard
left_by_restart exchange line part named e = turned_there Reorder exchange.calls.phases line part e named

pub other_left_always : (count last line : ℕ) (turns : List Turn) (part : Part) → phase_of (after (opening count last) turns) line ≡ Some (InCall part)
    → phase_of (told (after (opening count last) turns) line OnHook) part.other ≡ Some (left Busy (other_end line part))
other_left_always count last line turns part e = other_left (after (opening count last) turns) line part (always_mutual count last turns) e

pub left_by_restart_always : (count last line : ℕ) (turns : List Turn) (part : Part) → phase_of (after (opening count last) turns) line ≡ Some (InCall part)
    → phase_of (told (after (opening count last) turns) line Restarted) part.other ≡ Some (left Reorder (other_end line part))
left_by_restart_always count last line turns part e = left_by_restart (after (opening count last) turns) line part (always_mutual count last turns) e
