-- What happens to a line concerns its call alone: another line, which is at the other end neither before nor behind it, stays as it is.
use Rattle.std.proofs.Common.{◌≡◌, ◌≢◌, ℕ, ◌+◌, Bool, true, false, List, Option, Some, None, refl, sym, ap, ◌∙◌}
use Rattle.std.specs.Prelude.{nat_lt, slice_get, slice_set, if◌then◌else◌}
use Rattle.std.proofs.lemmas.Bool.{true≢false}
use Rattle.packages.specs.declared.hook.Hook.{Hook}
use Rattle.packages.specs.declared.hook.Hook.TheVariants as hooks
use Rattle.call_processing.specs.declared.phase.Part.{Part}
use Rattle.call_processing.specs.declared.phase.Tone.{Tone}
use Rattle.call_processing.specs.declared.phase.Tone.TheVariants.{Busy, Reorder}
use Rattle.call_processing.specs.declared.phase.Phase.{Phase}
use Rattle.call_processing.specs.declared.phase.Phase.TheVariants.{Resting, Dialling, Hearing, InCall}
use Rattle.call_processing.specs.declared.told.Told.{Told}
use Rattle.call_processing.specs.declared.told.Told.TheVariants.{OffHook, OnHook, Flash, Dialled, TimedOut, Restarted, Disconnected}
use Rattle.call_processing.specs.declared.command.Outcome.{Outcome}
use Rattle.call_processing.specs.declared.line.Line.{Line}
use Rattle.call_processing.specs.Phases.{other_end, named_by, left, rings, ringing_in, is_free, is_in_call, is_in, waits}
use Rattle.call_processing.specs.Calls.{CallState, joined, parted, cut_off, cut_off_in, turned, answered_by, picked_up, hearing, greatest_call, caller_of, begun, put_through, reached, dialled, dialled_in, given_up_in, timed_out, heard, failed, found, found_in}
use Rattle.call_processing.specs.Line.{landed, failing, finding, heard_on}
use Rattle.call_processing.specs.Next.{line_stands, is_ready, next_of}
use Rattle.call_processing.specs.Exchange.{ExchangeState, opening, phase_of, line_of, flight_in, told, fate_at, answered, due_by, due}
use Rattle.live_laws.specs.CallTurns.{Turn, after, IsApart, IsAsBefore}
use Rattle.call_processing.proofs.ElementLemmas.{set_here, set_other, changed_other}
use Rattle.live_laws.proofs.PhaseLemmas.{AreMutual, left_free, free_here, free_still}
use Rattle.live_laws.proofs.CallLaws.{always_mutual}

-- it isn't at the other end
abbrev IsFar : Option Phase → ℕ → Type 0
IsFar found k = named_by found ≢ Some k

-- Phases

joined_far : (phases : List Phase) (line k : ℕ) (part : Part) → line ≢ k → part.other ≢ k
    → slice_get (joined phases line part) k ≡ slice_get phases k
joined_far phases line k part apart far =
    set_other (slice_set phases line (InCall part)) part.other k (InCall (other_end line part)) far
    ∙ set_other phases line k (InCall part) apart

parted_far : (tone : Tone) (phases : List Phase) (line k : ℕ) (part : Part) → line ≢ k → part.other ≢ k
    → slice_get (parted tone phases line part) k ≡ slice_get phases k
parted_far tone phases line k part apart far =
    set_other (slice_set phases line (left tone part)) part.other k (left tone (other_end line part)) far
    ∙ set_other phases line k (left tone part) apart

cut_by : (tone : Tone) (phases : List Phase) (line k : ℕ) (there : Option Phase) → line ≢ k → IsFar there k
    → slice_get (cut_off_in tone phases line there) k ≡ slice_get phases k
cut_by tone phases line k (Some (InCall part)) apart far =
    parted_far tone phases line k part apart (λ (same : part.other ≡ k). far (ap Some same))
cut_by tone phases line k (Some Resting) apart far = refl
cut_by tone phases line k (Some Dialling) apart far = refl
cut_by tone phases line k (Some (Hearing other)) apart far = refl
cut_by tone phases line k None apart far = refl

cut_far : (tone : Tone) (phases : List Phase) (line k : ℕ) → line ≢ k → IsFar (slice_get phases line) k
    → slice_get (cut_off tone phases line) k ≡ slice_get phases k
unfolding cut_off
cut_far tone phases line k apart far = cut_by tone phases line k (slice_get phases line) apart far

turned_far : (tone : Tone) (phases : List Phase) (line k : ℕ) (phase : Phase) → line ≢ k → IsFar (slice_get phases line) k
    → slice_get (turned tone phases line phase) k ≡ slice_get phases k
turned_far tone phases line k phase apart far =
    set_other (cut_off tone phases line) line k phase apart ∙ cut_far tone phases line k apart far

rung_far : (phases : List Phase) (line k : ℕ) (part : Part) (b : Bool) → line ≢ k → part.other ≢ k → IsFar (slice_get phases line) k
    → slice_get (answered_by phases line (if b then Some part else None)) k ≡ slice_get phases k
rung_far phases line k part true apart other far = joined_far phases line k (record part { answered = true }) apart other
rung_far phases line k part false apart other far = turned_far Busy phases line k Dialling apart far

picked_by : (phases : List Phase) (line k : ℕ) (there : Option Phase) → line ≢ k → IsFar there k → IsFar (slice_get phases line) k
    → slice_get (answered_by phases line (ringing_in there)) k ≡ slice_get phases k
picked_by phases line k (Some (InCall part)) apart near far =
    rung_far phases line k part (rings part) apart (λ (same : part.other ≡ k). near (ap Some same)) far
picked_by phases line k (Some Resting) apart near far = turned_far Busy phases line k Dialling apart far
picked_by phases line k (Some Dialling) apart near far = turned_far Busy phases line k Dialling apart far
picked_by phases line k (Some (Hearing tone)) apart near far = turned_far Busy phases line k Dialling apart far
picked_by phases line k None apart near far = turned_far Busy phases line k Dialling apart far

picked_far : (phases : List Phase) (line k : ℕ) → line ≢ k → IsFar (slice_get phases line) k
    → slice_get (picked_up phases line) k ≡ slice_get phases k
unfolding picked_up
picked_far phases line k apart far = picked_by phases line k (slice_get phases line) apart far far

timed_by : (phases : List Phase) (line k : ℕ) (there : Option Phase) (b : Bool) → line ≢ k → IsFar there k
    → slice_get (if b then given_up_in phases line there else phases) k ≡ slice_get phases k
timed_by phases line k there false apart far = refl
timed_by phases line k (Some (InCall part)) true apart far =
    parted_far Reorder phases line k part apart (λ (same : part.other ≡ k). far (ap Some same))
timed_by phases line k (Some Dialling) true apart far = set_other phases line k (Hearing Reorder) apart
timed_by phases line k (Some Resting) true apart far = refl
timed_by phases line k (Some (Hearing tone)) true apart far = refl
timed_by phases line k None true apart far = refl

timed_far : (phases : List Phase) (line k : ℕ) → line ≢ k → IsFar (slice_get phases line) k
    → slice_get (timed_out phases line) k ≡ slice_get phases k
unfolding timed_out
timed_far phases line k apart far = timed_by phases line k (slice_get phases line) (waits (slice_get phases line)) apart far

-- a line that another one reaches is at the other end then

joined_here : (phases : List Phase) (line : ℕ) (part : Part) → slice_get phases line ≡ Some Dialling → line ≢ part.other
    → slice_get (joined phases line part) line ≡ Some (InCall part)
joined_here phases line part e apart =
    set_other (slice_set phases line (InCall part)) part.other line (InCall (other_end line part)) (λ (same : part.other ≡ line). apart (sym same))
    ∙ set_here phases line (InCall part) Dialling e

not_itself : (phases : List Phase) (line other : ℕ) → slice_get phases line ≡ Some Dialling → is_free (slice_get phases other) ≡ true → line ≢ other
not_itself phases line other e free same =
    let busy : is_free (Some Dialling) ≡ true = sym (ap is_free e) ∙ ap (λ (n : ℕ). is_free (slice_get phases n)) same ∙ free in
    true≢false (sym busy)

module _ (calls : CallState) (line other k : ℕ) (dials : slice_get calls.phases line ≡ Some Dialling) (apart : line ≢ k)
    (beside : line ≢ other) where
  put_by : (b : Bool) → IsFar (slice_get (if b then begun calls line other else hearing Reorder calls line).phases line) k
      → slice_get (if b then begun calls line other else hearing Reorder calls line).phases k ≡ slice_get calls.phases k
  put_by false far = set_other calls.phases line k (Hearing Reorder) apart
  put_by true far =
      let part = caller_of (calls.last + 1) other in
      joined_far calls.phases line k part apart
      (λ (same : other ≡ k). far (ap named_by (joined_here calls.phases line part dials beside) ∙ ap Some same))

  pub put_far : IsFar (slice_get (put_through calls line other).phases line) k
      → slice_get (put_through calls line other).phases k ≡ slice_get calls.phases k
  unfolding put_through
  put_far far = put_by (nat_lt calls.last greatest_call) far

reached_by : (calls : CallState) (line other k : ℕ) (b : Bool) → slice_get calls.phases line ≡ Some Dialling → is_free (slice_get calls.phases other) ≡ b
    → line ≢ k → IsFar (slice_get (if b then put_through calls line other else hearing Busy calls line).phases line) k
    → slice_get (if b then put_through calls line other else hearing Busy calls line).phases k ≡ slice_get calls.phases k
reached_by calls line other k false dials free apart far = set_other calls.phases line k (Hearing Busy) apart
reached_by calls line other k true dials free apart far =
    put_far calls line other k dials apart (not_itself calls.phases line other dials free) far

reached_far : (calls : CallState) (line k : ℕ) (to : Option ℕ) → slice_get calls.phases line ≡ Some Dialling → line ≢ k
    → IsFar (slice_get (reached calls line to).phases line) k → slice_get (reached calls line to).phases k ≡ slice_get calls.phases k
unfolding reached
reached_far calls line k None dials apart far = set_other calls.phases line k (Hearing Reorder) apart
reached_far calls line k (Some other) dials apart far =
    reached_by calls line other k (is_free (slice_get calls.phases other)) dials refl apart far

dialled_by : (calls : CallState) (line k : ℕ) (to : Option ℕ) (there : Option Phase) → slice_get calls.phases line ≡ there → line ≢ k
    → IsFar (slice_get (dialled_in calls line to there).phases line) k
    → slice_get (dialled_in calls line to there).phases k ≡ slice_get calls.phases k
dialled_by calls line k to (Some Dialling) e apart far = reached_far calls line k to e apart far
dialled_by calls line k to (Some Resting) e apart far = refl
dialled_by calls line k to (Some (Hearing tone)) e apart far = refl
dialled_by calls line k to (Some (InCall part)) e apart far = refl
dialled_by calls line k to None e apart far = refl

dialled_far : (calls : CallState) (line k : ℕ) (to : Option ℕ) → line ≢ k → IsFar (slice_get (dialled calls line to).phases line) k
    → slice_get (dialled calls line to).phases k ≡ slice_get calls.phases k
unfolding dialled
dialled_far calls line k to apart far = dialled_by calls line k to (slice_get calls.phases line) refl apart far

heard_far : (calls : CallState) (line k : ℕ) (event : Told) → line ≢ k → IsFar (slice_get calls.phases line) k
    → IsFar (slice_get (heard calls line event).phases line) k → slice_get (heard calls line event).phases k ≡ slice_get calls.phases k
unfolding heard
heard_far calls line k OffHook apart was is = picked_far calls.phases line k apart was
heard_far calls line k OnHook apart was is = turned_far Busy calls.phases line k Resting apart was
heard_far calls line k Flash apart was is = refl
heard_far calls line k (Dialled to) apart was is = dialled_far calls line k to apart is
heard_far calls line k TimedOut apart was is = timed_far calls.phases line k apart was
heard_far calls line k Restarted apart was is = turned_far Reorder calls.phases line k Resting apart was
heard_far calls line k Disconnected apart was is = refl

-- what became of a command

free_far : (there : Option Phase) (k : ℕ) → is_in_call there ≡ false → IsFar there k
free_far (Some (InCall part)) k free e = absurd cc
free_far (Some Resting) k free e = absurd cc
free_far (Some Dialling) k free e = absurd cc
free_far (Some (Hearing tone)) k free e = absurd cc
free_far None k free e = absurd cc

failed_by : (phases : List Phase) (line k : ℕ) (b : Bool) → line ≢ k → IsFar (slice_get phases line) k
    → slice_get (if b then cut_off Reorder phases line else phases) k ≡ slice_get phases k
failed_by phases line k true apart far = cut_far Reorder phases line k apart far
failed_by phases line k false apart far = refl

failed_far : (phases : List Phase) (line k : ℕ) (call : Option ℕ) → line ≢ k → IsFar (slice_get phases line) k
    → slice_get (failed phases line call) k ≡ slice_get phases k
unfolding failed
failed_far phases line k None apart far = refl
failed_far phases line k (Some call) apart far = failed_by phases line k (is_in call (slice_get phases line)) apart far

-- another line stays as it was, and isn't at the other end of the line's call then
abbrev StaysFar : List Phase → List Phase → ℕ → ℕ → Type 0
StaysFar was is line k = (slice_get is k ≡ slice_get was k) × IsFar (slice_get is line) k

found_free : (phases : List Phase) (line k : ℕ) (hook : Hook) → line ≢ k → IsFar (slice_get phases line) k
    → StaysFar phases (found_in phases line hook None) line k
found_free phases line k hooks.OnHook apart far = (
  turned_far Busy phases line k Resting apart far,
  free_far (slice_get (turned Busy phases line Resting) line) k (free_here (cut_off Busy phases line) line Resting refl),
)
found_free phases line k hooks.OffHook apart far = (refl, far)

parted_free : (phases : List Phase) (line : ℕ) (part : Part) → is_in_call (slice_get (parted Busy phases line part) line) ≡ false
parted_free phases line part =
    free_still (slice_set phases line (left Busy part)) part.other line (left Busy (other_end line part)) (left_free Busy (other_end line part))
    (free_here phases line (left Busy part) (left_free Busy part))

found_ringing : (phases : List Phase) (line k : ℕ) (hook : Hook) (part : Part) (b : Bool) → line ≢ k → part.other ≢ k → IsFar (slice_get phases line) k
    → StaysFar phases (found_in phases line hook (if b then Some part else None)) line k
found_ringing phases line k hook part false apart other far = found_free phases line k hook apart far
found_ringing phases line k hooks.OnHook part true apart other far = (refl, far)
found_ringing phases line k hooks.OffHook part true apart other far =
    (parted_far Busy phases line k part apart other, free_far (slice_get (parted Busy phases line part) line) k (parted_free phases line part))

found_by : (phases : List Phase) (line k : ℕ) (hook : Hook) (there : Option Phase) → line ≢ k → IsFar there k → IsFar (slice_get phases line) k
    → StaysFar phases (found_in phases line hook (ringing_in there)) line k
found_by phases line k hook (Some (InCall part)) apart near far =
    found_ringing phases line k hook part (rings part) apart (λ (same : part.other ≡ k). near (ap Some same)) far
found_by phases line k hook (Some Resting) apart near far = found_free phases line k hook apart far
found_by phases line k hook (Some Dialling) apart near far = found_free phases line k hook apart far
found_by phases line k hook (Some (Hearing tone)) apart near far = found_free phases line k hook apart far
found_by phases line k hook None apart near far = found_free phases line k hook apart far

found_far : (phases : List Phase) (line k : ℕ) (hook : Option Hook) → line ≢ k → IsFar (slice_get phases line) k
    → StaysFar phases (found phases line hook) line k
unfolding found
found_far phases line k None apart far = (refl, far)
found_far phases line k (Some hook) apart far = found_by phases line k hook (slice_get phases line) apart far far

-- What is to be sent

module _ (was is : ExchangeState) (line k : ℕ)
    (others : (j : ℕ) → line ≢ j → line_of is j ≡ line_of was j)
    (apart : (part : Part) → phase_of was k ≡ Some (InCall part) → line ≢ part.other) where
  ready_by : (part : Part) (b : Bool) → line ≢ part.other
      → is_ready is.lines (if b then Some part else None) ≡ is_ready was.lines (if b then Some part else None)
  ready_by part true far = ap (line_stands part.call) (others part.other far)
  ready_by part false far = refl

  due_with : (there : Option Phase) (known : Option Line) → phase_of was k ≡ there → due_by is there known ≡ due_by was there known
  due_with None known e = refl
  due_with (Some phase) None e = refl
  due_with (Some Resting) (Some one) e = refl
  due_with (Some Dialling) (Some one) e = refl
  due_with (Some (Hearing tone)) (Some one) e = refl
  due_with (Some (InCall part)) (Some one) e =
      ap (λ (b : Bool). next_of (InCall part) b one) (ready_by part part.answered (apart part e))

  pub due_same : phase_of is k ≡ phase_of was k → line_of is k ≡ line_of was k → due is k ≡ due was k
  unfolding due
  due_same phase known =
      ap (λ (there : Option Phase). due_by is there (line_of is k)) phase
      ∙ ap (λ (one : Option Line). due_by is (phase_of was k) one) known
      ∙ due_with (phase_of was k) (line_of was k) refl

-- whoever has the line at the other end of its call is at the other end of the line's
never_named : (phases : List Phase) (line k : ℕ) (part : Part) → AreMutual phases → IsFar (slice_get phases line) k
    → slice_get phases k ≡ Some (InCall part) → line ≢ part.other
never_named phases line k part named far e same =
    far (ap (λ (n : ℕ). named_by (slice_get phases n)) same ∙ ap named_by (named k part e))

as_before : (was is : ExchangeState) (line k : ℕ) → AreMutual was.calls.phases → line ≢ k → IsFar (phase_of was line) k
    → ((j : ℕ) → line ≢ j → line_of is j ≡ line_of was j) → phase_of is k ≡ phase_of was k → IsAsBefore was is k
as_before was is line k named apart far others phase = record {
  phase = phase;
  known = others k apart;
  owed = due_same was is line k others (λ (part : Part) (e : phase_of was k ≡ Some (InCall part)). never_named was.calls.phases line k part named far e)
      phase (others k apart);
}

told_lines : (was : ExchangeState) (line : ℕ) (event : Told) (j : ℕ) → line ≢ j → line_of (told was line event) j ≡ line_of was j
unfolding told
told_lines was line event j apart = changed_other (heard_on event) was.lines line j apart

told_phase : (was : ExchangeState) (line k : ℕ) (event : Told) → IsApart was (told was line event) line k
    → phase_of (told was line event) k ≡ phase_of was k
unfolding told
told_phase was line k event far = heard_far was.calls line k event far.itself far.was far.then_is

told_apart : (was : ExchangeState) (line k : ℕ) (event : Told) → AreMutual was.calls.phases → IsApart was (told was line event) line k
    → IsAsBefore was (told was line event) k
told_apart was line k event named far =
    as_before was (told was line event) line k named far.itself far.was (told_lines was line event) (told_phase was line k event far)

answered_lines : (was : ExchangeState) (line : ℕ) (outcome : Outcome) (j : ℕ) → line ≢ j → line_of (answered was line outcome) j ≡ line_of was j
unfolding answered
answered_lines was line outcome j apart = changed_other (landed (fate_at was line outcome) outcome) was.lines line j apart

answered_phase : (was : ExchangeState) (line k : ℕ) (outcome : Outcome) → line ≢ k → IsFar (phase_of was line) k
    → phase_of (answered was line outcome) k ≡ phase_of was k
unfolding answered
answered_phase was line k outcome apart far =
    let flight = flight_in (line_of was line) in
    let hook = finding flight outcome in
    let first = found_far was.calls.phases line k hook apart far in
    failed_far (found was.calls.phases line hook) line k (failing flight (fate_at was line outcome)) apart first.1 ∙ first.0

answered_apart : (was : ExchangeState) (line k : ℕ) (outcome : Outcome) → AreMutual was.calls.phases → IsApart was (answered was line outcome) line k
    → IsAsBefore was (answered was line outcome) k
answered_apart was line k outcome named far =
    as_before was (answered was line outcome) line k named far.itself far.was (answered_lines was line outcome)
    (answered_phase was line k outcome far.itself far.was)

-- The laws

pub told_always : (count last line k : ℕ) (turns : List Turn) (event : Told)
    → IsApart (after (opening count last) turns) (told (after (opening count last) turns) line event) line k
    → IsAsBefore (after (opening count last) turns) (told (after (opening count last) turns) line event) k
told_always count last line k turns event far =
    told_apart (after (opening count last) turns) line k event (always_mutual count last turns) far

pub answered_always : (count last line k : ℕ) (turns : List Turn) (outcome : Outcome)
    → IsApart (after (opening count last) turns) (answered (after (opening count last) turns) line outcome) line k
    → IsAsBefore (after (opening count last) turns) (answered (after (opening count last) turns) line outcome) k
answered_always count last line k turns outcome far =
    answered_apart (after (opening count last) turns) line k outcome (always_mutual count last turns) far
