-- What is refused is on record.
use Rattle.std.proofs.Common.{◌≡◌, ℕ, ◌+◌, Bool, true, false, List, Option, Some, None, refl, sym, ap, subst, ◌∙◌, inl, inr, ◌⊎◌}
use Rattle.std.specs.Prelude.{◌&&◌, nat_lt, slice_get, option_map, if◌then◌else◌}
use Rattle.std.proofs.lemmas.Bool.{true≢false}
use Rattle.call_processing.specs.declared.phase.Tone.TheVariants.{Reorder}
use Rattle.call_processing.specs.declared.phase.Phase.{Phase}
use Rattle.call_processing.specs.declared.phase.Phase.TheVariants.{Resting, Dialling, Hearing, InCall}
use Rattle.call_processing.specs.declared.asked.Asked.{Asked}
use Rattle.call_processing.specs.declared.command.Command.{Command}
use Rattle.call_processing.specs.declared.command.Command.TheVariants.{Ask, Create, Modify, Delete}
use Rattle.call_processing.specs.declared.command.Outcome.TheVariants.{Answered}
use Rattle.call_processing.specs.declared.fate.Cause.{Cause}
use Rattle.call_processing.specs.declared.fate.Cause.TheVariants as causes
use Rattle.call_processing.specs.declared.fate.PutOff.{PutOff}
use Rattle.call_processing.specs.declared.fate.Fate.{Fate}
use Rattle.call_processing.specs.declared.fate.Fate.TheVariants.{Done, Again, Refused, Open}
use Rattle.call_processing.specs.declared.line.Line.{Line}
use Rattle.call_processing.specs.Phases.{is_in, is_in_call}
use Rattle.call_processing.specs.Calls.{cut_off, failed}
use Rattle.call_processing.specs.Fates.{is_success, is_deleted, may_pass, passes, most_put_off, times_of, refusal_fate, request_cause, is_wanted, request_fate, deletion_fate, refused_by, put_off_then}
use Rattle.call_processing.specs.Line.{landed, landed_as, left_then, failing}
use Rattle.call_processing.specs.Exchange.{ExchangeState, phase_of, line_of, flight_in, found_by, fate_with, fate_in, fate_at, answered}
use Rattle.live_laws.specs.CallTurns.{IsPutOffOr}
use Rattle.live_laws.proofs.CallLaws.{cut_free}
use Rattle.live_laws.proofs.RowLaws.{found_phase}
use Rattle.live_laws.proofs.RecordLaws.{answered_record}

-- What a fate leaves of a line

-- a command is put off, one more in a row, or refused for good by this code
abbrev IsEither : ℕ → Option PutOff → Fate → Type 0
IsEither code was fate = (times_of (put_off_then fate was) ≡ times_of was + 1) ⊎ (fate ≡ Refused code)

either_by : (cause : Cause) (code : ℕ) (was : Option PutOff) (b : Bool)
    → IsEither code was (if b then Again (record { cause = cause; times = times_of was + 1 }) else Refused code)
either_by cause code was true = inl refl
either_by cause code was false = inr refl

refusal_either : (cause : Cause) (code : ℕ) (was : Option PutOff) → IsEither code was (refusal_fate cause code was)
refusal_either cause code was = either_by cause code was (passes cause code && nat_lt (times_of was) most_put_off)

request_either : (asked : Asked) (phase : Option Phase) (was : Option PutOff) (code : ℕ) → is_success code ≡ false → is_wanted asked phase ≡ true
    → IsEither code was (request_fate asked phase was code)
request_either asked phase was code refused wanted =
    subst (IsEither code was)
    (sym
    (ap (λ (b : Bool). if b then Done else if is_wanted asked phase then refusal_fate (request_cause code) code was else Open) refused
    ∙ ap (λ (b : Bool). if b then refusal_fate (request_cause code) code was else Open) wanted))
    (refusal_either (request_cause code) code was)

deletion_either : (was : Option PutOff) (code : ℕ) → is_deleted code ≡ false → IsEither code was (deletion_fate was code)
deletion_either was code refused =
    subst (IsEither code was) (sym (ap (λ (b : Bool). if b then Done else refusal_fate causes.Connection code was) refused))
    (refusal_either causes.Connection code was)

-- The line

-- what is on record of a line with this command in flight, once it was answered by a code
module _ (line is : Line) (phase : Option Phase) (code : ℕ) (e : landed (fate_in (Some line) phase (Answered code)) (Answered code) line ≡ is) where
  lands_as : (command : Command) → line.flight ≡ Some command
      → landed_as (Some command) (fate_with (Some command) phase line.put_off (Answered code)) (Answered code) line ≡ is
  unfolding landed
  lands_as command flies =
      sym (ap (λ (flight : Option Command). landed_as flight (fate_with flight phase line.put_off (Answered code)) (Answered code) line) flies) ∙ e

  on_request : (asked : Asked)
      → landed_as (Some (Ask asked)) (fate_with (Some (Ask asked)) phase line.put_off (Answered code)) (Answered code) line ≡ is
      → IsEither code line.put_off (fate_with (Some (Ask asked)) phase line.put_off (Answered code)) → IsPutOffOr line is (is.refused ≡ Some code)
  on_request asked same (inl put) = inl (ap (λ (l : Line). times_of l.put_off) (sym same) ∙ put)
  on_request asked same (inr refused) = inr (ap (λ (l : Line). l.refused) (sym same) ∙ ap refused_by refused)

  on_deletion : (call : ℕ)
      → landed_as (Some (Delete call)) (fate_with (Some (Delete call)) phase line.put_off (Answered code)) (Answered code) line ≡ is
      → IsEither code line.put_off (fate_with (Some (Delete call)) phase line.put_off (Answered code)) → IsPutOffOr line is (is.left ≡ Some code)
  on_deletion call same (inl put) = inl (ap (λ (l : Line). times_of l.put_off) (sym same) ∙ put)
  on_deletion call same (inr refused) = inr (ap (λ (l : Line). l.left) (sym same) ∙ ap (λ (fate : Fate). left_then fate line.left) refused)

  request_on_record : (asked : Asked) → line.flight ≡ Some (Ask asked) → is_success code ≡ false → is_wanted asked phase ≡ true
      → IsPutOffOr line is (is.refused ≡ Some code)
  request_on_record asked flies refused wanted =
      on_request asked (lands_as (Ask asked) flies) (request_either asked phase line.put_off code refused wanted)

  deletion_on_record : (call : ℕ) → line.flight ≡ Some (Delete call) → is_deleted code ≡ false → IsPutOffOr line is (is.left ≡ Some code)
  deletion_on_record call flies refused =
      on_deletion call (lands_as (Delete call) flies) (deletion_either line.put_off code refused)

same_line : (one other : Line) → ◌≡◌ {A = Option Line} (Some one) (Some other) → one ≡ other
same_line one other e = cc

-- the record behind an answer
behind : (exchange : ExchangeState) (line : ℕ) (code : ℕ) (was is : Line) → line_of exchange line ≡ Some was
    → line_of (answered exchange line (Answered code)) line ≡ Some is
    → landed (fate_in (Some was) (found_phase exchange line (Answered code)) (Answered code)) (Answered code) was ≡ is
behind exchange line code was is before then_is =
    let there : ◌≡◌ {A = Option Line}
    (Some (landed (fate_in (Some was) (found_phase exchange line (Answered code)) (Answered code)) (Answered code) was)) (Some is) =
    sym
    (answered_record exchange line (Answered code)
    ∙ ap (λ (found : Option Line). option_map (landed (fate_in found (found_phase exchange line (Answered code)) (Answered code)) (Answered code)) found) before)
    ∙ then_is in
    same_line _ _ there

-- Of a request no call fails: the phase is as it was found
same_phase : (exchange : ExchangeState) (line code : ℕ) (asked : Asked) → flight_in (line_of exchange line) ≡ Some (Ask asked)
    → phase_of (answered exchange line (Answered code)) line ≡ found_phase exchange line (Answered code)
unfolding answered failed
same_phase exchange line code asked flies =
    ap (λ (call : Option ℕ). slice_get (failed (found_by exchange.calls.phases line (flight_in (line_of exchange line)) (Answered code)) line call) line)
    (ap (λ (flight : Option Command). failing flight (fate_at exchange line (Answered code))) flies)

pub refused_request : (exchange : ExchangeState) (line code : ℕ) (asked : Asked) (was is : Line) → line_of exchange line ≡ Some was
    → was.flight ≡ Some (Ask asked) → is_success code ≡ false → line_of (answered exchange line (Answered code)) line ≡ Some is
    → is_wanted asked (phase_of (answered exchange line (Answered code)) line) ≡ true → IsPutOffOr was is (is.refused ≡ Some code)
refused_request exchange line code asked was is before flies refused then_is wanted =
    request_on_record was is (found_phase exchange line (Answered code)) code (behind exchange line code was is before then_is) asked flies refused
    (sym (ap (is_wanted asked) (same_phase exchange line code asked (ap flight_in before ∙ flies))) ∙ wanted)

pub refused_deletion : (exchange : ExchangeState) (line code call : ℕ) (was is : Line) → line_of exchange line ≡ Some was
    → was.flight ≡ Some (Delete call) → is_deleted code ≡ false → line_of (answered exchange line (Answered code)) line ≡ Some is
    → IsPutOffOr was is (is.left ≡ Some code)
refused_deletion exchange line code call was is before flies refused then_is =
    deletion_on_record was is (found_phase exchange line (Answered code)) code (behind exchange line code was is before then_is) call flies refused

-- CRCX and MDCX: put off, or the line isn't in that call then

none_by : (call : ℕ) (found : Option Phase) → is_in_call found ≡ false → is_in call found ≡ false
none_by call (Some (InCall part)) free = absurd (true≢false free)
none_by call (Some Resting) free = refl
none_by call (Some Dialling) free = refl
none_by call (Some (Hearing tone)) free = refl
none_by call None free = refl

-- a call that fails is over for the line
over_by : (phases : List Phase) (line call : ℕ) (b : Bool) → is_in call (slice_get phases line) ≡ b
    → is_in call (slice_get (if b then cut_off Reorder phases line else phases) line) ≡ false
over_by phases line call true e = none_by call (slice_get (cut_off Reorder phases line) line) (cut_free Reorder phases line)
over_by phases line call false e = e

over : (phases : List Phase) (line call : ℕ) → is_in call (slice_get (failed phases line (Some call)) line) ≡ false
unfolding failed
over phases line call = over_by phases line call (is_in call (slice_get phases line)) refl

-- a command for a connection that was refused: put off, or its call fails
abbrev FailsOr : Option PutOff → Fate → ℕ → Option Command → Type 0
FailsOr was fate call flight = (times_of (put_off_then fate was) ≡ times_of was + 1) ⊎ (failing flight fate ≡ Some call)

abbrev call_as : Bool → Bool → Option PutOff → ℕ → Fate
call_as is_in_it put was code =
    if is_in_it then (if put then Again (record { cause = causes.Connection; times = times_of was + 1 }) else Refused code) else Open

creation_fails : (call code : ℕ) (joined : Bool) (was : Option PutOff) (success within put : Bool)
    → FailsOr was (if success then Open else call_as within put was code) call (Some (Create call joined))
creation_fails call code joined was true within put = inr refl
creation_fails call code joined was false true true = inl refl
creation_fails call code joined was false true false = inr refl
creation_fails call code joined was false false put = inr refl

change_fails : (call code : ℕ) (was : Option PutOff) (within put success : Bool) → success ≡ false
    → FailsOr was (if success then Done else call_as within put was code) call (Some (Modify call))
change_fails call code was within put true e = absurd (true≢false e)
change_fails call code was true true false e = inl refl
change_fails call code was true false false e = inr refl
change_fails call code was false put false e = inr refl

-- the line behind it, and its phase
off_or_over : (exchange : ExchangeState) (line code call : ℕ) (command : Command) (was is : Line) → line_of exchange line ≡ Some was → was.flight ≡ Some command
    → line_of (answered exchange line (Answered code)) line ≡ Some is
    → (landed_as (Some command) (fate_with (Some command) (found_phase exchange line (Answered code)) was.put_off (Answered code)) (Answered code) was).put_off
    ≡ put_off_then (fate_with (Some command) (found_phase exchange line (Answered code)) was.put_off (Answered code)) was.put_off
    → FailsOr was.put_off (fate_with (Some command) (found_phase exchange line (Answered code)) was.put_off (Answered code)) call (Some command)
    → IsPutOffOr was is (is_in call (phase_of (answered exchange line (Answered code)) line) ≡ false)
unfolding answered
off_or_over exchange line code call command was is before flies then_is shape (inl put) =
    inl
    (ap (λ (l : Line). times_of l.put_off)
    (sym (lands_as was is (found_phase exchange line (Answered code)) code (behind exchange line code was is before then_is) command flies))
    ∙ ap times_of shape
    ∙ put)
off_or_over exchange line code call command was is before flies then_is shape (inr fails) =
    let phases = found_by exchange.calls.phases line (flight_in (line_of exchange line)) (Answered code) in
    let flight : flight_in (line_of exchange line) ≡ Some command = ap flight_in before ∙ flies in
    let fate : fate_at exchange line (Answered code) ≡ fate_with (Some command) (found_phase exchange line (Answered code)) was.put_off (Answered code) =
    ap (λ (found : Option Line). fate_in found (found_phase exchange line (Answered code)) (Answered code)) before
    ∙ ap (λ (f : Option Command). fate_with f (found_phase exchange line (Answered code)) was.put_off (Answered code)) flies in
    let fails_so : failing (flight_in (line_of exchange line)) (fate_at exchange line (Answered code)) ≡ Some call =
    ap (λ (f : Option Command). failing f (fate_at exchange line (Answered code))) flight ∙ ap (failing (Some command)) fate ∙ fails in
    inr (ap (λ (failed_call : Option ℕ). is_in call (slice_get (failed phases line failed_call) line)) fails_so ∙ over phases line call)

pub refused_creation : (exchange : ExchangeState) (line code call : ℕ) (joined : Bool) (was is : Line) → line_of exchange line ≡ Some was
    → was.flight ≡ Some (Create call joined) → line_of (answered exchange line (Answered code)) line ≡ Some is
    → IsPutOffOr was is (is_in call (phase_of (answered exchange line (Answered code)) line) ≡ false)
refused_creation exchange line code call joined was is before flies then_is =
    off_or_over exchange line code call (Create call joined) was is before flies then_is refl
    (creation_fails call code joined was.put_off (is_success code) (is_in call (found_phase exchange line (Answered code)))
    (may_pass code && nat_lt (times_of was.put_off) most_put_off))

pub refused_change : (exchange : ExchangeState) (line code call : ℕ) (was is : Line) → line_of exchange line ≡ Some was
    → was.flight ≡ Some (Modify call) → is_success code ≡ false → line_of (answered exchange line (Answered code)) line ≡ Some is
    → IsPutOffOr was is (is_in call (phase_of (answered exchange line (Answered code)) line) ≡ false)
refused_change exchange line code call was is before flies refused then_is =
    off_or_over exchange line code call (Modify call) was is before flies then_is refl
    (change_fails call code was.put_off (is_in call (found_phase exchange line (Answered code)))
    (may_pass code && nat_lt (times_of was.put_off) most_put_off) (is_success code) refused)
