-- How many answers a line that rests still waits for, and how that gets less.
use Rattle.std.proofs.Common.{◌≡◌, ℕ, ◌+◌, ◌*◌, ◌≤◌, Bool, true, false, List, Option, Some, None, refl, sym, arith}
use Rattle.std.specs.Prelude.{◌&&◌, not, nat_lt, is_some, if◌then◌else◌}
use Rattle.std.proofs.lemmas.Bool.{true≢false}
use Rattle.call_processing.specs.declared.asked.Asked.{Asked}
use Rattle.call_processing.specs.declared.asked.Asked.TheVariants.{Rest, Digits, Ring, Ringback, BusyTone, ReorderTone, Talk}
use Rattle.call_processing.specs.declared.phase.Phase.{Phase}
use Rattle.call_processing.specs.declared.phase.Phase.TheVariants.{Resting}
use Rattle.call_processing.specs.declared.command.Command.{Command}
use Rattle.call_processing.specs.declared.command.Command.TheVariants.{Ask, Create, Modify, Delete}
use Rattle.call_processing.specs.declared.command.Outcome.{Outcome}
use Rattle.call_processing.specs.declared.command.Outcome.TheVariants.{Created, Answered, GivenUp}
use Rattle.call_processing.specs.declared.fate.Cause.{Cause}
use Rattle.call_processing.specs.declared.fate.Cause.TheVariants as causes
use Rattle.call_processing.specs.declared.fate.PutOff.{PutOff}
use Rattle.call_processing.specs.declared.fate.Fate.{Fate}
use Rattle.call_processing.specs.declared.fate.Fate.TheVariants.{Done, Again, Refused, Open}
use Rattle.call_processing.specs.declared.line.Leg.{Leg}
use Rattle.call_processing.specs.declared.line.Leg.TheVariants.{Absent, Unknown, Standing}
use Rattle.call_processing.specs.declared.line.Line.{Line}
use Rattle.call_processing.specs.Phases.{talks_in}
use Rattle.call_processing.specs.Asking.{wanted_in, is_asked}
use Rattle.call_processing.specs.Fates.{is_success, is_deleted, passes, most_put_off, times_of, request_cause, put_off_by, put_off_then}
use Rattle.call_processing.specs.Line.{sent, landed, landed_as, asked_then, deleted_then, cleared}
use Rattle.call_processing.specs.Next.{connection_next, request_or, connection_or, is_request_first, first_of, next_of}
use Rattle.call_processing.specs.Exchange.{fate_with, fate_in}
use Rattle.live_laws.specs.CallTurns.{is_given_up, count_if, IsClear}

-- the answers that a line that rests waits for: to the command in flight, to DLCX where a connection may stand then, and to RQNT
-- where it isn't asked for off hook alone then

abbrev pub has_leg : Leg → ℕ
has_leg Absent = 0
has_leg (Unknown call) = 1
has_leg (Standing call connection description) = 1

abbrev pub unasked : Option Asked → ℕ
unasked asked = count_if (not (is_asked Rest asked))

abbrev pub flying : Option Command → Leg → ℕ
flying None leg = has_leg leg
flying (Some (Ask asked)) leg = 1 + has_leg leg
flying (Some (Create call joined)) leg = 2
flying (Some (Modify call)) leg = 1 + has_leg leg
flying (Some (Delete call)) leg = 1

-- what the line is asked for once the command in flight was accepted; another request than that of rest doesn't help
abbrev pub asked_by : Option Command → Option Asked → Option Asked
asked_by None asked = asked
asked_by (Some (Ask Rest)) asked = asked
asked_by (Some (Ask Digits)) asked = None
asked_by (Some (Ask Ring)) asked = None
asked_by (Some (Ask Ringback)) asked = None
asked_by (Some (Ask BusyTone)) asked = None
asked_by (Some (Ask ReorderTone)) asked = None
asked_by (Some (Ask Talk)) asked = None
asked_by (Some (Create call joined)) asked = asked
asked_by (Some (Modify call)) asked = asked
asked_by (Some (Delete call)) asked = asked

abbrev pub left_by : Option Command → Leg → Option Asked → ℕ
left_by flight leg asked = flying flight leg + unasked (asked_by flight asked)

abbrev pub left_of : Line → ℕ
left_of line = left_by line.flight line.leg line.asked

-- three at most

leg_most : (leg : Leg) → has_leg leg ≤ 1
leg_most Absent = omega arith
leg_most (Unknown call) = omega arith
leg_most (Standing call connection description) = omega arith

count_most : (b : Bool) → count_if b ≤ 1
count_most true = omega arith
count_most false = omega arith

flying_most : (flight : Option Command) (leg : Leg) → flying flight leg ≤ 2
flying_most None leg = let most = leg_most leg in omega arith
flying_most (Some (Ask asked)) leg = let most = leg_most leg in omega arith
flying_most (Some (Create call joined)) leg = omega arith
flying_most (Some (Modify call)) leg = let most = leg_most leg in omega arith
flying_most (Some (Delete call)) leg = omega arith

pub three_most : (line : Line) → left_of line ≤ 3
three_most line =
    let flights = flying_most line.flight line.leg in
    let requests = count_most (not (is_asked Rest (asked_by line.flight line.asked))) in
    omega arith

-- A command lands on a line that rests

-- the outcome is a code, which doesn't put the command off
abbrev pub is_final : Fate → Outcome → Bool
is_final fate outcome = not (is_given_up outcome) && not (is_some (put_off_by fate))

-- Where it lands by a code that doesn't put it off one answer fewer is waited for; and a row of commands that are put off is long enough
-- for each answer that is left.
pub record Lands (fate : Fate) (outcome : Outcome) (was is : ℕ) (off next : Option PutOff) : Type 0 where
  pub left : is + count_if (is_final fate outcome) ≤ was
  pub row : (is + most_put_off * is) + (count_if (not (is_given_up outcome)) + times_of off) ≤ (was + most_put_off * was) + times_of next

done_lands : (outcome : Outcome) (was is : ℕ) (off : Option PutOff) → times_of off ≤ most_put_off → is + 1 ≤ was → Lands Done outcome was is off None
done_lands (Created connection description) was is off most less = record { left = omega (arith, less); row = omega (arith, most, less) }
done_lands (Answered code) was is off most less = record { left = omega (arith, less); row = omega (arith, most, less) }
done_lands GivenUp was is off most less = record { left = omega (arith, less); row = omega (arith, most, less) }

refused_lands : (code was is : ℕ) (off : Option PutOff) → times_of off ≤ most_put_off → is + 1 ≤ was
    → Lands (Refused code) (Answered code) was is off None
refused_lands code was is off most less = record { left = omega (arith, less); row = omega (arith, most, less) }

-- the command was put off, one more in a row
abbrev put_off_as : Cause → Option PutOff → PutOff
put_off_as cause off = record { cause = cause; times = times_of off + 1 }

again_lands : (cause : Cause) (code was is : ℕ) (off : Option PutOff) → is ≤ was
    → Lands (Again (put_off_as cause off)) (Answered code) was is off (Some (put_off_as cause off))
again_lands cause code was is off less = record { left = omega (arith, less); row = omega (arith, less) }

lost_lands : (was is : ℕ) (off : Option PutOff) → is ≤ was → Lands Open GivenUp was is off off
lost_lands was is off less = record { left = omega (arith, less); row = omega (arith, less) }

open_lands : (code was is : ℕ) (off : Option PutOff) → is + 1 ≤ was → Lands Open (Answered code) was is off off
open_lands code was is off less = record { left = omega (arith, less); row = omega (arith, less) }

-- A request

abbrev request_as : Bool → Bool → Cause → ℕ → Option PutOff → Fate
request_as success put cause code off =
    if success then Done else (if put then Again (put_off_as cause off) else Refused code)

rest_lands : (success put : Bool) (cause : Cause) (code : ℕ) (leg : Leg) (asked : Option Asked) (off : Option PutOff) → times_of off ≤ most_put_off
    → Lands (request_as success put cause code off) (Answered code) ((1 + has_leg leg) + unasked asked)
    (has_leg leg + unasked (asked_then (request_as success put cause code off) asked)) off (put_off_then (request_as success put cause code off) off)
rest_lands true put cause code leg asked off most =
    done_lands (Answered code) ((1 + has_leg leg) + unasked asked) (has_leg leg + unasked asked) off most (omega arith)
rest_lands false true cause code leg asked off most =
    again_lands cause code ((1 + has_leg leg) + unasked asked) (has_leg leg + 1) off (omega arith)
rest_lands false false cause code leg asked off most =
    refused_lands code ((1 + has_leg leg) + unasked asked) (has_leg leg + unasked asked) off most (omega arith)

-- another request than that of rest is past
other_lands : (success : Bool) (code : ℕ) (leg : Leg) (asked : Option Asked) (off : Option PutOff) → times_of off ≤ most_put_off
    → Lands (if success then Done else Open) (Answered code) ((1 + has_leg leg) + 1)
    (has_leg leg + unasked (asked_then (if success then Done else Open) asked)) off (put_off_then (if success then Done else Open) off)
other_lands true code leg asked off most =
    let one = count_most (not (is_asked Rest asked)) in
    done_lands (Answered code) ((1 + has_leg leg) + 1) (has_leg leg + unasked asked) off most (omega (arith, one))
other_lands false code leg asked off most = open_lands code ((1 + has_leg leg) + 1) (has_leg leg + 1) off (omega arith)

-- A connection

creation_lands : (success : Bool) (code : ℕ) (leg : Leg) (asked : Option Asked) (off : Option PutOff)
    → Lands (if success then Open else Open) (Answered code) (2 + unasked asked)
    (has_leg (if success then leg else Absent) + unasked asked) off (put_off_then (if success then Open else Open) off)
creation_lands true code leg asked off =
    let most = leg_most leg in
    open_lands code (2 + unasked asked) (has_leg leg + unasked asked) off (omega (arith, most))
creation_lands false code leg asked off = open_lands code (2 + unasked asked) (0 + unasked asked) off (omega arith)

change_lands : (success : Bool) (code : ℕ) (leg : Leg) (asked : Option Asked) (off : Option PutOff) → times_of off ≤ most_put_off
    → Lands (if success then Done else Open) (Answered code) ((1 + has_leg leg) + unasked asked) (has_leg leg + unasked asked) off
    (put_off_then (if success then Done else Open) off)
change_lands true code leg asked off most =
    done_lands (Answered code) ((1 + has_leg leg) + unasked asked) (has_leg leg + unasked asked) off most (omega arith)
change_lands false code leg asked off most =
    open_lands code ((1 + has_leg leg) + unasked asked) (has_leg leg + unasked asked) off (omega arith)

deletion_lands : (done put : Bool) (code : ℕ) (leg : Leg) (asked : Option Asked) (off : Option PutOff) → times_of off ≤ most_put_off
    → Lands (request_as done put causes.Connection code off) (Answered code) (1 + unasked asked)
    (has_leg (deleted_then (request_as done put causes.Connection code off) leg) + unasked asked) off
    (put_off_then (request_as done put causes.Connection code off) off)
deletion_lands true put code leg asked off most = done_lands (Answered code) (1 + unasked asked) (0 + unasked asked) off most (omega arith)
deletion_lands false true code leg asked off most =
    let one = leg_most leg in
    again_lands causes.Connection code (1 + unasked asked) (has_leg leg + unasked asked) off (omega (arith, one))
deletion_lands false false code leg asked off most = refused_lands code (1 + unasked asked) (0 + unasked asked) off most (omega arith)

-- Any command

abbrev pub line_with : Option Command → Leg → Bool → Option Asked → Option PutOff → Option ℕ → Option ℕ → Line
line_with flight leg joined asked off refused left =
    record { leg = leg; joined = joined; asked = asked; flight = flight; put_off = off; refused = refused; left = left }

-- may a command be put off that was refused for this cause by this code
abbrev is_put : Cause → ℕ → Option PutOff → Bool
is_put cause code off = passes cause code && nat_lt (times_of off) most_put_off

-- what becomes of a command to a line that rests, and of the line
abbrev rest_fate : Option Command → Option PutOff → Outcome → Fate
rest_fate flight off outcome = fate_with flight (Some Resting) off outcome

module _ (leg : Leg) (joined : Bool) (asked : Option Asked) (off : Option PutOff) (refused left : Option ℕ) where
  abbrev LandsAs : Command → Outcome → Type 0
  LandsAs command outcome =
      Lands (rest_fate (Some command) off outcome) outcome (left_by (Some command) leg asked)
      (left_of (landed_as (Some command) (rest_fate (Some command) off outcome) outcome (line_with (Some command) leg joined asked off refused left)))
      off (put_off_then (rest_fate (Some command) off outcome) off)

  rest_by : (outcome : Outcome) → times_of off ≤ most_put_off → LandsAs (Ask Rest) outcome
  rest_by (Created connection description) most =
      done_lands (Created connection description) ((1 + has_leg leg) + unasked asked) (has_leg leg + unasked asked) off most (omega arith)
  rest_by (Answered code) most = rest_lands (is_success code) (is_put (request_cause code) code off) (request_cause code) code leg asked off most
  rest_by GivenUp most = lost_lands ((1 + has_leg leg) + unasked asked) (has_leg leg + 1) off (omega arith)

  lost_other : Lands Open GivenUp ((1 + has_leg leg) + 1) (has_leg leg + 1) off off
  lost_other = lost_lands ((1 + has_leg leg) + 1) (has_leg leg + 1) off (omega arith)

  done_other : (connection description : List ℕ) → times_of off ≤ most_put_off
      → Lands Done (Created connection description) ((1 + has_leg leg) + 1) (has_leg leg + unasked asked) off None
  done_other connection description most =
      let one = count_most (not (is_asked Rest asked)) in
      done_lands (Created connection description) ((1 + has_leg leg) + 1) (has_leg leg + unasked asked) off most (omega (arith, one))

  asked_by_any : (request : Asked) (outcome : Outcome) → times_of off ≤ most_put_off → LandsAs (Ask request) outcome
  asked_by_any Rest outcome most = rest_by outcome most
  asked_by_any Digits (Created connection description) most = done_other connection description most
  asked_by_any Digits (Answered code) most = other_lands (is_success code) code leg asked off most
  asked_by_any Digits GivenUp most = lost_other
  asked_by_any Ring (Created connection description) most = done_other connection description most
  asked_by_any Ring (Answered code) most = other_lands (is_success code) code leg asked off most
  asked_by_any Ring GivenUp most = lost_other
  asked_by_any Ringback (Created connection description) most = done_other connection description most
  asked_by_any Ringback (Answered code) most = other_lands (is_success code) code leg asked off most
  asked_by_any Ringback GivenUp most = lost_other
  asked_by_any BusyTone (Created connection description) most = done_other connection description most
  asked_by_any BusyTone (Answered code) most = other_lands (is_success code) code leg asked off most
  asked_by_any BusyTone GivenUp most = lost_other
  asked_by_any ReorderTone (Created connection description) most = done_other connection description most
  asked_by_any ReorderTone (Answered code) most = other_lands (is_success code) code leg asked off most
  asked_by_any ReorderTone GivenUp most = lost_other
  asked_by_any Talk (Created connection description) most = done_other connection description most
  asked_by_any Talk (Answered code) most = other_lands (is_success code) code leg asked off most
  asked_by_any Talk GivenUp most = lost_other

  command_lands : (command : Command) (outcome : Outcome) → times_of off ≤ most_put_off → LandsAs command outcome
  command_lands (Ask request) outcome most = asked_by_any request outcome most
  command_lands (Create call part) (Created connection description) most =
      done_lands (Created connection description) (2 + unasked asked) (1 + unasked asked) off most (omega arith)
  command_lands (Create call part) (Answered code) most = creation_lands (is_success code) code leg asked off
  command_lands (Create call part) GivenUp most =
      let one = leg_most leg in lost_lands (2 + unasked asked) (has_leg leg + unasked asked) off (omega (arith, one))
  command_lands (Modify call) (Created connection description) most =
      done_lands (Created connection description) ((1 + has_leg leg) + unasked asked) (has_leg leg + unasked asked) off most (omega arith)
  command_lands (Modify call) (Answered code) most = change_lands (is_success code) code leg asked off most
  command_lands (Modify call) GivenUp most =
      lost_lands ((1 + has_leg leg) + unasked asked) (has_leg leg + unasked asked) off (omega arith)
  command_lands (Delete call) (Created connection description) most =
      done_lands (Created connection description) (1 + unasked asked) (0 + unasked asked) off most (omega arith)
  command_lands (Delete call) (Answered code) most = deletion_lands (is_deleted code) (is_put causes.Connection code off) code leg asked off most
  command_lands (Delete call) GivenUp most =
      let one = leg_most leg in lost_lands (1 + unasked asked) (has_leg leg + unasked asked) off (omega (arith, one))

-- what a line waits for, and what is put off of it, once an outcome landed
abbrev pub LandsOn : Outcome → Line → Line → Type 0
LandsOn outcome was is =
    Lands (fate_in (Some was) (Some Resting) outcome) outcome (left_of was) (left_of is) was.put_off is.put_off

lands_by : (flight : Option Command) (outcome : Outcome) (leg : Leg) (joined : Bool) (asked : Option Asked) (off : Option PutOff)
    (refused left : Option ℕ) → is_some flight ≡ true → times_of off ≤ most_put_off
    → Lands (rest_fate flight off outcome) outcome (left_of (line_with flight leg joined asked off refused left))
    (left_of (landed_as flight (rest_fate flight off outcome) outcome (line_with flight leg joined asked off refused left))) off
    (landed_as flight (rest_fate flight off outcome) outcome (line_with flight leg joined asked off refused left)).put_off
lands_by None outcome leg joined asked off refused left flies most = absurd (true≢false (sym flies))
lands_by (Some (Ask request)) outcome leg joined asked off refused left flies most =
    command_lands leg joined asked off refused left (Ask request) outcome most
lands_by (Some (Create call part)) outcome leg joined asked off refused left flies most =
    command_lands leg joined asked off refused left (Create call part) outcome most
lands_by (Some (Modify call)) outcome leg joined asked off refused left flies most =
    command_lands leg joined asked off refused left (Modify call) outcome most
lands_by (Some (Delete call)) outcome leg joined asked off refused left flies most =
    command_lands leg joined asked off refused left (Delete call) outcome most

-- each code that doesn't put a command off is one answer fewer that the line waits for, and what is given up none more
pub landed_lands : (outcome : Outcome) (line : Line) → is_some line.flight ≡ true → times_of line.put_off ≤ most_put_off
    → LandsOn outcome line (landed (fate_in (Some line) (Some Resting) outcome) outcome line)
unfolding landed
landed_lands outcome line flies most =
    lands_by line.flight outcome line.leg line.joined line.asked line.put_off line.refused line.left flies most

-- nothing lands where nothing is in flight
idle_as : (flight : Option Command) (fate : Fate) (outcome : Outcome) (line : Line) → flight ≡ None → landed_as flight fate outcome line ≡ line
idle_as None fate outcome line e = refl
idle_as (Some command) fate outcome line e = absurd cc

pub landed_idle : (fate : Fate) (outcome : Outcome) (line : Line) → line.flight ≡ None → landed fate outcome line ≡ line
unfolding landed
landed_idle fate outcome line e = idle_as line.flight fate outcome line e

-- after it nothing is in flight
landed_by_none : (flight : Option Command) (fate : Fate) (outcome : Outcome) (line : Line) → line.flight ≡ flight → (landed_as flight fate outcome line).flight ≡ None
landed_by_none None fate outcome line e = e
landed_by_none (Some (Ask asked)) fate outcome line e = refl
landed_by_none (Some (Create call joined)) fate outcome line e = refl
landed_by_none (Some (Modify call)) fate outcome line e = refl
landed_by_none (Some (Delete call)) fate outcome line e = refl

pub landed_none : (fate : Fate) (outcome : Outcome) (line : Line) → (landed fate outcome line).flight ≡ None
unfolding landed
landed_none fate outcome line = landed_by_none line.flight fate outcome line refl

-- All connections of the line are deleted

absent_by : (flight : Option Command) (leg : Leg) (asked : Option Asked) → left_by flight Absent asked ≤ left_by flight leg asked
absent_by None leg asked = omega arith
absent_by (Some (Ask request)) leg asked = omega arith
absent_by (Some (Create call part)) leg asked = omega arith
absent_by (Some (Modify call)) leg asked = omega arith
absent_by (Some (Delete call)) leg asked = omega arith

cleared_by : (b : Bool) (code : ℕ) (line : Line)
    → (left_of (if b then record line { leg = Absent; left = None } else record line { left = Some code }) ≤ left_of line)
    × ((if b then record line { leg = Absent; left = None } else record line { left = Some code }).put_off ≡ line.put_off)
cleared_by true code line = (absent_by line.flight line.leg line.asked, refl)
cleared_by false code line = (omega arith, refl)

pub cleared_less : (code : ℕ) (line : Line) → (left_of (cleared code line) ≤ left_of line) × ((cleared code line).put_off ≡ line.put_off)
unfolding cleared
cleared_less code line = cleared_by (is_deleted code) code line

-- A command is sent

pub sent_flies : (command : Command) (line : Line) → is_some (sent command line).flight ≡ true
unfolding sent
sent_flies (Ask asked) line = refl
sent_flies (Create call joined) line = refl
sent_flies (Modify call) line = refl
sent_flies (Delete call) line = refl

pub sent_put_off : (command : Command) (line : Line) → (sent command line).put_off ≡ line.put_off
unfolding sent
sent_put_off (Ask asked) line = refl
sent_put_off (Create call joined) line = refl
sent_put_off (Modify call) line = refl
sent_put_off (Delete call) line = refl

abbrev pub sent_if : Option Command → Line → Line
sent_if None line = line
sent_if (Some command) line = sent command line

-- what is sent to a line that rests is one of the commands whose answers it waits for
module _ (ready : Bool) (joined : Bool) (off : Option PutOff) (refused left : Option ℕ) where
  abbrev idle_line : Leg → Option Asked → Line
  idle_line leg asked = line_with None leg joined asked off refused left

  abbrev SendsNoMore : Bool → Leg → Option Asked → Type 0
  SendsNoMore first leg asked =
      left_of (sent_if (first_of first (connection_next None ready joined leg) Rest asked) (idle_line leg asked)) ≤ left_of (idle_line leg asked)

  sending : (first : Bool) (leg : Leg) (asked : Option Asked) → SendsNoMore first leg asked
  unfolding sent
  sending true leg None = omega arith
  sending true leg (Some Digits) = omega arith
  sending true leg (Some Ring) = omega arith
  sending true leg (Some Ringback) = omega arith
  sending true leg (Some BusyTone) = omega arith
  sending true leg (Some ReorderTone) = omega arith
  sending true leg (Some Talk) = omega arith
  sending true Absent (Some Rest) = omega arith
  sending true (Unknown call) (Some Rest) = omega arith
  sending true (Standing call connection description) (Some Rest) = omega arith
  sending false (Unknown call) asked = omega arith
  sending false (Standing call connection description) asked = omega arith
  sending false Absent None = omega arith
  sending false Absent (Some Rest) = omega arith
  sending false Absent (Some Digits) = omega arith
  sending false Absent (Some Ring) = omega arith
  sending false Absent (Some Ringback) = omega arith
  sending false Absent (Some BusyTone) = omega arith
  sending false Absent (Some ReorderTone) = omega arith
  sending false Absent (Some Talk) = omega arith

sending_by : (flight : Option Command) (first ready : Bool) (leg : Leg) (joined : Bool) (asked : Option Asked) (off : Option PutOff) (refused left : Option ℕ)
    → left_of
    (sent_if (if is_some flight then None else first_of first (connection_next None ready joined leg) Rest asked)
    (line_with flight leg joined asked off refused left))
    ≤ left_of (line_with flight leg joined asked off refused left)
sending_by (Some command) first ready leg joined asked off refused left = omega arith
sending_by None first ready leg joined asked off refused left = sending ready joined off refused left first leg asked

pub sent_no_more : (ready : Bool) (line : Line) → left_of (sent_if (next_of Resting ready line) line) ≤ left_of line
unfolding next_of
sent_no_more ready line =
    sending_by line.flight (is_request_first line.put_off) ready line.leg line.joined line.asked line.put_off line.refused line.left

-- A line that waits for nothing

clear_by : (flight : Option Command) (leg : Leg) (joined : Bool) (asked : Option Asked) (off : Option PutOff) (refused left : Option ℕ)
    → left_of (line_with flight leg joined asked off refused left) ≤ 0 → IsClear (line_with flight leg joined asked off refused left)
clear_by (Some (Ask request)) leg joined asked off refused left none = absurd (omega (arith, none))
clear_by (Some (Create call part)) leg joined asked off refused left none = absurd (omega (arith, none))
clear_by (Some (Modify call)) leg joined asked off refused left none = absurd (omega (arith, none))
clear_by (Some (Delete call)) leg joined asked off refused left none = absurd (omega (arith, none))
clear_by None (Unknown call) joined asked off refused left none = absurd (omega (arith, none))
clear_by None (Standing call connection description) joined asked off refused left none = absurd (omega (arith, none))
clear_by None Absent joined None off refused left none = absurd (omega (arith, none))
clear_by None Absent joined (Some Rest) off refused left none = record { no_connection = refl; no_signal = refl; no_command = refl }
clear_by None Absent joined (Some Digits) off refused left none = absurd (omega (arith, none))
clear_by None Absent joined (Some Ring) off refused left none = absurd (omega (arith, none))
clear_by None Absent joined (Some Ringback) off refused left none = absurd (omega (arith, none))
clear_by None Absent joined (Some BusyTone) off refused left none = absurd (omega (arith, none))
clear_by None Absent joined (Some ReorderTone) off refused left none = absurd (omega (arith, none))
clear_by None Absent joined (Some Talk) off refused left none = absurd (omega (arith, none))

pub clear_at_none : (line : Line) → left_of line ≤ 0 → IsClear line
clear_at_none line none = clear_by line.flight line.leg line.joined line.asked line.put_off line.refused line.left none

-- What is to be sent, where nothing is in flight

-- nothing is to be sent of the connection, and the line is asked for what is wanted
pub record IsIdle (connection : Option Command) (wanted : Asked) (asked : Option Asked) : Type 0 where
  pub connected : connection ≡ None
  pub requested : is_asked wanted asked ≡ true

no_request : (b : Bool) (wanted : Asked) → ◌≡◌ {A = Option Command} (if b then None else Some (Ask wanted)) None → b ≡ true
no_request true wanted e = refl
no_request false wanted e = absurd cc

idle_last : (connection : Option Command) (wanted : Asked) (asked : Option Asked) → request_or connection wanted asked ≡ None → IsIdle connection wanted asked
idle_last (Some command) wanted asked e = absurd cc
idle_last None wanted asked e = record { connected = refl; requested = no_request (is_asked wanted asked) wanted e }

idle_first : (b : Bool) (connection : Option Command) (wanted : Asked) → connection_or (if b then None else Some (Ask wanted)) connection ≡ None
    → (connection ≡ None) × (b ≡ true)
idle_first true connection wanted e = (e, refl)
idle_first false connection wanted e = absurd cc

idle_of : (first : Bool) (connection : Option Command) (wanted : Asked) (asked : Option Asked) → first_of first connection wanted asked ≡ None
    → IsIdle connection wanted asked
idle_of false connection wanted asked e = idle_last connection wanted asked e
idle_of true connection wanted asked e =
    let both = idle_first (is_asked wanted asked) connection wanted e in record { connected = both.0; requested = both.1 }

idle_by : (flies first : Bool) (connection : Option Command) (wanted : Asked) (asked : Option Asked) → flies ≡ false
    → ◌≡◌ {A = Option Command} (if flies then None else first_of first connection wanted asked) None → IsIdle connection wanted asked
idle_by true first connection wanted asked free e = absurd (true≢false free)
idle_by false first connection wanted asked free e = idle_of first connection wanted asked e

pub idle_where_none : (phase : Phase) (ready : Bool) (line : Line) → is_some line.flight ≡ false → next_of phase ready line ≡ None
    → IsIdle (connection_next (talks_in phase) ready line.joined line.leg) (wanted_in phase) line.asked
unfolding next_of
idle_where_none phase ready line free e =
    idle_by (is_some line.flight) (is_request_first line.put_off) (connection_next (talks_in phase) ready line.joined line.leg) (wanted_in phase)
    line.asked free e

-- a line that rests, to which nothing is in flight and nothing is to be sent

resting_leg : (leg : Leg) (ready joined : Bool) → connection_next None ready joined leg ≡ None → leg ≡ Absent
resting_leg Absent ready joined e = refl
resting_leg (Unknown call) ready joined e = absurd cc
resting_leg (Standing call connection description) ready joined e = absurd cc

resting_asked : (asked : Option Asked) → is_asked Rest asked ≡ true → asked ≡ Some Rest
resting_asked None e = absurd (true≢false (sym e))
resting_asked (Some Rest) e = refl
resting_asked (Some Digits) e = absurd (true≢false (sym e))
resting_asked (Some Ring) e = absurd (true≢false (sym e))
resting_asked (Some Ringback) e = absurd (true≢false (sym e))
resting_asked (Some BusyTone) e = absurd (true≢false (sym e))
resting_asked (Some ReorderTone) e = absurd (true≢false (sym e))
resting_asked (Some Talk) e = absurd (true≢false (sym e))

pub none_in_flight : (flight : Option Command) → is_some flight ≡ false → flight ≡ None
none_in_flight None e = refl
none_in_flight (Some command) e = absurd (true≢false e)

pub clear_at_idle : (ready : Bool) (line : Line) → is_some line.flight ≡ false → next_of Resting ready line ≡ None → IsClear line
clear_at_idle ready line free e =
    let idle = idle_where_none Resting ready line free e in
    record {
      no_connection = resting_leg line.leg ready line.joined idle.connected;
      no_signal = resting_asked line.asked idle.requested;
      no_command = none_in_flight line.flight free;
    }

-- Nothing is sent to a line while a command is in flight

blocked_by : (b : Bool) (command : Option Command) → b ≡ true → ◌≡◌ {A = Option Command} (if b then None else command) None
blocked_by true command e = refl
blocked_by false command e = absurd cc

pub blocked : (phase : Phase) (ready : Bool) (line : Line) → is_some line.flight ≡ true → next_of phase ready line ≡ None
unfolding next_of
blocked phase ready line e =
    blocked_by (is_some line.flight)
    (first_of (is_request_first line.put_off) (connection_next (talks_in phase) ready line.joined line.leg) (wanted_in phase) line.asked) e

unblocked_by : (b : Bool) (found : Option Command) (command : Command) → ◌≡◌ {A = Option Command} (if b then None else found) (Some command) → b ≡ false
unblocked_by true found command e = absurd cc
unblocked_by false found command e = refl

pub unblocked : (phase : Phase) (ready : Bool) (line : Line) (command : Command) → next_of phase ready line ≡ Some command → is_some line.flight ≡ false
unfolding next_of
unblocked phase ready line command e =
    unblocked_by (is_some line.flight)
    (first_of (is_request_first line.put_off) (connection_next (talks_in phase) ready line.joined line.leg) (wanted_in phase) line.asked) command e
