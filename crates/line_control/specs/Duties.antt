-- Which command is next at a line beside those of the exchange: first connections of an earlier run end, then its hook is asked for. And
-- when a command that was put off is sent again: how long that is, is this exchange's profile.
use Rattle.std.specs.Prelude.{ℕ, ◌+◌, ◌-◌, ◌^◌, ◌==◌, ◌&&◌, ◌||◌, min, nat_lt, Bool, true, false, is_some, if◌then◌else◌, codes, List, [], Option, Some, None}
use Rattle.call_processing.specs.declared.fate.Cause.{Cause}
use Rattle.call_processing.specs.declared.fate.Cause.TheVariants as causes
use Rattle.call_processing.specs.declared.fate.PutOff.{PutOff}
use Rattle.call_processing.specs.Fates.{may_pass, most_put_off}
use Rattle.agent_log.specs.declared.standing.Standing.TheVariants.{Rest}
use Rattle.agent_log.specs.Refusals.{no_refusals}
use Rattle.line_control.specs.declared.care.Duty.{Duty}
use Rattle.line_control.specs.declared.care.Duty.TheVariants.{Clear, Audit, Route}
use Rattle.line_control.specs.declared.care.Care.{Care}
use Rattle.line_control.specs.declared.care.Change.{Change}
use Rattle.line_control.specs.declared.care.Change.TheVariants.{Begin, Land, Lose, Tell, OweAudit, Announce, Find, Show, Answer, Routed, Wake}
use Rattle.line_control.specs.declared.care.Shown.{Shown}

-- what is next behind it
abbrev pub next_behind : Duty → Duty
next_behind Clear = Audit
next_behind Audit = Route
next_behind Route = Route

-- an audit that is sent asks for what is told from then on
abbrev pub told_still : Duty → Bool → Bool
told_still Clear has_told = has_told
told_still Audit has_told = false
told_still Route has_told = has_told

-- a line of which nothing is known
abbrev pub new_care : Care
new_care = record {
  next = Clear;
  flight = None;
  is_outlived = false;
  has_told = false;
  is_found_off = false;
  put_off = 0;
  again = None;
  shown = record { standing = Rest; refusals = no_refusals };
}

-- a command is in flight, or one that was put off isn't due yet
abbrev pub is_held : Care → Bool
is_held care = is_some care.flight || is_some care.again

-- the duty that begins: none while the line is held
abbrev pub duty_begun : Care → Option Duty
duty_begun care = if is_held care then None else Some care.next

-- it is in flight, to the line as it is now
abbrev pub begun : Care → Care
begun care =
    if is_held care then care
    else record care {
      next = next_behind care.next;
      flight = Some care.next;
      is_outlived = false;
      has_told = told_still care.next care.has_told;
    }

-- it landed
abbrev pub landed : Care → Care
landed care = record care { flight = None }

-- a line that is to be cleared stays so
abbrev pub owed_behind : Duty → Duty → Duty
owed_behind Clear duty = Clear
owed_behind Audit duty = duty
owed_behind Route duty = duty

abbrev pub owed : Care → Duty → Care
owed care duty = record care { next = owed_behind care.next duty }

-- what a command was for that was given up is owed again, unless the exchange is told of that
abbrev pub owed_again : Option Duty → Care → Care
owed_again None care = care
owed_again (Some Clear) care = owed care Clear
owed_again (Some Audit) care = owed care Audit
owed_again (Some Route) care = care

abbrev pub lost : Care → Care
lost care = owed_again care.flight (landed care)

-- the gateway has started again: what is in flight was issued to what it was before, and what an audit has found is of that, too; what it
-- put off is sent at once
abbrev pub outlived : Care → Care
outlived care = record care { is_outlived = is_some care.flight; is_found_off = false; put_off = 0; again = None }

-- the line is announced: it has started again, or lost its agent; its handset may have been moved, so its hook is asked for
abbrev pub announced : Bool → Care → Care
announced is_restart care = owed (if is_restart then outlived care else care) Audit

-- an audit has found its handset lifted, or not
abbrev pub found : Bool → Care → Care
found is_off care = record care { is_found_off = is_off }

-- how it stands was told, and what it refuses
abbrev pub told_of : Shown → Care → Care
told_of shown care = record care { shown = shown }

-- the line has told something: an audit that is in flight is older, and what one has found isn't new any more
abbrev pub told_care : Care → Care
told_care care = record care { has_told = true; is_found_off = false }

-- What was put off

-- a command that was put off is sent again so long behind its answer, in ms
abbrev pub again_after : ℕ
again_after = 1000

abbrev pub again_at : ℕ → ℕ
again_at moment = min (moment + again_after) (2 ^ 64 - 1)

abbrev pub held_from : ℕ → Care → Care
held_from moment care = record care { again = Some (again_at moment) }

-- its time has come, if that moment was its own
abbrev pub is_due_at : Option ℕ → ℕ → Bool
is_due_at None moment = false
is_due_at (Some again) moment = again == moment

abbrev pub woken : ℕ → Care → Care
woken moment care = if is_due_at care.again moment then record care { again = None } else care

-- a duty beside the exchange was refused by this code for a cause that may pass, and not too often yet
abbrev pub is_put_off : ℕ → Care → Bool
is_put_off code care = may_pass code && nat_lt care.put_off most_put_off

-- it is owed again, a while later; or it is over, whatever it was answered
abbrev pub duty_answered : ℕ → ℕ → Duty → Care → Care
duty_answered moment code duty care =
    if is_put_off code care then held_from moment (record (owed care duty) { put_off = care.put_off + 1 })
    else record care { put_off = 0 }

-- What comes before a command of the exchange's that was put off: where it may be put off no more, the line is cleared, or audited; and it
-- is audited where its hook is another than the exchange has it.
abbrev pub last_duty : Cause → Duty
last_duty causes.Hook = Audit
last_duty causes.Request = Audit
last_duty causes.Connection = Clear

abbrev pub first_duty : Cause → Option Duty
first_duty causes.Hook = Some Audit
first_duty causes.Request = None
first_duty causes.Connection = None

abbrev pub duty_behind : PutOff → Option Duty
duty_behind off =
    if off.times == most_put_off then Some (last_duty off.cause)
    else if off.times == 1 then first_duty off.cause
    else None

abbrev pub held_or : ℕ → Option Duty → Care → Care
held_or moment None care = held_from moment care
held_or moment (Some duty) care = owed care duty

-- how a command of the exchange's was put off, if it was
abbrev pub routed_by : ℕ → Option PutOff → Care → Care
routed_by moment None care = care
routed_by moment (Some off) care = held_or moment (duty_behind off) care

-- this happens to it
abbrev pub changed_by : Change → Care → Care
changed_by Begin = begun
changed_by Land = landed
changed_by Lose = lost
changed_by Tell = told_care
changed_by OweAudit = λ care. owed care Audit
changed_by (Announce is_restart) = announced is_restart
changed_by (Find is_off) = found is_off
changed_by (Show shown) = told_of shown
changed_by (Answer moment code duty) = duty_answered moment code duty
changed_by (Routed moment off) = routed_by moment off
changed_by (Wake moment) = woken moment

-- the commands that the exchange doesn't know of: their verbs, and what stands behind the command line
abbrev pub fixed_order : Duty → Option (List ℕ × List ℕ)
fixed_order Clear = Some (codes "DLCX", [])
fixed_order Audit = Some (codes "AUEP", codes "F: ES\r\n")
fixed_order Route = None
