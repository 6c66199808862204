-- What an exchange knows of a line at its gateway, and how that changes by the commands to it and what becomes of them.
use Rattle.std.specs.Prelude.{ℕ, if◌then◌else◌, Bool, true, false, Option, Some, None}
use Rattle.packages.specs.declared.hook.Hook.{Hook}
use Rattle.call_processing.specs.declared.asked.Asked.{Asked}
use Rattle.call_processing.specs.declared.command.Command.{Command}
use Rattle.call_processing.specs.declared.command.Command.TheVariants.{Ask, Create, Modify, Delete}
use Rattle.call_processing.specs.declared.command.Outcome.{Outcome}
use Rattle.call_processing.specs.declared.command.Outcome.TheVariants.{Created, Answered, GivenUp}
use Rattle.call_processing.specs.declared.fate.Fate.{Fate}
use Rattle.call_processing.specs.declared.fate.Fate.TheVariants.{Done, Again, Refused, Open}
use Rattle.call_processing.specs.declared.line.Leg.{Leg}
use Rattle.call_processing.specs.declared.line.Leg.TheVariants.{Absent, Unknown, Standing}
use Rattle.call_processing.specs.declared.line.Line.{Line}
use Rattle.call_processing.specs.declared.told.Told.{Told}
use Rattle.call_processing.specs.declared.told.Told.TheVariants.{OffHook, OnHook, Flash, Dialled, TimedOut, Restarted, Disconnected}
use Rattle.call_processing.specs.Fates.{is_success, is_deleted, hook_told, put_off_then, refused_by, fails}

-- a line of which nothing is known, and to which nothing was sent
abbrev pub new_line : Line
new_line = record {
  leg = Absent;
  joined = false;
  asked = None;
  flight = None;
  put_off = None;
  refused = None;
  left = None;
}

-- A command is sent: it is in flight. The line counts as asked, and its connection as one of which nobody knows whether it
-- stands, until it is known better.
unfoldable pub sent : Command → Line → Line
sent (Ask asked) line = record line { flight = Some (Ask asked); asked = Some asked; refused = None }
sent (Create call joined) line =
    record line { flight = Some (Create call joined); leg = Unknown call; joined = joined }
sent (Modify call) line = record line { flight = Some (Modify call) }
sent (Delete call) line = record line { flight = Some (Delete call) }

-- A command lands

-- The line stays asked for what it accepted, and for what it refused for good: it isn't asked for the same again. Else it is asked anew.
abbrev pub asked_then : Fate → Option Asked → Option Asked
asked_then Done was = was
asked_then (Again off) was = None
asked_then (Refused code) was = was
asked_then Open was = None

-- a connection stands, or doesn't; where a command was executed without saying which connection it made, and where it was given
-- up, nobody knows
abbrev pub created_then : ℕ → Outcome → Leg → Leg
created_then call (Created connection description) was = Standing call connection description
created_then call (Answered code) was = if is_success code then was else Absent
created_then call GivenUp was = was

-- the connection was given the description of the other end
abbrev pub joined_then : Fate → Bool → Bool
joined_then Done was = true
joined_then (Again off) was = was
joined_then (Refused code) was = was
joined_then Open was = was

-- the connection is gone, or left where its deletion was refused for good; else it is as it was
abbrev pub deleted_then : Fate → Leg → Leg
deleted_then Done was = Absent
deleted_then (Again off) was = was
deleted_then (Refused code) was = Absent
deleted_then Open was = was

-- the code by which the deletion was refused for good of a connection that is left; what is left stays so
abbrev pub left_then : Fate → Option ℕ → Option ℕ
left_then Done was = was
left_then (Again off) was = was
left_then (Refused code) was = Some code
left_then Open was = was

abbrev pub landed_as : Option Command → Fate → Outcome → Line → Line
landed_as None fate outcome line = line
landed_as (Some (Ask asked)) fate outcome line =
    record line {
      flight = None;
      asked = asked_then fate line.asked;
      refused = refused_by fate;
      put_off = put_off_then fate line.put_off;
    }
landed_as (Some (Create call joined)) fate outcome line =
    record line { flight = None; leg = created_then call outcome line.leg; put_off = put_off_then fate line.put_off }
landed_as (Some (Modify call)) fate outcome line =
    record line { flight = None; joined = joined_then fate line.joined; put_off = put_off_then fate line.put_off }
landed_as (Some (Delete call)) fate outcome line =
    record line {
      flight = None;
      leg = deleted_then fate line.leg;
      left = left_then fate line.left;
      put_off = put_off_then fate line.put_off;
    }

-- what became of the command in flight
unfoldable pub landed : Fate → Outcome → Line → Line
landed fate outcome line = landed_as line.flight fate outcome line

-- the call that can't be connected by that
abbrev pub failing : Option Command → Fate → Option ℕ
failing None fate = None
failing (Some (Ask asked)) fate = None
failing (Some (Create call joined)) fate = if fails fate then Some call else None
failing (Some (Modify call)) fate = if fails fate then Some call else None
failing (Some (Delete call)) fate = None

abbrev pub hook_in : Outcome → Option Hook
hook_in (Created connection description) = None
hook_in (Answered code) = hook_told code
hook_in GivenUp = None

-- how the telephone was found by what became of a command
abbrev pub finding : Option Command → Outcome → Option Hook
finding None outcome = None
finding (Some (Ask asked)) outcome = hook_in outcome
finding (Some (Create call joined)) outcome = None
finding (Some (Modify call)) outcome = None
finding (Some (Delete call)) outcome = None

-- Telephones, gateways

-- A line that told something has used its request up, and waits for another (RFC 3435, 4.4.1).
abbrev pub spent : Line → Line
spent line = record line { asked = None; refused = None }

-- a gateway that has started again has no connection that was left, and what it put off is asked for at once
abbrev pub restarted : Line → Line
restarted line = record line { asked = None; refused = None; put_off = None; left = None }

-- what a line told
abbrev pub heard_on : Told → Line → Line
heard_on OffHook line = spent line
heard_on OnHook line = spent line
heard_on Flash line = spent line
heard_on (Dialled to) line = spent line
heard_on TimedOut line = spent line
heard_on Restarted line = restarted line
heard_on Disconnected line = spent line

-- A command of its owner's to delete all that the line has was answered so: nothing is left; or all that may stand is.
unfoldable pub cleared : ℕ → Line → Line
cleared code line =
    if is_deleted code then record line { leg = Absent; left = None } else record line { left = Some code }
