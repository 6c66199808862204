-- The sources of what comes, in a circle: whoever had a turn comes last in the next.
use Rattle.std.specs.Prelude.{Bool, if◌then◌else◌, Option, Some, None}
use Rattle.turns.specs.declared.circle.Ready.{Ready}
use Rattle.turns.specs.declared.circle.Source.{Source}
use Rattle.turns.specs.declared.circle.Source.TheVariants.{Clock, Commands, Datagrams, Visitors}

-- the source behind it: the clock comes first, then commands, datagrams and visitors
abbrev pub following : Source → Source
following Clock = Commands
following Commands = Datagrams
following Datagrams = Visitors
following Visitors = Clock

-- it may have something; the clock has where a tick is due
abbrev pub is_ready : Bool → Ready → Source → Bool
is_ready is_tick_due ready Clock = is_tick_due
is_ready is_tick_due ready Commands = ready.commands
is_ready is_tick_due ready Datagrams = ready.datagrams
is_ready is_tick_due ready Visitors = ready.visitors

-- the first behind the last one that may have something; the last one itself comes last
abbrev pub first_ready : Bool → Ready → Source → Option Source
first_ready is_tick_due ready last =
    if is_ready is_tick_due ready (following last) then Some (following last)
    else if is_ready is_tick_due ready (following (following last)) then Some (following (following last))
    else if is_ready is_tick_due ready (following (following (following last))) then Some (following (following (following last)))
    else if is_ready is_tick_due ready last then Some last
    else None
