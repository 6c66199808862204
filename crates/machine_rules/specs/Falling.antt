-- What falls due up to a moment.
use Rattle.std.specs.Prelude.{ℕ, nat_le, if◌then◌else◌, Option, Some, None}
use Rattle.timers.specs.declared.due_item.DueItem.{DueItem}

-- what is due, where it is due up to this moment
abbrev pub if_by : ℕ → Option DueItem → Option DueItem
if_by moment None = None
if_by moment (Some item) = if nat_le item.moment moment then Some item else None
