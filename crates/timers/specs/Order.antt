-- The order in which things fall due (this gateway's profile).
use Rattle.std.specs.Prelude.{ℕ, ◌+◌, Bool, if◌then◌else◌, Option, Some, None}
use Rattle.std.specs.declared.cmp.Ordering.{Ordering}
use Rattle.std.specs.Ordering.{nat_cmp, then_cmp, on, is_lt}
use Rattle.packages.specs.declared.signal.Signal.{Signal}
use Rattle.packages.specs.declared.signal.Signal.TheVariants.{DialTone, Busy, Reorder, Ringing, RingSplash, MessageWaiting, Ringback, Congestion, Confirm}
use Rattle.timers.specs.declared.kind.LineDue.TheVariants.{DigitTimer, SignalEnd}
use Rattle.timers.specs.declared.kind.DueKind.{DueKind}
use Rattle.timers.specs.declared.kind.DueKind.TheVariants.{OfLine, Resend, Announce}
use Rattle.timers.specs.declared.due_item.DueItem.{DueItem}

-- the place of a signal in the table of signals
abbrev pub place_of : Signal → ℕ
place_of DialTone = 0
place_of Busy = 1
place_of Reorder = 2
place_of Ringing = 3
place_of RingSplash = 4
place_of MessageWaiting = 5
place_of Ringback = 6
place_of Congestion = 7
place_of Confirm = 8

-- how many signals the table has
abbrev pub signal_count : ℕ
signal_count = 9

-- the kinds come in this order: timer T, the signals in the order of their table, the command in flight, the announcement
abbrev pub kind_number : DueKind → ℕ
kind_number (OfLine DigitTimer) = 0
kind_number (OfLine (SignalEnd signal)) = 1 + place_of signal
kind_number Resend = 10
kind_number Announce = 11

abbrev pub kind_count : ℕ
kind_count = 12

abbrev pub kind_cmp : DueKind → DueKind → Ordering
kind_cmp = on kind_number nat_cmp

-- by line, the gateway itself first; then by kind
abbrev pub place_cmp : DueItem → DueItem → Ordering
place_cmp = then_cmp (on (λ item. item.line) nat_cmp) (on (λ item. item.kind) kind_cmp)

-- by moment; then by line and by kind
abbrev pub item_cmp : DueItem → DueItem → Ordering
item_cmp = then_cmp (on (λ item. item.moment) nat_cmp) place_cmp

-- one falls due before another
abbrev pub comes_before : DueItem → DueItem → Bool
comes_before item other = is_lt (item_cmp item other)

-- of two, where there are both, the one that falls due first
abbrev pub earlier : Option DueItem → Option DueItem → Option DueItem
earlier None other = other
earlier (Some item) None = Some item
earlier (Some item) (Some other) = if comes_before other item then Some other else Some item
