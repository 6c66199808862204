-- What the worked examples speak of.
use Rattle.std.specs.Prelude.{ℕ, zero, suc, List, [], ◌∷◌, length, fold, Option, Some, None}
use Rattle.packages.specs.declared.signal.Signal.{Signal}
use Rattle.timers.specs.declared.kind.LineDue.TheVariants.{DigitTimer, SignalEnd}
use Rattle.timers.specs.declared.kind.DueKind.{DueKind}
use Rattle.timers.specs.declared.kind.DueKind.TheVariants.{OfLine}
use Rattle.timers.specs.declared.due_item.DueItem.{DueItem}
use Rattle.timers.specs.Table.{Table, with_moment, without, least_of}

-- what falls due of a line: timer T, and the end of a signal
abbrev pub timer : DueKind
timer = OfLine DigitTimer

abbrev pub ends : Signal → DueKind
ends signal = OfLine (SignalEnd signal)

-- the table in which these are set one after the other
abbrev pub table_of : List DueItem → Table
table_of items = fold (λ table item. with_moment table item.line item.kind item.moment) [] items

abbrev pub drained_by : (Table → List DueItem) → Table → Option DueItem → List DueItem
drained_by next table None = []
drained_by next table (Some item) = item ∷ next (without table item.line item.kind)

-- what falls due of a table, one after the other, each cleared then, at most so many
unfoldable pub drained_within : ℕ → Table → List DueItem
drained_within zero table = []
drained_within (suc most) table = drained_by (drained_within most) table (least_of table)

abbrev pub drained_from : Table → List DueItem
drained_from table = drained_within (length table) table

abbrev pub drained : List DueItem → List DueItem
drained items = drained_from (table_of items)
