-- The table of due moments: of each line, and of the gateway itself, which is line 0, what falls due first.
use Rattle.std.specs.Prelude.{◌≡◌, ◌≢◌, ℕ, ◌==◌, if◌then◌else◌, Option, Some, None, length}
use Rattle.timers.specs.declared.kind.DueKind.{DueKind}
use Rattle.timers.specs.declared.due_item.DueItem.{DueItem}
use Rattle.timers.specs.Order.{kind_number}
use Rattle.timers.specs.Table.{Table, DueState, moment_of, with_moment, without}
use Rattle.plain_machine.specs.Machine.{Endpoints}
use Rattle.plain_machine.specs.Falling.{due_at}

-- what was first of a line is taken out
abbrev pub cleared : ℕ → Option DueItem → Table → Table
cleared line None table = table
cleared line (Some item) table = without table line item.kind

-- what is first of a line is put in
abbrev pub entered : ℕ → Option DueItem → Table → Table
entered line None table = table
entered line (Some item) table = with_moment table line item.kind item.moment

-- the moment at which something falls due, where it is of this kind
abbrev pub moment_if : DueKind → Option DueItem → Option ℕ
moment_if kind None = None
moment_if kind (Some item) = if kind_number kind == kind_number item.kind then Some item.moment else None

-- of this line the table has what falls due first, and nothing else
abbrev pub Has : Table → ℕ → Option DueItem → Type 0
Has table line first = (kind : DueKind) → moment_of table line kind ≡ moment_if kind first

-- so it is of this line now, and the table has of the others what it had
pub record Renews (line : ℕ) (first : Option DueItem) (table table' : Table) : Type 0 where
  pub here : Has table' line first
  pub elsewhere : (other : ℕ) (kind : DueKind) → other ≢ line → moment_of table' other kind ≡ moment_of table other kind

-- the table has a place for each line, and of each what falls due first, and nothing else
pub record InStep (endpoints : Endpoints) (state : DueState) : Type 0 where
  pub lines : state.lines ≡ length endpoints.list
  pub moments : (line : ℕ) (kind : DueKind) → moment_of state.table line kind ≡ moment_if kind (due_at endpoints line)
