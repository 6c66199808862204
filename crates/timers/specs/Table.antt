-- A table of due moments, and what of it falls due first.
use Rattle.std.specs.Prelude.{◌≡◌, ℕ, ◌==◌, ◌&&◌, Bool, false, not, if◌then◌else◌, List, [], ◌∷◌, filter, Option, Some, None}
use Rattle.std.specs.Ordering.{is_lt}
use Rattle.timers.specs.declared.kind.DueKind.{DueKind}
use Rattle.timers.specs.declared.due_item.DueItem.{DueItem}
use Rattle.timers.specs.Order.{kind_number, place_cmp, comes_before, earlier}

-- what is set: for each kind of each line once at most, in the order of the lines and of the kinds
abbrev pub Table : Type 0
Table = List DueItem

-- a table of the gateway itself, which is line 0, and of so many lines
pub record DueState : Type 0 where
  pub lines : ℕ
  pub table : Table

abbrev pub nothing_set : ℕ → DueState
nothing_set lines = record { lines = lines; table = [] }

abbrev pub due : ℕ → ℕ → DueKind → DueItem
due moment line kind = record { moment = moment; line = line; kind = kind }

abbrev pub place_at : ℕ → DueKind → ℕ × DueKind
place_at line kind = (line, kind)

-- it falls due on this line, and is of this kind
abbrev pub is_of : ℕ → DueKind → DueItem → Bool
is_of line kind item = line == item.line && kind_number kind == kind_number item.kind

-- the moment that is set for a line and a kind
abbrev pub moment_of : Table → ℕ → DueKind → Option ℕ
moment_of [] line kind = None
moment_of (item ∷ table) line kind = if is_of line kind item then Some item.moment else moment_of table line kind

-- the table with none for a line and a kind
abbrev pub without : Table → ℕ → DueKind → Table
without table line kind = filter (λ item. not (is_of line kind item)) table

-- the table with one more, before those of later lines and kinds
abbrev pub with_item : Table → DueItem → Table
with_item [] item = item ∷ []
with_item (set ∷ table) item =
    if is_lt (place_cmp item set) then item ∷ set ∷ table else set ∷ with_item table item

-- the table with this moment for a line and a kind, in place of the one that was set
abbrev pub with_moment : Table → ℕ → DueKind → ℕ → Table
with_moment table line kind moment = with_item (without table line kind) (due moment line kind)

-- of all that is set, what falls due first
abbrev pub least_of : Table → Option DueItem
least_of [] = None
least_of (item ∷ table) = earlier (Some item) (least_of table)

-- the same as a fact: the item is set, and nothing that is set comes before it
pub record IsLeast (table : Table) (item : DueItem) : Type 0 where
  pub set : moment_of table item.line item.kind ≡ Some item.moment
  pub first : (line : ℕ) (kind : DueKind) (moment : ℕ) → moment_of table line kind ≡ Some moment
      → comes_before (due moment line kind) item ≡ false
