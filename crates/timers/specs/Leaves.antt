-- How a table is kept: a leaf for each kind of each line, and a tree of winners over the leaves. No public clause names
-- any of it.
use Rattle.std.specs.Prelude.{◌≡◌, ⊤, ℕ, suc, ◌+◌, ◌*◌, ◌^◌, ◌<◌, ◌≤◌, List, [], ◌∷◌, length, filter_map, slice_index_or, Option, Some, None}
use Rattle.timers.specs.declared.kind.DueKind.{DueKind}
use Rattle.timers.specs.declared.due_item.DueItem.{DueItem}
use Rattle.timers.specs.Order.{kind_number, kind_count, earlier}
use Rattle.timers.specs.Table.{Table}

-- the leaf of a kind of a line
abbrev pub leaf_of : ℕ → DueKind → ℕ
leaf_of line kind = line * kind_count + kind_number kind

-- what is set in leaves
abbrev pub set_in : List (Option DueItem) → Table
set_in = filter_map (λ leaf. leaf)

-- the first of what is set
abbrev pub first_of : List (Option DueItem) → Option DueItem
first_of [] = None
first_of (leaf ∷ leaves) = earlier leaf (first_of leaves)

-- the item belongs to this leaf
abbrev pub IsAt : ℕ → DueItem → Type 0
IsAt leaf item = leaf ≡ leaf_of item.line item.kind

abbrev pub IsAtIfSet : ℕ → Option DueItem → Type 0
IsAtIfSet leaf None = ⊤
IsAtIfSet leaf (Some item) = IsAt leaf item

-- leaves from this one on have each what belongs to it
abbrev pub ArePlaced : ℕ → List (Option DueItem) → Type 0
ArePlaced first [] = ⊤
ArePlaced first (leaf ∷ leaves) = IsAtIfSet first leaf × ArePlaced (suc first) leaves

-- a leaf for each kind of the gateway itself and of each line
pub record IsKept (lines : ℕ) (leaves : List (Option DueItem)) : Type 0 where
  pub all : length leaves ≡ (lines + 1) * kind_count
  pub placed : ArePlaced 0 leaves

-- each node is the earlier of its two children
pub record IsTree (leaves : ℕ) (nodes : List (Option DueItem)) : Type 0 where
  pub size : length nodes ≡ 2 * leaves
  pub some : 0 < leaves
  pub few : leaves < 2 ^ 32
  pub won : (node : ℕ) → 1 ≤ node → node < leaves → slice_index_or nodes node None
      ≡ earlier (slice_index_or nodes (2 * node) None) (slice_index_or nodes (2 * node + 1) None)
