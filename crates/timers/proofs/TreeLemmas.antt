-- The root of a tree of winners is the first of its leaves.
use Rattle.std.proofs.Common.{◌≡◌, ℕ, zero, suc, ◌+◌, ◌*◌, ◌/◌, ◌<◌, ◌≤◌, ◌≢◌, ◌==◌, Bool, true, false, List, length, drop, get_or, set, replicate, Option, None, refl, sym, ap, ◌∙◌, subst, arith, add-one, drop-cons, get_or-set_other, get_or-set_same}
use Rattle.std.proofs.lemmas.List.{drop_all, get_or_default}
use Rattle.std.proofs.lemmas.Bool.Decides.{nat_tests}
use Rattle.timers.specs.declared.due_item.DueItem.{DueItem}
use Rattle.timers.specs.Order.{earlier}
use Rattle.timers.specs.Leaves.{first_of, IsTree}
use Rattle.timers.proofs.LeastLemmas.{earlier_none, earlier_comm, earlier_assoc}

abbrev Nodes : Type 0
Nodes = List (Option DueItem)

-- what a node has
abbrev pub at : Nodes → ℕ → Option DueItem
at nodes node = get_or nodes node None

-- a node is the earlier of its two children
abbrev pub IsWon : Nodes → ℕ → Type 0
IsWon nodes node = at nodes node ≡ earlier (at nodes (2 * node)) (at nodes (2 * node + 1))

-- the earliest of so many nodes from one on
abbrev best : Nodes → ℕ → ℕ → Option DueItem
best nodes from zero = None
best nodes from (suc count) = earlier (at nodes from) (best nodes (from + 1) count)

best_last : (nodes : Nodes) (from count last : ℕ) → last ≡ from + count →
    best nodes from (suc count) ≡ earlier (best nodes from count) (at nodes last)
best_last nodes from zero last is =
    earlier_none (at nodes from) ∙ ap (at nodes) (let e : from ≡ last = omega arith in e)
best_last nodes from (suc count) last is =
    ap (earlier (at nodes from)) (best_last nodes (from + 1) count last (omega arith))
    ∙ sym (earlier_assoc (at nodes from) (best nodes (from + 1) count) (at nodes last))

best_first : (nodes : Nodes) (from count : ℕ) → from + count ≡ length nodes →
    best nodes from count ≡ first_of (drop from nodes)
best_first nodes from zero all = sym (ap first_of (drop_all from nodes (omega arith)))
best_first nodes from (suc count) all =
    ap (earlier (at nodes from))
    (best_first nodes (from + 1) count (omega arith) ∙ ap (λ k. first_of (drop k nodes)) (add-one from))
    ∙ sym (ap first_of (drop-cons nodes from None (omega arith)))

-- the two children of the first of so many nodes stand in for it behind the last
further : (nodes : Nodes) (i : ℕ) → IsWon nodes (suc i) →
    best nodes (suc i) (suc i) ≡ best nodes (suc (suc i)) (suc (suc i))
further nodes i won =
    let left : Option DueItem = at nodes (2 * suc i) in
    let right : Option DueItem = at nodes (2 * suc i + 1) in
    let rest : Option DueItem = best nodes (suc (suc i)) i in
    let one : best nodes (suc (suc i)) (suc i) ≡ earlier rest left =
    best_last nodes (suc (suc i)) i (2 * suc i) (omega arith) in
    let two : best nodes (suc (suc i)) (suc (suc i)) ≡ earlier (best nodes (suc (suc i)) (suc i)) right =
    best_last nodes (suc (suc i)) (suc i) (2 * suc i + 1) (omega arith) in
    ap (earlier (at nodes (suc i))) (ap (λ k. best nodes k i) (add-one (suc i)))
    ∙ earlier_comm (at nodes (suc i)) rest
    ∙ ap (earlier rest) won
    ∙ sym (earlier_assoc rest left right)
    ∙ ap (λ x. earlier x right) (sym one)
    ∙ sym two

all_further : (leaves : ℕ) (nodes : Nodes) (i : ℕ) → IsTree leaves nodes → suc i ≤ leaves →
    best nodes 1 1 ≡ best nodes (suc i) (suc i)
all_further leaves nodes zero tree within = refl
all_further leaves nodes (suc i) tree within =
    all_further leaves nodes i tree (omega arith) ∙ further nodes i (tree.won (suc i) (omega arith) (omega arith))

root_of : (leaves : ℕ) (nodes : Nodes) → IsTree leaves nodes → 0 < leaves → best nodes 1 1 ≡ best nodes leaves leaves
root_of zero nodes tree some = absurd (omega arith)
root_of (suc n) nodes tree some = all_further (suc n) nodes n tree (omega arith)

pub root_first : (leaves : ℕ) (nodes : Nodes) → IsTree leaves nodes → at nodes 1 ≡ first_of (drop leaves nodes)
root_first leaves nodes tree =
    let size : length nodes ≡ 2 * leaves = tree.size in
    sym (earlier_none (at nodes 1))
    ∙ root_of leaves nodes tree tree.some
    ∙ best_first nodes leaves leaves (omega arith)

-- what was taken of the two children is their earlier one
pub won_by : (nodes : Nodes) (node : ℕ) (left right winner : Option DueItem) → 2 * node + 1 < length nodes →
    left ≡ get_or nodes (2 * node) left → right ≡ get_or nodes (2 * node + 1) right → winner ≡ earlier left right →
    winner ≡ earlier (at nodes (2 * node)) (at nodes (2 * node + 1))
won_by nodes node left right winner within l r is =
    is
    ∙ ap (λ x. earlier x right) (l ∙ get_or_default nodes (2 * node) left None (omega arith))
    ∙ ap (earlier (at nodes (2 * node))) (r ∙ get_or_default nodes (2 * node + 1) right None within)

-- a tree, but that this node may not be the earlier of its children
pub record IsTreeBut (but leaves : ℕ) (nodes : Nodes) : Type 0 where
  pub won : (node : ℕ) → 1 ≤ node → node < leaves → node ≢ but → IsWon nodes node

-- where that node is too, it is a tree
pub whole : (but leaves : ℕ) (nodes : Nodes) → IsTreeBut but leaves nodes → IsWon nodes but →
    (node : ℕ) → 1 ≤ node → node < leaves → IsWon nodes node
whole but leaves nodes tree is node one within = by (node == but) refl
  where
    by : (x : Bool) → (node == but) ≡ x → IsWon nodes node
    by true e = let same : but ≡ node = grind (arith, nat_tests, e) in subst (IsWon nodes) same is
    by false e = tree.won node one within (λ same. absurd (grind (arith, nat_tests, e, same)))

-- another node changes, and none of its children
won_still : (nodes : Nodes) (node changed : ℕ) (item : Option DueItem) → node ≢ changed → 2 * node ≢ changed →
    2 * node + 1 ≢ changed → IsWon nodes node → IsWon (set nodes changed item) node
won_still nodes node changed item other left right won =
    rw (
      get_or-set_other nodes changed node item None other,
      get_or-set_other nodes changed (2 * node) item None left,
      get_or-set_other nodes changed (2 * node + 1) item None right,
    ) won

-- a leaf changes
pub leaf_changed : (leaves leaf : ℕ) (nodes : Nodes) (item : Option DueItem) → IsTree leaves nodes → leaves ≤ leaf →
    IsTreeBut (leaf / 2) leaves (set nodes leaf item)
leaf_changed leaves leaf nodes item tree out =
    record {
      won = λ node one within other.
          won_still nodes node leaf item (omega arith) (omega arith) (omega arith) (tree.won node one within);
    }

-- a node is mended
pub node_mended : (node leaves : ℕ) (nodes : Nodes) (item : Option DueItem) → IsTreeBut node leaves nodes → 1 ≤ node →
    node < length nodes → item ≡ earlier (at nodes (2 * node)) (at nodes (2 * node + 1)) →
    IsTreeBut (node / 2) leaves (set nodes node item)
node_mended node leaves nodes item tree some inside is =
    record {
      won = λ i one within other. by (i == node) i refl one within other;
    }
  where
    here : (i : ℕ) → i ≡ node → IsWon (set nodes node item) i
    here i e =
        let left : 2 * i ≢ node = omega arith in
        let right : 2 * i + 1 ≢ node = omega arith in
        rw (get_or-set_other nodes node (2 * i) item None left, get_or-set_other nodes node (2 * i + 1) item None right)
        (ap (at (set nodes node item)) e
        ∙ get_or-set_same nodes node item None inside
        ∙ is
        ∙ ap (λ k. earlier (at nodes (2 * k)) (at nodes (2 * k + 1))) (sym e))

    by : (x : Bool) (i : ℕ) → (i == node) ≡ x → 1 ≤ i → i < leaves → i ≢ node / 2 → IsWon (set nodes node item) i
    by true i e one within other = here i (grind (arith, nat_tests, e))
    by false i e one within other =
        let apart : i ≢ node = λ same. absurd (grind (arith, nat_tests, e, same)) in
        won_still nodes i node item apart (omega arith) (omega arith) (tree.won i one within apart)

-- At the opening no leaf has an item

at_none : (count i : ℕ) → at (replicate {A = Option DueItem} count None) i ≡ None
at_none zero i = refl
at_none (suc count) zero = refl
at_none (suc count) (suc i) = at_none count i

drop_none : (from count all : ℕ) → all ≡ from + count →
    drop from (replicate {A = Option DueItem} all None) ≡ replicate count None
drop_none zero count all is = ap (λ k. replicate {A = Option DueItem} k None) (let e : all ≡ count = omega arith in e)
drop_none (suc from) count zero is = absurd (omega arith)
drop_none (suc from) count (suc all) is = drop_none from count all (omega arith)

pub opened : (leaves : ℕ) (nodes : Nodes) → nodes ≡ replicate (2 * leaves) None →
    drop leaves nodes ≡ replicate leaves None
opened leaves nodes is = ap (drop leaves) is ∙ drop_none leaves leaves (2 * leaves) (omega arith)

pub won_at_first : (count node : ℕ) → IsWon (replicate {A = Option DueItem} count None) node
won_at_first count node =
    at_none count node
    ∙ sym (ap (λ x. earlier x (at (replicate count None) (2 * node + 1))) (at_none count (2 * node))
    ∙ at_none count (2 * node + 1))
