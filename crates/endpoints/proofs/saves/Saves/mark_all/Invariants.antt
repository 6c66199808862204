use Rattle.std.proofs.Common.{◌≡◌, ◌≤◌, length, take}
use Rattle.endpoints.proofs.SavingLemmas.{AllMarked}
use Rattle.endpoints.proofs.saves.Saves.mark_all.Given as goal

abbrev pub invariant-loop-index : goal.invariant-loop-index
invariant-loop-index l = record {
  marks : length l.marks.items ≡ length l.fn.marks.items;
  unmarked : AllMarked l.marks.items (take l.index l.self-inside.slots.items);
}
