use Rattle.std.proofs.Common.{◌≡◌, ◌≤◌, ℕ, nat_eq, take, option_map}
use Rattle.indexmap.specs.IndexMap.{get, spare}
use Rattle.transmission.specs.Span.{is_named}
use Rattle.transmission.specs.Spots.{marked_if}
use Rattle.transmission.proofs.spots.mark_by_ids.Given as goal

abbrev pub invariant-loop-span : goal.invariant-loop-span
invariant-loop-span l = record {
  marked : (key : ℕ) → get nat_eq l.spots key ≡ option_map (marked_if (is_named key (take l.span-index l.spans))) (get nat_eq l.fn.spots key);
  room : spare l.fn.spots ≤ spare l.spots;
}
