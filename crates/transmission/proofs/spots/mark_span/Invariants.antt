use Rattle.std.proofs.Common.{◌≡◌, ◌<◌, ◌≤◌, ℕ, nat_eq, option_map}
use Rattle.std.specs.Prelude.{◌&&◌, nat_le, nat_lt}
use Rattle.indexmap.specs.IndexMap.{get, spare}
use Rattle.transmission.specs.Spots.{marked_if}
use Rattle.transmission.proofs.spots.mark_span.Given as goal

abbrev pub invariant-loop-id : goal.invariant-loop-id
invariant-loop-id l = record {
  marked : (key : ℕ) → get nat_eq l.spots key ≡ option_map (marked_if (nat_le l.span.first key && nat_lt key l.id)) (get nat_eq l.fn.spots key);
  room : spare l.fn.spots ≤ spare l.spots;
  none_if_turned : l.span.last < l.span.first → l.id ≤ l.span.first;
}
