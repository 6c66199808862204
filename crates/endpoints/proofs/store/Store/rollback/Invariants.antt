use Rattle.std.proofs.Common.{◌≡◌, length}
use Rattle.std.specs.Prelude.{IfSome}
use Rattle.endpoints.specs.Ids.{HasId}
use Rattle.endpoints.specs.Saving.{found_in, IsMarked, HasRoom}
use Rattle.endpoints.proofs.store.Store.rollback.Given as goal

abbrev pub invariant-loop-saved : goal.invariant-loop-saved
invariant-loop-saved l = record {
  found : found_in l.self-inside.saved.list l.self-inside.own_saved l.self-inside.endpoints ≡ l.fn.self.found;
  flags : length l.self-inside.touched.items ≡ length l.self-inside.endpoints.list;
  marked : IsMarked l.self-inside.touched.items l.self-inside.saved.list;
  room : HasRoom (length l.self-inside.saved.list) l.self-inside.touched.items l.self-inside.saved.room;
  own : IfSome l.self-inside.own_saved (λ own. HasId 0 own.number);
}

abbrev pub decreases-loop-saved : goal.decreases-loop-saved
decreases-loop-saved l = length l.self-inside.saved.list
