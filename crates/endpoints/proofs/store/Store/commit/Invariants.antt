use Rattle.std.proofs.Common.{◌≡◌, length}
use Rattle.std.specs.Prelude.{IfSome}
use Rattle.endpoints.specs.Ids.{HasId}
use Rattle.endpoints.specs.Saving.{IsMarked, HasRoom}
use Rattle.endpoints.proofs.store.Store.commit.Given as goal

abbrev pub invariant-loop-place : goal.invariant-loop-place
invariant-loop-place l = record {
  endpoints : l.self-inside.endpoints ≡ l.fn.self.endpoints;
  flags : length l.self-inside.touched.items ≡ length l.self-inside.endpoints.list;
  marked : IsMarked l.self-inside.touched.items l.self-inside.saved.list;
  room : HasRoom (length l.self-inside.saved.list) l.self-inside.touched.items l.self-inside.saved.room;
  own : IfSome l.self-inside.own_saved (λ own. HasId 0 own.number);
}

abbrev pub decreases-loop-place : goal.decreases-loop-place
decreases-loop-place l = length l.self-inside.saved.list
