use Rattle.std.proofs.Common.{ℕ, ◌∙◌, ap, sym, length, set, false}
use Rattle.std.proofs.lemmas.List.{length-set}
use Rattle.endpoints.proofs.SavingLemmas.{unmarked_by, room_back, one_longer, shorter}
use Rattle.endpoints.proofs.ChangeLemmas.{none_saved}
use Rattle.endpoints.proofs.store.Store.commit.Goals as goal

pub loop-place-preserved : goal.loop-place-preserved
loop-place-preserved c =
    let forgotten = c.in-Some.ensures.last in
    record {
      endpoints = c.loop-place.invariant.endpoints;
      flags = ap length c.unmark.ensures ∙ simp length-set c.loop-place.invariant.flags;
      room = room_back _ _ c.in-Some.place _ _ _ _ c.loop-place.invariant.room c.unmark.ensures (sym (one_longer _ _ _ forgotten.popped)) c.in-Some.ensures.room;
      marked = unmarked_by _ _ _ _ forgotten.last c.loop-place.invariant.marked forgotten.popped
          (c.unmark.ensures ∙ ap (λ (p : ℕ). set c.loop-place.self-inside.touched.items p false) forgotten.there);
      own = c.loop-place.invariant.own;
    }

pub loop-place-smaller : goal.loop-place-smaller
loop-place-smaller c = shorter _ _ _ c.in-Some.ensures.last.popped

pub returns : goal.returns
returns c = none_saved c.forget.new.self.list c.loop-place.self-inside.endpoints _ c.in_default.ensures.last.1 c.loop-place.invariant.endpoints
