use Rattle.std.proofs.Common.{◌≡◌, Some, None, sym, rules}
use Rattle.endpoints.proofs.SavingLemmas.{unmarked_by, room_back, one_longer, shorter}
use Rattle.endpoints.proofs.ChangeLemmas.{back_found, back_flags, list_back, own_back}
use Rattle.endpoints.proofs.store.Store.rollback.Goals as goal

pub loop-saved-preserved : goal.loop-saved-preserved
loop-saved-preserved c = record {
  found = back_found _ _ c.in-Some.saved c.loop-saved.self-inside.own_saved c.loop-saved.self-inside.endpoints c.put_back.new.endpoints _ c.in-Some.ensures.last c.put_back.ensures c.loop-saved.invariant.found;
  flags = back_flags _ _ _ _ _ _ _ c.loop-saved.invariant.flags c.unmark.ensures c.put_back.ensures;
  room = room_back _ _ c.in-Some.saved.place _ _ _ _ c.loop-saved.invariant.room c.unmark.ensures (sym (one_longer _ _ _ c.in-Some.ensures.last)) c.in-Some.ensures.room;
  marked = unmarked_by _ _ _ _ c.in-Some.saved c.loop-saved.invariant.marked c.in-Some.ensures.last c.unmark.ensures;
  own = c.loop-saved.invariant.own;
}

pub loop-saved-smaller : goal.loop-saved-smaller
loop-saved-smaller c = shorter _ _ _ c.in-Some.ensures.last

pub returns-in-Some-take : goal.returns-in-Some-take
returns-in-Some-take c =
    let kept : c.loop-saved.self-inside.own_saved ≡ Some c.in-Some-take.own = search rules in
    own_back c.loop-saved.self-inside.saved.list c.pop.new.self.list c.in-Some-take.own c.loop-saved.self-inside.own_saved c.take.new.self c.loop-saved.self-inside.endpoints c.exchange_own.new.self _
    c.in_default.ensures.last.0 c.in_default.ensures.last.1 kept c.take.ensures.after c.loop-saved.invariant.found c.exchange_own.ensures

pub returns-in_default-take : goal.returns-in_default-take
returns-in_default-take c =
    let unsaved : c.loop-saved.self-inside.own_saved ≡ None = search rules in
    list_back c.loop-saved.self-inside.saved.list c.pop.new.self.list c.loop-saved.self-inside.own_saved c.take.new.self c.loop-saved.self-inside.endpoints _
    c.in_default.ensures.last.0 c.in_default.ensures.last.1 unsaved c.take.ensures.after c.loop-saved.invariant.found
