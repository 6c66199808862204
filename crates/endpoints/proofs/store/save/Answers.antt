use Rattle.std.proofs.Common.{◌≡◌, ◌+◌, length, ap, refl, arith}
use Rattle.endpoints.specs.Saving.{SavesState}
use Rattle.endpoints.proofs.SavingLemmas.{saved_now, one_longer, room_for, room_after, off_of}
use Rattle.endpoints.proofs.store.save.Goals as goal

pub save-requires : goal.save-requires
save-requires c =
    let off = off_of c.args.touched.now.items c.args.place _ c.index.ensures c.if-not-index.true in
    room_for c.args.touched.now.items c.args.place _ _ c.requires.room c.requires.within off

pub returns-in_ok-save-clause-ok : goal.returns-in_ok-save-clause-ok
returns-in_ok-save-clause-ok c =
    saved_now c.args.place _ c.args.endpoint.now _ _ _ c.requires.marked refl (ap (λ (s : SavesState). s.list) c.in_ok-save.ensures.ok)

pub returns-in_ok-save-clause-room : goal.returns-in_ok-save-clause-room
returns-in_ok-save-clause-room c =
    let off = off_of c.args.touched.now.items c.args.place _ c.index.ensures c.if-not-index.true in
    let longer : length c.save.new.self.list ≡ length c.args.saved.now.list + 1 = one_longer _ _ _ (ap (λ (s : SavesState). s.list) c.in_ok-save.ensures.ok) in
    let h = room_after c.args.touched.now.items c.args.place (length c.args.saved.now.list) (length c.save.new.self.list) _ c.requires.room c.requires.within off longer in
    omega (arith, h, ap (λ (s : SavesState). s.room) c.in_ok-save.ensures.ok)
