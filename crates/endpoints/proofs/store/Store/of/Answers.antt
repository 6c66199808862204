use Rattle.std.proofs.Common.{◌≡◌, ◌∙◌, ap, length, false, arith}
use Rattle.std.proofs.lemmas.List.{length-replicate}
use Rattle.plain_machine.specs.Machine.{Endpoints}
use Rattle.endpoints.proofs.SavingLemmas.{room_first, marked_none}
use Rattle.endpoints.proofs.store.Store.of.Goals as goal

pub invariant_of-result : goal.invariant_of-result
invariant_of-result c =
    let all : length c.in_ok-endpoints.endpoints.list ≡ length c.args.list.items = ap (λ (e : Endpoints). length e.list) c.in_ok-endpoints.ensures in
    let marks : length c.in_ok-touched.touched.items ≡ c.len-2.result = ap length c.in_ok-touched.ensures ∙ length-replicate c.len-2.result false in
    record {
      flags = omega (arith, all, marks, c.len-2.ensures, c.args.list.ok.0);
      marked = marked_none _ _ _ c.in_ok-touched.ensures;
      room = room_first _ _ _ _ c.in_ok-touched.ensures (ap length c.in_ok-saved.ensures.none) (omega (arith, c.in_ok-saved.ensures.room, c.len.ensures, c.len-2.ensures));
      own = tt;
    }
