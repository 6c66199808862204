use Rattle.std.proofs.Common.{◌∙◌, sym, ap, arith}
use Rattle.events_and_signals.proofs.SlotLemmas.{one_listed, none_listed, all_listed}
use Rattle.events_and_signals.proofs.set.SignalSet.list.Goals as goal
use Rattle.events_and_signals.proofs.set.SignalSet.list.Goals.{in-Some, in_default}

pub loop-place-preserved : goal.loop-place-preserved
loop-place-preserved c =
    elim c.match-held_in.branch [
      | in-Some w ↦
          let items = ap (λ list. list.items) w.list-is ∙ w.push.ensures.items in
          record {
            held = one_listed _ c.self.inside.slots c.loop-place.list.items _ _ c.self.invariant c.loop-place-test.true c.loop-place.invariant.held (sym c.held_in.ensures ∙ w.in-Some.is) items;
            few = rw w.list-is (omega (arith, w.push.ensures.len, c.loop-place.invariant.few));
          }
      | in_default w ↦
          record {
            held = none_listed _ c.self.inside.slots c.loop-place.list.items _ c.self.invariant c.loop-place-test.true c.loop-place.invariant.held (sym c.held_in.ensures ∙ w.in_default.is) (ap (λ list. list.items) w.list-is);
            few = rw w.list-is (omega (arith, c.loop-place.invariant.few));
          }
    ]

pub returns-clause-in_order : goal.returns-clause-in_order
returns-clause-in_order c =
    all_listed _ c.self.inside.slots _ c.self.invariant c.loop-place-test.false c.loop-place.auto.place-end c.loop-place.invariant.held
