use Rattle.std.proofs.Common.{◌∙◌, ap, set}
use Rattle.events_and_signals.specs.Applying.{applied}
use Rattle.events_and_signals.proofs.RequestLemmas.{after_requests, KeepsSignals-after_requests}
use Rattle.events_and_signals.proofs.SlotLemmas.{one_becomes, all_became}
use Rattle.events_and_signals.proofs.set.SignalSet.apply.Goals as goal

pub loop-place-preserved : goal.loop-place-preserved
loop-place-preserved c =
    let requests = c.args.requests.now in
    one_becomes (after_requests requests c.args.hook c.args.moment) _ c.self.inside.slots c.loop-place.self-inside.slots _ c.after_entries.result c.self.invariant c.loop-place-test.true c.loop-place.invariant
    (c.after_entries.ensures ∙ ap (after_requests requests c.args.hook c.args.moment _) c.held_in-was.ensures)
    (ap (λ slot. set c.loop-place.self-inside.slots c.loop-place.place slot) c.slot_of.ensures)

pub returns : goal.returns
unfolding applied
returns c =
    all_became (after_requests c.args.requests.now c.args.hook c.args.moment) (KeepsSignals-after_requests c.args.requests.now c.args.hook c.args.moment) _ c.self.inside.slots _ c.self.invariant c.loop-place-test.false c.loop-place.auto.place-end c.loop-place.invariant
    ∙ ap (applied c.args.requests.now c.args.hook c.args.moment) c.self.view_is
