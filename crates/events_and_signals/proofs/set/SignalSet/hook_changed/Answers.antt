use Rattle.std.proofs.Common.{◌∙◌, sym, ap}
use Rattle.events_and_signals.specs.Active.{is_forbidden}
use Rattle.events_and_signals.specs.Stopping.{allowed_in}
use Rattle.events_and_signals.proofs.SlotLemmas.{one_stops, one_goes_on, all_stopped}
use Rattle.events_and_signals.proofs.set.SignalSet.hook_changed.Goals as goal
use Rattle.events_and_signals.proofs.set.SignalSet.hook_changed.Goals.{then-is_forbidden, else-is_forbidden}

pub loop-place-preserved : goal.loop-place-preserved
loop-place-preserved c =
    elim c.if-is_forbidden.branch [
      | then-is_forbidden w ↦ one_stops (is_forbidden c.args.hook) _ _ _ _ c.self.invariant c.loop-place-test.true c.loop-place.invariant (sym c.is_forbidden.ensures ∙ w.if-is_forbidden.true) (ap (λ s. s.slots) w.self-inside-is)
      | else-is_forbidden w ↦ one_goes_on (is_forbidden c.args.hook) _ _ _ _ c.self.invariant c.loop-place-test.true c.loop-place.invariant (sym c.is_forbidden.ensures ∙ w.if-is_forbidden.false) (ap (λ s. s.slots) w.self-inside-is)
    ]

pub returns : goal.returns
unfolding allowed_in
returns c =
    all_stopped (is_forbidden c.args.hook) _ c.self.inside.slots _ c.loop-place-test.false c.loop-place.auto.place-end c.loop-place.invariant
    ∙ ap (allowed_in c.args.hook) c.self.view_is
