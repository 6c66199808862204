use Rattle.std.proofs.Common.{◌∙◌, sym, ap}
use Rattle.events_and_signals.specs.Active.{is_time_out}
use Rattle.events_and_signals.specs.Stopping.{without_time_outs}
use Rattle.events_and_signals.proofs.SlotLemmas.{one_stops, one_goes_on, all_stopped}
use Rattle.events_and_signals.proofs.set.SignalSet.stop_timeouts.Goals as goal
use Rattle.events_and_signals.proofs.set.SignalSet.stop_timeouts.Goals.{then-is_time_out, else-is_time_out}

pub loop-place-preserved : goal.loop-place-preserved
loop-place-preserved c =
    elim c.if-is_time_out.branch [
      | then-is_time_out w ↦ one_stops is_time_out _ _ _ _ c.self.invariant c.loop-place-test.true c.loop-place.invariant (sym c.is_time_out.ensures ∙ w.if-is_time_out.true) (ap (λ s. s.slots) w.self-inside-is)
      | else-is_time_out w ↦ one_goes_on is_time_out _ _ _ _ c.self.invariant c.loop-place-test.true c.loop-place.invariant (sym c.is_time_out.ensures ∙ w.if-is_time_out.false) (ap (λ s. s.slots) w.self-inside-is)
    ]

pub returns : goal.returns
unfolding without_time_outs
returns c =
    all_stopped is_time_out _ c.self.inside.slots _ c.loop-place-test.false c.loop-place.auto.place-end c.loop-place.invariant
    ∙ ap without_time_outs c.self.view_is
