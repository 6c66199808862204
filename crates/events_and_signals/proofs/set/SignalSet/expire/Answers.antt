use Rattle.std.proofs.Common.{◌∙◌, ap, set}
use Rattle.events_and_signals.specs.Active.{table}
use Rattle.events_and_signals.specs.Stopping.{without}
use Rattle.events_and_signals.specs.Slots.{held_by}
use Rattle.events_and_signals.specs.declared.slot.Slot.TheVariants.{Idle}
use Rattle.events_and_signals.proofs.SlotLemmas.{one_stopped}
use Rattle.events_and_signals.proofs.set.SignalSet.expire.Goals as goal

pub returns : goal.returns
unfolding without
returns c =
    ap (λ place. held_by table (set c.self.inside.slots place Idle)) c.place_of.ensures.value
    ∙ one_stopped c.args.signal c.self.inside.slots c.self.invariant
    ∙ ap (without c.args.signal) c.self.view_is
