use Rattle.std.proofs.Common.{◌≡◌, ◌++◌, false, drop}
use Rattle.telephone_control.specs.Viewing.{signals_viewed, signals_in}
use Rattle.telephone_control.proofs.picture.signals_of.Given as goal

abbrev pub invariant-loop-active : goal.invariant-loop-active
invariant-loop-active l =
    l.gathering.is_refused ≡ false → (l.fn.gathering.is_refused ≡ false)
    × (signals_in l.views.items ++ signals_viewed (drop l.active-index l.signals) ≡ signals_viewed l.signals)
