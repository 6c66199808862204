use Rattle.std.proofs.Common.{◌≡◌, ◌++◌, drop, codes}
use Rattle.std.specs.List.{flat_map}
use Rattle.rgw_scripts.specs.Printing.{signal_shown}
use Rattle.rgw_scripts.proofs.printing.put_more_signals.Given as goal

abbrev pub invariant-loop-active : goal.invariant-loop-active
invariant-loop-active l =
    l.out ++ flat_map (λ next. codes "," ++ signal_shown next) (drop l.active-index l.more)
    ≡ l.fn.out ++ flat_map (λ next. codes "," ++ signal_shown next) l.more
