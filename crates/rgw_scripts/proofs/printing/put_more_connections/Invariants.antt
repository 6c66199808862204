use Rattle.std.proofs.Common.{◌≡◌, ◌++◌, drop, codes}
use Rattle.std.specs.List.{flat_map}
use Rattle.rgw_scripts.specs.Printing.{connection_shown, held_in}
use Rattle.rgw_scripts.proofs.printing.put_more_connections.Given as goal

abbrev pub invariant-loop-held : goal.invariant-loop-held
invariant-loop-held l =
    l.out ++ flat_map (λ next. codes "," ++ connection_shown next) (held_in (drop l.held-index l.more))
    ≡ l.fn.out ++ flat_map (λ next. codes "," ++ connection_shown next) (held_in l.more)
