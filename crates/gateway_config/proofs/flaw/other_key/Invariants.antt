use Rattle.std.proofs.Common.{◌≡◌}
use Rattle.toml.specs.View.{members_view}
use Rattle.gateway_config.specs.Flaws.{other_key}
use Rattle.gateway_config.proofs.flaw.other_key.Given as goal

abbrev pub invariant-loop-name : goal.invariant-loop-name
invariant-loop-name l =
    (goal.iterator-loop-name).can_next l.name-iterator ×
    (goal.iterator-loop-name).is_finite l.name-iterator ×
    (other_key (members_view l.name-iterator) ≡ other_key (members_view l.table.entries))
