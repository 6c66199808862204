use Rattle.std.proofs.Common.{◌≡◌, ◌++◌}
use Rattle.std.specs.Prelude.{option_map}
use Rattle.toml.specs.View.{members_view}
use Rattle.rgw_scripts.specs.Configuration.{names_from}
use Rattle.gateway_config.proofs.settings.names_of.Given as goal

abbrev pub invariant-loop-name : goal.invariant-loop-name
invariant-loop-name l =
    (goal.iterator-loop-name).can_next l.name-iterator ×
    (goal.iterator-loop-name).is_finite l.name-iterator ×
    (option_map (λ others. l.names ++ others) (names_from (members_view l.name-iterator)) ≡ names_from (members_view l.table.entries))
