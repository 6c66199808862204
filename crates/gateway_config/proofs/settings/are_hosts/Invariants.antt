use Rattle.std.proofs.Common.{◌≡◌}
use Rattle.std.specs.Prelude.{is_some}
use Rattle.toml.specs.View.{members_view}
use Rattle.rgw_scripts.specs.Configuration.{names_from}
use Rattle.gateway_config.proofs.settings.are_hosts.Given as goal

abbrev pub invariant-loop-name : goal.invariant-loop-name
invariant-loop-name l =
    (goal.iterator-loop-name).can_next l._name-iterator ×
    (goal.iterator-loop-name).is_finite l._name-iterator ×
    (is_some (names_from (members_view l._name-iterator)) ≡ is_some (names_from (members_view l.table.entries)))
