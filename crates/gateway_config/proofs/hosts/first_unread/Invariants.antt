use Rattle.std.proofs.Common.{◌≡◌}
use Rattle.toml.specs.View.{members_view}
use Rattle.gateway_config.specs.NamesWording.{unread_host}
use Rattle.gateway_config.proofs.hosts.first_unread.Given as goal

abbrev pub invariant-loop-name : goal.invariant-loop-name
invariant-loop-name l =
    (goal.iterator-loop-name).can_next l.name-iterator ×
    (goal.iterator-loop-name).is_finite l.name-iterator ×
    (unread_host (members_view l.name-iterator) ≡ unread_host (members_view l.hosts.entries))
