use Rattle.std.proofs.Common.{◌≡◌, drop}
use Rattle.std.specs.List.{list_any}
use Rattle.live_system.specs.Looking.{is_visit}
use Rattle.live_system.proofs.readiness.Readiness.has_visits.Given as goal

abbrev pub invariant-loop-visit : goal.invariant-loop-visit
invariant-loop-visit l = list_any is_visit (drop l.visit-index l.visit-items) ≡ list_any is_visit l.self.visits
