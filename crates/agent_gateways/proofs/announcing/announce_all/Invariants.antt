use Rattle.std.proofs.Common.{◌≡◌}
use Rattle.agent_gateways.specs.Steps.{cares_announced, exchange_announced, TouchesMeant}
use Rattle.agent_gateways.proofs.announcing.announce_all.Given as goal

-- the lines before this one are announced
abbrev pub invariant-loop-before : goal.invariant-loop-before
invariant-loop-before l = record {
  exchange : l.office.exchange ≡ exchange_announced l.is_restart l.pattern l.first l.before l.fn.office.exchange;
  cares : l.office.cares.items ≡ cares_announced l.is_restart l.pattern l.first l.before l.fn.office.cares.items;
  touches : TouchesMeant l.is_restart l.pattern l.first l.before l.fn.office l.office;
}
