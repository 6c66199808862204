use Rattle.std.proofs.Common.{◌≡◌, subst, sym, rules}
use Rattle.std.specs.Prelude.{◌-◌}
use Rattle.endpoint_names.specs.declared.name.Pattern.{Pattern}
use Rattle.agent_gateways.specs.Steps.{line_behind, Announces, TouchesMeant}
use Rattle.agent_gateways.proofs.AnnounceLemmas.{cares_more, cares_none, exchange_more, exchange_none, one_announced}
use Rattle.agent_gateways.proofs.MeantLemmas.{meant_more, meant_none, one_meant}
use Rattle.agent_gateways.proofs.announcing.announce_all.Goals as goal

pub loop-before-init : goal.loop-before-init
loop-before-init c = record {
  exchange = exchange_none c.args.is_restart c.args.pattern c.args.first c.args.office.now.exchange;
  cares = cares_none c.args.is_restart c.args.pattern c.args.first c.args.office.now.cares.items;
  touches = meant_none c.args.is_restart c.args.pattern c.args.first c.args.office.now;
}

pub loop-before-preserved : goal.loop-before-preserved
loop-before-preserved c = record {
  exchange = exchange_more c.args.is_restart c.args.pattern c.args.first c.loop-before.before _ _ _ _ _ c.loop-before.invariant.exchange
      c.is_meant.ensures c.line_behind.ensures c.announce_if-in-loop-before.ensures.exchange;
  cares = cares_more c.args.is_restart c.args.pattern c.args.first c.loop-before.before _ _ _ _ _ c.loop-before.invariant.cares
      c.is_meant.ensures c.line_behind.ensures c.announce_if-in-loop-before.ensures.cares;
  touches = meant_more c.args.is_restart c.args.pattern c.args.first c.loop-before.before _ _ _ _ _ c.loop-before.invariant.touches
      c.loop-before.invariant.exchange c.is_meant.ensures c.line_behind.ensures c.announce_if-in-loop-before.ensures.touches;
}

pub returns-in-One-clause-announces : goal.returns-in-One-clause-announces
returns-in-One-clause-announces c =
    let place : c.line_behind-place.result ≡ line_behind c.args.first (c.in-One.line - 1) = search rules in
    subst (λ (pattern : Pattern). Announces c.args.is_restart pattern c.args.first c.args.lines c.args.office.now.exchange
    c.args.office.now.cares.items c.announce_if.new.office.exchange c.announce_if.new.office.cares.items) (sym c.in-One.is)
    (one_announced c.args.is_restart _ c.in-One.line c.args.first c.args.lines _ _ _ _ _ c.has_line.ensures place c.announce_if.ensures.exchange
    c.announce_if.ensures.cares)

pub returns-in-One-clause-touches : goal.returns-in-One-clause-touches
returns-in-One-clause-touches c =
    let place : c.line_behind-place.result ≡ line_behind c.args.first (c.in-One.line - 1) = search rules in
    subst (λ (pattern : Pattern). TouchesMeant c.args.is_restart pattern c.args.first c.args.lines c.args.office.now c.announce_if.new.office)
    (sym c.in-One.is)
    (one_meant c.args.is_restart _ c.in-One.line c.args.first c.args.lines _ _ _ c.has_line.ensures place c.announce_if.ensures.touches)
