use Rattle.std.proofs.Common.{◌≡◌, ℕ, ◌+◌, ◌++◌, drop, length, refl, sym, ap, subst, ◌∙◌, rules}
use Rattle.agent_gateways.specs.Opening.{stations_from}
use Rattle.agent_gateways.proofs.OpeningLemmas.{added_all, added_one, known_more, lined_all, lined_one, one_longer, put_more, stands_more}
use Rattle.agent_gateways.proofs.switchboard.Switchboard.add_all.Goals as goal

pub loop-gateway-init : goal.loop-gateway-init
loop-gateway-init c = record { gateways = refl; stands = λ new. new; stations = refl; office = refl }

pub loop-gateway-preserved : goal.loop-gateway-preserved
loop-gateway-preserved c =
    let place : c.len-place.result ≡ length c.loop-gateway.self.gateways.items = search rules in
    let first : c.len-first.result ≡ length c.loop-gateway.self.stations.items = search rules in
    record {
      gateways = added_one c.args.time c.args.config.now.own c.deref-gateway-items.result.now c.args.config.now.gateways.items
          c.loop-gateway.gateway-index _ c.as_bytes-domain.result.now _ _ _ _ _ c.deref-gateway-items.ensures.value c.loop-gateway-test.true
          c.gateway-item.is c.as_bytes-domain.ensures
          (put_more _ _ _ _ _ (rw (c.as_slice-numbers.ensures.value) at c.in-Ok-put_stations.ensures))
          (known_more c.loop-gateway.self.gateways.items _ c.in-Ok.made c.args.time c.args.config.now.own _ _ _ c.as_bytes-domain.result.now _ _
          c.in-Ok-push.ensures.items c.in-Ok.ensures.begins first (rw (c.as_slice-numbers.ensures.value) at c.lines_of-lines.ensures))
          c.loop-gateway.invariant.gateways;
      stands = λ new.
          stands_more c.loop-gateway.self.gateways.items _ c.in-Ok.made c.in-Ok-push.ensures.items c.in-Ok.ensures.agent
          (c.loop-gateway.invariant.stands new);
      stations = lined_one c.deref-gateway-items.result.now c.args.config.now.gateways.items c.loop-gateway.gateway-index _
          c.as_bytes-domain.result.now c.len-place.result _ _ _ _ c.deref-gateway-items.ensures.value c.loop-gateway-test.true c.gateway-item.is
          c.as_bytes-domain.ensures
          (one_longer c.loop-gateway.self.gateways.items _ c.in-Ok.made c.in-Ok-push.ensures.items ∙ ap (λ (n : ℕ). n + 1) (sym place))
          (rw (c.as_slice-numbers.ensures.value) at c.in-Ok-put_stations.ensures)
          (subst
          (λ (many : ℕ). c.loop-gateway.self.stations.items
          ++ stations_from many (drop c.loop-gateway.gateway-index c.args.config.now.gateways.items)
          ≡ c.args.self.now.stations.items ++ stations_from (length c.args.self.now.gateways.items) c.args.config.now.gateways.items)
          (sym place) c.loop-gateway.invariant.stations);
      office = c.loop-gateway.invariant.office;
    }

pub returns-clause-gateways : goal.returns-clause-gateways
returns-clause-gateways c =
    added_all c.args.time c.args.config.now.own c.deref-gateway-items.result.now c.args.config.now.gateways.items
    c.loop-gateway.gateway-index _ _ _ c.deref-gateway-items.ensures.value c.loop-gateway-test.false c.loop-gateway.invariant.gateways

pub returns-clause-stations : goal.returns-clause-stations
returns-clause-stations c =
    lined_all c.deref-gateway-items.result.now c.args.config.now.gateways.items c.loop-gateway.gateway-index _ _ _
    c.deref-gateway-items.ensures.value c.loop-gateway-test.false c.loop-gateway.invariant.stations
