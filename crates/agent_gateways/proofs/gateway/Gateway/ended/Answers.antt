use Rattle.std.proofs.Common.{◌≡◌, ◌<◌, ◌≤◌, ◌+◌, List, Option, Some, length, refl, sym, ap, ◌∙◌, arith}
use Rattle.std.proofs.lemmas.Option.{slice_get_read}
use Rattle.std.specs.Prelude.{slice_get}
use Rattle.agent_gateways.specs.declared.flight.Flight.{Flight}
use Rattle.agent_gateways.specs.declared.gateway.Gateway.{Gateway}
use Rattle.agent_gateways.proofs.EndedLemmas.{all_passed, asked_count, passed_at, taken_at}
use Rattle.agent_gateways.proofs.gateway.Gateway.ended.Goals as goal

pub loop-place-init : goal.loop-place-init
loop-place-init c = record { count = refl; left = refl; rest = refl }

pub loop-place-preserved : goal.loop-place-preserved
loop-place-preserved c = record {
  count = asked_count c.args.response c.args.self.now.ticked c.loop-place.place c.loop-place.self.flights.items _ _ c.is_ended_at.ensures.flights
      ∙ c.loop-place.invariant.count;
  left = passed_at c.args.response c.args.self.now.ticked c.loop-place.place (c.loop-place.place + 1) c.loop-place.self.flights.items _ _
      (slice_get c.loop-place.self.flights.items c.loop-place.place) refl
      c.is_ended_at.ensures.over c.if-is_ended_at.false c.is_ended_at.ensures.flights (omega arith)
      ∙ c.loop-place.invariant.left;
  rest = ap (λ (one : Gateway). record one { flights = c.is_ended_at.new.flights }) c.loop-place.invariant.rest;
}

pub remove-requires : goal.remove-requires
remove-requires c =
    let many = asked_count c.args.response c.args.self.now.ticked c.loop-place.place c.loop-place.self.flights.items c.is_ended_at.new.flights.items
    (slice_get c.loop-place.self.flights.items c.loop-place.place) c.is_ended_at.ensures.flights in
    omega (arith, c.loop-place-test.true, c.len-place-end.ensures, c.loop-place.invariant.count, many)

pub returns-then-is_ended_at : goal.returns-then-is_ended_at
returns-then-is_ended_at c =
    let many = asked_count c.args.response c.args.self.now.ticked c.loop-place.place c.loop-place.self.flights.items c.is_ended_at.new.flights.items
    (slice_get c.loop-place.self.flights.items c.loop-place.place) c.is_ended_at.ensures.flights in
    let within : c.loop-place.place < length c.is_ended_at.new.flights.items
    = omega (arith, c.loop-place-test.true, c.len-place-end.ensures, c.loop-place.invariant.count, many) in
    let there : Some c.remove.result ≡ slice_get c.is_ended_at.new.flights.items c.loop-place.place
    = sym (slice_get_read c.is_ended_at.new.flights.items (length c.is_ended_at.new.flights.items) c.loop-place.place c.remove.result refl within c.remove.ensures.value) in
    let all = taken_at c.args.response c.args.self.now.ticked c.loop-place.place c.loop-place.self.flights.items c.is_ended_at.new.flights.items _
    (slice_get c.loop-place.self.flights.items c.loop-place.place) _ _ refl
    c.is_ended_at.ensures.over c.if-is_ended_at.true c.is_ended_at.ensures.flights there c.remove.ensures.items
    ∙ c.loop-place.invariant.left in
    record {
      ended = ap (λ (found : Option Flight × List Flight). found.0) all;
      left = ap (λ (found : Option Flight × List Flight). found.1) all;
      rest = ap (λ (one : Gateway). record one { flights = c.remove.new.self }) c.loop-place.invariant.rest;
    }

pub returns : goal.returns
returns c =
    let done = c.loop-place-test.false in
    let past : length c.loop-place.self.flights.items ≤ c.loop-place.place = omega (arith, done, c.len-place-end.ensures, c.loop-place.invariant.count) in
    let all = all_passed c.args.response c.args.self.now.ticked c.loop-place.place c.loop-place.self.flights.items past ∙ c.loop-place.invariant.left in
    record {
      ended = ap (λ (found : Option Flight × List Flight). found.0) all;
      left = ap (λ (found : Option Flight × List Flight). found.1) all;
      rest = c.loop-place.invariant.rest;
    }
