use Rattle.agent_gateways.proofs.OpeningLemmas.{put_all, put_one, station_more}
use Rattle.agent_gateways.proofs.switchboard.put_stations.Goals as goal

pub loop-number-preserved : goal.loop-number-preserved
loop-number-preserved c =
    put_one c.args.gateway c.args.domain.now c.loop-number.line c.saturating_add-line.result c.args.numbers.now c.loop-number.number-index _ _
    _ _ _ c.saturating_add-line.ensures c.loop-number-test.true c.number-item.is c.as_bytes.ensures
    (station_more c.args.gateway c.args.domain.now c.saturating_add-line.result _ _ _ _ _ c.in_ok-name.ensures c.in_ok-number.ensures
    c.in_ok-push.ensures.items)
    c.loop-number.invariant

pub returns : goal.returns
returns c =
    put_all c.args.gateway c.args.domain.now c.loop-number.line c.args.numbers.now c.loop-number.number-index _ _
    c.loop-number-test.false c.loop-number.invariant
