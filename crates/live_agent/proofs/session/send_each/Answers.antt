use Rattle.std.proofs.Common.{refl}
use Rattle.live_agent.proofs.SettlingLemmas.{issued_more}
use Rattle.live_agent.proofs.session.send_each.Goals as goal

pub loop-index-init : goal.loop-index-init
loop-index-init g c = (refl, refl)

pub loop-index-preserved : goal.loop-index-preserved
loop-index-preserved g c =
    issued_more g.S.Surroundings.around c.loop-index.index c.args.board.now c.loop-index.board c.issue_next-issued.new.self c.args.wire.now c.loop-index.wire c.send_if_issued.new.wire
    c.loop-index.invariant (record {
      issued = c.issue_next-issued.result;
      office = c.issue_next-issued.ensures.office;
      issues = c.issue_next-issued.ensures.issued;
      alone = c.issue_next-issued.ensures.alone;
      rest = c.issue_next-issued.ensures.rest;
      goes = c.send_if_issued.ensures;
    })
