use Rattle.std.proofs.Common.{ap}
use Rattle.live_gateway.proofs.EndingLemmas.{ended_by, wrote_last, only_ends, stopped_so, unasked_so}
use Rattle.live_gateway.proofs.ending.end_desk.Goals as goal

pub returns-clause-ended : goal.returns-clause-ended
returns-clause-ended g c = (
  c.write.new.recorder,
  wrote_last g.W.Recorder.writer.writes c.args.desk.now c.write.new.self c.answer_stop.new.self _ _ c.end.new.self.teller c.write.ensures.wrote
      c.answer_stop.ensures.kept c.answer_stop.ensures.rest,
  ended_by (λ v. v.items) g.W.Finisher.ends c.write.new.self c.answer_stop.new.self c.counts-counts.result _ _ _ _
      c.counts-counts.ensures c.is_record_refused-is_refused.ensures c.finish-ending.ensures.counted c.finish-ending.ensures.refused
      c.answer_stop.ensures.kept c.answer_stop.ensures.rest,
)

pub returns-clause-stopped : goal.returns-clause-stopped
returns-clause-stopped g c =
    stopped_so g.S.Surroundings.around.answers _ _ _ _ _ _ c.write.ensures.lines (ap (λ e. e.around) c.write.ensures.exchange.rest) c.answer_stop.ensures.stopped

pub returns-clause-other : goal.returns-clause-other
returns-clause-other g c =
    unasked_so _ _ _ _ _ c.write.ensures.lines (ap (λ e. e.around) c.write.ensures.exchange.rest)
    (λ unasked. ap (λ e. e.around) (c.answer_stop.ensures.other unasked))

pub returns-clause-rest : goal.returns-clause-rest
returns-clause-rest g c =
    only_ends c.args.desk.now c.write.new.self c.answer_stop.new.self c.end.new.self c.end.ensures.gateway c.write.ensures.gateway
    c.write.ensures.exchange c.write.ensures.rest c.answer_stop.ensures.kept c.answer_stop.ensures.rest
