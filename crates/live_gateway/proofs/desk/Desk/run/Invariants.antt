use Rattle.live_gateway.specs.Desk.{GoesOn}
use Rattle.live_gateway.specs.Turning.{DoesNext, RunsTurns}
use Rattle.live_gateway.proofs.desk.Desk.run.Given as goal

abbrev pub invariant-loop : goal.invariant-loop
invariant-loop g l =
    GoesOn g.T.Teller.told g.S.Surroundings.around.traffic l.fn.self l.self
    × RunsTurns g.S.Surroundings.around.passes (DoesNext g.T.Teller.told g.S.Surroundings.around g.V.Visitors.visits)
    g.W.Recorder.writer l.counter l.fn.self l.fn.visitors l.fn.recorder l.self l.visitors l.recorder
