use Rattle.live_agent.specs.Serving.{RunsTurns, TurnsOnce}
use Rattle.live_agent.proofs.session.serve.Given as goal

-- so many turns were had
abbrev pub invariant-loop : goal.invariant-loop
invariant-loop g l = RunsTurns (TurnsOnce g.S.Surroundings.around g.W.Recorder.writes) l.counter l.fn.board l.fn.wire l.initial.schedule l.board l.wire l.schedule
