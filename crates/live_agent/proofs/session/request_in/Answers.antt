use Rattle.live_agent.proofs.TypingLemmas.{asks_for, asks_nothing}
use Rattle.live_io.specs.Typing.{left_of}
use Rattle.live_agent.proofs.session.request_in.Goals as goal

pub returns-in-Some : goal.returns-in-Some
returns-in-Some c = (
  c.is_from_loopback-is_near.result,
  c.is_from_loopback-is_near.ensures,
  asks_for c.is_from_loopback-is_near.result (left_of c.args.lines.now) _ _ _ _ c.in-Some.ensures.1 c.in-Some.ensures.2
      c.line_request.ensures,
)

pub returns-in-None : goal.returns-in-None
returns-in-None c = (
  c.is_from_loopback-is_near.result,
  c.is_from_loopback-is_near.ensures,
  asks_nothing c.is_from_loopback-is_near.result (left_of c.args.lines.now) c.in-None.ensures.0,
)
