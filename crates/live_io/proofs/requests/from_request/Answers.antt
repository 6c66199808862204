use Rattle.std.proofs.Common.{subst, sym, ◌∙◌}
use Rattle.std.specs.Prelude.{Some}
use Rattle.mg_bytes.specs.Lines.{cut}
use Rattle.live_io.specs.Requests.{requests_from}
use Rattle.live_io.specs.Typing.{EndsWith}
use Rattle.live_io.proofs.TypingLemmas.{passes, ends_further}
use Rattle.live_io.proofs.requests.from_request.Goals as goal

pub loop-line-preserved : goal.loop-line-preserved
loop-line-preserved c = (
  c.rest-rest.ensures.pieces,
  sym c.rest-rest.ensures.whole,
  passes c.loop-line.left c.next.new.self (requests_from (cut c.args.text.now)) c.in-Some.line c.in-Some.ensures.steps (sym c.is_request.ensures ∙ c.if-is_request.false)
      c.loop-line.invariant.2,
  subst (EndsWith c.args.text.now) (sym c.rest-rest.ensures.whole)
      (ends_further c.args.text.now c.loop-line.rest.now c.loop-line.left c.next.new.self (Some c.in-Some.line) c.in-Some.ensures.steps
      c.loop-line.invariant.1 c.loop-line.invariant.3),
)
