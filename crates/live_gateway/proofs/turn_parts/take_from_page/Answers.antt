use Rattle.std.proofs.Common.{sym, ◌∙◌}
use Rattle.mg_bytes.specs.Lists.{is_empty}
use Rattle.live_io.specs.Typing.{left_of}
use Rattle.live_gateway.proofs.PageLemmas.{unasked, still_left, asked_next}
use Rattle.live_gateway.proofs.turn_parts.take_from_page.Goals as goal

pub returns-then-not-is_page_asked-clause-took : goal.returns-then-not-is_page_asked-clause-took
returns-then-not-is_page_asked-clause-took g c = (
  c.is_page_asked.result,
  c.is_page_asked.ensures,
  unasked c.args.exchange.now.journal c.args.lines.now c.args.is_of_page c.is_page_asked.result (is_empty (left_of c.args.lines.now))
      c.if-not-is_page_asked.true,
)

pub returns-then-not-is_empty-clause-took : goal.returns-then-not-is_empty-clause-took
returns-then-not-is_empty-clause-took g c = (
  c.is_page_asked.result,
  c.is_page_asked.ensures,
  still_left c.args.exchange.now.journal c.args.lines.now c.args.is_of_page c.is_page_asked.result (is_empty (left_of c.args.lines.now))
      (sym c.is_empty.ensures ∙ c.if-not-is_empty.true),
)

pub returns-clause-took : goal.returns-clause-took
returns-clause-took g c = (
  c.is_page_asked.result,
  c.is_page_asked.ensures,
  asked_next c.args.exchange.now.journal c.take_act.new.journal c.args.lines.now c.take_act.new.lines c.args.is_of_page c.take_act.result
      c.is_page_asked.result (is_empty (left_of c.args.lines.now)) c.if-not-is_page_asked.false (sym c.is_empty.ensures ∙ c.if-not-is_empty.false)
      c.take_act.ensures,
)
