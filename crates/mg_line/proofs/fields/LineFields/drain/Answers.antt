use Rattle.std.proofs.Common.{sym, ◌∙◌, arith}
use Rattle.mg_line.specs.LineFields.{line_in}
use Rattle.mg_line.proofs.DrainLemmas.{drain_room}
use Rattle.mg_line.proofs.BesideLemmas.{beside_first, beside_inside, beside_stops, beside_goes, beside_less, beside_ends}
use Rattle.mg_line.proofs.fields.LineFields.drain.Goals as goal

pub loop-event-init : goal.loop-event-init
loop-event-init c = record {
  whole = beside_first c.args.events.now (line_in c.args.self.now) c.args.moment;
  room = c.requires.room;
}

pub overflow_add-count : goal.overflow_add-count
overflow_add-count c =
    omega (arith, beside_inside c.args.events.now.events c.loop-event.count c.in-Some.event c.in-Some.ensures.value, c.in-Some.ensures.few)

pub returns-then-ends_drain : goal.returns-then-ends_drain
returns-then-ends_drain c =
    beside_stops c.loop-event.count c.args.events.now (line_in c.loop-event.self) (line_in c.occur.new.self) c.in-Some.event c.args.moment c.in_ok-notice.notice _
    (record { found = c.in-Some.ensures.value; done = c.in_ok-notice.ensures.ok }) (sym c.ends_drain.ensures ∙ c.if-ends_drain.true) c.loop-event.invariant.whole

pub loop-event-preserved : goal.loop-event-preserved
loop-event-preserved c = record {
  whole = beside_goes c.loop-event.count c.args.events.now (line_in c.loop-event.self) (line_in c.occur.new.self) c.in-Some.event c.args.moment c.in_ok-notice.notice _
      (record { found = c.in-Some.ensures.value; done = c.in_ok-notice.ensures.ok }) (sym c.ends_drain.ensures ∙ c.if-ends_drain.false) c.loop-event.invariant.whole;
  room = drain_room _ _ _ _ _ c.in_ok-notice.ensures.ok c.loop-event.invariant.room;
}

pub loop-event-smaller : goal.loop-event-smaller
loop-event-smaller c =
    beside_less c.loop-event.count c.args.events.now (line_in c.loop-event.self) (line_in c.occur.new.self) c.in-Some.event c.args.moment c.in_ok-notice.notice
    (record { found = c.in-Some.ensures.value; done = c.in_ok-notice.ensures.ok })

pub returns : goal.returns
returns c = beside_ends c.loop-event.count c.args.events.now (line_in c.loop-event.self) c.args.moment _ c.in_default.ensures.value c.loop-event.invariant.whole
