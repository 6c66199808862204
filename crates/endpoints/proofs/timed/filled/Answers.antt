use Rattle.std.proofs.Common.{rules, arith, ◌≡◌, ◌∙◌, ◌+◌, ◌<◌, ◌≤◌, length, Option, ap, refl}
use Rattle.timers.specs.declared.due_item.DueItem.{DueItem}
use Rattle.timers.specs.Table.{DueState}
use Rattle.endpoints.specs.DueTable.{entered}
use Rattle.endpoints.proofs.DueLemmas.{filled_first, filled_next, all_filled}
use Rattle.endpoints.proofs.timed.filled.Goals as goal

pub loop-place-init : goal.loop-place-init
loop-place-init c =
    let lines : c.in_ok-due.due.lines ≡ length c.args.list.now = search rules in
    filled_first c.args.list.now c.args.own.now c.in_ok-due.due c.enter.new.table lines (ap (λ (s : DueState). s.table) c.in_ok-due.ensures)
    c.enter.ensures.lines
    (c.enter.ensures.table ∙ ap (λ (first : Option DueItem). entered 0 first c.in_ok-due.due.table) c.post_due-first.ensures)

pub enter-requires-in-loop-place : goal.enter-requires-in-loop-place
enter-requires-in-loop-place c =
    let lines : c.loop-place.due.lines ≡ length c.args.list.now = c.loop-place.invariant.lines in
    let inside : c.loop-place.place < length c.args.list.now = c.loop-place-test.true in
    omega (arith, lines, inside)

pub loop-place-preserved : goal.loop-place-preserved
loop-place-preserved c =
    filled_next c.args.list.now c.args.own.now c.loop-place.place (c.loop-place.place + 1) c.index-list-place.result c.loop-place.due
    c.enter-in-loop-place.new.table c.loop-place.invariant refl c.loop-place-test.true c.index-list-place.is c.enter-in-loop-place.ensures.lines
    (c.enter-in-loop-place.ensures.table
    ∙ ap (λ (first : Option DueItem). entered (c.loop-place.place + 1) first c.loop-place.due.table) c.due_on-first.ensures)

pub returns : goal.returns
returns c =
    let past : length c.args.list.now ≤ c.loop-place.place = search rules in
    all_filled (c.loop-place.place + 1) c.args.list.now c.args.own.now c.loop-place.due (omega (arith, past)) c.loop-place.invariant
