use Rattle.std.proofs.Common.{sym, ◌∙◌, ap}
use Rattle.sdp_subset.proofs.NumberLemmas.{with_rest, list_are, rest_first, rest_more, rest_full, rest_stops, rest_done, first_fits, first_stops, first_missing, pushed_on, pushed_are}
use Rattle.sdp_subset.proofs.audio.payloads_of.Goals as goal

pub returns-in_err-next : goal.returns-in_err-next
returns-in_err-next c = c.from_residual.ensures ∙ first_missing c.args.numbers c.in_err-next.ensures.steps.0

pub returns-in_err-first : goal.returns-in_err-first
returns-in_err-first c =
    c.from_residual-in_err-first.ensures ∙ first_stops c.args.numbers _ _ c.in_ok-next.ensures.steps c.in_err-first.ensures

pub returns-in_err-payloads : goal.returns-in_err-payloads
returns-in_err-payloads c = absurd (first_fits c.in_ok-next.field-0.now c.in_ok-first.first c.in_ok-first.ensures c.in_err-payloads.ensures)

pub loop-number-init : goal.loop-number-init
loop-number-init c = record {
  whole =
      ap (with_rest c.in_ok-payloads.payloads) c.into_iter-number-iterator.ensures.into_iter_gives
      ∙ rest_first c.args.numbers c.next.new.self c.in_ok-next.field-0.now c.in_ok-first.first c.in_ok-payloads.payloads
      c.in_ok-next.ensures.steps c.in_ok-first.ensures c.in_ok-payloads.ensures;
  are = list_are c.in_ok-first.first c.in_ok-payloads.payloads c.in_ok-payloads.ensures;
}

pub returns-in_err-payload_of : goal.returns-in_err-payload_of
returns-in_err-payload_of c =
    c.from_residual-in_err-payload_of.ensures
    ∙ rest_stops c.loop-number.payloads c.loop-number.number-iterator c.next-in-loop-number.new.self c.in-Some.number.now _
    c.in-Some.ensures.steps c.in_err-payload_of.ensures c.loop-number.invariant.whole

pub returns-then-not-push : goal.returns-then-not-push
returns-then-not-push c =
    rest_full c.loop-number.payloads c.loop-number.number-iterator c.next-in-loop-number.new.self c.in-Some.number.now c.in_ok-payload_of.field-0 _
    c.in-Some.ensures.steps c.in_ok-payload_of.ensures (sym c.push.ensures.added ∙ c.if-not-push.true) c.loop-number.invariant.whole

pub loop-number-preserved : goal.loop-number-preserved
loop-number-preserved c =
    let pushed = pushed_on c.loop-number.payloads c.push.new.self c.in_ok-payload_of.field-0 (sym c.push.ensures.added ∙ c.if-not-push.false) c.push.ensures.list in
    record {
      whole =
          rest_more c.loop-number.payloads c.push.new.self c.loop-number.number-iterator c.next-in-loop-number.new.self c.in-Some.number.now
          c.in_ok-payload_of.field-0 _ c.in-Some.ensures.steps c.in_ok-payload_of.ensures pushed c.loop-number.invariant.whole;
      are = pushed_are c.loop-number.payloads c.push.new.self c.in_ok-payload_of.field-0 (sym c.push.ensures.added ∙ c.if-not-push.false) pushed c.loop-number.invariant.are;
    }

pub returns : goal.returns
returns c = rest_done c.loop-number.payloads c.loop-number.number-iterator _ c.in-None.ensures.steps.0 c.loop-number.invariant.are c.loop-number.invariant.whole
