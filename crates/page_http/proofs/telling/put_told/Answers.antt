use Rattle.std.proofs.Common.{◌<◌, ◌≤◌, ap, map, length, arith}
use Rattle.page_http.specs.declared.telling.TheConstants.{MOST_TOLD}
use Rattle.page_state.specs.Keeping.{event_of}
use Rattle.page_http.proofs.TellingLemmas.{goes_on, goes_on_from, goes_past, goes_past_from, goes_without, goes_without_from}
use Rattle.page_http.proofs.telling.put_told.Goals as goal
use Rattle.page_http.proofs.telling.put_told.Goals.{else-happening-after-via-else-happening-after, else-happening-after-via-then-happening-after+else-len-lt-MOST_TOLD}

pub loop-happening-preserved-then-len-lt-MOST_TOLD : goal.loop-happening-preserved-then-len-lt-MOST_TOLD
loop-happening-preserved-then-len-lt-MOST_TOLD c =
    let rest = ap (map event_of) c.in-Some.ensures.steps in
    let newer = c.if-happening-after.true in
    let room : length c.loop-happening.list.items < MOST_TOLD =
    omega (arith, c.if-len-lt-MOST_TOLD.true, c.len.ensures, c.loop-happening.list.ok) in
    record {
      told = rw c.in_ok-push.ensures.items (goes_on MOST_TOLD c.args.after c.loop-happening.list.items _ _ _ _ newer room
          c.in_ok-happening_value.ensures (rw rest at c.loop-happening.invariant.told));
      next = rw c.in_ok-push.ensures.items (goes_on_from MOST_TOLD c.args.after c.loop-happening.list.items _ _ _ _ _ newer room
          (rw rest at c.loop-happening.invariant.next));
    }

pub loop-happening-preserved : goal.loop-happening-preserved
loop-happening-preserved c =
    let rest = ap (map event_of) c.in-Some.ensures.steps in
    elim c.else-happening-after.branch [
      | else-happening-after-via-else-happening-after w ↦
          let older = w.if-happening-after.false in
          record {
            told = goes_past MOST_TOLD c.args.after c.loop-happening.list.items _ _ _ older (rw rest at c.loop-happening.invariant.told);
            next = goes_past_from MOST_TOLD c.args.after c.loop-happening.list.items _ _ _ _ older
                (rw rest at c.loop-happening.invariant.next);
          }
      | else-happening-after-via-then-happening-after+else-len-lt-MOST_TOLD w ↦
          let full : MOST_TOLD ≤ length c.loop-happening.list.items =
          omega (arith, w.if-len-lt-MOST_TOLD.false, w.len.ensures, c.loop-happening.list.ok) in
          record {
            told = goes_without MOST_TOLD c.args.after c.loop-happening.list.items _ _ _ full (rw rest at c.loop-happening.invariant.told);
            next = goes_without_from MOST_TOLD c.args.after c.loop-happening.list.items _ _ _ _ full
                (rw rest at c.loop-happening.invariant.next);
          }
    ]
