use Rattle.std.proofs.Common.{◌≡◌, ◌-◌, ◌++◌, length, map}
use Rattle.std.specs.VecDeque.Iter.{deque_iter_rest}
use Rattle.serde_json.specs.View.{view}
use Rattle.page_http.specs.declared.telling.TheConstants.{MOST_TOLD}
use Rattle.page_state.specs.Keeping.{event_of}
use Rattle.page_http.specs.Telling.{event_data, told_after, last_number, next_after}
use Rattle.page_http.proofs.telling.put_told.Given as goal

abbrev pub invariant-loop-happening : goal.invariant-loop-happening
invariant-loop-happening l = record {
  told : map view l.list.items
      ++ map event_data (told_after (MOST_TOLD - length l.list.items) l.after (map event_of (deque_iter_rest l.happening-iterator)))
      ≡ map event_data (told_after MOST_TOLD l.after l.ring.events);
  next : last_number l.last
      (told_after (MOST_TOLD - length l.list.items) l.after (map event_of (deque_iter_rest l.happening-iterator)))
      ≡ next_after l.after l.ring;
}
