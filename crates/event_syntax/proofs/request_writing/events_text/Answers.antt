use Rattle.std.proofs.Common.{ap, ◌∙◌, [], ◌++◌}
use Rattle.event_syntax.specs.Requested.{requested_entry_text, requested_text}
use Rattle.packages.proofs.PutLemmas.{put_next}
use Rattle.event_syntax.proofs.request_writing.events_text.Goals as goal

pub loop-place-preserved : goal.loop-place-preserved
unfolding requested_text
loop-place-preserved c =
    put_next requested_entry_text c.args.list.now c.loop-place.place c.index-list-place.result [] _ _ _ c.loop-place-test.true
    c.loop-place.invariant c.in_ok-put_comma.ensures
    (c.in_ok-put_requested.ensures ∙ ap (λ entry. c.put_comma.new.out.items ++ requested_entry_text entry) c.index-list-place.is)
