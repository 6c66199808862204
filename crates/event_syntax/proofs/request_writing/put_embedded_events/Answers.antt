use Rattle.event_syntax.specs.Requested.{embedded_event_text}
use Rattle.packages.proofs.PutLemmas.{put_next}
use Rattle.event_syntax.proofs.request_writing.put_embedded_events.Goals as goal

pub loop-place-preserved : goal.loop-place-preserved
loop-place-preserved c =
    put_next embedded_event_text c.args.events.now c.loop-place.place _ c.args.out.now.items _ _ _ c.loop-place-test.true
    c.loop-place.invariant c.in_ok-put_comma.ensures c.in_ok-put_embedded_event.ensures
