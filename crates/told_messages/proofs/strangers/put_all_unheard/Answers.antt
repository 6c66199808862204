use Rattle.live_io.specs.Speaking.{admitted_by}
use Rattle.told_messages.specs.Strangers.{unheard_text}
use Rattle.told_messages.proofs.PuttingLemmas.{put_each}
use Rattle.told_messages.proofs.strangers.put_all_unheard.Goals as goal

pub returns : goal.returns
returns c =
    put_each (unheard_text (admitted_by c.args.speakers.now) c.args.time) c.args.sent.now c.loop-message.message-index _ _
    c.loop-message-test.false c.loop-message.invariant
