use Rattle.told_messages.specs.Coming.{given_up_text}
use Rattle.told_messages.proofs.PuttingLemmas.{put_each}
use Rattle.told_messages.proofs.coming.put_all_given_up.Goals as goal

pub returns : goal.returns
returns c =
    put_each (given_up_text c.args.domain.now c.args.own.now.entries c.args.time) c.args.given_up.now c.loop-command.command-index _ _
    c.loop-command-test.false c.loop-command.invariant
