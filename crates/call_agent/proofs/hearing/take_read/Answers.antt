use Rattle.std.proofs.Common.{refl, sym, append-nil, None}
use Rattle.call_agent.proofs.HearingLemmas.{went_heard}
use Rattle.call_agent.proofs.hearing.take_read.Goals as goal

pub returns-then-not-branch : goal.returns-then-not-branch
returns-then-not-branch c = went_heard _ _ c.args.text.now c.args.state.now _ _ _ _ _ _ None (c.in_ok-hear.ensures.text c.args.text.now c.requires.read)
    (rw c.if-not-branch.true at c.in_ok-hear.ensures.left) c.in_ok-hear.ensures.kept c.in_ok-hear.ensures.settled c.in_ok-hear.ensures.sent
    (record { machine = refl; found = refl; sent = sym (append-nil _) })

pub returns : goal.returns
returns c = went_heard _ _ c.args.text.now c.args.state.now _ _ _ _ _ _ _ (c.in_ok-hear.ensures.text c.args.text.now c.requires.read)
    (rw c.if-not-branch.false at c.in_ok-hear.ensures.left) c.in_ok-hear.ensures.kept c.in_ok-hear.ensures.settled c.in_ok-hear.ensures.sent c.in_ok-handle.ensures
