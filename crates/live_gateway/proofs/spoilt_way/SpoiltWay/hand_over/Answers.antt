use Rattle.live_io.specs.Keeping.{copies_of}
use Rattle.live_gateway.proofs.HearingLemmas.{came_copies}
use Rattle.live_gateway.proofs.spoilt_way.SpoiltWay.hand_over.Goals as goal

pub returns-in-In-clause-came : goal.returns-in-In-clause-came
returns-in-In-clause-came c =
    rw (c.in-In.is)
    (came_copies (λ kept. copies_of kept.items) c.args.self.now.came c.keep_copy.new.kept c.args.packet.now.peer _ c.keep_copy.ensures)
