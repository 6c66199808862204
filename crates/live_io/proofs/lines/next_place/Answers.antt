use Rattle.live_io.proofs.TypingLemmas.{ends_on, left_ends}
use Rattle.live_io.specs.Typing.{EndsWith}
use Rattle.std.proofs.Common.{subst, sym}
use Rattle.live_io.proofs.lines.next_place.Goals as goal

pub place_of-requires : goal.place_of-requires
place_of-requires c =
    ends_on c.args.text.now c.left_from.result.now c.from_request.result.now
    (subst (EndsWith c.args.text.now) (sym c.left_from.ensures) (left_ends c.args.text.now c.args.begin))
    (ends_on c.left_from.result.now c.behind_first-rest.result.now c.from_request.result.now c.behind_first-rest.ensures.end c.from_request.ensures.end)
