use Rattle.std.proofs.Common.{refl}
use Rattle.live_gateway.proofs.FrameLemmas.{made_of}
use Rattle.live_gateway.proofs.turn_parts.situation.Goals as goal

pub returns-clause-rest : goal.returns-clause-rest
returns-clause-rest g c =
    made_of c.moment-moment.new.self _ _ _ _ _ _ _ c.moment-moment.ensures.around c.moment-moment.ensures.network c.moment-moment.ensures.journal
    c.moment-moment.ensures.turn.0 c.moment-moment.ensures.read refl c.moment-moment.ensures.turn.1
