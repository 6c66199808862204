use Rattle.std.proofs.Common.{refl}
use Rattle.live_gateway.proofs.DeskLemmas.{written_off}
use Rattle.live_gateway.proofs.desk.Desk.write.Goals as goal

pub returns-clause-play : goal.returns-clause-play
returns-clause-play g c =
    written_off g.T.Teller.told g.S.Surroundings.around.traffic _ _
    refl
    refl
    refl
    c.write.ensures.told
    refl
    refl

pub returns-clause-exchange : goal.returns-clause-exchange
returns-clause-exchange g c = record { counted = c.write.ensures.kept.0; shown = c.write.ensures.kept.1; rest = refl }
