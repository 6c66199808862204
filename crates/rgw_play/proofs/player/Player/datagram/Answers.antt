use Rattle.std.proofs.Common.{ℕ, List, [], ◌∷◌, refl, subst}
use Rattle.std.specs.Prelude.{OnOk}
use Rattle.plain_machine.specs.Event.{datagram}
use Rattle.rgw_scripts.specs.Moves.{give}
use Rattle.rgw_play.specs.Player.{Moved}
use Rattle.rgw_play.proofs.PlayLemmas.{finished_moved}
use Rattle.rgw_play.proofs.player.Player.datagram.Goals as goal

pub returns : goal.returns
returns g c =
    subst (λ (bytes : List ℕ). OnOk c.finish.result (Moved c.args.self.now (give (datagram c.args.source bytes) ∷ []) c.finish.new.self)) c.in-Ok.ensures
    (finished_moved c.finish.result c.args.self.now _ c.finish.new.self (datagram c.args.source c.in-Ok.arrived.now) c.step-given.result refl refl c.step-given.ensures.ok
    c.step-given.ensures.err c.step-given.ensures.ends c.finish.ensures)
