use Rattle.std.proofs.Common.{refl}
use Rattle.plain_machine.specs.Event.{event_of}
use Rattle.rgw_play.proofs.PlayLemmas.{finished_moved}
use Rattle.rgw_play.proofs.player.Player.event.Goals as goal

pub returns : goal.returns
returns g c =
    finished_moved c.finish.result c.args.self.now _ c.finish.new.self (event_of c.args.event) c.step-given.result refl refl c.step-given.ensures.ok c.step-given.ensures.err c.step-given.ensures.ends
    c.finish.ensures
