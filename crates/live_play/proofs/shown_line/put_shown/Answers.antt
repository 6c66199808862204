use Rattle.live_play.proofs.RunLemmas.{shows_line}
use Rattle.live_play.proofs.shown_line.put_shown.Goals as goal

-- what was printed of the line is what is shown of it
pub returns : goal.returns
returns c =
    shows_line c.args.gateway.now c.args.line c.status_of-status.result c.put_line.result _ _ c.requires.low c.requires.high c.status_of-status.ensures
    c.put_line.ensures.ok
