use Rattle.std.proofs.Common.{◌≤◌, arith}
use Rattle.rgw_play.proofs.PlayLemmas.{on_ok_both, untold_moved}
use Rattle.rgw_play.proofs.player.Player.show.Goals as goal
use Rattle.rgw_play.proofs.player.Player.show.Goals.{else-line-ge1-via-then-line-ge1+else-line-lines, else-line-ge1-via-else-line-ge1}

pub returns : goal.returns
returns c =
    let none : 1 ≤ c.args.line → c.args.line ≤ c.args.self.now.gateway.setup.names.lines → ⊥ =
    (λ low high. elim c.else-line-ge1.branch [
      | else-line-ge1-via-then-line-ge1+else-line-lines w ↦ omega arith
      | else-line-ge1-via-else-line-ge1 w ↦ omega arith
    ]) in
    on_ok_both c.refuse.result (λ kept printed. untold_moved c.args.self.now c.refuse.new.self c.args.line kept none printed) c.refuse.ensures.kept c.refuse.ensures.printed
