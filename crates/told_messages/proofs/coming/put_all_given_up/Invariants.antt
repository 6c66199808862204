use Rattle.std.proofs.Common.{◌≡◌, ◌++◌, drop}
use Rattle.std.specs.List.{flat_map}
use Rattle.told_messages.specs.Coming.{given_up_text}
use Rattle.told_messages.proofs.coming.put_all_given_up.Given as goal

abbrev pub invariant-loop-command : goal.invariant-loop-command
invariant-loop-command l =
    l.out.items ++ flat_map (given_up_text l.fn.domain l.fn.own.entries l.fn.time) (drop l.command-index l.given_up)
    ≡ l.fn.out.items ++ flat_map (given_up_text l.fn.domain l.fn.own.entries l.fn.time) l.fn.given_up
