use Rattle.std.proofs.Common.{◌≡◌, ◌++◌, drop}
use Rattle.std.specs.List.{flat_map}
use Rattle.live_io.specs.Speaking.{admitted_by}
use Rattle.told_messages.specs.Strangers.{unheard_text}
use Rattle.told_messages.proofs.strangers.put_all_unheard.Given as goal

abbrev pub invariant-loop-message : goal.invariant-loop-message
invariant-loop-message l =
    l.out.items ++ flat_map (unheard_text (admitted_by l.fn.speakers) l.fn.time) (drop l.message-index l.sent)
    ≡ l.fn.out.items ++ flat_map (unheard_text (admitted_by l.fn.speakers) l.fn.time) l.fn.sent
