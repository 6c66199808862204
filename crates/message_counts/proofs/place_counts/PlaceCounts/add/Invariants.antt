use Rattle.std.proofs.Common.{◌≡◌, take}
use Rattle.message_counts.specs.Places.{with_sends}
use Rattle.message_counts.proofs.place_counts.PlaceCounts.add.Given as goal

abbrev pub invariant-loop-message : goal.invariant-loop-message
invariant-loop-message l = l.self.sends ≡ with_sends l.route l.fn.self.sends (take l.message-index l.sent)
