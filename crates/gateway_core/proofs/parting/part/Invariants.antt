use Rattle.std.proofs.Common.{◌≡◌, ◌++◌, map}
use Rattle.std.specs.Vec.Iter.{into_iter_items}
use Rattle.plain_machine.specs.declared.label.OutMessage.{OutMessage}
use Rattle.gateway_core.specs.Labelling.{told_of}
use Rattle.gateway_core.proofs.parting.part.Given as goal

abbrev pub invariant-loop-message : goal.invariant-loop-message
invariant-loop-message l = record {
  datagrams : l.datagrams.items ++ map (λ (message : OutMessage). message.datagram) (into_iter_items l.message-iterator)
      ≡ map (λ (message : OutMessage). message.datagram) l.fn.sent.items;
  told : l.told.items ++ map told_of (into_iter_items l.message-iterator) ≡ map told_of l.fn.sent.items;
}
