use Rattle.std.proofs.Common.{◌≡◌, ◌++◌, length}
use Rattle.gateway_core.specs.Outgoing.{texts_within}
use Rattle.told_messages.specs.Sending.{datagram_text, last_behind}
use Rattle.told_messages.proofs.log.Log.put_datagram_sent.Given as goal

-- what was put and kept so far, and what the messages that are left bring, is all that the datagram brings
abbrev pub invariant-loop-left : goal.invariant-loop-left
invariant-loop-left l = record {
  out : l.self.record.out.items
      ++ datagram_text l.fn.self.domain l.fn.self.came.moment l.fn.to (texts_within l.rest l.left) l.left
      ≡ l.fn.self.record.out.items
      ++ datagram_text l.fn.self.domain l.fn.self.came.moment l.fn.to (texts_within l.fn.bytes l.fn.messages) l.fn.messages;
  own : last_behind l.fn.to (texts_within l.rest l.left) l.left l.self.own.entries
      ≡ last_behind l.fn.to (texts_within l.fn.bytes l.fn.messages) l.fn.messages l.fn.self.own.entries;
  rest : l.self ≡ record l.fn.self { «record» = record l.fn.self.record { out = l.self.record.out }; own = l.self.own };
}

abbrev pub decreases-loop-left : goal.decreases-loop-left
decreases-loop-left l = length l.left
