use Rattle.std.proofs.Common.{◌≡◌, ◌++◌}
use Rattle.told_messages.specs.Coming.{texts_came, datagram_came}
use Rattle.told_messages.proofs.coming.put_datagram_came.Given as goal

-- what was put so far, and what is said of the texts that are left, is all that is said of the datagram
abbrev pub invariant-loop-text : goal.invariant-loop-text
invariant-loop-text l =
    l.out.items ++ texts_came l.fn.domain l.fn.own.entries l.fn.came l.text-iterator l.left
    ≡ l.fn.out.items ++ datagram_came l.fn.domain l.fn.own.entries l.fn.came l.fn.bytes l.fn.outcomes
