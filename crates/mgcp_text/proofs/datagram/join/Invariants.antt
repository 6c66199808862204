use Rattle.std.proofs.Common.{◌≡◌, ◌++◌, drop}
use Rattle.mgcp_text.specs.Packing.{packed_behind, packed}
use Rattle.mgcp_text.proofs.datagram.join.Given as goal

abbrev pub invariant-loop-text : goal.invariant-loop-text
invariant-loop-text l =
    l.datagrams.items ++ packed_behind l.max l.begun.items (drop l.text-index l.rest) ≡ packed l.max l.texts
