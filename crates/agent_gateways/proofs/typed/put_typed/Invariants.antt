use Rattle.std.proofs.Common.{◌≡◌, ◌++◌, false, drop}
use Rattle.agent_gateways.specs.Typed.{typed_from}
use Rattle.agent_gateways.proofs.typed.put_typed.Given as goal

abbrev pub invariant-loop-byte : goal.invariant-loop-byte
invariant-loop-byte l =
    l.out ++ typed_from l.is_escaped (drop l.byte-index l.text) ≡ l.fn.out ++ typed_from false l.text
