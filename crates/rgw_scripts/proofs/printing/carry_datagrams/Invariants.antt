use Rattle.std.proofs.Common.{◌≡◌, ◌++◌, drop}
use Rattle.std.specs.List.{flat_map}
use Rattle.rgw_scripts.specs.Printing.{printed_datagram}
use Rattle.rgw_scripts.proofs.printing.carry_datagrams.Given as goal

abbrev pub invariant-loop-datagram : goal.invariant-loop-datagram
invariant-loop-datagram g l =
    l.out ++ flat_map printed_datagram (drop l.datagram-index l.datagrams) ≡ l.fn.out ++ flat_map printed_datagram l.datagrams
