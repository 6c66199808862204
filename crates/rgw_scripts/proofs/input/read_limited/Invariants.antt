use Rattle.std.proofs.Common.{◌+◌, ◌≤◌, vec_len}
use Rattle.std.specs.Io.KnownBytes.{Consumes}
use Rattle.rgw_scripts.specs.declared.TheConstants.{LIMIT}
use Rattle.rgw_scripts.proofs.input.read_limited.Given as goal

abbrev pub invariant-loop : goal.invariant-loop
invariant-loop g l = record {
  bounded : vec_len l.text ≤ LIMIT + 1;
  consumed : Consumes (g.R.Read.remaining l.initial.reader) (g.R.Read.remaining l.reader) l.text.items;
}
