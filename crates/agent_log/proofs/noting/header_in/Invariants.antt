use Rattle.std.proofs.Common.{◌≡◌}
use Rattle.mg_bytes.specs.Lines.{cut}
use Rattle.mgcp_text.specs.Reading.{skip_empty}
use Rattle.agent_log.proofs.noting.header_in.Given as goal

abbrev pub invariant-loop-line : goal.invariant-loop-line
invariant-loop-line l = record {
  same : skip_empty l.left ≡ skip_empty (cut l.text);
  here : cut l.here ≡ l.left;
}
