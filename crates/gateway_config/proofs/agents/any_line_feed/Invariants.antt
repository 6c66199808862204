use Rattle.std.proofs.Common.{◌≡◌, drop}
use Rattle.std.specs.List.{list_any}
use Rattle.mg_bytes.specs.Lines.{is_line_feed}
use Rattle.gateway_config.proofs.agents.any_line_feed.Given as goal

abbrev pub invariant-loop-byte : goal.invariant-loop-byte
invariant-loop-byte l = list_any is_line_feed (drop l.byte-index l.text) ≡ list_any is_line_feed l.text
