use Rattle.std.proofs.Common.{◌≡◌, drop}
use Rattle.std.specs.List.{list_any}
use Rattle.mg_bytes.specs.Blanks.{is_blank}
use Rattle.gateway_config.proofs.agents.any_blank.Given as goal

abbrev pub invariant-loop-byte : goal.invariant-loop-byte
invariant-loop-byte l = list_any is_blank (drop l.byte-index l.text) ≡ list_any is_blank l.text
