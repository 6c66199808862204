use Rattle.std.proofs.Common.{◌≡◌, ◌≤◌, ◌+◌, length}
use Rattle.std.specs.Prelude.{map}
use Rattle.mg_bytes.specs.Lines.{line_of, lines_of}
use Rattle.rgw_scripts.specs.Script.{read_from, steps_of}
use Rattle.rgw_scripts.proofs.script.read_script.Given as goal

abbrev pub invariant-loop-line : goal.invariant-loop-line
invariant-loop-line l = record {
  few : l.number + length l.line-iterator ≤ length l.script;
  same : read_from (l.number + 1) l.reader (map line_of l.line-iterator) ≡ steps_of (lines_of l.script);
}
