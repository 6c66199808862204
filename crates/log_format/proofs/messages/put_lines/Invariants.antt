use Rattle.std.proofs.Common.{◌≡◌, ◌++◌}
use Rattle.std.specs.Prelude.{map}
use Rattle.std.specs.List.{flat_map}
use Rattle.mg_bytes.specs.Lines.{line_of, lines_of}
use Rattle.log_format.specs.Messages.{line_shown}
use Rattle.log_format.proofs.messages.put_lines.Given as goal

abbrev pub invariant-loop-line : goal.invariant-loop-line
invariant-loop-line l =
    l.out ++ flat_map line_shown (map line_of l.line-iterator) ≡ l.fn.out ++ flat_map line_shown (lines_of l.text)
