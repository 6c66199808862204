use Rattle.std.proofs.Common.{◌≡◌, drop, fold}
use Rattle.page_state.specs.Totals.{with_line, totals_of}
use Rattle.page_state.proofs.picture.Picture.totals.Given as goal

abbrev pub invariant-loop-line : goal.invariant-loop-line
invariant-loop-line l = fold with_line l.totals (drop l.line-index l.self.lines.items) ≡ totals_of l.self.lines.items
