use Rattle.std.proofs.Common.{List, ℕ, sym, ap, ◌∙◌}
use Rattle.std.specs.Prelude.{map}
use Rattle.std.specs.List.{flat_map}
use Rattle.std.specs.Str.{bytes_eq}
use Rattle.mg_bytes.specs.Lines.{line_of, ended}
use Rattle.mgcp_text.proofs.EndedLemmas.{ended_step}
use Rattle.mgcp_text.proofs.writing.is_ended_lines.Goals as goal

pub loop-line-preserved : goal.loop-line-preserved
loop-line-preserved c =
    let (piece, pieces, is) = c.in-Some.ensures.steps in
    sym (ended_step piece c.next.new.self c.in-Some.line.now c.loop-line.rest.now c.in-Some-after_line.after.now is c.in-Some-after_line.ensures)
    ∙ sym (ap (λ (left : List (List ℕ)). bytes_eq (flat_map ended (map line_of left)) c.loop-line.rest.now) pieces) ∙ c.loop-line.invariant
