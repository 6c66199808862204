use Rattle.std.proofs.Common.{◌≡◌, ◌+◌, ◌∷◌, ◌-◌, true, false, length, drop, take, ap, sym, ◌∙◌, arith}
use Rattle.std.specs.List.{concat}
use Rattle.std.proofs.lemmas.List.{length-append, length-drop}
use Rattle.mg_bytes.specs.Lines.{is_dot_line}
use Rattle.mgcp_text.specs.Parts.{parts_of}
use Rattle.mgcp_text.proofs.PartLemmas.{parts_from, parts_begin, step, parts_go_on, parts_end_here}
use Rattle.mgcp_text.proofs.part.split_part.Goals as goal

pub loop-line-init : goal.loop-line-init
loop-line-init c = record {
  inside = omega arith;
  left = c.lines-lines.ensures.whole;
  parts = rw c.lines-lines.ensures.pieces (parts_begin c.args.text.now);
}

pub returns-then-eq : goal.returns-then-eq
unfolding parts_of
returns-then-eq c =
    let s = c.in-Some.ensures.steps in
    let dot : is_dot_line s.0 ≡ true = rw (← s.2, ← c.as_slice.ensures) (sym c.if-eq.ensures) in
    parts_end_here (take c.loop-line.taken c.args.text.now) s.0 c.next.new.self _ dot (rw s.1 at c.loop-line.invariant.parts)
    ∙ ap (λ ls. take c.loop-line.taken c.args.text.now ∷ parts_from ls) (sym c.rest.ensures.pieces)

pub overflow_sub-taken : goal.overflow_sub-taken
overflow_sub-taken c =
    let s = c.in-Some.ensures.steps in
    let whole : concat (s.0 ∷ c.next.new.self) ≡ drop c.loop-line.taken c.args.text.now = sym (ap concat s.1) ∙ c.loop-line.invariant.left in
    let sizes : length s.0 + length (concat c.next.new.self) ≡ length c.args.text.now - c.loop-line.taken = sym (length-append s.0 (concat c.next.new.self)) ∙ ap length whole ∙ length-drop c.loop-line.taken c.args.text.now in
    omega (arith, ap length c.rest-in-Some.ensures.whole)

pub loop-line-preserved : goal.loop-line-preserved
loop-line-preserved c =
    let s = c.in-Some.ensures.steps in
    let text = c.args.text.now in
    let kept = c.loop-line.invariant in
    let other : is_dot_line s.0 ≡ false = rw (← s.2, ← c.as_slice.ensures) (sym c.if-eq.ensures) in
    let whole : concat (s.0 ∷ c.next.new.self) ≡ drop c.loop-line.taken text = sym (ap concat s.1) ∙ kept.left in
    let next = step text c.loop-line.taken s.0 c.next.new.self (length text - length c.rest-in-Some.result.now) kept.inside whole (ap (λ r. length text - length r) c.rest-in-Some.ensures.whole) in
    record {
      inside = next.inside;
      left = next.left;
      parts = parts_go_on text c.loop-line.taken s.0 c.next.new.self _ _ next other (rw s.1 at kept.parts);
    }
