use Rattle.std.proofs.Common.{◌≡◌, ℕ, true, false, List, [], ◌∷◌, ◌++◌, length, map, refl, sym, ap, ◌∙◌, append_assoc, arith}
use Rattle.std.specs.Prelude.{◌==◌}
use Rattle.std.specs.List.{flat_map}
use Rattle.std.proofs.lemmas.Bool.Decides.{nat_tests}
use Rattle.mg_bytes.specs.Lists.{is_empty}
use Rattle.mg_bytes.specs.Lines.{line_of}
use Rattle.log_format.specs.Messages.{set_off, line_shown}
use Rattle.log_format.proofs.messages.put_lines.Goals as goal

-- whether a line is empty
emptiness : (line : List ℕ) → (length line == 0) ≡ is_empty line
emptiness [] = refl
emptiness (first ∷ more) = let some : (length (first ∷ more) == 0) ≡ false = grind (arith, nat_tests) in some

-- one that isn't is shown, and those behind it are left
shown_on : (out next whole piece : List ℕ) (rest : List (List ℕ)) → is_empty (line_of piece) ≡ false → next ≡ out ++ set_off (line_of piece)
    → out ++ flat_map line_shown (map line_of (piece ∷ rest)) ≡ whole → next ++ flat_map line_shown (map line_of rest) ≡ whole
shown_on out next whole piece rest some put so_far =
    ap (λ (text : List ℕ). text ++ flat_map line_shown (map line_of rest)) put
    ∙ append_assoc out (set_off (line_of piece)) (flat_map line_shown (map line_of rest))
    ∙ (rw some at so_far)

-- one that is isn't
left_out : (out whole piece : List ℕ) (rest : List (List ℕ)) → is_empty (line_of piece) ≡ true
    → out ++ flat_map line_shown (map line_of (piece ∷ rest)) ≡ whole → out ++ flat_map line_shown (map line_of rest) ≡ whole
left_out out whole piece rest none so_far = rw none at so_far

pub loop-line-preserved-then-not-is_empty : goal.loop-line-preserved-then-not-is_empty
loop-line-preserved-then-not-is_empty c =
    let taken = c.in-Some.ensures.steps in
    shown_on c.loop-line.out c.put_set_off.new.out _ taken.0 c.next.new.self
    (ap is_empty (sym taken.2) ∙ sym (emptiness c.in-Some.line.now) ∙ sym c.is_empty.ensures ∙ c.if-not-is_empty.true)
    (c.put_set_off.ensures ∙ ap (λ (line : List ℕ). c.loop-line.out ++ set_off line) taken.2)
    (ap (λ (left : List (List ℕ)). c.loop-line.out ++ flat_map line_shown (map line_of left)) (sym taken.1) ∙ c.loop-line.invariant)

pub loop-line-preserved : goal.loop-line-preserved
loop-line-preserved c =
    let taken = c.in-Some.ensures.steps in
    left_out c.loop-line.out _ taken.0 c.next.new.self
    (ap is_empty (sym taken.2) ∙ sym (emptiness c.in-Some.line.now) ∙ sym c.is_empty.ensures ∙ c.if-not-is_empty.false)
    (ap (λ (left : List (List ℕ)). c.loop-line.out ++ flat_map line_shown (map line_of left)) (sym taken.1) ∙ c.loop-line.invariant)
