use Rattle.std.proofs.Common.{◌≡◌, ℕ, ◌<◌, ◌≤◌, Some, None, refl, sym, ap, ◌∙◌, arith}
use Rattle.connections.specs.Standing.{Standing}
use Rattle.plain_machine.specs.Calls.{standing_at, NumbersGoOn}
use Rattle.plain_machine.specs.Machine.{Endpoints, opening_endpoint}
use Rattle.plain_machine.specs.Example.{one_line, two_lines, numbered_to, ready_machine}
use Rattle.plain_machine.proofs.examples.call_edges.last_numbers_are_compared.Goals as goal

gets_less : (were are : Endpoints) (line : ℕ) (was is : Standing) → standing_at were line ≡ Some was → standing_at are line ≡ Some is → is.last < was.last → NumbersGoOn were are → ⊥
gets_less were are line was is before after less go_on =
    let next = go_on line was before in
    let one : Some next.0 ≡ Some is = sym next.1 ∙ after in
    let same : next.0 ≡ is = cc in
    let last : next.0.last ≡ is.last = ap (λ (s : Standing). s.last) same in
    let more : was.last ≤ next.0.last = next.2 in
    omega (arith, last, more, less)

gets_lost : (were are : Endpoints) (line : ℕ) (was : Standing) → standing_at were line ≡ Some was → standing_at are line ≡ None → NumbersGoOn were are → ⊥
gets_lost were are line was before after go_on =
    let next = go_on line was before in
    let no : Some next.0 ≡ None = sym next.1 ∙ after in
    cc

-- what stands on the line
abbrev line_with : ℕ → Standing
line_with number = record (opening_endpoint one_line 1).connections { last = number }

pub returns-clause-less : goal.returns-clause-less
returns-clause-less c = gets_less (numbered_to 2).endpoints (numbered_to 1).endpoints 1 (line_with 2) (line_with 1) refl refl (omega arith)

pub returns-clause-lost : goal.returns-clause-lost
returns-clause-lost c = gets_lost (ready_machine two_lines).endpoints (ready_machine one_line).endpoints 2 (opening_endpoint two_lines 2).connections refl refl
