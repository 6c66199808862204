use Rattle.std.proofs.Common.{◌≡◌, ℕ, ◌∙◌, [], ap, sym, take, arith}
use Rattle.endpoints.specs.Saving.{SavesState}
use Rattle.endpoints.proofs.SavingLemmas.{popped_last}
use Rattle.endpoints.proofs.saves.Saves.pop.Goals as goal

pub returns-then-self-eq0-clause-last : goal.returns-then-self-eq0-clause-last
returns-then-self-eq0-clause-last c =
    let none : take c.self.inside.count c.self.inside.slots.items ≡ [] = ap (λ (n : ℕ). take n c.self.inside.slots.items) c.if-self-eq0.true in
    let nothing : c.args.self.now.list ≡ [] = ap (λ (s : SavesState). s.list) (sym c.self.view_is) ∙ none in
    (nothing, nothing)

pub returns-clause-last : goal.returns-clause-last
returns-clause-last c =
    popped_last c.pop-last.result c.args.self.now.list c.truncate.new.self.items c.pop-last.new.self.items c.len-self-inside.result _ _
    (c.truncate.ensures.items ∙ ap (λ (s : SavesState). s.list) c.self.view_is) c.pop-last.ensures.items c.pop-last.ensures.cases
    (omega (arith, c.pop-last.new.self.ok.0)) (omega (arith, c.pop-last.new.self.ok.0, c.len-self-inside.ensures))
