use Rattle.std.proofs.Common.{◌≡◌, ◌≤◌, ℕ, ◌∙◌, [], ap, refl, sym, take, arith}
use Rattle.endpoints.specs.Saving.{SavesState}
use Rattle.endpoints.proofs.SavingLemmas.{last_filled}
use Rattle.endpoints.proofs.saves.Saves.forget.Goals as goal

pub returns-then-self-eq0-clause-last : goal.returns-then-self-eq0-clause-last
returns-then-self-eq0-clause-last c =
    let none : take c.self.inside.count c.self.inside.slots.items ≡ [] = ap (λ (n : ℕ). take n c.self.inside.slots.items) c.if-self-eq0.true in
    let nothing : c.args.self.now.list ≡ [] = ap (λ (s : SavesState). s.list) (sym c.self.view_is) ∙ none in
    (nothing, nothing)

pub returns-clause-last : goal.returns-clause-last
returns-clause-last c =
    let some : 1 ≤ c.self.inside.count = omega arith in
    record {
      last = c.index.result.now;
      there = refl;
      popped = ap (λ (s : SavesState). s.list) (sym c.self.view_is)
          ∙ last_filled c.self.inside.slots.items c.self.inside.count c.index.result.now some c.self.invariant c.index.ensures;
    }
