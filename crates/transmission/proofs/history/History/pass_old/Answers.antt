use Rattle.std.proofs.Common.{◌≤◌, length, drop, ap, sym, arith, ◌∙◌}
use Rattle.transmission.specs.Kept.{HistoryState}
use Rattle.transmission.proofs.IndexLaws.{rest_of, front_counted, passed-le, all_in, old_passed}
use Rattle.transmission.proofs.history.History.pass_old.Goals as goal

pub overflow_sub-self : goal.overflow_sub-self
overflow_sub-self c =
    passed-le _ _ _ _ _ _ c.self.invariant c.count_old-old.result c.count_firsts.result
    (front_counted _ _ c.self.inside.gone c.count_old-old.result c.count_firsts.result c.deref.ensures.value c.count_firsts.ensures)

pub invariant_of-self : goal.invariant_of-self
invariant_of-self c =
    let within : c.count_old-old.result ≤ length (drop c.self.inside.gone c.self.inside.entries.items) =
    omega (arith, c.count_old-old.ensures.within, ap length (rest_of _ _ c.self.inside.gone c.deref.ensures.value)) in
    old_passed _ _ _ _ _ _ c.self.invariant c.count_old-old.result c.count_firsts.result within
    (front_counted _ _ c.self.inside.gone c.count_old-old.result c.count_firsts.result c.deref.ensures.value c.count_firsts.ensures)
    (all_in _ _ _ _ _ _ c.self.invariant
    (ap (λ (history : HistoryState). history.settled) c.self.view_is ∙ c.requires ∙ sym (ap (λ (history : HistoryState). history.kept) c.self.view_is)))
