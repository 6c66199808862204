use Rattle.std.proofs.Common.{◌≡◌, true, false, refl}
use Rattle.timers.specs.declared.kind.DueKind.TheVariants.{Resend}
use Rattle.timers.proofs.examples.the_least_is_set_and_nothing_comes_before_it.Goals as goal

true_false : true ≡ false → ⊥
true_false e = cc

pub returns-clause-behind : goal.returns-clause-behind
returns-clause-behind c = λ is. true_false (is.first 1 Resend 8 refl)

pub returns-clause-behind_at_one_moment : goal.returns-clause-behind_at_one_moment
returns-clause-behind_at_one_moment c = λ is. true_false (is.first 1 Resend 8 refl)
