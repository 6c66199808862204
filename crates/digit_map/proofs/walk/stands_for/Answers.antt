use Rattle.std.proofs.Common.{rules, ◌≡◌, Bool, true, false, ◌||◌, refl}
use Rattle.digit_map.specs.Cuts.{parts_of}
use Rattle.digit_map.proofs.walk.stands_for.Goals as goal

or_none : (x : Bool) → (x || false) ≡ x
or_none true = refl
or_none false = refl

pub returns : goal.returns
unfolding parts_of
returns c = simp or_none (search rules)
