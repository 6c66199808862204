-- What is drawn for packets that go one way depends on nothing that goes the other.
use Rattle.std.proofs.Common.{◌≡◌, ℕ, zero, suc, List, [], ◌∷◌, refl, sym, ap, ◌∙◌}
use Rattle.rand_pcg.specs.Lcg.{Lcg}
use Rattle.impairment.specs.declared.draws.Generators.{Generators}
use Rattle.impairment.specs.declared.fate.Fate.{Fate}
use Rattle.impairment.specs.declared.packet.Way.{Way}
use Rattle.impairment.specs.declared.packet.Way.TheVariants.{In, Out}
use Rattle.impairment.specs.declared.spoiling.Impairment.{Impairment}
use Rattle.impairment.specs.declared.spoiling.Spoiling.{Spoiling}
use Rattle.impairment.specs.Drawing.{draws_of, after_draws, generator_on, after_draws_on}
use Rattle.impairment.specs.Fates.{fate_of, impairment_on}
use Rattle.impairment.specs.Ways.{number_on, fates_on}

-- what a way's own generator draws for so many packets
drawn : Impairment → Lcg → ℕ → List Fate
drawn impairment generator zero = []
drawn impairment generator (suc number) = fate_of impairment (draws_of generator) ∷ drawn impairment (after_draws generator) number

-- that is what becomes of them, whatever goes the other way
its_own : (way : Way) (spoiling : Spoiling) (generators : Generators) (ways : List Way)
    → fates_on way spoiling generators ways ≡ drawn (impairment_on way spoiling) (generator_on way generators) (number_on way ways)
unfolding fates_on number_on drawn
its_own way spoiling generators [] = refl
its_own In spoiling generators (In ∷ ways) =
    ap (λ (fates : List Fate). fate_of spoiling.incoming (draws_of generators.incoming) ∷ fates)
    (its_own In spoiling (after_draws_on In generators) ways)
its_own In spoiling generators (Out ∷ ways) = its_own In spoiling (after_draws_on Out generators) ways
its_own Out spoiling generators (In ∷ ways) = its_own Out spoiling (after_draws_on In generators) ways
its_own Out spoiling generators (Out ∷ ways) =
    ap (λ (fates : List Fate). fate_of spoiling.outgoing (draws_of generators.outgoing) ∷ fates)
    (its_own Out spoiling (after_draws_on Out generators) ways)

pub own_draws : (way : Way) (one other : Spoiling) (first second : Generators) (ways others : List Way)
    → impairment_on way one ≡ impairment_on way other → generator_on way first ≡ generator_on way second
    → number_on way ways ≡ number_on way others → fates_on way one first ways ≡ fates_on way other second others
own_draws way one other first second ways others impairment generator number =
    its_own way one first ways
    ∙ ap (λ (x : Impairment). drawn x (generator_on way first) (number_on way ways)) impairment
    ∙ ap (λ (x : Lcg). drawn (impairment_on way other) x (number_on way ways)) generator
    ∙ ap (λ (x : ℕ). drawn (impairment_on way other) (generator_on way second) x) number
    ∙ sym (its_own way other second others)
