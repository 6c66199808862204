-- What becomes of packets that are offered one after the other, by the ways that they go.
use Rattle.std.specs.Prelude.{ℕ, suc, Bool, true, false, if◌then◌else◌, List, [], ◌∷◌}
use Rattle.impairment.specs.declared.draws.Generators.{Generators}
use Rattle.impairment.specs.declared.fate.Fate.{Fate}
use Rattle.impairment.specs.declared.packet.Way.{Way}
use Rattle.impairment.specs.declared.packet.Way.TheVariants.{In, Out}
use Rattle.impairment.specs.declared.spoiling.Spoiling.{Spoiling}
use Rattle.impairment.specs.Drawing.{after_draws_on}
use Rattle.impairment.specs.Fates.{fate_on}

abbrev pub is_same_way : Way → Way → Bool
is_same_way In In = true
is_same_way Out Out = true
is_same_way In Out = false
is_same_way Out In = false

-- so many of these go a way
unfoldable pub number_on : Way → List Way → ℕ
number_on way [] = 0
number_on way (next ∷ ways) = if is_same_way way next then suc (number_on way ways) else number_on way ways

-- what becomes of those that go a way, where packets are offered on all of these ways in their order
unfoldable pub fates_on : Way → Spoiling → Generators → List Way → List Fate
fates_on way spoiling generators [] = []
fates_on way spoiling generators (next ∷ ways) =
    if is_same_way way next then fate_on next spoiling generators ∷ fates_on way spoiling (after_draws_on next generators) ways
    else fates_on way spoiling (after_draws_on next generators) ways
