-- What becomes of a packet, by its way and by what was drawn for it.
use Rattle.std.specs.Prelude.{ℕ, ◌+◌, ◌-◌, ◌%◌, min, nat_lt, Bool, if◌then◌else◌}
use Rattle.impairment.specs.declared.spoiling.Impairment.{Impairment}
use Rattle.impairment.specs.declared.spoiling.Spoiling.{Spoiling}
use Rattle.impairment.specs.declared.draws.Draws.{Draws}
use Rattle.impairment.specs.declared.draws.Generators.{Generators}
use Rattle.impairment.specs.declared.fate.Fate.{Fate}
use Rattle.impairment.specs.declared.fate.Fate.TheVariants.{Lost, Once, Twice}
use Rattle.impairment.specs.declared.packet.Way.{Way}
use Rattle.impairment.specs.declared.packet.Way.TheVariants.{In, Out}
use Rattle.impairment.specs.Drawing.{draws_on}

-- a packet is never later than this, in ms: none is older than 10 seconds when it is handed over (RFC 3435, 3.5)
abbrev pub latest : ℕ
latest = 10000

-- so many of a hundred draws hit
abbrev pub is_hit : ℕ → ℕ → Bool
is_hit percent draw = nat_lt (draw % 100) percent

-- how late a packet is, in ms: each time from the least to the most is as likely as any other
abbrev pub lateness : Impairment → ℕ → ℕ
lateness impairment draw = min (impairment.least + draw % (impairment.most - impairment.least + 1)) latest

-- it is lost, or it comes twice, or once
abbrev pub fate_of : Impairment → Draws → Fate
fate_of impairment draws =
    if is_hit impairment.lose draws.lost then Lost
    else if is_hit impairment.copy draws.copied then Twice (lateness impairment draws.first) (lateness impairment draws.second)
    else Once (lateness impairment draws.first)

-- how what goes a way is spoilt
abbrev pub impairment_on : Way → Spoiling → Impairment
impairment_on In spoiling = spoiling.incoming
impairment_on Out spoiling = spoiling.outgoing

-- what becomes of the next packet that goes a way
abbrev pub fate_on : Way → Spoiling → Generators → Fate
fate_on way spoiling generators = fate_of (impairment_on way spoiling) (draws_on way generators)
