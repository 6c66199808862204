-- What is told of how a line of a board stands.
use Rattle.std.proofs.Common.{◌≡◌, ℕ, List, Option, Some, sym, ap, subst, ◌∙◌}
use Rattle.std.specs.Prelude.{slice_get}
use Rattle.std.specs.Global.{Box}
use Rattle.agent_log.specs.declared.journal.Journal.{Journal}
use Rattle.agent_log.specs.declared.station.Station.{Station}
use Rattle.agent_log.specs.Telling.{Tells}
use Rattle.line_control.specs.declared.office.Office.{Office}
use Rattle.line_control.specs.Showing.{ShowsIn, ShowsLine}

-- a line is shown with the stations that there are
pub shown_so : (given stations : List Station) (line : ℕ) (found : Option ℕ) (office : Box Office) (there : Option (Box Office))
    (before now : Journal) → given ≡ stations → found ≡ Some line → there ≡ Some office
    → ShowsLine given line office.value.exchange (slice_get office.value.cares.items line) before now
    → ShowsIn stations found there before now
shown_so given stations line found office there before now stations_are found_is office_is shows =
    subst (λ (one : Option ℕ). ShowsIn stations one there before now) (sym found_is)
    (subst (λ (one : Option (Box Office)). ShowsIn stations (Some line) one before now) (sym office_is)
    (subst (λ (list : List Station). ShowsIn list (Some line) (Some office) before now) stations_are shows))

-- refusals are told to a journal that is as it was
pub told_same : (text : List ℕ) (before between now : Journal) → between ≡ before → Tells text between.told now.told → Tells text before.told now.told
told_same text before between now same tells = subst (λ (journal : Journal). Tells text journal.told now.told) same tells

-- they count nothing
pub counted_behind : (between now : Journal) → now ≡ record between { told = now.told } → now.tally ≡ between.tally
counted_behind between now rest = ap (λ (journal : Journal). journal.tally) rest

-- nor do they change anything else
pub shown_rest : (before between now : Journal) → between ≡ record before { told = between.told; tally = between.tally }
    → now ≡ record between { told = now.told } → now ≡ record before { told = now.told; tally = now.tally }
shown_rest before between now so_far next =
    let all : now ≡ record before { told = now.told; tally = between.tally }
    = next ∙ ap (λ (journal : Journal). record journal { told = now.told; tally = between.tally }) so_far in
    all ∙ ap (λ (journal : Journal). record before { told = now.told; tally = journal.tally }) (sym all)
