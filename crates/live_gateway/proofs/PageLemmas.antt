-- When the page is asked for its next act.
use Rattle.std.proofs.Common.{◌≡◌, Bool, true, false, ◌&&◌, refl}
use Rattle.live_io.specs.declared.lines.Lines.{Lines}
use Rattle.live_journal.specs.declared.journal.Journal.{Journal}
use Rattle.telephone_control.specs.Paging.{TakesAct}
use Rattle.live_gateway.specs.Leaving.{TakesIf}

pub unasked : (was : Journal) (lines : Lines) (is_of_page asked is_empty : Bool) → asked ≡ false
    → TakesIf (asked && is_empty) was lines is_of_page was lines is_of_page
unasked was lines is_of_page true is_empty still = absurd cc
unasked was lines is_of_page false is_empty still = (refl, refl, refl)

pub still_left : (was : Journal) (lines : Lines) (is_of_page asked is_empty : Bool) → is_empty ≡ false
    → TakesIf (asked && is_empty) was lines is_of_page was lines is_of_page
still_left was lines is_of_page true true still = absurd cc
still_left was lines is_of_page true false still = (refl, refl, refl)
still_left was lines is_of_page false is_empty still = (refl, refl, refl)

pub asked_next : (was is : Journal) (lines left : Lines) (is_of_page is_then asked is_empty : Bool) → asked ≡ true → is_empty ≡ true
    → TakesAct was lines is_then is left → TakesIf (asked && is_empty) was lines is_of_page is left is_then
asked_next was is lines left is_of_page is_then true true may none takes = takes
asked_next was is lines left is_of_page is_then true false may none takes = absurd cc
asked_next was is lines left is_of_page is_then false is_empty may none takes = absurd cc
