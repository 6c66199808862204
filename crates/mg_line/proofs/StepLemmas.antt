-- What a call leaves of a line: what the line became, or the line as it was where memory is refused.
use Rattle.std.proofs.Common.{◌≡◌, ◌∙◌, ap}
use Rattle.std.specs.Prelude.{Option, Result, Ok, Err, IfOk, OnOk, OnErr}
use Rattle.mg_line.specs.declared.phone.Act.{Act}
use Rattle.mg_line.specs.declared.phone.Act.TheVariants.{OffHook, OnHook, Flash, Key}
use Rattle.mg_line.specs.Line.{LineState, Notice, LineDone}
use Rattle.mg_line.specs.Room.{HasRoom}
use Rattle.mg_line.specs.Step.{step_of}
use Rattle.mg_line.specs.Acting.{hooked}
use Rattle.mg_line.proofs.RoomLemmas.{room_of, room_along}

-- an act is taken back
pub hooked_back : (line was : LineState) (act : Act) → line ≡ hooked was act → record line { hook = was.hook; signals = was.signals } ≡ was
hooked_back line was OffHook h = ap (λ (l : LineState). record l { hook = was.hook; signals = was.signals }) h
hooked_back line was OnHook h = ap (λ (l : LineState). record l { hook = was.hook; signals = was.signals }) h
hooked_back line was Flash h = ap (λ (l : LineState). record l { hook = was.hook; signals = was.signals }) h
hooked_back line was (Key key) h = ap (λ (l : LineState). record l { hook = was.hook; signals = was.signals }) h

-- what a line became is what an equal one becomes
pub step_along : {E : Type 0} (result : Result (Option Notice) E) (line : LineState) (done other : LineDone)
    → IfOk result (λ notice. step_of line notice ≡ done) → done ≡ other → IfOk result (λ notice. step_of line notice ≡ other)
step_along (Ok notice) line done other h same = h ∙ same
step_along (Err refused) line done other h same = tt

pub left_along : {A E : Type 0} (result : Result A E) (line was other : LineState) → OnErr result (line ≡ was) → was ≡ other
    → OnErr result (line ≡ other)
left_along (Ok given) line was other h same = tt
left_along (Err refused) line was other h same = h ∙ same

-- there is room on the line after a call, whether it became something or is as it was
pub room_after : {E : Type 0} (result : Result (Option Notice) E) (line was : LineState) (done : LineDone)
    → IfOk result (λ notice. step_of line notice ≡ done) → OnErr result (line ≡ was) → HasRoom was → HasRoom done.line → HasRoom line
room_after (Ok notice) line was done ok err room after = room_along line notice done ok after
room_after (Err refused) line was done ok err room after = room_of line was err room

-- a line that became equal to another
pub equal_along : {A E : Type 0} (result : Result A E) (line copied other : LineState) → OnOk result (line ≡ copied) → copied ≡ other → OnOk result (line ≡ other)
equal_along (Ok given) line copied other h same = h ∙ same
equal_along (Err refused) line copied other h same = tt

-- and there is room on it, as there is on both
pub room_copied : {A E : Type 0} (result : Result A E) (line copied was : LineState) → OnOk result (line ≡ copied) → OnErr result (line ≡ was)
    → HasRoom copied → HasRoom was → HasRoom line
room_copied (Ok given) line copied was ok err room before = room_of line copied ok room
room_copied (Err refused) line copied was ok err room before = room_of line was err before
