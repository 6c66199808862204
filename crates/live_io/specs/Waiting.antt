-- What a wait comes to where a script says what happens: the clock goes on by it, and by what stops the program, and by nothing else.
use Rattle.std.specs.Prelude.{◌≡◌, ⊤, ℕ, ◌+◌, ◌-◌, ◌*◌, ◌^◌, Bool, true, false, min, max, nat_lt, if◌then◌else◌, List, [], ◌∷◌, drop}
use Rattle.std.specs.Prelude.{Option, Some, None, Result, IsOk}
use Rattle.live_io.specs.declared.scripted.Coming.{Coming}
use Rattle.live_io.specs.declared.scripted.Happening.{Happening}
use Rattle.live_io.specs.declared.scripted.Happening.TheVariants.{Datagram, Lines, Pause, SendFault, ReceiveFault}
use Rattle.live_io.specs.declared.scripted.Scripted.{Scripted}
use Rattle.live_io.specs.declared.surroundings.Fault.{Fault}

-- a moment so many ms behind another; a number of 64 bits goes no further than its last
abbrev pub later : ℕ → ℕ → ℕ
later moment ms = min (moment + ms) (2 ^ 64 - 1)

-- the time of day at the start, in microseconds since 1970: that at which 2026 began
abbrev pub opened : ℕ
opened = 1767225600000000

-- the time of day goes on with the clock, which tells ms
abbrev pub time_at : ℕ → ℕ
time_at moment = later opened (min (moment * 1000) (2 ^ 64 - 1))

-- when what comes first happens, where it is now this moment, if it does by that one: at its own, or at once where that is over
abbrev pub next_by : ℕ → ℕ → List Coming → Option ℕ
next_by until moment [] = None
next_by until moment (first ∷ more) =
    if nat_lt until (max first.moment moment) then None else Some (max first.moment moment)

-- This happens: the program is stopped for so long, or the next datagram that is sent can't be, and that is all of it. What comes to a
-- socket waits there.
abbrev pub Happens : Happening → Scripted → Bool → Scripted → Type 0
Happens (Datagram source bytes) was is_over is = (is_over ≡ false) × (is ≡ was)
Happens (Lines sender text) was is_over is = (is_over ≡ false) × (is ≡ was)
Happens (Pause ms) was is_over is = (is_over ≡ true) × (is ≡ record was { moment = later was.moment ms })
Happens SendFault was is_over is = (is_over ≡ true) × (is ≡ record was { is_failing = true })
Happens ReceiveFault was is_over is = (is_over ≡ false) × (is ≡ was)

-- what comes first happens, where something is to come
abbrev pub HappensFirst : List Coming → Scripted → Bool → Scripted → Type 0
HappensFirst [] was is_over is = (is_over ≡ false) × (is ≡ was)
HappensFirst (first ∷ more) was is_over is = Happens first.what was is_over is

-- what came first is out of the script, where it is over
abbrev pub Leaves : Bool → Scripted → Scripted → Type 0
Leaves false was is = is ≡ was
Leaves true was is = (is ≡ record was { coming = is.coming }) × (is.coming.items ≡ drop 1 was.coming.items)

-- the clock goes on to this moment; or to when something happens before, and then that does
abbrev pub GoesOn : Option ℕ → ℕ → Scripted → Scripted → Type 0
GoesOn None until was is = is ≡ record was { moment = until }
GoesOn (Some next) until was is =
    (is_over : Bool) × (happened : Scripted) × HappensFirst was.coming.items (record was { moment = next }) is_over happened
    × Leaves is_over happened is

-- so it is where it waited, for so long at most; that doesn't fail
abbrev pub Waits : Scripted → ℕ → Result ⊤ Fault → Scripted → Type 0
Waits was longest outcome is =
    IsOk outcome × GoesOn (next_by (later was.moment longest) was.moment was.coming.items) (later was.moment longest) was is
