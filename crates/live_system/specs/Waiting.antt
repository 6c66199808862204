-- How long a loop waits.
use Rattle.std.specs.Prelude.{ℕ, Bool, true, false, min}

-- so many ms behind an offer of what waits to be taken it is offered again
abbrev pub next_offer : ℕ
next_offer = 20

-- a loop that has nothing to do for so long, in ms, waits as long; where something waits to be taken, no longer than until that is offered
-- again
abbrev pub longest_wait : Bool → ℕ → ℕ
longest_wait true longest = min longest next_offer
longest_wait false longest = longest
