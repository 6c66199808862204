-- What one who watches hears, in the worked examples.
use Rattle.std.proofs.Common.{◌≡◌, ℕ, List, ◌++◌, ◌∙◌}
use Rattle.telephone_control.specs.WatchExample.{Heard, hears, somebody, heard_once}
use Rattle.telephone_control.specs.Watching.{TellsEach}

pub heard : (before : Heard) (text : List ℕ) (after : Heard) → TellsEach hears 0 somebody before text after → after ≡ before ++ heard_once text
heard before text after told = told.2 ∙ told.1
