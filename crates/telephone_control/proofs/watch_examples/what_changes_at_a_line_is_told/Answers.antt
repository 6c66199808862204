use Rattle.std.proofs.Common.{◌≡◌, [], codes, refl, sym, ap}
use Rattle.std.specs.Option.{unwrap_or}
use Rattle.line_changes.specs.Example.{resting}
use Rattle.line_changes.specs.Telling.{Told}
use Rattle.telephone_control.specs.WatchExample.{hears, somebody}
use Rattle.telephone_control.specs.Watching.{TellsText}
use Rattle.telephone_control.proofs.WatchExampleLemmas.{heard}
use Rattle.telephone_control.proofs.Computing.{on_examples}
use Rattle.telephone_control.proofs.watch_examples.what_changes_at_a_line_is_told.Goals as goal

pub returns-clause-changed : goal.returns-clause-changed
unfolding on_examples
returns-clause-changed c = λ was is after items told places line.
    let seen : line.seen ≡ resting = ap (λ o. unwrap_or o resting) (sym line.so) in
    let now : is.told ≡ record { number = 8; text = codes "change 7 at 0 line 1 on\n" } = rw (seen, items, told) at line.told in
    let said : TellsText hears 0 somebody [] (codes "change 7 at 0 line 1 on\n") after = rw (now, places) at line.said in
    (heard [] (codes "change 7 at 0 line 1 on\n") after said, ap (λ (t : Told). t.number) now, rw (seen, items) at line.kept)

pub returns-clause-same : goal.returns-clause-same
unfolding on_examples
returns-clause-same c = λ was is after items told places line.
    let seen : line.seen ≡ resting = ap (λ o. unwrap_or o resting) (sym line.so) in
    let now : is.told ≡ record { number = 7; text = [] } = rw (seen, items, told) at line.told in
    let said : after ≡ [] = rw (now) at line.said in
    (said, ap (λ (t : Told). t.number) now)

pub returns-clause-none : goal.returns-clause-none
unfolding on_examples
returns-clause-none c = λ was is after lines. lines

pub returns-clause-one : goal.returns-clause-one
unfolding on_examples
returns-clause-one c = λ was is after tells. ([], was, (refl, refl), tells)

pub returns-clause-unmarked : goal.returns-clause-unmarked
returns-clause-unmarked c = λ was is after lines. lines
