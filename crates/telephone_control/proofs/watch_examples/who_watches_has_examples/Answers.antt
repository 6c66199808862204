use Rattle.std.proofs.Common.{◌≡◌, ◌⊎◌, ℕ, Bool, zero, suc, false, true, codes, List, [], ◌++◌, Option, inl, inr, refl, sym, ap, ◌∙◌, true≢false}
use Rattle.line_changes.specs.Watching.{is_watched, nobody}
use Rattle.line_changes.specs.declared.watchers.Watcher.{Watcher}
use Rattle.line_changes.specs.declared.watchers.Watchers.{Watchers}
use Rattle.plain_machine.specs.Example.{two_lines}
use Rattle.plain_machine.specs.Lists.{plain}
use Rattle.plain_machine.specs.Machine.{Machine}
use Rattle.telephone_control.specs.declared.watch.Watch.{Watch}
use Rattle.telephone_control.specs.WatchExample.{Heard, hears, somebody, heard_once}
use Rattle.telephone_control.specs.Watching.{RefusesLine, TellsEach, TellsLines, WatchesOn, WatchesStill, is_to_tell}
use Rattle.telephone_control.proofs.Computing.{on_examples}
use Rattle.telephone_control.proofs.WatchExampleLemmas.{heard}
use Rattle.telephone_control.proofs.WatchingLemmas.{still_watch}
use Rattle.telephone_control.proofs.watch_examples.who_watches_has_examples.Goals as goal

-- nobody is to be told where nobody watches
none_to_tell : (taken : Bool) (now : ℕ) (places : List (Option Watcher)) → places ≡ nobody → is_to_tell taken now places ≡ false
none_to_tell true now places none = rw none refl
none_to_tell false now places none = refl

unwatched : (taken : Bool) (m : Machine) (was is : Watch) (after : Heard) → is_to_tell taken m.now was.watchers.places ≡ false
    → WatchesOn taken hears [] two_lines m [] was after is → (after ≡ []) × (is ≡ was)
unwatched taken m was is after none (inl (unwatched_so, around, same)) = (around, same)
unwatched taken m was is after none (inr (inl (watched, lines))) = absurd (true≢false (sym watched ∙ none))
unwatched taken m was is after none (inr (inr (watched, gone, between, some, tells))) = absurd (true≢false (sym watched ∙ none))

pub returns-clause-unwatched : goal.returns-clause-unwatched
returns-clause-unwatched c = λ taken m was is after none watches.
    unwatched taken m was is after (none_to_tell taken m.now was.watchers.places none) watches

pub returns-clause-untaken : goal.returns-clause-untaken
returns-clause-untaken c = λ m was is after watches. unwatched false m was is after refl watches

refused : (m : Machine) (was is : Watch) (after : Heard) → m.now ≡ 0 → was.watchers.places ≡ somebody
    → WatchesOn true hears [] two_lines m [] was after is → is.watchers.places ≡ nobody
    → (between : Heard) × (after ≡ between ++ heard_once (codes "! 1 OutOfMemory\n"))
refused m was is after now places (inl (unwatched_so, around, same)) over =
    let none : is_watched 0 somebody ≡ false = rw (now, places) at unwatched_so in absurd (true≢false none)
refused m was is after now places (inr (inl (watched, lines))) over =
    let same : is.watchers ≡ was.watchers = still_watch hears [] two_lines m 2 [] was after is lines in
    let nobodys : nobody ≡ somebody = sym over ∙ ap (λ (w : Watchers). w.places) same ∙ places in
    let none : false ≡ true = ap (λ (l : List (Option Watcher)). is_watched 0 l) nobodys in
    absurd (true≢false (sym none))
refused m was is after now places (inr (inr (watched, gone, between, some, tells))) over =
    let told : TellsEach hears 0 somebody between (codes "! 1 OutOfMemory\n") after = rw (now, places) at tells in
    (between, heard between (codes "! 1 OutOfMemory\n") after told)

pub returns-clause-refused : goal.returns-clause-refused
unfolding on_examples
returns-clause-refused c = λ was is after places on over. refused (plain two_lines []) was is after refl places on over

goes_on : (are : List (Option Watcher)) (after : Heard) → WatchesStill hears somebody after are → (are ≡ somebody) ⊎ (are ≡ nobody)
goes_on are after (inl same) = inl same
goes_on are after (inr over) = inr over.0

pub returns-clause-goes_on : goal.returns-clause-goes_on
returns-clause-goes_on c = goes_on

pub returns-clause-fewer : goal.returns-clause-fewer
unfolding on_examples
returns-clause-fewer c = λ was is after some. some.2

seen_before : (line : ℕ) (was mid is : Watch) (after : Heard) → line ≡ 0 → TellsLines hears [] two_lines (plain two_lines []) line [] was after mid
    → RefusesLine two_lines (plain two_lines []) (suc line) mid is → is.seen ≡ was.seen
unfolding TellsLines
seen_before zero was mid is after none lines refuses = refuses.kept ∙ ap (λ (w : Watch). w.seen) lines.1
seen_before (suc line) was mid is after none lines refuses = absurd cc

pub returns-clause-at_once : goal.returns-clause-at_once
returns-clause-at_once c = λ was is after some none. seen_before some.0 was some.1 is after none some.4 some.5
