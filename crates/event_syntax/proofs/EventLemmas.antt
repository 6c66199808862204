-- What a spelled name of events is read as can be written, and its faults are return codes.
use Rattle.std.proofs.Common.{◌≡◌, ℕ, Bool, true, false, cond, ◌&&◌, ◌||◌, eqb, List, [], ◌∷◌, arith, refl, sym, ap, ◌∙◌, lit≤, Option, Some, None}
use Rattle.std.specs.Prelude.{Result, Ok, option_map, length, nat_le}
use Rattle.std.specs.Option.{ok_or}
use Rattle.std.proofs.lemmas.Bool.{and_parts, eqb-true, le-leb}
use Rattle.mg_bytes.specs.Bytes.{slash, at_sign}
use Rattle.mg_bytes.specs.Case.{same_but_case}
use Rattle.mg_bytes.specs.Words.{split_once, in_brackets}
use Rattle.mg_bytes.specs.declared.letter.Letter.TheVariants.{Zero}
use Rattle.packages.specs.declared.event.LineEvent.{LineEvent}
use Rattle.packages.specs.declared.event.LineEvent.TheVariants.{OffHook, GenericComplete, Letter}
use Rattle.packages.specs.declared.package.Package.{Package}
use Rattle.packages.specs.declared.package.Package.TheVariants.{Line, Generic, Dtmf}
use Rattle.packages.specs.declared.signal.Signal.{Signal}
use Rattle.packages.specs.Looking.{in_package, in_package_from, package_named, no_event, event_in, event_named, signal_named}
use Rattle.digit_map.specs.Cuts.{parts_of}
use Rattle.digit_map.specs.Spelling.{is_range}
use Rattle.event_syntax.specs.declared.events.Events.{Events}
use Rattle.event_syntax.specs.declared.events.Events.TheVariants.{AllOfLine, One, Letters}
use Rattle.mg_bytes.specs.Steps.{◌>>=◌}
use Rattle.event_syntax.specs.Ranges.{is_some_range, is_bracketed, letters_in}
use Rattle.packages.specs.Spelling.{is_word, is_name}
use Rattle.event_syntax.specs.EventSpelling.{is_event, is_event_from}
use Rattle.event_syntax.specs.Events.{one, one_in, is_all, keys, letters_from, events_from, events_at, events_called, is_writable}
use Rattle.event_syntax.proofs.RangeLemmas.{range_has}
use Rattle.packages.proofs.PassLemmas.{Passes}

abbrev pub Writable : Events → Type 0
Writable events = is_writable events ≡ true

one_writable : (event : LineEvent) → Writable (one event)
unfolding letters_in parts_of
one_writable OffHook = refl
one_writable (Letter Zero) = refl
one_writable _ = refl

found_passes : (found : Option LineEvent) (other : Option Signal) → Passes Writable (ok_or found (no_event other) >>= λ event. Ok (one event))
found_passes (Some event) other = one_writable event
found_passes None (Some signal) = lit≤ tt
found_passes None None = lit≤ tt

one_passes : (within : Package) (name : List ℕ) → Passes Writable (one_in within name)
unfolding event_in
one_passes within name = found_passes (event_named within name) (signal_named within name)

named_passes : (test : Bool) (events : Events) (rest : Result Events ℕ) → Writable events → Passes Writable rest → Passes Writable (cond test (Ok events) rest)
named_passes true events rest ok other = ok
named_passes false events rest ok other = other

range_passes : (range : List ℕ) → is_range range ≡ true → Passes Writable (Ok (Letters (letters_in range)))
unfolding letters_in
range_passes range is = range_has range is

keys_writable : Writable (Letters keys)
unfolding letters_in parts_of
keys_writable = refl

digits_writable : Writable (Letters (letters_in (88 ∷ [])))
unfolding letters_in parts_of
digits_writable = refl

-- a name in brackets is no word
opening : (long opens closes : Bool) (inner range : List ℕ) → cond (long && opens && closes) (Some inner) None ≡ Some range → opens ≡ true
opening true true closes inner range is = refl
opening true false closes inner range is = absurd cc
opening false opens closes inner range is = absurd cc

no_word : (name range : List ℕ) → in_brackets name ≡ Some range → is_word name ≡ false
no_word [] range is = absurd cc
no_word (b ∷ bs) range is =
    let here : eqb b 91 ≡ true = opening _ (eqb b 91) _ _ range is in
    let same : b ≡ 91 = eqb-true b 91 here in
    let some : nat_le 1 (length (b ∷ bs)) ≡ true = le-leb _ _ (omega arith) in
    rw (same, some) refl

no_name : (name range : List ℕ) → in_brackets name ≡ Some range → split_once at_sign name ≡ None → is_name name ≡ false
unfolding is_name
no_name name range is alone = rw alone (no_word name range is)

only_right : (x t y : Bool) → x ≡ false → (x || (t && y)) ≡ true → y ≡ true
only_right true t y e is = absurd cc
only_right false t y e is = (and_parts t y is).1

letters_pass : (name : List ℕ) (found : Option (List ℕ)) (t : Bool) → in_brackets name ≡ found → split_once at_sign name ≡ None
    → (is_name name || (t && is_bracketed name)) ≡ true → Passes Writable (letters_from name found)
letters_pass name None t is alone spelled =
    named_passes (is_all name) (Letters keys) _ keys_writable
    (named_passes (same_but_case name (88 ∷ [])) (Letters (letters_in (88 ∷ []))) _ digits_writable (one_passes Dtmf name))
letters_pass name (Some range) t is alone spelled =
    range_passes range (ap is_some_range (sym is) ∙ only_right (is_name name) t (is_bracketed name) (no_name name range is alone) spelled)

-- a name in a package, with a connection behind `@` or without
events_pass : (within : Package) (name : List ℕ) (sides : Option (List ℕ × List ℕ)) (t : Bool) → split_once at_sign name ≡ sides
    → (is_name name || (t && is_bracketed name)) ≡ true → Passes Writable (events_from (within, name) sides)
events_pass within name (Some sides) t is spelled = lit≤ tt
events_pass Line name None t is spelled = named_passes (is_all name) AllOfLine _ refl (one_passes Line name)
events_pass Generic name None t is spelled = named_passes (is_all name) (One GenericComplete) _ refl (one_passes Generic name)
events_pass Dtmf name None t is spelled = letters_pass name (in_brackets name) t refl is spelled

package_passes : (found : Option Package) (name : List ℕ) (t : Bool) → (is_name name || (t && is_bracketed name)) ≡ true
    → Passes Writable (ok_or (option_map (λ within. (within, name)) found) 518 >>= events_at)
package_passes None name t spelled = lit≤ tt
package_passes (Some within) name t spelled = events_pass within name (split_once at_sign name) t refl spelled

line_passes : (name : List ℕ) (sides : Option (List ℕ × List ℕ)) → Passes Writable (events_from (Line, name) sides)
line_passes name None = named_passes (is_all name) AllOfLine _ refl (one_passes Line name)
line_passes name (Some sides) = lit≤ tt

sides_pass : (text : List ℕ) (sides : Option (List ℕ × List ℕ)) → is_event_from text sides ≡ true → Passes Writable (in_package_from text sides >>= events_at)
sides_pass text None spelled = line_passes text (split_once at_sign text)
sides_pass text (Some sides) spelled =
    package_passes (package_named sides.0) sides.1 (same_but_case sides.0 (68 ∷ [])) (and_parts (is_word sides.0) _ spelled).1

pub called_passes : (text : List ℕ) → is_event text ≡ true → Passes Writable (events_called text)
unfolding is_event events_called in_package
called_passes text spelled = sides_pass text (split_once slash text) spelled
