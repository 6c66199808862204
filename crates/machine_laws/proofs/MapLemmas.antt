-- The digit map of a line, and those that are embedded in its R, are spelled as such, whatever occurs.
use Rattle.std.proofs.Common.{◌≡◌, ℕ, Bool, true, false, if◌then◌else◌, List, [], ◌∷◌, ◌++◌, map, Option, Some, None, Result, Ok, Err, refl, subst}
use Rattle.std.specs.Prelude.{find, option_map}
use Rattle.std.specs.List.{list_all}
use Rattle.std.specs.Option.{option_or}
use Rattle.std.specs.Cmp.Derive.{both_true}
use Rattle.std.proofs.lemmas.Bool.{and_parts}
use Rattle.std.proofs.lemmas.Slice.Eq.{bytes_eq-Decides}
use Rattle.mg_bytes.specs.declared.letter.Letter.{Letter}
use Rattle.mg_bytes.specs.Blanks.{is_blank}
use Rattle.packages.specs.declared.event.LineEvent.{LineEvent}
use Rattle.digit_map.specs.declared.change.MapChange.{MapChange}
use Rattle.digit_map.specs.declared.change.MapChange.TheVariants.{Keep, Remove, Replace}
use Rattle.digit_map.specs.declared.fault.MapFault.{MapFault}
use Rattle.digit_map.specs.declared.verdict.Verdict.{Verdict}
use Rattle.digit_map.specs.declared.verdict.Verdict.TheVariants.{Perfect, Partial, Impossible}
use Rattle.digit_map.specs.Change.{change_of, replaced_by}
use Rattle.digit_map.specs.Reading.{map_of, or_code}
use Rattle.digit_map.specs.Spelling.{is_map}
use Rattle.digit_map.proofs.ReadingLaws.{read_spelled}
use Rattle.packages.specs.declared.observed.Observed.{Observed}
use Rattle.event_syntax.specs.declared.request.EmbeddedEvent.{EmbeddedEvent}
use Rattle.event_syntax.specs.declared.request.EmbeddedRequest.{EmbeddedRequest}
use Rattle.event_syntax.specs.declared.request.RequestedEvent.{RequestedEvent}
use Rattle.event_syntax.specs.declared.request.Action.TheVariants.{Ignore, Notify, Accumulate, Dial}
use Rattle.event_syntax.specs.declared.request.Reaction.{Reaction}
use Rattle.event_syntax.specs.declared.request.Reaction.TheVariants.{Plain, Embed, AccumulateAndEmbed}
use Rattle.event_syntax.specs.Requested.{is_spelled_map, has_spelled_map, all_maps_are_spelled, is_same_map, is_writable_map, is_writable_reaction, is_writable_entry, are_writable_requested}
use Rattle.events_and_signals.specs.Choice.{Chosen, chosen_by, chosen}
use Rattle.events_and_signals.specs.Naming.{names, event_of}
use Rattle.events_and_signals.specs.Requests.{entry_in}
use Rattle.mgcp_text.specs.declared.message.Param.{Param}
use Rattle.command_forms.specs.Values.{change_at}
use Rattle.events_and_signals.specs.declared.request.Request.{Request}
use Rattle.mg_line.specs.Line.{LineState, still}
use Rattle.mg_line.specs.Occurring.{notified, notified_if_full, with_event, letter_of, timed, judged, with_letter, dialled_by, embedded, acted, signals_after, occurred}
use Rattle.mg_line.specs.Requesting.{map_after, replaced}

abbrev pub AreSpelled : LineState → Type 0
AreSpelled line = (is_spelled_map line.digit_map ≡ true) × (all_maps_are_spelled line.requests.requested ≡ true)

-- An event

full_spelled : (line : LineState) → AreSpelled line → AreSpelled (notified_if_full line).line
unfolding notified_if_full notified
full_spelled line are = by_test _ where
  by_test : (b : Bool) → AreSpelled (if b then notified line else still line).line
  by_test true = are
  by_test false = are

judged_spelled : (verdict : Verdict) (line : LineState) (letter : Letter) (moment : ℕ) → AreSpelled line → AreSpelled (judged verdict line letter moment).line
unfolding timed notified
judged_spelled Perfect line letter moment are = are
judged_spelled Impossible line letter moment are = are
judged_spelled Partial line letter moment are = full_spelled (timed line letter moment) are

dialled_spelled : (letter : Option Letter) (line : LineState) (moment : ℕ) → AreSpelled line → AreSpelled (dialled_by letter line moment).line
unfolding with_letter
dialled_spelled None line moment are = full_spelled line are
dialled_spelled (Some letter) line moment are = judged_spelled _ (record line { dialled = line.dialled ++ letter ∷ [] }) letter moment are

-- the map that is given, or the one before
given_spelled : (given was : Option (List ℕ)) → is_spelled_map given ≡ true → is_spelled_map was ≡ true → is_spelled_map (option_or given was) ≡ true
given_spelled None was new old = old
given_spelled (Some text) was new old = new

-- the entries of an embedded R embed nothing
entries_spelled : (entries : List EmbeddedEvent) → all_maps_are_spelled (map entry_in entries) ≡ true
entries_spelled [] = refl
entries_spelled (entry ∷ entries) = entries_spelled entries

embedded_spelled : (line : LineState) (request : EmbeddedRequest) (moment : ℕ) → is_spelled_map request.map ≡ true → AreSpelled line → AreSpelled (embedded line request moment)
unfolding embedded
embedded_spelled line request moment new are = (given_spelled request.map line.digit_map new are.0, entries_spelled request.events)

acted_spelled : (reaction : Reaction) (line : LineState) (event : Observed) (moment : ℕ) → has_spelled_map reaction ≡ true → AreSpelled line → AreSpelled (acted reaction line event moment).line
unfolding acted notified
acted_spelled (Plain Ignore) line event moment new are = are
acted_spelled (Plain Notify) line event moment new are = are
acted_spelled (Plain Accumulate) line event moment new are = full_spelled (with_event line event) are
acted_spelled (Plain Dial) line event moment new are = dialled_spelled (letter_of (event_of event)) (with_event line event) moment are
acted_spelled (Embed request) line event moment new are = embedded_spelled (record line { accumulated = [] }) request moment new are
acted_spelled (AccumulateAndEmbed request) line event moment new are =
    full_spelled (embedded (with_event line event) request moment) (embedded_spelled (with_event line event) request moment new are)

found_spelled : (list : List RequestedEvent) (event : LineEvent) → all_maps_are_spelled list ≡ true
    → has_spelled_map (chosen_by event (find (λ entry. names entry.events event) list)).reaction ≡ true
found_spelled [] event all = refl
found_spelled (entry ∷ list) event all =
    let both = and_parts (has_spelled_map entry.reaction) (all_maps_are_spelled list) all in
    by_name (names entry.events event) both.0 (found_spelled list event both.1) where
      by_name : (b : Bool) → has_spelled_map entry.reaction ≡ true
          → has_spelled_map (chosen_by event (find (λ entry. names entry.events event) list)).reaction ≡ true
          → has_spelled_map (chosen_by event (if b then Some entry else find (λ entry. names entry.events event) list)).reaction ≡ true
      by_name true here there = here
      by_name false here there = there

chosen_spelled : (list : List RequestedEvent) (event : LineEvent) → all_maps_are_spelled list ≡ true → has_spelled_map (chosen list event).reaction ≡ true
unfolding chosen
chosen_spelled list event all = found_spelled list event all

pub occurred_spelled : (line : LineState) (event : Observed) (moment : ℕ) → AreSpelled line → AreSpelled (occurred line event moment).line
unfolding occurred
occurred_spelled line event moment are =
    let choice : Chosen = chosen line.requests.requested (event_of event) in
    acted_spelled choice.reaction (signals_after choice line) event moment (chosen_spelled line.requests.requested (event_of event) are.1) are

-- A request

abbrev pub IsSpelledChange : MapChange → Type 0
IsSpelledChange Keep = Unit {0}
IsSpelledChange Remove = Unit {0}
IsSpelledChange (Replace text) = is_map text ≡ true

abbrev pub IsSpelledRequest : Request → Type 0
IsSpelledRequest request = IsSpelledChange request.map × (all_maps_are_spelled request.events.requested ≡ true)

after_spelled : (change : MapChange) (was : Option (List ℕ)) → IsSpelledChange change → is_spelled_map was ≡ true → is_spelled_map (map_after change was) ≡ true
after_spelled Keep was new old = old
after_spelled Remove was new old = refl
after_spelled (Replace text) was new old = new

pub replaced_spelled : (line : LineState) (request : Request) (moment : ℕ) → IsSpelledRequest request → AreSpelled line → AreSpelled (replaced line request moment)
unfolding replaced
replaced_spelled line request moment new are = (after_spelled request.map line.digit_map new.0 are.0, new.1)

-- What is read

change_spelled : (value : Option (List ℕ)) (change : MapChange) → change_of value ≡ Ok change → IsSpelledChange change
unfolding change_of
change_spelled None change is = let same : Keep ≡ change = cc in subst IsSpelledChange same tt
change_spelled (Some text) change is = by_blank (list_all is_blank text) is where
  by_map : (read : Result (List ℕ) MapFault) → map_of text ≡ read → replaced_by read ≡ Ok change → IsSpelledChange change
  by_map (Ok found) reads is = let same : Replace found ≡ change = cc in subst IsSpelledChange same (read_spelled text found reads)
  by_map (Err fault) reads is = absurd cc

  by_blank : (b : Bool) → (if b then Ok Remove else replaced_by (map_of text)) ≡ Ok change → IsSpelledChange change
  by_blank true is = let same : Remove ≡ change = cc in subst IsSpelledChange same tt
  by_blank false is = by_map (map_of text) refl is

pub read_change : (param : Option Param) (change : MapChange) → change_at param ≡ Ok change → IsSpelledChange change
read_change param change is = by_read (change_of (option_map (λ found. found.value) param)) refl is where
  by_read : (read : Result MapChange MapFault) → change_of (option_map (λ found. found.value) param) ≡ read → or_code read ≡ Ok change → IsSpelledChange change
  by_read (Ok found) reads is = let same : found ≡ change = cc in subst IsSpelledChange same (change_spelled (option_map (λ found. found.value) param) found reads)
  by_read (Err fault) reads is = absurd cc

-- what can be written is spelled
map_spelled : (text : List ℕ) (read : Result (List ℕ) MapFault) → map_of text ≡ read → is_same_map text read ≡ true → is_map text ≡ true
map_spelled text (Ok found) reads same =
    let is : found ≡ text = (bytes_eq-Decides found text).0 same in
    subst (λ (t : List ℕ). is_map t ≡ true) is (read_spelled text found reads)
map_spelled text (Err fault) reads same = absurd cc

writable_spelled : (given : Option (List ℕ)) → is_writable_map given ≡ true → is_spelled_map given ≡ true
writable_spelled None writable = refl
writable_spelled (Some text) writable = map_spelled text (map_of text) refl writable

reaction_spelled : (reaction : Reaction) → is_writable_reaction reaction ≡ true → has_spelled_map reaction ≡ true
reaction_spelled (Plain action) writable = refl
reaction_spelled (Embed request) writable = writable_spelled request.map (and_parts _ _ (and_parts _ _ writable).0).1
reaction_spelled (AccumulateAndEmbed request) writable = writable_spelled request.map (and_parts _ _ (and_parts _ _ writable).0).1

entries_writable : (list : List RequestedEvent) → list_all is_writable_entry list ≡ true → all_maps_are_spelled list ≡ true
entries_writable [] all = refl
entries_writable (entry ∷ list) all =
    let both = and_parts (is_writable_entry entry) (list_all is_writable_entry list) all in
    both_true (reaction_spelled entry.reaction (and_parts _ _ both.0).1) (entries_writable list both.1)

pub requested_spelled : (list : List RequestedEvent) → are_writable_requested list ≡ true → all_maps_are_spelled list ≡ true
unfolding are_writable_requested
requested_spelled list writable = entries_writable list (and_parts _ _ writable).1
