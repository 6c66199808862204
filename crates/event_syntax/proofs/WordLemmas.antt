-- What is written of R and T, and of what stands in them, is one word: it has no blank, and stands in one line.
use Rattle.std.proofs.Common.{◌≡◌, ℕ, zero, suc, ◌/◌, ◌%◌, ◌==◌, Bool, true, false, List, [], ◌∷◌, ◌++◌, length, map, codes, refl, ◌∙◌, arith, ⊎_elim, Option, Some, None}
use Rattle.std.specs.Prelude.{nat_lt}
use Rattle.std.specs.Fmt.{decimal, digits, digits_onto, digit_glyph}
use Rattle.std.specs.List.{AllByRecursion, list_any, join_with_byte}
use Rattle.std.proofs.lemmas.Bool.{cases_Bool}
use Rattle.std.proofs.lemmas.Bool.Decides.{nat_tests}
use Rattle.std.proofs.lemmas.List.Folds.{list_any-append}
use Rattle.mg_bytes.specs.Bytes.{comma}
use Rattle.mg_bytes.specs.Blanks.{is_blank}
use Rattle.mg_bytes.specs.Lines.{is_line_feed}
use Rattle.mg_bytes.specs.Letter.{byte_of}
use Rattle.mg_bytes.specs.declared.letter.Letter.{Letter}
use Rattle.mg_bytes.specs.declared.letter.Letter.TheVariants.{Zero}
use Rattle.mg_bytes.proofs.DigitLemmas.{both_true}
use Rattle.packages.specs.declared.event.LineEvent.{LineEvent}
use Rattle.packages.specs.declared.event.LineEvent.TheVariants.{OffHook, Letter as OfLetter}
use Rattle.packages.specs.declared.signal.Signal.{Signal}
use Rattle.packages.specs.declared.signal.Signal.TheVariants.{DialTone}
use Rattle.packages.specs.Looking.{event_name, signal_name}
use Rattle.digit_map.specs.Spelling.{is_map}
use Rattle.packages.specs.Cuts.{in_parentheses}
use Rattle.packages.proofs.JoinLemmas.{is_solid, is_plain, false_of_not}
use Rattle.packages.specs.declared.signals.Setting.{Setting}
use Rattle.packages.specs.declared.signals.Setting.TheVariants.{Start, Stop, Lasting}
use Rattle.packages.specs.declared.signals.SignalRequest.{SignalRequest}
use Rattle.packages.specs.Signals.{setting_text, signal_entry_text, signals_text}
use Rattle.event_syntax.specs.declared.events.Events.{Events}
use Rattle.event_syntax.specs.declared.events.Events.TheVariants.{AllOfLine, One, Letters}
use Rattle.event_syntax.specs.declared.request.Action.{Action}
use Rattle.event_syntax.specs.declared.request.Action.TheVariants.{Notify}
use Rattle.event_syntax.specs.declared.request.EmbeddedEvent.{EmbeddedEvent}
use Rattle.event_syntax.specs.declared.request.EmbeddedRequest.{EmbeddedRequest}
use Rattle.event_syntax.specs.declared.request.Reaction.{Reaction}
use Rattle.event_syntax.specs.declared.request.Reaction.TheVariants.{Plain, Embed, AccumulateAndEmbed}
use Rattle.event_syntax.specs.declared.request.RequestedEvent.{RequestedEvent}
use Rattle.event_syntax.specs.Ranges.{letters_of, bracketed, letters_text}
use Rattle.event_syntax.specs.Events.{events_text}
use Rattle.event_syntax.specs.Detect.{detected_text}
use Rattle.event_syntax.specs.Requested.{action_text, keep_text, listed, embedded_event_text, events_part, signals_part, map_part, parts_text, embedded_text, actions_text, requested_entry_text, requested_text, is_spelled_map, has_spelled_map, all_maps_are_spelled}
use Rattle.event_syntax.proofs.RequestMaps.{map_inner, map_in_line}

-- no blank and no line feed: one word, or nothing
pub record IsWord (text : List ℕ) : Type 0 where
  pub blankless : list_any is_blank text ≡ false
  pub one_line : list_any is_line_feed text ≡ false

nothing_word : IsWord []
nothing_word = record { blankless = refl; one_line = refl }

pub word_append : (front back : List ℕ) → IsWord front → IsWord back → IsWord (front ++ back)
word_append front back one two = record {
  blankless = list_any-append is_blank front back ∙ rw (one.blankless, two.blankless) refl;
  one_line = list_any-append is_line_feed front back ∙ rw (one.one_line, two.one_line) refl;
}

pub word_cons : (b : ℕ) (bs : List ℕ) → is_blank b ≡ false → is_line_feed b ≡ false → IsWord bs → IsWord (b ∷ bs)
word_cons b bs solid inside others =
    record { blankless = rw (solid, others.blankless) refl; one_line = rw (inside, others.one_line) refl }

group_word : (text : List ℕ) → IsWord text → IsWord (in_parentheses text)
group_word text word =
    word_cons 40 (text ++ 41 ∷ []) refl refl (word_append text (41 ∷ []) word (record { blankless = refl; one_line = refl }))

-- words with commas between them
pub word_joined : (texts : List (List ℕ)) → AllByRecursion IsWord texts → IsWord (join_with_byte comma texts)
word_joined [] words = nothing_word
word_joined (text ∷ []) words = words.0
word_joined (text ∷ next ∷ texts) words =
    let others : IsWord (join_with_byte comma (next ∷ texts)) = word_joined (next ∷ texts) words.1 in
    word_append text (comma ∷ join_with_byte comma (next ∷ texts)) words.0
    (word_cons comma (join_with_byte comma (next ∷ texts)) refl refl others)

pub each_word : {A : Type 0} (text : A → List ℕ) → ((x : A) → IsWord (text x)) → (xs : List A) → AllByRecursion IsWord (map text xs)
each_word text one [] = tt
each_word text one (x ∷ xs) = (one x, each_word text one xs)

words_append : (texts more : List (List ℕ)) → AllByRecursion IsWord texts → AllByRecursion IsWord more → AllByRecursion IsWord (texts ++ more)
words_append [] more words others = others
words_append (text ∷ texts) more words others = (words.0, words_append texts more words.1 others)

-- Numbers

glyph_word : (d : ℕ) → (is_blank (digit_glyph false d) ≡ false) × (is_line_feed (digit_glyph false d) ≡ false)
glyph_word d = ⊎_elim
    (λ (h : nat_lt d 10 ≡ true). rw h (grind (arith, nat_tests), grind (arith, nat_tests)))
    (λ (h : nat_lt d 10 ≡ false). rw h (grind (arith, nat_tests), grind (arith, nat_tests)))
    (cases_Bool (nat_lt d 10))

onto_word : (k n : ℕ) (behind : List ℕ) → IsWord behind → IsWord (digits_onto k 10 false n behind)
onto_word zero n behind word = word
onto_word (suc k) n behind word =
    let glyph = glyph_word (n % 10) in
    let more : IsWord (digit_glyph false (n % 10) ∷ behind) = word_cons (digit_glyph false (n % 10)) behind glyph.0 glyph.1 word in
    ⊎_elim
    (λ (h : (n / 10 == 0) ≡ true). rw h more)
    (λ (h : (n / 10 == 0) ≡ false). rw h (onto_word k (n / 10) (digit_glyph false (n % 10) ∷ behind) more))
    (cases_Bool (n / 10 == 0))

pub decimal_word : (n : ℕ) → IsWord (decimal n)
unfolding digits
decimal_word n = onto_word 64 n [] nothing_word

-- Names

signal_name_word : (signal : Signal) → IsWord (signal_name signal)
unfolding signal_name
signal_name_word DialTone = record { blankless = refl; one_line = refl }
signal_name_word _ = record { blankless = refl; one_line = refl }

event_name_word : (event : LineEvent) → IsWord (event_name event)
unfolding event_name
event_name_word OffHook = record { blankless = refl; one_line = refl }
event_name_word (OfLetter Zero) = record { blankless = refl; one_line = refl }
event_name_word _ = record { blankless = refl; one_line = refl }

letter_word : (letter : Letter) → (is_blank (byte_of letter) ≡ false) × (is_line_feed (byte_of letter) ≡ false)
letter_word Zero = (refl, refl)
letter_word _ = (refl, refl)

letters_word : (letters : List Letter) → IsWord (map byte_of letters)
letters_word [] = nothing_word
letters_word (letter ∷ letters) =
    let one = letter_word letter in word_cons (byte_of letter) (map byte_of letters) one.0 one.1 (letters_word letters)

bracketed_word : (text : List ℕ) → IsWord text → IsWord (bracketed text)
bracketed_word text word =
    word_cons 91 (text ++ 93 ∷ []) refl refl (word_append text (93 ∷ []) word (record { blankless = refl; one_line = refl }))

set_word : (set : List Bool) → IsWord (letters_text set)
unfolding letters_text
set_word set =
    let letters : IsWord (map byte_of (letters_of set)) = letters_word (letters_of set) in
    ⊎_elim
    (λ (h : (length (letters_of set) == 1) ≡ true). rw h letters)
    (λ (h : (length (letters_of set) == 1) ≡ false). rw h (bracketed_word (map byte_of (letters_of set)) letters))
    (cases_Bool (length (letters_of set) == 1))

events_word : (events : Events) → IsWord (events_text events)
unfolding events_text
events_word AllOfLine = record { blankless = refl; one_line = refl }
events_word (One event) = event_name_word event
events_word (Letters set) = word_append (codes "D/") (letters_text set) (record { blankless = refl; one_line = refl }) (set_word set)

-- Signals

setting_word : (setting : Setting) → IsWord (setting_text setting)
setting_word Start = nothing_word
setting_word Stop = record { blankless = refl; one_line = refl }
setting_word (Lasting ms) =
    word_append (codes "(to=") (decimal ms ++ codes ")") (record { blankless = refl; one_line = refl })
    (word_append (decimal ms) (codes ")") (decimal_word ms) (record { blankless = refl; one_line = refl }))

pub signal_word : (request : SignalRequest) → IsWord (signal_entry_text request)
unfolding signal_entry_text
signal_word request =
    word_append (signal_name request.signal) (setting_text request.setting) (signal_name_word request.signal) (setting_word request.setting)

signals_word : (requests : List SignalRequest) → IsWord (signals_text requests)
unfolding signals_text
signals_word requests = word_joined (map signal_entry_text requests) (each_word signal_entry_text signal_word requests)

-- Digit maps

plain_blankless : (text : List ℕ) → is_plain text ≡ true → list_any is_blank text ≡ false
plain_blankless [] plain = refl
plain_blankless (b ∷ bs) plain =
    let both : (is_solid b ≡ true) × (is_plain bs ≡ true) = both_true _ _ plain in
    rw (false_of_not _ both.0) (plain_blankless bs both.1)

pub map_word : (text : List ℕ) → is_map text ≡ true → IsWord text
map_word text spelled =
    record { blankless = plain_blankless text (map_inner text spelled).plain; one_line = map_in_line text spelled }

-- T

detected_word : (list : List Events) → IsWord (detected_text list)
unfolding detected_text
detected_word list = word_joined (map events_text list) (each_word events_text events_word list)

pub detected_no_blanks : (list : List Events) → list_any is_blank (detected_text list) ≡ false
detected_no_blanks list = (detected_word list).blankless

pub detected_one_line : (list : List Events) → list_any is_line_feed (detected_text list) ≡ false
detected_one_line list = (detected_word list).one_line

-- The R of an embedded request

action_word : (action : Action) → IsWord (action_text action)
action_word Notify = record { blankless = refl; one_line = refl }
action_word _ = record { blankless = refl; one_line = refl }

keep_words : (keep : Bool) → AllByRecursion IsWord (keep_text keep)
keep_words true = (record { blankless = refl; one_line = refl }, tt)
keep_words false = tt

embedded_event_word : (entry : EmbeddedEvent) → IsWord (embedded_event_text entry)
unfolding embedded_event_text
embedded_event_word entry =
    let inside : List ℕ = listed (action_text entry.action ∷ keep_text entry.keep) in
    word_append (events_text entry.events) (in_parentheses inside) (events_word entry.events)
    (group_word inside (word_joined (action_text entry.action ∷ keep_text entry.keep) (action_word entry.action, keep_words entry.keep)))

embedded_events_word : (events : List EmbeddedEvent) → IsWord (listed (map embedded_event_text events))
embedded_events_word events =
    word_joined (map embedded_event_text events) (each_word embedded_event_text embedded_event_word events)

pub embedded_no_blanks : (events : List EmbeddedEvent) → list_any is_blank (listed (map embedded_event_text events)) ≡ false
embedded_no_blanks events = (embedded_events_word events).blankless

pub embedded_one_line : (events : List EmbeddedEvent) → list_any is_line_feed (listed (map embedded_event_text events)) ≡ false
embedded_one_line events = (embedded_events_word events).one_line

-- R

named_group_word : (b : ℕ) (text : List ℕ) → is_blank b ≡ false → is_line_feed b ≡ false → IsWord text → IsWord (b ∷ in_parentheses text)
named_group_word b text solid inside word = word_cons b (in_parentheses text) solid inside (group_word text word)

events_part_words : (events : List EmbeddedEvent) → AllByRecursion IsWord (events_part events)
events_part_words [] = tt
events_part_words (entry ∷ rest) =
    (named_group_word 82 (listed (map embedded_event_text (entry ∷ rest))) refl refl (embedded_events_word (entry ∷ rest)), tt)

signals_part_words : (signals : List SignalRequest) → AllByRecursion IsWord (signals_part signals)
signals_part_words [] = tt
signals_part_words (signal ∷ rest) = (named_group_word 83 (signals_text (signal ∷ rest)) refl refl (signals_word (signal ∷ rest)), tt)

map_part_words : (held : Option (List ℕ)) → is_spelled_map held ≡ true → AllByRecursion IsWord (map_part held)
map_part_words None spelled = tt
map_part_words (Some text) spelled = (named_group_word 68 text refl refl (map_word text spelled), tt)

pub word_parts : (request : EmbeddedRequest) → is_spelled_map request.map ≡ true → AllByRecursion IsWord (parts_text request)
word_parts request spelled =
    words_append (events_part request.events) (signals_part request.signals ++ map_part request.map) (events_part_words request.events)
    (words_append (signals_part request.signals) (map_part request.map) (signals_part_words request.signals) (map_part_words request.map spelled))

embedded_word : (request : EmbeddedRequest) → is_spelled_map request.map ≡ true → IsWord (embedded_text request)
unfolding embedded_text
embedded_word request spelled =
    named_group_word 69 (listed (parts_text request)) refl refl (word_joined (parts_text request) (word_parts request spelled))

actions_words : (reaction : Reaction) → has_spelled_map reaction ≡ true → AllByRecursion IsWord (actions_text reaction)
actions_words (Plain action) spelled = (action_word action, tt)
actions_words (Embed request) spelled = (embedded_word request spelled, tt)
actions_words (AccumulateAndEmbed request) spelled = (record { blankless = refl; one_line = refl }, (embedded_word request spelled, tt))

requested_entry_word : (entry : RequestedEvent) → has_spelled_map entry.reaction ≡ true → IsWord (requested_entry_text entry)
unfolding requested_entry_text
requested_entry_word entry spelled =
    let inside : List (List ℕ) = actions_text entry.reaction ++ keep_text entry.keep in
    word_append (events_text entry.events) (in_parentheses (listed inside)) (events_word entry.events)
    (group_word (listed inside) (word_joined inside
    (words_append (actions_text entry.reaction) (keep_text entry.keep) (actions_words entry.reaction spelled) (keep_words entry.keep))))

requested_words : (list : List RequestedEvent) → all_maps_are_spelled list ≡ true → AllByRecursion IsWord (map requested_entry_text list)
requested_words [] spelled = tt
requested_words (entry ∷ list) spelled =
    let both : (has_spelled_map entry.reaction ≡ true) × (all_maps_are_spelled list ≡ true) = both_true _ _ spelled in
    (requested_entry_word entry both.0, requested_words list both.1)

requested_word : (list : List RequestedEvent) → all_maps_are_spelled list ≡ true → IsWord (requested_text list)
unfolding requested_text
requested_word list spelled = word_joined (map requested_entry_text list) (requested_words list spelled)

pub requested_no_blanks : (list : List RequestedEvent) → all_maps_are_spelled list ≡ true → list_any is_blank (requested_text list) ≡ false
requested_no_blanks list spelled = (requested_word list spelled).blankless

pub requested_one_line : (list : List RequestedEvent) → all_maps_are_spelled list ≡ true → list_any is_line_feed (requested_text list) ≡ false
requested_one_line list spelled = (requested_word list spelled).one_line
