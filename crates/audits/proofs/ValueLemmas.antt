-- The values of what is reported can be written.
use Rattle.std.proofs.Common.{◌≡◌, ℕ, ◌+◌, ◌-◌, ◌<◌, true, false, List, ◌∷◌, ◌++◌, length, get_or, map, codes, refl, ◌∙◌, arith, length-append, ⊎_elim}
use Rattle.std.specs.Fmt.{decimal}
use Rattle.std.specs.List.{list_any}
use Rattle.std.specs.Str.{bytes_eq}
use Rattle.std.proofs.lemmas.Bool.{cases_Bool}
use Rattle.std.proofs.lemmas.List.{get_or-append_right}
use Rattle.std.proofs.lemmas.List.Folds.{list_any_at, list_any-append}
use Rattle.std.proofs.lemmas.Slice.Eq.{bytes_eq-Decides}
use Rattle.mg_bytes.specs.Blanks.{is_blank}
use Rattle.mg_bytes.specs.Lines.{is_line_feed}
use Rattle.mg_bytes.proofs.TextLaws.{IsTrim, trimmed_same}
use Rattle.packages.specs.declared.signal.Signal.{Signal}
use Rattle.packages.specs.declared.signal.Signal.TheVariants.{DialTone}
use Rattle.packages.specs.Looking.{signal_name}
use Rattle.mgcp_text.specs.Writing.{is_writable_param}
use Rattle.sdp_subset.proofs.DecimalLemmas.{decimal_some}
use Rattle.events_and_signals.specs.declared.active.ActiveSignal.{ActiveSignal}
use Rattle.event_syntax.proofs.WordLemmas.{IsWord, word_joined, each_word, decimal_word, map_word}
use Rattle.digit_map.specs.Spelling.{is_map}
use Rattle.connections.specs.declared.codec.Codec.TheVariants.{Pcmu, Pcma}
use Rattle.connections.specs.declared.codec.Codecs.{Codecs}
use Rattle.connections.specs.declared.codec.Codecs.TheVariants.{Only, Both}
use Rattle.connections.specs.Options.{options_text}
use Rattle.audits.specs.EndpointReport.{active_name, active_text}

-- S

name_word : (signal : Signal) → IsWord (signal_name signal)
unfolding signal_name
name_word DialTone = record { blankless = refl; one_line = refl }
name_word _ = record { blankless = refl; one_line = refl }

active_word : (signals : List ActiveSignal) → IsWord (active_text signals)
unfolding active_text
active_word signals = word_joined (map active_name signals) (each_word active_name (λ active. name_word active.signal) signals)

pub active_no_blanks : (signals : List ActiveSignal) → list_any is_blank (active_text signals) ≡ false
active_no_blanks signals = (active_word signals).blankless

pub active_one_line : (signals : List ActiveSignal) → list_any is_line_feed (active_text signals) ≡ false
active_one_line signals = (active_word signals).one_line

-- D

pub map_no_blanks : (text : List ℕ) → is_map text ≡ true → list_any is_blank text ≡ false
map_no_blanks text spelled = (map_word text spelled).blankless

pub map_one_line : (text : List ℕ) → is_map text ≡ true → list_any is_line_feed text ≡ false
map_one_line text spelled = (map_word text spelled).one_line

-- L

-- what ends in a word ends in no blank
ends_solid : (front word : List ℕ) → 0 < length word → list_any is_blank word ≡ false
    → is_blank (get_or (front ++ word) (length (front ++ word) - 1) 0) ≡ false
ends_solid front word some none =
    let size : length (front ++ word) ≡ length front + length word = length-append front word in
    let last : get_or (front ++ word) (length (front ++ word) - 1) 0 ≡ get_or word (length (front ++ word) - 1 - length front) 0 =
    get_or-append_right front word (length front) _ 0 refl (omega arith) in
    let inside : length (front ++ word) - 1 - length front < length word = omega arith in
    rw last (⊎_elim
    (λ (h : is_blank (get_or word (length (front ++ word) - 1 - length front) 0) ≡ true).
    absurd (let blank : list_any is_blank word ≡ true = list_any_at is_blank word _ 0 inside h in cc))
    (λ (h : is_blank (get_or word (length (front ++ word) - 1 - length front) 0) ≡ false). h)
    (cases_Bool (is_blank (get_or word (length (front ++ word) - 1 - length front) 0))))

-- a text behind `a`, that ends in a word, can be written as L
behind_writable : (front word : List ℕ) → list_any is_line_feed front ≡ false → 0 < length word → IsWord word
    → is_writable_param (record { code = codes "L"; value = (97 ∷ front) ++ word }) ≡ true
behind_writable front word in_line some is =
    let text : List ℕ = (97 ∷ front) ++ word in
    let trim : IsTrim text = record { start = refl; end = λ _. ends_solid (97 ∷ front) word some is.blankless } in
    let line : list_any is_line_feed text ≡ false = list_any-append is_line_feed (97 ∷ front) word ∙ rw (in_line, is.one_line) refl in
    let same : bytes_eq text text ≡ true = (bytes_eq-Decides text text).1 refl in
    rw (line, trimmed_same text trim, same) refl

pub options_writable : (codecs : Codecs) (ms : ℕ) → is_writable_param (record { code = codes "L"; value = options_text codecs ms }) ≡ true
unfolding options_text
options_writable (Only Pcmu) ms = behind_writable (codes ":PCMU, p:") (decimal ms) refl (decimal_some ms) (decimal_word ms)
options_writable (Only Pcma) ms = behind_writable (codes ":PCMA, p:") (decimal ms) refl (decimal_some ms) (decimal_word ms)
options_writable (Both Pcmu) ms = behind_writable (codes ":PCMU;PCMA, p:") (decimal ms) refl (decimal_some ms) (decimal_word ms)
options_writable (Both Pcma) ms = behind_writable (codes ":PCMA;PCMU, p:") (decimal ms) refl (decimal_some ms) (decimal_word ms)
