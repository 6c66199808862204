-- What is written of a set of letters is read again.
use Rattle.std.proofs.Common.{◌≡◌, ℕ, ◌+◌, ◌-◌, ◌<◌, suc, Bool, true, false, ◌&&◌, ◌||◌, cond, eqb, leb, List, [], ◌∷◌, ◌++◌, length, map, take, get_or, refl, ap, ◌∙◌, arith, Some, None}
use Rattle.std.specs.Prelude.{Ok, not}
use Rattle.std.specs.List.{list_all, list_any}
use Rattle.std.proofs.lemmas.List.{get_or_push, length_push, take_at}
use Rattle.std.proofs.lemmas.List.Folds.{list_all-append}
use Rattle.std.proofs.lemmas.Bool.{and_parts, le-leb}
use Rattle.std.proofs.lemmas.Bool.Decides.{nat_tests}
use Rattle.mg_bytes.specs.Words.{split_once, in_brackets}
use Rattle.mg_bytes.specs.declared.letter.Letter.{Letter}
use Rattle.mg_bytes.specs.declared.letter.Letter.TheVariants.{Zero}
use Rattle.mg_bytes.specs.Letter.{all_letters, byte_of}
use Rattle.packages.specs.Looking.{in_package}
use Rattle.digit_map.specs.Cuts.{parts_of}
use Rattle.digit_map.specs.Spelling.{is_range}
use Rattle.digit_map.specs.Words.{is_in_range}
use Rattle.event_syntax.specs.declared.events.Events.TheVariants.{Letters}
use Rattle.event_syntax.specs.Ranges.{chosen, letters_of, bracketed, letters_in, letters_text}
use Rattle.packages.specs.Spelling.{is_word, is_name, is_parameter_byte}
use Rattle.event_syntax.specs.EventSpelling.{is_event}
use Rattle.event_syntax.specs.Events.{events_called}
use Rattle.event_syntax.proofs.Computing.{on_examples}
use Rattle.packages.proofs.JoinLemmas.{is_solid, is_plain, is_flat, false_of_not}
use Rattle.event_syntax.proofs.RangeLemmas.{is_mark, marks}

abbrev pub bytes : List Letter → List ℕ
bytes letters = map byte_of letters

-- what the byte of a letter has
record IsByte (letter : Letter) : Type 0 where
  no_dash : eqb (byte_of letter) 45 ≡ false
  no_at : eqb (byte_of letter) 64 ≡ false
  mark : is_mark (byte_of letter) ≡ true
  only : (other : Letter) → marks (byte_of letter) other ≡ eqb (byte_of other) (byte_of letter)
  flat : is_parameter_byte (byte_of letter) ≡ true
  solid : is_solid (byte_of letter) ≡ true
  spelled : is_event (68 ∷ 47 ∷ byte_of letter ∷ []) ≡ true
  read : events_called (68 ∷ 47 ∷ byte_of letter ∷ []) ≡ Ok (Letters (letters_in (byte_of letter ∷ [])))

letter_byte : (letter : Letter) → IsByte letter
unfolding on_examples
letter_byte Zero = record { no_dash = refl; no_at = refl; mark = refl; only = λ other. refl; flat = refl; solid = refl; spelled = refl; read = refl }
letter_byte _ = record { no_dash = refl; no_at = refl; mark = refl; only = λ other. refl; flat = refl; solid = refl; spelled = refl; read = refl }

-- a range of letters has its first and what the others have
has_step : (letter : Letter) (letters : List Letter) (other : Letter)
    → is_in_range (bytes (letter ∷ letters)) other ≡ (eqb (byte_of other) (byte_of letter) || is_in_range (bytes letters) other)
unfolding parts_of
has_step letter [] other = rw ((letter_byte letter).only other) refl
has_step letter (a ∷ []) other = rw ((letter_byte letter).only other) refl
has_step letter (a ∷ b ∷ letters) other = rw ((letter_byte a).no_dash, (letter_byte letter).only other) refl

has_none : (other : Letter) → is_in_range [] other ≡ false
unfolding parts_of
has_none other = refl

-- none of the letters is this one, and this one is none of them
abbrev is_none_of : Letter → List Letter → Bool
is_none_of letter letters = list_all (λ other. not (eqb (byte_of letter) (byte_of other))) letters

abbrev differs : Letter → List Letter → Bool
differs letter letters = list_all (λ other. not (eqb (byte_of other) (byte_of letter))) letters

abbrev are_distinct : List Letter → Bool
are_distinct [] = true
are_distinct (letter ∷ letters) = is_none_of letter letters && (differs letter letters && are_distinct letters)

absent : (set : List Bool) (letters : List Letter) (letter : Letter) → is_none_of letter letters ≡ true → is_in_range (bytes (chosen set letters)) letter ≡ false
absent [] letters letter none = has_none letter
absent (has ∷ set) [] letter none = has_none letter
absent (true ∷ set) (first ∷ letters) letter none =
    let parts = and_parts (not (eqb (byte_of letter) (byte_of first))) (is_none_of letter letters) none in
    has_step first (chosen set letters) letter ∙ rw (false_of_not _ parts.0) (absent set letters letter parts.1)
absent (false ∷ set) (first ∷ letters) letter none =
    absent set letters letter (and_parts (not (eqb (byte_of letter) (byte_of first))) (is_none_of letter letters) none).1

skipped : (letter : Letter) (front letters : List Letter) → differs letter letters ≡ true
    → map (is_in_range (bytes (letter ∷ front))) letters ≡ map (is_in_range (bytes front)) letters
skipped letter front [] other = refl
skipped letter front (first ∷ letters) other =
    let parts = and_parts (not (eqb (byte_of first) (byte_of letter))) (differs letter letters) other in
    let here : eqb (byte_of first) (byte_of letter) ≡ false = false_of_not _ parts.0 in
    rw (has_step letter front first, here, skipped letter front letters parts.1) refl

same_itself : (n : ℕ) → eqb n n ≡ true
same_itself n = grind (arith, nat_tests)

-- the letters that are chosen say which were chosen
chosen_again : (set : List Bool) (letters : List Letter) → length set ≡ length letters → are_distinct letters ≡ true
    → map (is_in_range (bytes (chosen set letters))) letters ≡ set
chosen_again [] [] size distinct = refl
chosen_again [] (letter ∷ letters) size distinct = absurd (omega arith)
chosen_again (has ∷ set) [] size distinct = absurd (omega arith)
chosen_again (true ∷ set) (letter ∷ letters) size distinct =
    let rest = and_parts (is_none_of letter letters) (differs letter letters && are_distinct letters) distinct in
    let more = and_parts (differs letter letters) (are_distinct letters) rest.1 in
    rw (has_step letter (chosen set letters) letter, same_itself (byte_of letter), skipped letter (chosen set letters) letters more.0)
    (ap (λ x. true ∷ x) (chosen_again set letters (omega arith) more.1))
chosen_again (false ∷ set) (letter ∷ letters) size distinct =
    let rest = and_parts (is_none_of letter letters) (differs letter letters && are_distinct letters) distinct in
    let more = and_parts (differs letter letters) (are_distinct letters) rest.1 in
    rw (absent set letters letter rest.0) (ap (λ x. false ∷ x) (chosen_again set letters (omega arith) more.1))

pub set_again : (set : List Bool) → length set ≡ 17 → letters_in (bytes (letters_of set)) ≡ set
unfolding letters_in
set_again set size = chosen_again set all_letters size refl

-- letters in brackets
letters_spelled : (letter : Letter) (letters : List Letter) → is_range (bytes (letter ∷ letters)) ≡ true
unfolding parts_of
letters_spelled letter [] = rw ((letter_byte letter).mark) refl
letters_spelled letter (a ∷ []) = rw ((letter_byte letter).mark, (letter_byte a).mark) refl
letters_spelled letter (a ∷ b ∷ letters) = rw ((letter_byte a).no_dash, (letter_byte letter).mark) (letters_spelled a (b ∷ letters))

letters_flat : (letters : List Letter) → is_flat (bytes letters) ≡ true
letters_flat [] = refl
letters_flat (letter ∷ letters) = rw ((letter_byte letter).flat) (letters_flat letters)

letters_plain : (letters : List Letter) → is_plain (bytes letters) ≡ true
letters_plain [] = refl
letters_plain (letter ∷ letters) = rw ((letter_byte letter).solid) (letters_plain letters)

no_at : (letters : List Letter) → split_once 64 (bytes letters ++ 93 ∷ []) ≡ None
unfolding split_once
no_at [] = refl
no_at (letter ∷ letters) = rw ((letter_byte letter).no_at, no_at letters) refl

inside_again : (text : List ℕ) → in_brackets (bracketed text) ≡ Some text
inside_again text =
    let size : length (text ++ 93 ∷ []) ≡ length text + 1 = length_push text 93 in
    let before : suc (length (text ++ 93 ∷ [])) - 1 ≡ suc (length text) = omega arith in
    let last : get_or (text ++ 93 ∷ []) (length text) 0 ≡ 93 = get_or_push text 93 0 _ refl in
    let front : take (length text) (text ++ 93 ∷ []) ≡ text = take_at text (93 ∷ []) _ refl in
    let long : leb 2 (suc (length (text ++ 93 ∷ []))) ≡ true = le-leb _ _ (omega arith) in
    rw (before, long, last, front) refl

-- letters as they are written
abbrev pub letters_written : List Letter → List ℕ
letters_written [] = bracketed []
letters_written (letter ∷ []) = byte_of letter ∷ []
letters_written (a ∷ b ∷ letters) = bracketed (bytes (a ∷ b ∷ letters))

written_so : (letters : List Letter) → cond (eqb (length letters) 1) (bytes letters) (bracketed (bytes letters)) ≡ letters_written letters
written_so [] = refl
written_so (letter ∷ []) = refl
written_so (a ∷ b ∷ letters) = let several : eqb (length (a ∷ b ∷ letters)) 1 ≡ false = grind (arith, nat_tests) in rw several refl

pub record ReadsLetters (letters : List Letter) : Type 0 where
  pub flat : is_flat (68 ∷ 47 ∷ letters_written letters) ≡ true
  pub plain : is_plain (68 ∷ 47 ∷ letters_written letters) ≡ true
  pub spelled : is_event (68 ∷ 47 ∷ letters_written letters) ≡ true
  pub called : events_called (68 ∷ 47 ∷ letters_written letters) ≡ Ok (Letters (letters_in (bytes letters)))

or_true : (b : Bool) → (b || true) ≡ true
or_true true = refl
or_true false = refl

many_spelled : (a b : Letter) (letters : List Letter) → is_event (68 ∷ 47 ∷ bracketed (bytes (a ∷ b ∷ letters))) ≡ true
unfolding is_event is_name split_once
many_spelled a b letters =
    rw (no_at (a ∷ b ∷ letters), inside_again (bytes (a ∷ b ∷ letters)), letters_spelled a (b ∷ letters)) (or_true (is_word (bracketed (bytes (a ∷ b ∷ letters)))))

many_called : (a b : Letter) (letters : List Letter)
    → events_called (68 ∷ 47 ∷ bracketed (bytes (a ∷ b ∷ letters))) ≡ Ok (Letters (letters_in (bytes (a ∷ b ∷ letters))))
unfolding events_called in_package split_once
many_called a b letters = rw (no_at (a ∷ b ∷ letters), inside_again (bytes (a ∷ b ∷ letters))) refl

pub letters_again : (letters : List Letter) → 0 < length letters → ReadsLetters letters
letters_again [] some = absurd (omega arith)
letters_again (letter ∷ []) some = record {
  flat = rw ((letter_byte letter).flat) refl;
  plain = rw ((letter_byte letter).solid) refl;
  spelled = (letter_byte letter).spelled;
  called = (letter_byte letter).read;
}
letters_again (a ∷ b ∷ letters) some = record {
  flat = list_all-append is_parameter_byte (bytes (a ∷ b ∷ letters)) (93 ∷ []) ∙ rw (letters_flat (a ∷ b ∷ letters)) refl;
  plain = list_all-append is_solid (bytes (a ∷ b ∷ letters)) (93 ∷ []) ∙ rw (letters_plain (a ∷ b ∷ letters)) refl;
  spelled = many_spelled a b letters;
  called = many_called a b letters;
}

-- a set that isn't empty has letters
some_chosen : (set : List Bool) (letters : List Letter) → length set ≡ length letters → list_any (λ has. has) set ≡ true → 0 < length (chosen set letters)
some_chosen [] letters size any = absurd cc
some_chosen (has ∷ set) [] size any = absurd (omega arith)
some_chosen (true ∷ set) (letter ∷ letters) size any = omega arith
some_chosen (false ∷ set) (letter ∷ letters) size any = some_chosen set letters (omega arith) any

-- the set as it is written
pub record ReadsSet (set : List Bool) : Type 0 where
  pub flat : is_flat (68 ∷ 47 ∷ letters_text set) ≡ true
  pub plain : is_plain (68 ∷ 47 ∷ letters_text set) ≡ true
  pub spelled : is_event (68 ∷ 47 ∷ letters_text set) ≡ true
  pub called : events_called (68 ∷ 47 ∷ letters_text set) ≡ Ok (Letters set)

text_is : (set : List Bool) → letters_text set ≡ letters_written (letters_of set)
unfolding letters_text
text_is set = written_so (letters_of set)

pub set_reads : (set : List Bool) → length set ≡ 17 → list_any (λ has. has) set ≡ true → ReadsSet set
set_reads set size any =
    let reads = letters_again (letters_of set) (some_chosen set all_letters size any) in
    record {
      flat = rw (text_is set) (reads.flat);
      plain = rw (text_is set) (reads.plain);
      spelled = rw (text_is set) (reads.spelled);
      called = rw (text_is set) (reads.called ∙ ap (λ s. Ok (Letters s)) (set_again set size));
    }
