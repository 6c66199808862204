-- What is written, line by line and word by word, is read again.
use Rattle.std.proofs.Common.{◌≡◌, ◌≢◌, ◌<◌, ◌+◌, ◌-◌, ℕ, suc, false, List, [], ◌∷◌, ◌++◌, length, take, get_or, refl, sym, ap, ◌∙◌, arith, append_assoc, take_all, le_refl}
use Rattle.std.specs.List.{suffix_len}
use Rattle.std.specs.Str.Lines.{strip_carriage_return}
use Rattle.std.specs.Str.Parse.{AllDigits}
use Rattle.std.proofs.lemmas.List.{get_or_push, length_push, take_at}
use Rattle.std.proofs.lemmas.List.Sums.{suffix_len_is}
use Rattle.std.proofs.lemmas.Bool.Decides.{nat_tests}
use Rattle.std.proofs.lemmas.Str.Parse.{digit_from_value}
use Rattle.mg_bytes.proofs.WordLemmas.{words-front, words-nil}
use Rattle.mg_bytes.specs.Lines.{is_line_feed, cut, without_end, line_of, crlf}
use Rattle.mg_bytes.specs.Blanks.{is_blank, trimmed_start, trimmed_end, trimmed}
use Rattle.mg_bytes.specs.Words.{words, leading_word, after_word}

-- no byte is a line feed
abbrev pub HasNoFeed : List ℕ → Type 0
HasNoFeed [] = Unit {0}
HasNoFeed (b ∷ bs) = (is_line_feed b ≡ false) × HasNoFeed bs

-- a line that is written is the first piece
pub cut_crlf : (line rest : List ℕ) → HasNoFeed line → cut (line ++ (13 ∷ 10 ∷ rest)) ≡ (line ++ crlf) ∷ cut rest
unfolding cut
cut_crlf [] rest h = refl
cut_crlf (b ∷ bs) rest h = rw (h.0, cut_crlf bs rest h.1) refl

last_is : (xs : List ℕ) (b : ℕ) → get_or (xs ++ b ∷ []) (length (xs ++ b ∷ []) - 1) 0 ≡ b
last_is xs b =
    let n : length xs ≡ length (xs ++ b ∷ []) - 1 = omega (arith, length_push xs b) in
    get_or_push xs b 0 _ n

front_is : (xs : List ℕ) (b : ℕ) → take (length (xs ++ b ∷ []) - 1) (xs ++ b ∷ []) ≡ xs
front_is xs b =
    let n : length xs ≡ length (xs ++ b ∷ []) - 1 = omega (arith, length_push xs b) in
    take_at xs (b ∷ []) _ n

strip_return : (xs : List ℕ) → strip_carriage_return (xs ++ 13 ∷ []) ≡ xs
strip_return xs = rw (last_is xs 13, front_is xs 13) refl

-- its end is dropped
pub without_end_crlf : (line : List ℕ) → without_end (line ++ crlf) ≡ line
without_end_crlf line =
    let regrouped : line ++ crlf ≡ (line ++ 13 ∷ []) ++ 10 ∷ [] = sym (append_assoc line (13 ∷ []) (10 ∷ [])) in
    ap without_end regrouped ∙ rw (last_is (line ++ 13 ∷ []) 10, front_is (line ++ 13 ∷ []) 10) (strip_return line)

-- the first byte and the last one are no blanks
pub record IsTrim (xs : List ℕ) : Type 0 where
  pub start : trimmed_start xs ≡ xs
  pub end : 0 < length xs → is_blank (get_or xs (length xs - 1) 0) ≡ false

pub trimmed_same : (xs : List ℕ) → IsTrim xs → trimmed xs ≡ xs
unfolding trimmed trimmed_end
trimmed_same xs h =
    let none : suffix_len is_blank xs ≡ length xs - length xs = suffix_len_is is_blank xs (length xs) 0 (le_refl (length xs)) (λ k a b. absurd (omega arith)) h.end in
    rw (h.start) (take_all _ xs (omega arith))

pub line_of_written : (line : List ℕ) → IsTrim line → line_of (line ++ crlf) ≡ line
line_of_written line h = ap trimmed (without_end_crlf line) ∙ trimmed_same line h

-- no byte is a blank
abbrev pub IsPlain : List ℕ → Type 0
IsPlain [] = Unit {0}
IsPlain (b ∷ bs) = (is_blank b ≡ false) × IsPlain bs

one_more : (n : ℕ) → 1 + n ≡ suc n
one_more n = omega arith

lead : (w rest : List ℕ) → IsPlain w → (leading_word (w ++ (32 ∷ rest)) ≡ w) × (after_word (w ++ (32 ∷ rest)) ≡ 32 ∷ rest)
lead [] rest h = (refl, refl)
lead (b ∷ bs) rest h =
    let others = lead bs rest h.1 in
    (rw (h.0, one_more) (ap (λ (x : List ℕ). b ∷ x) others.0), rw (h.0, one_more) others.1)

-- a word and a blank
pub words_more : (w rest : List ℕ) → w ≢ [] → IsPlain w → words (w ++ (32 ∷ rest)) ≡ w ∷ words rest
unfolding words
words_more [] rest some h = absurd (some refl)
words_more (b ∷ bs) rest some h =
    let l = lead (b ∷ bs) rest h in
    words-front b (bs ++ (32 ∷ rest)) h.0 ∙ ap (λ (x : List ℕ). x ∷ words (after_word ((b ∷ bs) ++ (32 ∷ rest)))) l.0 ∙ ap (λ (x : List ℕ). (b ∷ bs) ∷ words x) l.1

all_of_it : (w : List ℕ) → IsPlain w → (leading_word w ≡ w) × (after_word w ≡ [])
all_of_it [] h = (refl, refl)
all_of_it (b ∷ bs) h =
    let others = all_of_it bs h.1 in
    (rw (h.0, one_more) (ap (λ (x : List ℕ). b ∷ x) others.0), rw (h.0, one_more) others.1)

-- the last word
pub words_last : (w : List ℕ) → w ≢ [] → IsPlain w → words w ≡ w ∷ []
words_last [] some h = absurd (some refl)
words_last (b ∷ bs) some h =
    let l = all_of_it (b ∷ bs) h in
    words-front b bs h.0 ∙ ap (λ (x : List ℕ). x ∷ words (after_word (b ∷ bs))) l.0 ∙ ap (λ (x : List ℕ). (b ∷ bs) ∷ words x) l.1 ∙ ap (λ (x : List (List ℕ)). (b ∷ bs) ∷ x) words-nil

-- digits are no blanks and no line feeds
pub plain_digits : (ds : List ℕ) → AllDigits 10 ds → IsPlain ds × HasNoFeed ds
plain_digits [] h = (tt, tt)
plain_digits (d ∷ ds) h =
    let range = digit_from_value d h.0 in
    let others = plain_digits ds h.1 in
    let blank : is_blank d ≡ false = grind (arith, nat_tests) in
    let feed : is_line_feed d ≡ false = grind (arith, nat_tests) in
    ((blank, others.0), (feed, others.1))
