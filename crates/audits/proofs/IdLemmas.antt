-- The identifiers of connections: each is a word, and how they are written one behind the other.
use Rattle.std.proofs.Common.{◌≡◌, ℕ, zero, suc, ◌+◌, ◌/◌, ◌%◌, ◌<◌, ◌≤◌, ◌==◌, true, false, nat_lt, List, [], ◌∷◌, ◌++◌, length, take, get_or, Option, Some, None, refl, sym, ap, ◌∙◌, arith, add-one, append_assoc, append-nil, length-append, ⊎_elim}
use Rattle.std.specs.Fmt.{digits, digits_onto, digit_glyph}
use Rattle.std.specs.List.{AllByRecursion, list_any, join_with_byte}
use Rattle.std.proofs.Math.Seq.{take-suc}
use Rattle.std.proofs.lemmas.Bool.{cases_Bool}
use Rattle.std.proofs.lemmas.Bool.Decides.{nat_tests}
use Rattle.mg_bytes.specs.Bytes.{comma}
use Rattle.mg_bytes.specs.Blanks.{is_blank}
use Rattle.mg_bytes.specs.Lines.{is_line_feed}
use Rattle.event_syntax.proofs.WordLemmas.{IsWord, word_cons, word_joined}
use Rattle.connections.specs.declared.connection.Connection.{Connection}
use Rattle.connections.specs.Numbers.{number_text}
use Rattle.audits.specs.EndpointReport.{ids_at, ids_text}
use Rattle.audits.specs.Writing.{comma_behind, with_id}

glyph_high : (d : ℕ) → 48 ≤ digit_glyph true d
glyph_high d = ⊎_elim
    (λ (h : nat_lt d 10 ≡ true). rw h (omega arith))
    (λ (h : nat_lt d 10 ≡ false). rw h (omega arith))
    (cases_Bool (nat_lt d 10))

high_word : (b : ℕ) (bs : List ℕ) → 48 ≤ b → IsWord bs → IsWord (b ∷ bs)
high_word b bs high word =
    let blank : is_blank b ≡ false = grind (arith, nat_tests) in
    let feed : is_line_feed b ≡ false = grind (arith, nat_tests) in
    word_cons b bs blank feed word

onto_word : (k n : ℕ) (behind : List ℕ) → IsWord behind → IsWord (digits_onto k 16 true n behind)
onto_word zero n behind word = word
onto_word (suc k) n behind word =
    let more : IsWord (digit_glyph true (n % 16) ∷ behind) = high_word (digit_glyph true (n % 16)) behind (glyph_high (n % 16)) word in
    ⊎_elim
    (λ (h : (n / 16 == 0) ≡ true). rw h more)
    (λ (h : (n / 16 == 0) ≡ false). rw h (onto_word k (n / 16) (digit_glyph true (n % 16) ∷ behind) more))
    (cases_Bool (n / 16 == 0))

pub number_word : (number : ℕ) → IsWord (number_text number)
unfolding number_text digits
number_word number = onto_word 64 number [] (record { blankless = refl; one_line = refl })

ids_words : (places : List (Option Connection)) → AllByRecursion IsWord (ids_at places)
ids_words [] = tt
ids_words (None ∷ places) = ids_words places
ids_words (Some connection ∷ places) = (number_word connection.number, ids_words places)

ids_word : (places : List (Option Connection)) → IsWord (ids_text places)
unfolding ids_text
ids_word places = word_joined (ids_at places) (ids_words places)

pub ids_no_blanks : (places : List (Option Connection)) → list_any is_blank (ids_text places) ≡ false
ids_no_blanks places = (ids_word places).blankless

pub ids_one_line : (places : List (Option Connection)) → list_any is_line_feed (ids_text places) ≡ false
ids_one_line places = (ids_word places).one_line

-- A number has a digit at least

onto_longer : (k n : ℕ) (behind : List ℕ) → 0 < length behind → 0 < length (digits_onto k 16 true n behind)
onto_longer zero n behind some = some
onto_longer (suc k) n behind some = ⊎_elim
    (λ (h : (n / 16 == 0) ≡ true). rw h (omega arith))
    (λ (h : (n / 16 == 0) ≡ false). rw h (onto_longer k (n / 16) (digit_glyph true (n % 16) ∷ behind) (omega arith)))
    (cases_Bool (n / 16 == 0))

onto_some : (k n : ℕ) → 0 < length (digits_onto (suc k) 16 true n [])
onto_some k n = ⊎_elim
    (λ (h : (n / 16 == 0) ≡ true). rw h (omega arith))
    (λ (h : (n / 16 == 0) ≡ false). rw h (onto_longer k (n / 16) (digit_glyph true (n % 16) ∷ []) (omega arith)))
    (cases_Bool (n / 16 == 0))

number_some : (number : ℕ) → 0 < length (number_text number)
unfolding number_text digits
number_some number = onto_some 63 number

-- One identifier behind the others

abbrev IsSome : List ℕ → Type 0
IsSome text = 0 < length text

joined_some : (text : List ℕ) (texts : List (List ℕ)) → IsSome text → IsSome (join_with_byte comma (text ∷ texts))
joined_some text [] some = some
joined_some text (next ∷ texts) some = omega (arith, length-append text (comma ∷ join_with_byte comma (next ∷ texts)))

joined_more : (text : List ℕ) (texts : List (List ℕ)) (last : List ℕ)
    → join_with_byte comma ((text ∷ texts) ++ last ∷ []) ≡ (join_with_byte comma (text ∷ texts) ++ comma ∷ []) ++ last
joined_more text [] last = sym (append_assoc text (comma ∷ []) last)
joined_more text (next ∷ texts) last =
    ap (λ t. text ++ (comma ∷ t)) (joined_more next texts last)
    ∙ sym (append_assoc text (comma ∷ (join_with_byte comma (next ∷ texts) ++ comma ∷ [])) last)
    ∙ ap (λ t. t ++ last) (sym (append_assoc text (comma ∷ join_with_byte comma (next ∷ texts)) (comma ∷ [])))

comma_some : (text : List ℕ) → IsSome text → comma_behind text ≡ text ++ comma ∷ []
comma_some [] some = absurd (omega arith)
comma_some (b ∷ bs) some = refl

joined_behind : (texts : List (List ℕ)) (last : List ℕ) → AllByRecursion IsSome texts
    → join_with_byte comma (texts ++ last ∷ []) ≡ comma_behind (join_with_byte comma texts) ++ last
joined_behind [] last all = refl
joined_behind (text ∷ texts) last all =
    joined_more text texts last
    ∙ ap (λ t. t ++ last) (sym (comma_some (join_with_byte comma (text ∷ texts)) (joined_some text texts all.0)))

ids_some : (places : List (Option Connection)) → AllByRecursion IsSome (ids_at places)
ids_some [] = tt
ids_some (None ∷ places) = ids_some places
ids_some (Some connection ∷ places) = (number_some connection.number, ids_some places)

ids_append : (places more : List (Option Connection)) → ids_at (places ++ more) ≡ ids_at places ++ ids_at more
ids_append [] more = refl
ids_append (None ∷ places) more = ids_append places more
ids_append (Some connection ∷ places) more = ap (λ ids. number_text connection.number ∷ ids) (ids_append places more)

ids_behind : (places : List (Option Connection)) (held : Option Connection) → ids_text (places ++ held ∷ []) ≡ with_id (ids_text places) held
unfolding ids_text
ids_behind places None = ap (join_with_byte comma) (ids_append places (None ∷ []) ∙ append-nil (ids_at places))
ids_behind places (Some connection) =
    ap (join_with_byte comma) (ids_append places (Some connection ∷ []))
    ∙ joined_behind (ids_at places) (number_text connection.number) (ids_some places)

-- a step of a writer
pub id_next : (places : List (Option Connection)) (i : ℕ) (d : Option Connection) (before after : List ℕ) → i < length places
    → before ≡ ids_text (take i places) → after ≡ with_id before (get_or places i d) → after ≡ ids_text (take (i + 1) places)
id_next places i d before after inside written put =
    rw (put, written, add-one, take-suc places i d) (sym (ids_behind (take i places) (get_or places i d)))
