-- The parts of an embedded request, one after the other.
use Rattle.std.proofs.Common.{◌≡◌, ℕ, suc, zero, ◌+◌, Bool, true, false, cond, ◌&&◌, List, [], ◌∷◌, ◌++◌, length, take, None, refl, sym, ap, ◌∙◌, arith, map, ⊎_elim, zero-add}
use Rattle.std.specs.Prelude.{not, nat_le, codes, count_by}
use Rattle.std.specs.List.{list_all}
use Rattle.std.specs.Str.{str_to_ascii_lowercase, bytes_eq}
use Rattle.std.proofs.lemmas.Bool.{cases_Bool}
use Rattle.std.proofs.lemmas.Bool.Decides.{nat_tests}
use Rattle.std.proofs.lemmas.Slice.Eq.{bytes_eq-Decides}
use Rattle.std.proofs.lemmas.List.Sums.{sum_by-cons}
use Rattle.mg_bytes.specs.Blanks.{is_blank, trimmed_start, trimmed_end, trimmed}
use Rattle.mg_bytes.specs.Case.{same_but_case}
use Rattle.mg_bytes.specs.Words.{split_once}
use Rattle.packages.specs.Cuts.{form_of, items, entries, pieces}
use Rattle.packages.specs.Spelling.{is_name}
use Rattle.packages.specs.SignalSpelling.{are_signals}
use Rattle.event_syntax.specs.EventSpelling.{is_event}
use Rattle.event_syntax.specs.RequestSpelling.{is_part, is_part_in, is_called, is_requested, are_requested_within}
use Rattle.event_syntax.specs.declared.walk.Seen.{Seen}
use Rattle.event_syntax.specs.declared.walk.Stand.TheVariants.{Entry, Part, BehindPart}
use Rattle.event_syntax.specs.Walking.{closing, inside_is, is_bare, parted, are_parts_after, spelled_at}
use Rattle.event_syntax.proofs.ClosingLemmas.{is_quiet, ClosesAt}
use Rattle.event_syntax.proofs.MarkLemmas.{Opens}
use Rattle.event_syntax.proofs.StandLemmas.{and_true, and_false, parted_name, parted_open, parted_unclosed, part_is, called_is, part_form, called_form, all_inside, items_are}

-- One letter isn't another

lower_is : (t : List ℕ) (letter : List ℕ) → same_but_case t letter ≡ true → str_to_ascii_lowercase t ≡ str_to_ascii_lowercase letter
lower_is t letter same = (bytes_eq-Decides (str_to_ascii_lowercase t) (str_to_ascii_lowercase letter)).0 same

unlike : (t a b : List ℕ) → same_but_case t a ≡ true → bytes_eq (str_to_ascii_lowercase a) (str_to_ascii_lowercase b) ≡ false → same_but_case t b ≡ false
unlike t a b same other = ap (λ lower. bytes_eq lower (str_to_ascii_lowercase b)) (lower_is t a same) ∙ other

-- Counts

count_one : (name part : List ℕ) (parts : List (List ℕ)) → is_called name part ≡ true → count_by (is_called name) (part ∷ parts) ≡ 1 + count_by (is_called name) parts
count_one name part parts here = sum_by-cons (λ p. cond (is_called name p) 1 0) part parts ∙ rw here refl

count_none : (name part : List ℕ) (parts : List (List ℕ)) → is_called name part ≡ false → count_by (is_called name) (part ∷ parts) ≡ count_by (is_called name) parts
count_none name part parts here = sum_by-cons (λ p. cond (is_called name p) 1 0) part parts ∙ rw here (zero-add (count_by (is_called name) parts))

spread : (a l r s d : Bool) → ((((a && l) && r) && s) && d) ≡ (a && (((l && r) && s) && d))
spread true l r s d = refl
spread false l r s d = refl

one_more : (n : ℕ) → nat_le (1 + n) 1 ≡ nat_le n 0
one_more n = grind (arith, nat_tests)

too_many : (n : ℕ) → nat_le (1 + n) 0 ≡ false
too_many n = grind (arith, nat_tests)

no_first : (l r s d : Bool) → ((((l && false) && r) && s)) ≡ false
no_first true r s d = refl
no_first false r s d = refl

no_second : (a r : Bool) → ((a && false) && r) ≡ false
no_second true r = refl
no_second false r = refl

-- Parts by their names
abbrev part_called : List ℕ → List ℕ → Type 0
part_called t part = (name : List ℕ) → is_called name part ≡ same_but_case t name

parts_false : (v : List ℕ → Bool) (seen : Seen) (part : List ℕ) (parts : List (List ℕ)) → is_part v part ≡ false → are_parts_after v seen (part ∷ parts) ≡ false
parts_false v seen part parts not_part = rw not_part refl

events_more : (v : List ℕ → Bool) (seen : Seen) (t part : List ℕ) (parts : List (List ℕ)) → same_but_case t (codes "R") ≡ true → seen.events ≡ false
    → part_called t part → are_parts_after v seen (part ∷ parts) ≡ (is_part v part && are_parts_after v (record seen { events = true }) parts)
events_more v seen t part parts letter fresh called =
    let r : is_called (codes "R") part ≡ true = called (codes "R") ∙ letter in
    let s : is_called (codes "S") part ≡ false = called (codes "S") ∙ unlike t (codes "R") (codes "S") letter refl in
    let d : is_called (codes "D") part ≡ false = called (codes "D") ∙ unlike t (codes "R") (codes "D") letter refl in
    rw (
      count_one (codes "R") part parts r,
      count_none (codes "S") part parts s,
      count_none (codes "D") part parts d,
      fresh,
      one_more (count_by (is_called (codes "R")) parts),
    )
    (spread (is_part v part) _ _ _ _)

signals_more : (v : List ℕ → Bool) (seen : Seen) (t part : List ℕ) (parts : List (List ℕ)) → same_but_case t (codes "S") ≡ true → seen.signals ≡ false
    → part_called t part → are_parts_after v seen (part ∷ parts) ≡ (is_part v part && are_parts_after v (record seen { signals = true }) parts)
signals_more v seen t part parts letter fresh called =
    let r : is_called (codes "R") part ≡ false = called (codes "R") ∙ unlike t (codes "S") (codes "R") letter refl in
    let s : is_called (codes "S") part ≡ true = called (codes "S") ∙ letter in
    let d : is_called (codes "D") part ≡ false = called (codes "D") ∙ unlike t (codes "S") (codes "D") letter refl in
    rw (
      count_none (codes "R") part parts r,
      count_one (codes "S") part parts s,
      count_none (codes "D") part parts d,
      fresh,
      one_more (count_by (is_called (codes "S")) parts),
    )
    (spread (is_part v part) _ _ _ _)

map_more : (v : List ℕ → Bool) (seen : Seen) (t part : List ℕ) (parts : List (List ℕ)) → same_but_case t (codes "D") ≡ true → seen.map ≡ false
    → part_called t part → are_parts_after v seen (part ∷ parts) ≡ (is_part v part && are_parts_after v (record seen { map = true }) parts)
map_more v seen t part parts letter fresh called =
    let r : is_called (codes "R") part ≡ false = called (codes "R") ∙ unlike t (codes "D") (codes "R") letter refl in
    let s : is_called (codes "S") part ≡ false = called (codes "S") ∙ unlike t (codes "D") (codes "S") letter refl in
    let d : is_called (codes "D") part ≡ true = called (codes "D") ∙ letter in
    rw (
      count_none (codes "R") part parts r,
      count_none (codes "S") part parts s,
      count_one (codes "D") part parts d,
      fresh,
      one_more (count_by (is_called (codes "D")) parts),
    )
    (spread (is_part v part) _ _ _ _)

events_again : (v : List ℕ → Bool) (seen : Seen) (t part : List ℕ) (parts : List (List ℕ)) → same_but_case t (codes "R") ≡ true → seen.events ≡ true
    → part_called t part → are_parts_after v seen (part ∷ parts) ≡ false
events_again v seen t part parts letter had called =
    let r : is_called (codes "R") part ≡ true = called (codes "R") ∙ letter in
    rw (count_one (codes "R") part parts r, had, too_many (count_by (is_called (codes "R")) parts)) (no_first _ _ _ true)

signals_again : (v : List ℕ → Bool) (seen : Seen) (t part : List ℕ) (parts : List (List ℕ)) → same_but_case t (codes "S") ≡ true → seen.signals ≡ true
    → part_called t part → are_parts_after v seen (part ∷ parts) ≡ false
signals_again v seen t part parts letter had called =
    let s : is_called (codes "S") part ≡ true = called (codes "S") ∙ letter in
    rw (count_one (codes "S") part parts s, had, too_many (count_by (is_called (codes "S")) parts)) (no_second _ _)

map_again : (v : List ℕ → Bool) (seen : Seen) (t part : List ℕ) (parts : List (List ℕ)) → same_but_case t (codes "D") ≡ true → seen.map ≡ true
    → part_called t part → are_parts_after v seen (part ∷ parts) ≡ false
map_again v seen t part parts letter had called =
    let d : is_called (codes "D") part ≡ true = called (codes "D") ∙ letter in
    rw (count_one (codes "D") part parts d, had, too_many (count_by (is_called (codes "D")) parts)) (and_false _)

-- A part with parentheses

piece_is : (v : List ℕ → Bool) (name text x y : List ℕ) → is_quiet name ≡ true → ClosesAt 0 text x y
    → is_part v (trimmed (name ++ 40 ∷ text)) ≡ (is_part_in v (trimmed name) (trimmed x) && is_bare (parted y))
piece_is v name text x y quiet closes =
    part_is v (name ++ 40 ∷ text) ∙ rw (parted_open name text x y quiet closes) (part_form v (trimmed name) (trimmed x) (parted y))

piece_called : (name text x y : List ℕ) → is_quiet name ≡ true → ClosesAt 0 text x y → is_bare (parted y) ≡ true
    → part_called (trimmed name) (trimmed (name ++ 40 ∷ text))
piece_called name text x y quiet closes bare called =
    called_is called (name ++ 40 ∷ text) ∙ rw (parted_open name text x y quiet closes) (called_form called (trimmed name) (trimmed x) (parted y) bare)

piece_none : (v : List ℕ → Bool) (name text : List ℕ) → is_quiet name ≡ true → closing 0 text ≡ None → is_part v (trimmed (name ++ 40 ∷ text)) ≡ false
piece_none v name text quiet none = part_is v (name ++ 40 ∷ text) ∙ rw (parted_unclosed name text quiet none) refl

pub part_name : (d : ℕ) (seen : Seen) (name : List ℕ) (rest : List (List ℕ)) → is_quiet name ≡ true → spelled_at (Part seen) d name rest ≡ false
part_name d seen name rest quiet =
    let v : List ℕ → Bool = are_requested_within d in
    let not_part : is_part v (trimmed name) ≡ false = part_is v name ∙ rw (parted_name name quiet) refl in
    parts_false v seen (trimmed name) (map trimmed rest) not_part

opens_by : (d : ℕ) (seen after : Seen) (inner : List ℕ → Bool) (name : List ℕ) → is_quiet name ≡ true
    → ((x : List ℕ) → is_part_in (are_requested_within d) (trimmed name) (trimmed x) ≡ inner x)
    → ((part : List ℕ) (parts : List (List ℕ)) → part_called (trimmed name) part
    → are_parts_after (are_requested_within d) seen (part ∷ parts) ≡ (is_part (are_requested_within d) part && are_parts_after (are_requested_within d) after parts))
    → Opens (spelled_at (Part seen) d) (spelled_at (BehindPart after) d) true inner name
opens_by d seen after inner name quiet is more = record {
  closed = λ (text x y : List ℕ) (ps : List (List ℕ)) (closes : ClosesAt 0 text x y). by_bare text x y ps closes (is_bare (parted y)) refl;
  unclosed = λ (text : List ℕ) (none : closing 0 text ≡ None).
      parts_false (are_requested_within d) seen (trimmed (name ++ 40 ∷ text)) [] (piece_none (are_requested_within d) name text quiet none);
}
  where
    by_bare : (text x y : List ℕ) (ps : List (List ℕ)) → ClosesAt 0 text x y → (bare : Bool) → is_bare (parted y) ≡ bare
        → spelled_at (Part seen) d (name ++ 40 ∷ text) ps ≡ (inner x && (is_bare (parted y) && are_parts_after (are_requested_within d) after (map trimmed ps)))
    by_bare text x y ps closes true bare =
        more (trimmed (name ++ 40 ∷ text)) (map trimmed ps) (piece_called name text x y quiet closes bare)
        ∙ rw (piece_is (are_requested_within d) name text x y quiet closes, is x, bare, and_true (inner x)) refl
    by_bare text x y ps closes false bare =
        parts_false (are_requested_within d) seen (trimmed (name ++ 40 ∷ text)) (map trimmed ps)
        (piece_is (are_requested_within d) name text x y quiet closes ∙ rw bare (and_false (is_part_in (are_requested_within d) (trimmed name) (trimmed x))))
        ∙ rw bare (sym (and_false (inner x)))

pub never_opens : (d : ℕ) (seen : Seen) (name : List ℕ) → is_quiet name ≡ true
    → ((part : List ℕ) (parts : List (List ℕ)) → part_called (trimmed name) part → are_parts_after (are_requested_within d) seen (part ∷ parts) ≡ false)
    → Opens (spelled_at (Part seen) d) (λ piece rest. false) false (λ x. false) name
never_opens d seen name quiet never = record {
  closed = λ (text x y : List ℕ) (ps : List (List ℕ)) (closes : ClosesAt 0 text x y). by_bare text x y ps closes (is_bare (parted y)) refl;
  unclosed = λ (text : List ℕ) (none : closing 0 text ≡ None).
      parts_false (are_requested_within d) seen (trimmed (name ++ 40 ∷ text)) [] (piece_none (are_requested_within d) name text quiet none);
}
  where
    by_bare : (text x y : List ℕ) (ps : List (List ℕ)) → ClosesAt 0 text x y → (bare : Bool) → is_bare (parted y) ≡ bare
        → spelled_at (Part seen) d (name ++ 40 ∷ text) ps ≡ false
    by_bare text x y ps closes true bare = never (trimmed (name ++ 40 ∷ text)) (map trimmed ps) (piece_called name text x y quiet closes bare)
    by_bare text x y ps closes false bare =
        parts_false (are_requested_within d) seen (trimmed (name ++ 40 ∷ text)) (map trimmed ps)
        (piece_is (are_requested_within d) name text x y quiet closes ∙ rw bare (and_false (is_part_in (are_requested_within d) (trimmed name) (trimmed x))))

-- R, S and D

events_in : (v : List ℕ → Bool) (t x : List ℕ) → same_but_case t (codes "R") ≡ true → is_part_in v t x ≡ (nat_le 1 (length x) && v x)
events_in v t x letter = rw letter refl

signals_in : (v : List ℕ → Bool) (t x : List ℕ) → same_but_case t (codes "R") ≡ false → same_but_case t (codes "S") ≡ true → is_part_in v t x ≡ (nat_le 1 (length x) && are_signals x)
signals_in v t x other letter = rw (other, letter) refl

map_in : (v : List ℕ → Bool) (t x : List ℕ) → same_but_case t (codes "R") ≡ false → same_but_case t (codes "S") ≡ false → same_but_case t (codes "D") ≡ true
    → is_part_in v t x ≡ nat_le 1 (length x)
map_in v t x other another letter = rw (other, another, letter) (and_true (nat_le 1 (length x)))

none_in : (v : List ℕ → Bool) (t x : List ℕ) → same_but_case t (codes "R") ≡ false → same_but_case t (codes "S") ≡ false → same_but_case t (codes "D") ≡ false
    → is_part_in v t x ≡ false
none_in v t x other another third = rw (other, another, third) (and_false (nat_le 1 (length x)))

-- a value that is embedded

abbrev is_whole : List ℕ → Bool
is_whole [] = true
is_whole (b ∷ bs) = not (is_blank b)

whole_start : (text : List ℕ) → is_whole (trimmed_start text) ≡ true
whole_start [] = refl
whole_start (b ∷ bs) =
    ⊎_elim (λ (h : is_blank b ≡ true). rw h (whole_start bs)) (λ (h : is_blank b ≡ false). rw (h, h) refl) (cases_Bool (is_blank b))

whole_take : (n : ℕ) (text : List ℕ) → is_whole text ≡ true → is_whole (take n text) ≡ true
whole_take zero text whole = refl
whole_take (suc n) [] whole = refl
whole_take (suc n) (b ∷ bs) whole = whole

whole_trimmed : (text : List ℕ) → is_whole (trimmed text) ≡ true
unfolding trimmed trimmed_end
whole_trimmed text = whole_take _ (trimmed_start text) (whole_start text)

no_entry : (v : List ℕ → Bool) → list_all (is_requested v) (items []) ≡ false
unfolding is_requested form_of items pieces trimmed trimmed_end is_event is_name split_once
no_entry v = refl

some_byte : (n : ℕ) → nat_le 1 (suc n) ≡ true
some_byte n = grind (arith, nat_tests)

by_text : (d : ℕ) (text : List ℕ) → is_whole text ≡ true
    → (nat_le 1 (length text) && are_requested_within (suc d) text) ≡ list_all (is_requested (are_requested_within d)) (items text)
unfolding are_requested_within entries
by_text d [] whole = sym (no_entry (are_requested_within d))
by_text d (b ∷ bs) whole =
    ⊎_elim
    (λ (h : is_blank b ≡ true). let no : not true ≡ true = (rw h at whole) in absurd cc)
    (λ (h : is_blank b ≡ false). rw (h, some_byte (length bs)) refl)
    (cases_Bool (is_blank b))

pub value_inside : (d : ℕ) (x : List ℕ) → (nat_le 1 (length (trimmed x)) && are_requested_within (suc d) (trimmed x)) ≡ inside_is (spelled_at Entry d) x
value_inside d x =
    by_text d (trimmed x) (whole_trimmed x) ∙ ap (list_all (is_requested (are_requested_within d))) (items_are x)
    ∙ sym (all_inside (is_requested (are_requested_within d)) x)

pub events_open : (d : ℕ) (seen : Seen) (name : List ℕ) → is_quiet name ≡ true → same_but_case (trimmed name) (codes "R") ≡ true → seen.events ≡ false
    → Opens (spelled_at (Part seen) (suc d)) (spelled_at (BehindPart (record seen { events = true })) (suc d)) true (inside_is (spelled_at Entry d)) name
events_open d seen name quiet letter fresh =
    opens_by (suc d) seen (record seen { events = true }) (inside_is (spelled_at Entry d)) name quiet
    (λ x. events_in (are_requested_within (suc d)) (trimmed name) (trimmed x) letter ∙ value_inside d x)
    (λ part parts called. events_more (are_requested_within (suc d)) seen (trimmed name) part parts letter fresh called)

no_value : (x : List ℕ) → (nat_le 1 (length x) && are_requested_within 0 x) ≡ false
unfolding are_requested_within
no_value x = and_false (nat_le 1 (length x))

pub events_too_deep : (seen : Seen) (name : List ℕ) → is_quiet name ≡ true → same_but_case (trimmed name) (codes "R") ≡ true → seen.events ≡ false
    → Opens (spelled_at (Part seen) 0) (spelled_at (BehindPart (record seen { events = true })) 0) true (λ x. false) name
events_too_deep seen name quiet letter fresh =
    opens_by 0 seen (record seen { events = true }) (λ x. false) name quiet
    (λ x. events_in (are_requested_within 0) (trimmed name) (trimmed x) letter ∙ no_value (trimmed x))
    (λ part parts called. events_more (are_requested_within 0) seen (trimmed name) part parts letter fresh called)

pub signals_open : (d : ℕ) (seen : Seen) (name : List ℕ) → is_quiet name ≡ true → same_but_case (trimmed name) (codes "R") ≡ false
    → same_but_case (trimmed name) (codes "S") ≡ true → seen.signals ≡ false
    → Opens (spelled_at (Part seen) d) (spelled_at (BehindPart (record seen { signals = true })) d) true
    (λ x. nat_le 1 (length (trimmed x)) && are_signals (trimmed x)) name
signals_open d seen name quiet other letter fresh =
    opens_by d seen (record seen { signals = true }) (λ x. nat_le 1 (length (trimmed x)) && are_signals (trimmed x)) name quiet
    (λ x. signals_in (are_requested_within d) (trimmed name) (trimmed x) other letter)
    (λ part parts called. signals_more (are_requested_within d) seen (trimmed name) part parts letter fresh called)

pub map_opens : (d : ℕ) (seen : Seen) (name : List ℕ) → is_quiet name ≡ true → same_but_case (trimmed name) (codes "R") ≡ false
    → same_but_case (trimmed name) (codes "S") ≡ false → same_but_case (trimmed name) (codes "D") ≡ true → seen.map ≡ false
    → Opens (spelled_at (Part seen) d) (spelled_at (BehindPart (record seen { map = true })) d) true (λ x. nat_le 1 (length (trimmed x))) name
map_opens d seen name quiet other another letter fresh =
    opens_by d seen (record seen { map = true }) (λ x. nat_le 1 (length (trimmed x))) name quiet
    (λ x. map_in (are_requested_within d) (trimmed name) (trimmed x) other another letter)
    (λ part parts called. map_more (are_requested_within d) seen (trimmed name) part parts letter fresh called)

pub events_never : (d : ℕ) (seen : Seen) (name : List ℕ) → is_quiet name ≡ true → same_but_case (trimmed name) (codes "R") ≡ true → seen.events ≡ true
    → Opens (spelled_at (Part seen) d) (λ piece rest. false) false (λ x. false) name
events_never d seen name quiet letter had =
    never_opens d seen name quiet (λ part parts called. events_again (are_requested_within d) seen (trimmed name) part parts letter had called)

pub signals_never : (d : ℕ) (seen : Seen) (name : List ℕ) → is_quiet name ≡ true → same_but_case (trimmed name) (codes "S") ≡ true → seen.signals ≡ true
    → Opens (spelled_at (Part seen) d) (λ piece rest. false) false (λ x. false) name
signals_never d seen name quiet letter had =
    never_opens d seen name quiet (λ part parts called. signals_again (are_requested_within d) seen (trimmed name) part parts letter had called)

pub map_never : (d : ℕ) (seen : Seen) (name : List ℕ) → is_quiet name ≡ true → same_but_case (trimmed name) (codes "D") ≡ true → seen.map ≡ true
    → Opens (spelled_at (Part seen) d) (λ piece rest. false) false (λ x. false) name
map_never d seen name quiet letter had =
    never_opens d seen name quiet (λ part parts called. map_again (are_requested_within d) seen (trimmed name) part parts letter had called)

pub others_never : (d : ℕ) (seen : Seen) (name : List ℕ) → is_quiet name ≡ true → same_but_case (trimmed name) (codes "R") ≡ false
    → same_but_case (trimmed name) (codes "S") ≡ false → same_but_case (trimmed name) (codes "D") ≡ false
    → Opens (spelled_at (Part seen) d) (spelled_at (BehindPart seen) d) false (λ x. false) name
others_never d seen name quiet other another third = record {
  closed = λ (text x y : List ℕ) (ps : List (List ℕ)) (closes : ClosesAt 0 text x y).
      parts_false (are_requested_within d) seen (trimmed (name ++ 40 ∷ text)) (map trimmed ps)
      (piece_is (are_requested_within d) name text x y quiet closes ∙ rw (none_in (are_requested_within d) (trimmed name) (trimmed x) other another third) refl);
  unclosed = λ (text : List ℕ) (none : closing 0 text ≡ None).
      parts_false (are_requested_within d) seen (trimmed (name ++ 40 ∷ text)) [] (piece_none (are_requested_within d) name text quiet none);
}
