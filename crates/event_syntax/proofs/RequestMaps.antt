-- A digit map can stand in parentheses, and is one word.
use Rattle.std.proofs.Common.{◌≡◌, ℕ, ◌-◌, Bool, true, false, ◌&&◌, ◌||◌, eqb, leb, List, [], ◌∷◌, ◌++◌, length, take, get_or, suc, refl, ap, ◌∙◌, arith, ⊎_elim, Option, Some, None}
use Rattle.std.specs.Prelude.{not, option_map, is_some}
use Rattle.std.specs.List.{list_all, list_any, onto_first, slice_split}
use Rattle.std.proofs.lemmas.Bool.{cases_Bool, eqb-true, le-leb}
use Rattle.std.proofs.lemmas.List.Folds.{list_any-append}
use Rattle.mg_bytes.specs.Letter.{letter_of}
use Rattle.mg_bytes.specs.Lines.{is_line_feed}
use Rattle.mg_bytes.specs.Words.{split_once}
use Rattle.mg_bytes.proofs.DigitLemmas.{both_true}
use Rattle.digit_map.specs.Cuts.{is_bar, ends_in, strings_of, is_inside, begins, pieces, positions_of, parts_of}
use Rattle.digit_map.specs.Spelling.{is_digit, is_wildcard, is_part, is_range, is_dot_or_end, is_bracketed, is_position, is_string, is_map}
use Rattle.packages.specs.Spelling.{is_parameter_byte}
use Rattle.packages.proofs.JoinLemmas.{is_solid, is_plain, is_flat, false_of_not, flat_is_calm, plain_grouped}
use Rattle.packages.proofs.ClosedLemmas.{IsClosed, calm_closed, closed_group}

-- what can stand in parentheses
pub record IsInner (text : List ℕ) : Type 0 where
  pub closed : IsClosed text
  pub plain : is_plain text ≡ true
  pub some : leb 1 (length text) ≡ true

-- a byte that is no blank, no comma, no parenthesis and no line feed
abbrev fits : ℕ → Bool
fits b = is_solid b && is_parameter_byte b && not (is_line_feed b)

abbrev all_fit : List (List ℕ) → Bool
all_fit texts = list_all (list_all fits) texts

apart : (test : ℕ → Bool) (b c : ℕ) → test c ≡ false → test b ≡ true → eqb b c ≡ false
apart test b c without with_ =
    ⊎_elim
    (λ (h : eqb b c ≡ true). let same : test b ≡ test c = ap test (eqb-true b c h) in absurd cc)
    (λ (h : eqb b c ≡ false). h)
    (cases_Bool (eqb b c))

byte_fits : (test : ℕ → Bool) (b : ℕ) → test 32 ≡ false → test 9 ≡ false → test 44 ≡ false → test 40 ≡ false → test 41 ≡ false
    → test 10 ≡ false → test b ≡ true → fits b ≡ true
byte_fits test b space tab comma left right feed is =
    rw (
      apart test b 32 space is,
      apart test b 9 tab is,
      apart test b 44 comma is,
      apart test b 40 left is,
      apart test b 41 right is,
      apart test b 10 feed is,
    ) refl

-- what stands at a position
abbrev is_mark : ℕ → Bool
is_mark b = is_some (letter_of b) || is_wildcard b

mark_fits : (b : ℕ) → is_mark b ≡ true → fits b ≡ true
unfolding letter_of
mark_fits b is = byte_fits is_mark b refl refl refl refl refl refl is

digit_fits : (b : ℕ) → is_digit b ≡ true → fits b ≡ true
digit_fits b is = byte_fits is_digit b refl refl refl refl refl refl is

hyphen_fits : (b : ℕ) → eqb b 45 ≡ true → fits b ≡ true
hyphen_fits b is = byte_fits (λ c. eqb c 45) b refl refl refl refl refl refl is

left_fits : (b : ℕ) → eqb b 91 ≡ true → fits b ≡ true
left_fits b is = byte_fits (λ c. eqb c 91) b refl refl refl refl refl refl is

right_fits : (b : ℕ) → eqb b 93 ≡ true → fits b ≡ true
right_fits b is = byte_fits (λ c. eqb c 93) b refl refl refl refl refl refl is

dot_fits : (b : ℕ) → eqb b 46 ≡ true → fits b ≡ true
dot_fits b is = byte_fits (λ c. eqb c 46) b refl refl refl refl refl refl is

bar_fits : (b : ℕ) → is_bar b ≡ true → fits b ≡ true
bar_fits b is = byte_fits is_bar b refl refl refl refl refl refl is

parts_fit : (text : List ℕ) → list_all is_part (parts_of text) ≡ true → list_all fits text ≡ true
unfolding parts_of
parts_fit [] are = refl
parts_fit (b ∷ []) are = rw (mark_fits b (both_true _ _ are).0) refl
parts_fit (b ∷ c ∷ []) are =
    let one = both_true _ _ are in
    rw (mark_fits b one.0, mark_fits c (both_true _ _ one.1).0) refl
parts_fit (b ∷ h ∷ c ∷ bs) are =
    ⊎_elim
    (λ (e : eqb h 45 ≡ true).
    let span : ((is_digit b && is_digit c && leb b c) && list_all is_part (parts_of bs)) ≡ true = rw e at are in
    let parts = both_true _ _ span in
    let digits = both_true _ _ (both_true _ _ parts.0).0 in
    rw (digit_fits b digits.0, hyphen_fits h e, digit_fits c digits.1) (parts_fit bs parts.1))
    (λ (e : eqb h 45 ≡ false).
    let single : (is_mark b && list_all is_part (parts_of (h ∷ c ∷ bs))) ≡ true = rw e at are in
    let parts = both_true _ _ single in
    rw (mark_fits b parts.0) (parts_fit (h ∷ c ∷ bs) parts.1))
    (cases_Bool (eqb h 45))

range_fits : (text : List ℕ) → is_range text ≡ true → list_all fits text ≡ true
range_fits [] is = absurd cc
range_fits (b ∷ bs) is = parts_fit (b ∷ bs) is

end_fits : (text : List ℕ) → is_dot_or_end text ≡ true → list_all fits text ≡ true
end_fits [] is = refl
end_fits (b ∷ []) is = rw (dot_fits b is) refl
end_fits (b ∷ c ∷ bs) is = absurd cc

-- brackets
abbrev sides_fit : Option (List ℕ × List ℕ) → Bool
sides_fit None = false
sides_fit (Some sides) = list_all fits sides.0 && list_all fits sides.1

behind_first : (b : ℕ) (sides : Option (List ℕ × List ℕ)) → sides_fit (option_map (λ sides. (b ∷ sides.0, sides.1)) sides) ≡ true
    → (fits b ≡ true) × (sides_fit sides ≡ true)
behind_first b None are = absurd cc
behind_first b (Some sides) are =
    let both : ((fits b && list_all fits sides.0) ≡ true) × (list_all fits sides.1 ≡ true) = both_true _ _ are in
    let first = both_true _ _ both.0 in
    (first.0, rw (first.1) both.1)

split_fits : (text : List ℕ) → sides_fit (split_once 93 text) ≡ true → list_all fits text ≡ true
unfolding split_once
split_fits [] are = absurd cc
split_fits (b ∷ bs) are =
    ⊎_elim
    (λ (e : eqb b 93 ≡ true). let behind : list_all fits bs ≡ true = rw e at are in rw (right_fits b e) behind)
    (λ (e : eqb b 93 ≡ false).
    let first : (fits b ≡ true) × (sides_fit (split_once 93 bs) ≡ true) = behind_first b (split_once 93 bs) (rw e at are) in
    rw (first.0) (split_fits bs first.1))
    (cases_Bool (eqb b 93))

bracketed_fits : (sides : Option (List ℕ × List ℕ)) → is_bracketed sides ≡ true → sides_fit sides ≡ true
bracketed_fits None is = absurd cc
bracketed_fits (Some sides) is = let both = both_true _ _ is in rw (range_fits sides.0 both.0) (end_fits sides.1 both.1)

position_fits : (text : List ℕ) → is_position text ≡ true → list_all fits text ≡ true
unfolding is_position
position_fits [] is = absurd cc
position_fits (b ∷ bs) is =
    ⊎_elim
    (λ (e : eqb b 91 ≡ true). let inside : is_bracketed (split_once 93 bs) ≡ true = rw e at is in
    rw (left_fits b e) (split_fits bs (bracketed_fits (split_once 93 bs) inside)))
    (λ (e : eqb b 91 ≡ false). let both : (is_mark b ≡ true) × (is_dot_or_end bs ≡ true) = both_true _ _ (rw e at is) in
    rw (mark_fits b both.0) (end_fits bs both.1))
    (cases_Bool (eqb b 91))

-- positions and strings
onto_fits : (b : ℕ) (texts : List (List ℕ)) → all_fit (onto_first b texts) ≡ true → (fits b ≡ true) × (all_fit texts ≡ true)
onto_fits b [] are = ((both_true _ _ (both_true _ _ are).0).0, refl)
onto_fits b (text ∷ texts) are =
    let both : ((fits b && list_all fits text) ≡ true) × (all_fit texts ≡ true) = both_true _ _ are in
    let first = both_true _ _ both.0 in
    (first.0, rw (first.1) both.1)

pieces_fit : (inside : Bool) (text : List ℕ) → all_fit (pieces inside text) ≡ true → list_all fits text ≡ true
unfolding pieces
pieces_fit inside [] are = refl
pieces_fit inside (b ∷ bs) are =
    let rest : List (List ℕ) = pieces (is_inside inside b) bs in
    let all : (all_fit (onto_first b rest) ≡ true) → list_all fits (b ∷ bs) ≡ true =
    λ (here : all_fit (onto_first b rest) ≡ true). let both = onto_fits b rest here in rw (both.0) (pieces_fit (is_inside inside b) bs both.1) in
    ⊎_elim (λ (e : begins inside b ≡ true). all (rw e at are)) (λ (e : begins inside b ≡ false). all (rw e at are)) (cases_Bool (begins inside b))

each_fits : (test : List ℕ → Bool) (texts : List (List ℕ)) → ((text : List ℕ) → test text ≡ true → list_all fits text ≡ true)
    → list_all test texts ≡ true → all_fit texts ≡ true
each_fits test [] one are = refl
each_fits test (text ∷ texts) one are = let both = both_true _ _ are in rw (one text both.0) (each_fits test texts one both.1)

string_fits : (text : List ℕ) → is_string text ≡ true → list_all fits text ≡ true
unfolding is_string positions_of
string_fits [] is = absurd cc
string_fits (b ∷ bs) is =
    let both = onto_fits b (pieces (is_inside false b) bs) (each_fits is_position _ position_fits is) in
    rw (both.0) (pieces_fit (is_inside false b) bs both.1)

split_all : (text : List ℕ) → all_fit (slice_split is_bar text) ≡ true → list_all fits text ≡ true
split_all [] are = refl
split_all (b ∷ bs) are =
    ⊎_elim
    (λ (e : is_bar b ≡ true). let rest : all_fit (slice_split is_bar bs) ≡ true = rw e at are in rw (bar_fits b e) (split_all bs rest))
    (λ (e : is_bar b ≡ false).
    let both : (fits b ≡ true) × (all_fit (slice_split is_bar bs) ≡ true) = onto_fits b _ (rw e at are) in
    rw (both.0) (split_all bs both.1))
    (cases_Bool (is_bar b))

-- texts that fit
flat_from : (text : List ℕ) → list_all fits text ≡ true → is_flat text ≡ true
flat_from [] are = refl
flat_from (b ∷ bs) are =
    let both : (fits b ≡ true) × (list_all fits bs ≡ true) = both_true _ _ are in
    let here : (is_solid b ≡ true) × (is_parameter_byte b ≡ true) = both_true _ _ (both_true _ _ both.0).0 in
    rw (here.1) (flat_from bs both.1)

plain_from : (text : List ℕ) → list_all fits text ≡ true → is_plain text ≡ true
plain_from [] are = refl
plain_from (b ∷ bs) are =
    let both : (fits b ≡ true) × (list_all fits bs ≡ true) = both_true _ _ are in
    let here : (is_solid b ≡ true) × (is_parameter_byte b ≡ true) = both_true _ _ (both_true _ _ both.0).0 in
    rw (here.0) (plain_from bs both.1)

in_line_from : (text : List ℕ) → list_all fits text ≡ true → list_any is_line_feed text ≡ false
in_line_from [] are = refl
in_line_from (b ∷ bs) are =
    let both : (fits b ≡ true) × (list_all fits bs ≡ true) = both_true _ _ are in
    let here : is_line_feed b ≡ false = false_of_not _ (both_true _ _ both.0).1 in
    rw here (in_line_from bs both.1)

calm_from : (text : List ℕ) → list_all fits text ≡ true → IsClosed text
calm_from text are = calm_closed text (flat_is_calm text (flat_from text are))

-- a map
last_is : (text : List ℕ) → get_or text (length text - 1) 0 ≡ 41 → text ≡ take (length text - 1) text ++ 41 ∷ []
last_is [] is = absurd (omega (arith, is))
last_is (b ∷ []) is = ap (λ c. c ∷ []) is
last_is (b ∷ c ∷ cs) is =
    let one : length (b ∷ c ∷ cs) - 1 ≡ suc (length (c ∷ cs) - 1) = omega arith in
    rw one (ap (λ t. b ∷ t) (last_is (c ∷ cs) (rw one at is)))

bare_inner : (b : ℕ) (bs : List ℕ) → list_all is_string ((b ∷ bs) ∷ []) ≡ true → IsInner (b ∷ bs)
bare_inner b bs are =
    let good : list_all fits (b ∷ bs) ≡ true = string_fits (b ∷ bs) (both_true _ _ are).0 in
    record { closed = calm_from (b ∷ bs) good; plain = plain_from (b ∷ bs) good; some = le-leb _ _ (omega arith) }

round_inner : (b : ℕ) (bs inside : List ℕ) → b ≡ 40 → bs ≡ inside ++ 41 ∷ []
    → list_all is_string (slice_split is_bar inside) ≡ true → IsInner (b ∷ bs)
round_inner b bs inside left right are =
    let good : list_all fits inside ≡ true = split_all inside (each_fits is_string _ string_fits are) in
    rw (left, right) (record {
      closed = closed_group [] inside refl (calm_from inside good);
      plain = plain_grouped [] inside refl (plain_from inside good);
      some = le-leb _ _ (omega arith);
    })

pub map_inner : (text : List ℕ) → is_map text ≡ true → IsInner text
unfolding is_map strings_of is_string
map_inner [] spelled = absurd cc
map_inner (b ∷ bs) spelled =
    ⊎_elim
    (λ (e : (eqb b 40 && ends_in 41 bs) ≡ true).
    let both = both_true _ _ e in
    round_inner b bs (take (length bs - 1) bs) (eqb-true _ _ both.0) (last_is bs (eqb-true _ _ both.1)) (rw e at spelled))
    (λ (e : (eqb b 40 && ends_in 41 bs) ≡ false). bare_inner b bs (rw e at spelled))
    (cases_Bool (eqb b 40 && ends_in 41 bs))

-- a map stands in one line
round_in_line : (b : ℕ) (bs inside : List ℕ) → b ≡ 40 → bs ≡ inside ++ 41 ∷ []
    → list_all is_string (slice_split is_bar inside) ≡ true → list_any is_line_feed (b ∷ bs) ≡ false
round_in_line b bs inside left right are =
    let good : list_all fits inside ≡ true = split_all inside (each_fits is_string _ string_fits are) in
    let none : list_any is_line_feed (inside ++ 41 ∷ []) ≡ false =
    list_any-append is_line_feed inside (41 ∷ []) ∙ rw (in_line_from inside good) refl in
    rw (left, right) none

pub map_in_line : (text : List ℕ) → is_map text ≡ true → list_any is_line_feed text ≡ false
unfolding is_map strings_of is_string
map_in_line [] spelled = absurd cc
map_in_line (b ∷ bs) spelled =
    ⊎_elim
    (λ (e : (eqb b 40 && ends_in 41 bs) ≡ true).
    let both = both_true _ _ e in
    round_in_line b bs (take (length bs - 1) bs) (eqb-true _ _ both.0) (last_is bs (eqb-true _ _ both.1)) (rw e at spelled))
    (λ (e : (eqb b 40 && ends_in 41 bs) ≡ false).
    let one : list_all is_string ((b ∷ bs) ∷ []) ≡ true = rw e at spelled in
    in_line_from (b ∷ bs) (string_fits (b ∷ bs) (both_true _ _ one).0))
    (cases_Bool (eqb b 40 && ends_in 41 bs))
