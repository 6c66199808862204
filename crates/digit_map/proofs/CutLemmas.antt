-- Strings and positions, one after the other.
use Rattle.std.proofs.Common.{◌≡◌, ◌<◌, ◌≤◌, ℕ, Bool, true, false, eqb, get_or, drop-cons, take_all, List, [], ◌∷◌, ◌++◌, length, take, drop, Option, Some, None, refl, sym, ap, ◌∙◌, append_assoc, append-nil, suc, arith, le_refl, ⊎_elim}
use Rattle.std.specs.Prelude.{option_map}
use Rattle.std.specs.List.{onto_first, slice_split}
use Rattle.std.proofs.lemmas.Bool.{cases_Bool}
use Rattle.std.proofs.lemmas.List.{drop_all}
use Rattle.std.proofs.Math.Seq.{take-suc}
use Rattle.mg_bytes.specs.Words.{split_once}
use Rattle.digit_map.specs.Cuts.{is_bar, is_inside, begins, pieces, positions_of}

-- bytes put before the first piece
abbrev pub put_front : List ℕ → List (List ℕ) → List (List ℕ)
put_front front [] = front ∷ []
put_front front (p ∷ ps) = (front ++ p) ∷ ps

put_front-more : (front : List ℕ) (b : ℕ) (ps : List (List ℕ)) → put_front front (onto_first b ps) ≡ put_front (front ++ b ∷ []) ps
put_front-more front b [] = refl
put_front-more front b (p ∷ ps) = ap (λ x. x ∷ ps) (sym (append_assoc front (b ∷ []) p))

put_front-one : (b : ℕ) (ps : List (List ℕ)) → put_front (b ∷ []) ps ≡ onto_first b ps
put_front-one b [] = refl
put_front-one b (p ∷ ps) = refl

-- there is always a piece
pub put_front-nil : (inside : Bool) (text : List ℕ) → put_front [] (pieces inside text) ≡ pieces inside text
unfolding pieces
put_front-nil inside [] = refl
put_front-nil inside (b ∷ bs) =
    ⊎_elim
    (λ (h : begins inside b ≡ true). rw h refl)
    (λ (h : begins inside b ≡ false). rw h (put_front-more [] b (pieces (is_inside inside b) bs) ∙ put_front-one b (pieces (is_inside inside b) bs)))
    (cases_Bool (begins inside b))

-- the byte at a place, where no position begins
pub next_byte : (text : List ℕ) (place : ℕ) (inside : Bool) → place < length text → begins inside (get_or text place 0) ≡ false
    → put_front (take place text) (pieces inside (drop place text)) ≡ put_front (take (suc place) text) (pieces (is_inside inside (get_or text place 0)) (drop (suc place) text))
unfolding pieces
next_byte text place inside within apart =
    rw (drop-cons text place 0, apart, take-suc text place 0) (put_front-more (take place text) (get_or text place 0) _)

-- the byte at a place, where a position begins
begin_outside : (inside : Bool) (b : ℕ) → begins inside b ≡ true → inside ≡ false
begin_outside true b h = absurd cc
begin_outside false b h = refl

pub begin_here : (text : List ℕ) (place : ℕ) (inside : Bool) → place < length text → begins inside (get_or text place 0) ≡ true
    → put_front (take place text) (pieces inside (drop place text)) ≡ take place text ∷ positions_of (drop place text)
unfolding pieces positions_of
begin_here text place inside within here =
    let outside = begin_outside inside (get_or text place 0) here in
    rw (drop-cons text place 0, here, outside) (ap (λ x. x ∷ onto_first (get_or text place 0) (pieces (is_inside false (get_or text place 0)) (drop (suc place) text))) (append-nil (take place text)))

-- behind the last byte
pub pieces_end : (text : List ℕ) (place : ℕ) (inside : Bool) → length text ≤ place → put_front (take place text) (pieces inside (drop place text)) ≡ text ∷ []
unfolding pieces
pieces_end text place inside past =
    rw (take_all place text past, drop_all place text past) (ap (λ x. x ∷ []) (append-nil text))

-- the strings by what the first split gives
abbrev strings_by : List ℕ → Option (List ℕ × List ℕ) → List (List ℕ)
strings_by text None = text ∷ []
strings_by text (Some sides) = sides.0 ∷ slice_split is_bar sides.1

onto_strings : (b : ℕ) (bs : List ℕ) (found : Option (List ℕ × List ℕ)) → onto_first b (strings_by bs found) ≡ strings_by (b ∷ bs) (option_map (λ sides. (b ∷ sides.0, sides.1)) found)
onto_strings b bs None = refl
onto_strings b bs (Some sides) = refl

split_strings : (text : List ℕ) → slice_split is_bar text ≡ strings_by text (split_once 124 text)
unfolding split_once
split_strings [] = refl
split_strings (b ∷ bs) =
    ⊎_elim
    (λ (h : eqb b 124 ≡ true). rw h refl)
    (λ (h : eqb b 124 ≡ false). rw h (ap (onto_first b) (split_strings bs) ∙ onto_strings b bs (split_once 124 bs)))
    (cases_Bool (eqb b 124))

pub strings_more : (text string rest : List ℕ) → Some (string, rest) ≡ split_once 124 text → slice_split is_bar text ≡ string ∷ slice_split is_bar rest
strings_more text string rest e = split_strings text ∙ ap (strings_by text) (sym e)

pub strings_last : (text : List ℕ) → None ≡ split_once 124 text → slice_split is_bar text ≡ text ∷ []
strings_last text e = split_strings text ∙ ap (strings_by text) (sym e)

-- the last position, where none begins behind it
pub begin_last : (text : List ℕ) (place : ℕ) (inside : Bool) → length text ≤ place
    → put_front (take place text) (pieces inside (drop place text)) ≡ take (length text) text ∷ positions_of (drop (length text) text)
unfolding positions_of
begin_last text place inside past =
    pieces_end text place inside past ∙ rw (take_all (length text) text (le_refl (length text)), drop_all (length text) text (le_refl (length text))) refl

-- a text is cut behind its first position
pub position_first : (text : List ℕ) (end : ℕ) → 0 < length text
    → pieces (is_inside false (get_or text 0 0)) (drop 1 text) ≡ take end (drop 1 text) ∷ positions_of (drop end (drop 1 text))
    → positions_of text ≡ take (suc end) text ∷ positions_of (drop (suc end) text)
unfolding positions_of
position_first [] end some h = absurd (omega arith)
position_first (b ∷ bs) end some h = rw h refl

-- an empty text has no positions
pub positions_none : (text : List ℕ) → length text ≡ 0 → positions_of text ≡ []
unfolding positions_of
positions_none [] none = refl
positions_none (b ∷ bs) none = absurd (omega arith)
