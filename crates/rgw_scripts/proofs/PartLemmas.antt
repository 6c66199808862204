-- What stands before and after a piece of an input.
use Rattle.std.proofs.Common.{◌≡◌, ℕ, ◌+◌, ◌-◌, ◌≤◌, false, true, List, [], ◌∷◌, ◌++◌, length, take, drop, refl, sym, ◌∙◌, ap, arith, append_assoc, append-nil, length-append, length-drop, take_all}
use Rattle.std.specs.List.{concat}
use Rattle.std.proofs.lemmas.List.{drop-drop}
use Rattle.std.proofs.Math.Seq.{take-add, take-append_seam, drop-append_seam}
use Rattle.mg_bytes.specs.Lines.{line_of}
use Rattle.rgw_scripts.specs.Input.{is_separator, config_pieces, script_pieces}

left_piece : (input : List ℕ) (n : ℕ) (old new : List (List ℕ)) (piece : List ℕ) → drop n input ≡ concat old → old ≡ piece ∷ new → drop n input ≡ piece ++ concat new
left_piece input n old new piece left is = left ∙ ap concat is

sizes : (input : List ℕ) (n : ℕ) (old new : List (List ℕ)) (piece : List ℕ) → n ≤ length input → drop n input ≡ concat old → old ≡ piece ∷ new
    → n + length piece + length (concat new) ≡ length input
sizes input n old new piece within left is =
    let front = ap length (left_piece input n old new piece left is) in
    omega (arith, within, front, length-drop n input, length-append piece (concat new))

pub rest_le : (input : List ℕ) (n : ℕ) (old new : List (List ℕ)) (piece : List ℕ) → n ≤ length input → drop n input ≡ concat old → old ≡ piece ∷ new
    → length (concat new) ≤ length input
rest_le input n old new piece within left is = omega (arith, sizes input n old new piece within left is)

next_end : (input : List ℕ) (n : ℕ) (old new : List (List ℕ)) (piece : List ℕ) → n ≤ length input → drop n input ≡ concat old → old ≡ piece ∷ new
    → length input - length (concat new) ≡ n + length piece
next_end input n old new piece within left is = omega (arith, sizes input n old new piece within left is)

pub next_left : (input : List ℕ) (n : ℕ) (old new : List (List ℕ)) (piece : List ℕ) → n ≤ length input → drop n input ≡ concat old → old ≡ piece ∷ new
    → drop (length input - length (concat new)) input ≡ concat new
next_left input n old new piece within left is =
    ap (λ k. drop k input) (next_end input n old new piece within left is) ∙ sym (drop-drop (length piece) n input)
    ∙ ap (drop (length piece)) (left_piece input n old new piece left is) ∙ drop-append_seam piece (concat new)

next_front : (input : List ℕ) (n : ℕ) (old new : List (List ℕ)) (piece : List ℕ) → n ≤ length input → drop n input ≡ concat old → old ≡ piece ∷ new
    → take (length input - length (concat new)) input ≡ take n input ++ piece
next_front input n old new piece within left is =
    ap (λ k. take k input) (next_end input n old new piece within left is) ∙ take-add n (length piece) input
    ∙ ap (λ (x : List ℕ). take n input ++ x) (ap (take (length piece)) (left_piece input n old new piece left is) ∙ take-append_seam piece (concat new))

config_more : (piece : List ℕ) (new : List (List ℕ)) → is_separator (line_of piece) ≡ false → config_pieces (piece ∷ new) ≡ piece ∷ config_pieces new
unfolding config_pieces
config_more piece new other = rw other refl

pub config_none : (piece : List ℕ) (new : List (List ℕ)) → is_separator (line_of piece) ≡ true → config_pieces (piece ∷ new) ≡ []
unfolding config_pieces
config_none piece new here = rw here refl

pub script_more : (piece : List ℕ) (new : List (List ℕ)) → is_separator (line_of piece) ≡ false → script_pieces (piece ∷ new) ≡ script_pieces new
unfolding script_pieces
script_more piece new other = rw other refl

pub next_config : (input text : List ℕ) (n : ℕ) (old new : List (List ℕ)) (piece : List ℕ) → n ≤ length input → drop n input ≡ concat old → old ≡ piece ∷ new
    → is_separator (line_of piece) ≡ false → take n input ++ concat (config_pieces old) ≡ text
    → take (length input - length (concat new)) input ++ concat (config_pieces new) ≡ text
next_config input text n old new piece within left is other before =
    ap (λ (x : List ℕ). x ++ concat (config_pieces new)) (next_front input n old new piece within left is)
    ∙ append_assoc (take n input) piece (concat (config_pieces new))
    ∙ sym (ap (λ (x : List (List ℕ)). take n input ++ concat x) (ap config_pieces is ∙ config_more piece new other))
    ∙ before

-- at the line `%%`
pub whole_config : (input text : List ℕ) (n : ℕ) (old new : List (List ℕ)) (piece : List ℕ) → old ≡ piece ∷ new → is_separator (line_of piece) ≡ true
    → take n input ++ concat (config_pieces old) ≡ text → take n input ≡ text
whole_config input text n old new piece is here before =
    sym (append-nil (take n input)) ∙ sym (ap (λ (x : List (List ℕ)). take n input ++ concat x) (ap config_pieces is ∙ config_none piece new here)) ∙ before

-- without one
pub all_config : (input text : List ℕ) (n : ℕ) (old : List (List ℕ)) → n ≤ length input → drop n input ≡ concat old → old ≡ []
    → take n input ++ concat (config_pieces old) ≡ text → input ≡ text
unfolding config_pieces
all_config input text n old within left is before =
    let none = ap length (left ∙ ap concat is) in
    let all : take n input ≡ input = take_all n input (omega (arith, none, length-drop n input)) in
    sym all ∙ sym (append-nil (take n input)) ∙ sym (ap (λ (x : List (List ℕ)). take n input ++ concat (config_pieces x)) is) ∙ before

pub script_here : (piece : List ℕ) (new : List (List ℕ)) → is_separator (line_of piece) ≡ true → script_pieces (piece ∷ new) ≡ new
unfolding script_pieces
script_here piece new here = rw here refl
