-- Texts that begin with a line and its end.
use Rattle.std.proofs.Common.{◌≡◌, ◌≢◌, ℕ, true, false, eqb, List, [], ◌∷◌, ◌++◌, refl, sym, ap, ◌∙◌, append_assoc, ⊎_elim}
use Rattle.std.specs.Prelude.{map, Option, Some, None, MatchOption}
use Rattle.std.specs.Borrow.{Bor}
use Rattle.std.specs.List.{flat_map}
use Rattle.std.specs.Str.{bytes_eq}
use Rattle.mg_bytes.specs.Lines.{line_of, crlf, ended}
use Rattle.std.proofs.lemmas.List.{append_cancel_left}
use Rattle.std.proofs.lemmas.Bool.{cases_Bool}
use Rattle.std.proofs.lemmas.Bool.Decides.{Decides-eqb}
use Rattle.std.proofs.lemmas.Slice.Eq.{bytes_eq-Decides}

-- what doesn't begin with the line, or after it with CRLF, doesn't begin with both
pub no_line : (text line : List ℕ) → ((rest : List ℕ) → text ≢ line ++ rest) → (rest : List ℕ) → text ≢ ended line ++ rest
no_line text line none rest e = none (crlf ++ rest) (e ∙ append_assoc line crlf rest)

pub no_end : (text line after : List ℕ) → text ≡ line ++ after → ((rest : List ℕ) → after ≢ crlf ++ rest) → (rest : List ℕ) → text ≢ ended line ++ rest
no_end text line after is none rest e = none rest (append_cancel_left line after (crlf ++ rest) (sym is ∙ e ∙ append_assoc line crlf rest))

pub with_end : (text line after rest : List ℕ) → text ≡ line ++ after → after ≡ crlf ++ rest → text ≡ ended line ++ rest
with_end text line after rest is then = is ∙ ap (λ (x : List ℕ). line ++ x) then ∙ sym (append_assoc line crlf rest)

pub same_front : (front xs ys : List ℕ) → bytes_eq (front ++ xs) (front ++ ys) ≡ bytes_eq xs ys
same_front [] xs ys = refl
same_front (b ∷ bs) xs ys = let same : eqb b b ≡ true = (Decides-eqb b b).1 refl in rw same (same_front bs xs ys)

-- a text that doesn't begin so is another
pub other_front : (front xs text : List ℕ) → ((rest : List ℕ) → text ≢ front ++ rest) → bytes_eq (front ++ xs) text ≡ false
other_front front xs text none =
    ⊎_elim (λ (h : bytes_eq (front ++ xs) text ≡ true). absurd (none xs (sym ((bytes_eq-Decides (front ++ xs) text).0 h)))) (λ (h : bytes_eq (front ++ xs) text ≡ false). h) (cases_Bool (bytes_eq (front ++ xs) text))

pub line_from : (text line after : List ℕ) (found : Option (Bor (List ℕ))) → text ≡ line ++ after
    → MatchOption found ((rest : List ℕ) → after ≢ crlf ++ rest) (λ rest. after ≡ crlf ++ rest.now)
    → MatchOption found ((rest : List ℕ) → text ≢ ended line ++ rest) (λ rest. text ≡ ended line ++ rest.now)
line_from text line after None is none = no_end text line after is none
line_from text line after (Some rest) is then = with_end text line after rest.now is then

-- one line less on both sides
pub ended_step : (piece : List ℕ) (pieces : List (List ℕ)) (line rest after : List ℕ) → line ≡ line_of piece → rest ≡ ended line ++ after
    → bytes_eq (flat_map ended (map line_of (piece ∷ pieces))) rest ≡ bytes_eq (flat_map ended (map line_of pieces)) after
ended_step piece pieces line rest after is parts =
    let front : rest ≡ ended (line_of piece) ++ after = parts ∙ ap (λ (l : List ℕ). ended l ++ after) is in
    ap (bytes_eq (ended (line_of piece) ++ flat_map ended (map line_of pieces))) front
    ∙ same_front (ended (line_of piece)) (flat_map ended (map line_of pieces)) after
