-- Pieces of a text, one after the other.
use Rattle.std.proofs.Common.{◌<◌, true, false, cond, get_or, drop-cons, take_all, ◌≤◌, arith, ◌≡◌, ℕ, List, [], ◌∷◌, ◌++◌, length, take, drop, refl, sym, ap, ◌∙◌, append_assoc, append-nil, suc}
use Rattle.std.specs.List.{onto_first}
use Rattle.std.proofs.lemmas.List.{drop_all}
use Rattle.std.proofs.Math.Seq.{take-suc}
use Rattle.packages.specs.declared.cut.Cut.{Cut}
use Rattle.packages.specs.declared.cut.Cut.TheVariants.{Commas, Parentheses}
use Rattle.std.proofs.lemmas.Bool.Decides.{nat_tests}
use Rattle.packages.specs.Cuts.{pieces, is_cut, deeper}

-- bytes put before the first piece
abbrev pub put_front : List ℕ → List (List ℕ) → List (List ℕ)
put_front front [] = front ∷ []
put_front front (p ∷ ps) = (front ++ p) ∷ ps

pub put_front-more : (front : List ℕ) (b : ℕ) (ps : List (List ℕ)) → put_front front (onto_first b ps) ≡ put_front (front ++ b ∷ []) ps
put_front-more front b [] = refl
put_front-more front b (p ∷ ps) = ap (λ x. x ∷ ps) (sym (append_assoc front (b ∷ []) p))

put_front-one : (b : ℕ) (ps : List (List ℕ)) → put_front (b ∷ []) ps ≡ onto_first b ps
put_front-one b [] = refl
put_front-one b (p ∷ ps) = refl

-- there is always a piece
pub put_front-nil : (cut : Cut) (depth : ℕ) (text : List ℕ) → put_front [] (pieces cut depth text) ≡ pieces cut depth text
unfolding pieces
put_front-nil cut depth [] = refl
put_front-nil cut depth (b ∷ bs) =
    elim (is_cut cut depth b) as (λ v. put_front [] (cond v ([] ∷ pieces cut (deeper depth b) bs) (onto_first b (pieces cut (deeper depth b) bs))) ≡ cond v ([] ∷ pieces cut (deeper depth b) bs) (onto_first b (pieces cut (deeper depth b) bs))) [
      | true ↦ refl
      | false ↦ put_front-more [] b (pieces cut (deeper depth b) bs) ∙ put_front-one b (pieces cut (deeper depth b) bs)
    ]

-- the byte at a place, where the text isn't cut
pub next_byte : (cut : Cut) (text : List ℕ) (place depth : ℕ) → place < length text → is_cut cut depth (get_or text place 0) ≡ false
    → put_front (take place text) (pieces cut depth (drop place text)) ≡ put_front (take (suc place) text) (pieces cut (deeper depth (get_or text place 0)) (drop (suc place) text))
unfolding pieces
next_byte cut text place depth inside apart =
    rw (drop-cons text place 0, apart, take-suc text place 0) (put_front-more (take place text) (get_or text place 0) _)

-- the byte at a place, where it is cut
pub cut_here : (cut : Cut) (text : List ℕ) (place depth : ℕ) → place < length text → is_cut cut depth (get_or text place 0) ≡ true
    → put_front (take place text) (pieces cut depth (drop place text)) ≡ take place text ∷ pieces cut (deeper depth (get_or text place 0)) (drop (suc place) text)
unfolding pieces
cut_here cut text place depth inside here =
    rw (drop-cons text place 0, here) (ap (λ x. x ∷ pieces cut (deeper depth (get_or text place 0)) (drop (suc place) text)) (append-nil (take place text)))

-- behind the last byte
pub cut_end : (cut : Cut) (text : List ℕ) (place depth : ℕ) → length text ≤ place → put_front (take place text) (pieces cut depth (drop place text)) ≡ text ∷ []
unfolding pieces
cut_end cut text place depth past =
    rw (take_all place text past, drop_all place text past) (ap (λ x. x ∷ []) (append-nil text))

-- behind a cut there is at most one parenthesis open
pub shallow_behind : (cut : Cut) (depth b : ℕ) → is_cut cut depth b ≡ true → deeper depth b ≤ 1
shallow_behind Commas depth b here = grind (arith, nat_tests)
shallow_behind Parentheses depth b here = grind (arith, nat_tests)
