-- The items of a list, one after the other.
use Rattle.std.proofs.Common.{◌≡◌, ℕ, true, false, eqb, List, [], ◌∷◌, Option, Some, None, refl, sym, ap, ◌∙◌, ⊎_elim}
use Rattle.std.proofs.lemmas.Bool.{cases_Bool}
use Rattle.std.specs.Prelude.{map, option_map}
use Rattle.std.specs.List.{slice_split, onto_first}
use Rattle.mg_bytes.specs.Blanks.{trimmed}
use Rattle.mg_bytes.specs.Items.{is_comma, items_of}
use Rattle.mg_bytes.specs.Words.{split_once}

-- the parts by what the first split gives
abbrev parts_from : List ℕ → Option (List ℕ × List ℕ) → List (List ℕ)
parts_from text None = text ∷ []
parts_from text (Some sides) = sides.0 ∷ slice_split is_comma sides.1

onto_parts : (b : ℕ) (bs : List ℕ) (found : Option (List ℕ × List ℕ)) → onto_first b (parts_from bs found) ≡ parts_from (b ∷ bs) (option_map (λ sides. (b ∷ sides.0, sides.1)) found)
onto_parts b bs None = refl
onto_parts b bs (Some sides) = refl

split_parts : (text : List ℕ) → slice_split is_comma text ≡ parts_from text (split_once 44 text)
unfolding split_once
split_parts [] = refl
split_parts (b ∷ bs) =
    ⊎_elim
    (λ (h : eqb b 44 ≡ true). rw h refl)
    (λ (h : eqb b 44 ≡ false). rw h (ap (onto_first b) (split_parts bs) ∙ onto_parts b bs (split_once 44 bs)))
    (cases_Bool (eqb b 44))

pub items_more : (text item rest : List ℕ) → Some (item, rest) ≡ split_once 44 text → items_of text ≡ trimmed item ∷ items_of rest
unfolding items_of
items_more text item rest e = ap (map trimmed) (split_parts text ∙ ap (parts_from text) (sym e))

pub items_last : (text : List ℕ) → None ≡ split_once 44 text → items_of text ≡ trimmed text ∷ []
unfolding items_of
items_last text e = ap (map trimmed) (split_parts text ∙ ap (parts_from text) (sym e))
