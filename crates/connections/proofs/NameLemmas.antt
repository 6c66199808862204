-- The names that semicolons part, one after the other.
use Rattle.std.proofs.Common.{◌≡◌, ℕ, ◌<◌, true, false, eqb, List, [], ◌∷◌, length, Option, Some, None, refl, sym, ap, ◌∙◌, ⊎_elim, arith, subst}
use Rattle.std.proofs.lemmas.Bool.{cases_Bool}
use Rattle.std.specs.Prelude.{option_map, ⊤}
use Rattle.std.specs.List.{slice_split, onto_first}
use Rattle.mg_bytes.specs.Words.{split_once}
use Rattle.connections.specs.declared.codec.Codecs.{Codecs}
use Rattle.connections.specs.Options.{is_semicolon, names_of, with_name, with_names}

-- the parts by what the first split gives
abbrev parts_from : List ℕ → Option (List ℕ × List ℕ) → List (List ℕ)
parts_from text None = text ∷ []
parts_from text (Some sides) = sides.0 ∷ slice_split is_semicolon sides.1

onto_parts : (b : ℕ) (bs : List ℕ) (found : Option (List ℕ × List ℕ)) → onto_first b (parts_from bs found) ≡ parts_from (b ∷ bs) (option_map (λ sides. (b ∷ sides.0, sides.1)) found)
onto_parts b bs None = refl
onto_parts b bs (Some sides) = refl

split_parts : (text : List ℕ) → slice_split is_semicolon text ≡ parts_from text (split_once 59 text)
unfolding split_once
split_parts [] = refl
split_parts (b ∷ bs) =
    ⊎_elim
    (λ (h : eqb b 59 ≡ true). rw h refl)
    (λ (h : eqb b 59 ≡ false). rw h (ap (onto_first b) (split_parts bs) ∙ onto_parts b bs (split_once 59 bs)))
    (cases_Bool (eqb b 59))

pub names_more : (codecs : Option Codecs) (text name rest : List ℕ) → Some (name, rest) ≡ split_once 59 text
    → with_names (with_name codecs name) (names_of rest) ≡ with_names codecs (names_of text)
unfolding with_names names_of
names_more codecs text name rest e = ap (with_names codecs) (sym (split_parts text ∙ ap (parts_from text) (sym e)))

pub names_last : (codecs : Option Codecs) (text : List ℕ) → None ≡ split_once 59 text
    → with_name codecs text ≡ with_names codecs (names_of text)
unfolding with_names names_of
names_last codecs text e = ap (with_names codecs) (sym (split_parts text ∙ ap (parts_from text) (sym e)))

-- what stands behind a semicolon is shorter
abbrev IsShorter : List ℕ → Option (List ℕ × List ℕ) → Type 0
IsShorter text None = ⊤
IsShorter text (Some sides) = length sides.1 < length text

shorter_on : (b : ℕ) (bs : List ℕ) (found : Option (List ℕ × List ℕ)) → IsShorter bs found
    → IsShorter (b ∷ bs) (option_map (λ sides. (b ∷ sides.0, sides.1)) found)
shorter_on b bs None h = tt
shorter_on b bs (Some sides) h = omega arith

is_shorter : (text : List ℕ) → IsShorter text (split_once 59 text)
unfolding split_once
is_shorter [] = tt
is_shorter (b ∷ bs) =
    ⊎_elim
    (λ (h : eqb b 59 ≡ true). rw h (omega arith))
    (λ (h : eqb b 59 ≡ false). rw h (shorter_on b bs (split_once 59 bs) (is_shorter bs)))
    (cases_Bool (eqb b 59))

pub rest_shorter : (text name rest : List ℕ) → Some (name, rest) ≡ split_once 59 text → length rest < length text
rest_shorter text name rest e = subst (IsShorter text) (sym e) (is_shorter text)
