-- What is read has no blanks left.
use Rattle.std.proofs.Common.{◌≡◌, ℕ, Bool, true, false, List, [], ◌∷◌, length, Option, Some, None, Ok, refl, ap, ◌∙◌, ⊎_elim}
use Rattle.std.specs.Prelude.{nat_le, not}
use Rattle.std.proofs.lemmas.Bool.{cases_Bool}
use Rattle.mg_bytes.specs.Blanks.{is_blank}
use Rattle.mg_bytes.specs.Checks.{unless, first_fault, checked}
use Rattle.digit_map.specs.declared.fault.MapFault.TheVariants.{Syntax, TooLarge}
use Rattle.digit_map.specs.Spelling.{is_map}
use Rattle.digit_map.specs.Reading.{most_bytes, without_blanks, fault_of, map_of}

bare_again : (text : List ℕ) → without_blanks (without_blanks text) ≡ without_blanks text
bare_again [] = refl
bare_again (b ∷ bs) =
    ⊎_elim
    (λ (h : not (is_blank b) ≡ true). rw (h, h) (ap (λ x. b ∷ x) (bare_again bs)))
    (λ (h : not (is_blank b) ≡ false). rw h (bare_again bs))
    (cases_Bool (not (is_blank b)))

pub read_bare : (text : List ℕ) → map_of (without_blanks text) ≡ map_of text
unfolding map_of
read_bare text = ap (λ (bare : List ℕ). checked (fault_of bare) (Ok bare)) (bare_again text)

ok_same : {A F : Type 0} (fault : Option F) (x y : A) → checked fault (Ok x) ≡ Ok y → x ≡ y
ok_same None x y e = cc
ok_same (Some fault) x y e = absurd cc

pub read_again : (text map : List ℕ) → map_of text ≡ Ok map → map_of map ≡ Ok map
unfolding map_of
read_again text map is =
    let same : without_blanks text ≡ map = ok_same (fault_of (without_blanks text)) (without_blanks text) map is in
    rw same at (read_bare text ∙ is)

spelled_so : (spelled short : Bool) (bare map : List ℕ) → checked (first_fault (unless spelled Syntax ∷ unless short TooLarge ∷ [])) (Ok bare) ≡ Ok map → spelled ≡ true
spelled_so true short bare map is = refl
spelled_so false short bare map is = absurd cc

pub read_spelled : (text map : List ℕ) → map_of text ≡ Ok map → is_map map ≡ true
unfolding map_of
read_spelled text map is =
    let same : without_blanks text ≡ map = ok_same (fault_of (without_blanks text)) (without_blanks text) map is in
    rw same at (spelled_so (is_map (without_blanks text)) (nat_le (length (without_blanks text)) most_bytes) (without_blanks text) map is)
