-- The pieces of a text are the parts between its outer commas.
use Rattle.std.proofs.Common.{◌≡◌, ℕ, ◌<◌, Bool, true, false, ◌&&◌, ◌==◌, List, [], ◌∷◌, length, refl, sym, ap, ◌∙◌, arith, ⊎_elim}
use Rattle.std.specs.List.{onto_first, list_all, join_with_byte}
use Rattle.std.proofs.lemmas.Bool.{cases_Bool}
use Rattle.std.proofs.lemmas.Bool.Decides.{nat_tests}
use Rattle.packages.specs.declared.cut.Cut.TheVariants.{Commas}
use Rattle.packages.specs.Cuts.{deeper, is_cut, after, is_uncut, all_but_last_closed, pieces, IsPartedByCommas}

some_onto : (b : ℕ) (ps : List (List ℕ)) → 0 < length (onto_first b ps)
some_onto b [] = omega arith
some_onto b (p ∷ ps) = omega arith

pub some_pieces : (depth : ℕ) (text : List ℕ) → 0 < length (pieces Commas depth text)
unfolding pieces
some_pieces depth [] = omega arith
some_pieces depth (b ∷ bs) =
    ⊎_elim
    (λ (h : is_cut Commas depth b ≡ true). rw h (omega arith))
    (λ (h : is_cut Commas depth b ≡ false). rw h (some_onto b _))
    (cases_Bool (is_cut Commas depth b))

-- joined again
join_cut : (ps : List (List ℕ)) → 0 < length ps → join_with_byte 44 ([] ∷ ps) ≡ 44 ∷ join_with_byte 44 ps
join_cut [] some = absurd (omega arith)
join_cut (p ∷ ps) some = refl

join_onto : (b : ℕ) (ps : List (List ℕ)) → 0 < length ps → join_with_byte 44 (onto_first b ps) ≡ b ∷ join_with_byte 44 ps
join_onto b [] some = absurd (omega arith)
join_onto b (p ∷ []) some = refl
join_onto b (p ∷ q ∷ ps) some = refl

cut_is_comma : (depth b : ℕ) → is_cut Commas depth b ≡ true → b ≡ 44
cut_is_comma depth b here = grind (arith, nat_tests)

join_pieces : (depth : ℕ) (text : List ℕ) → join_with_byte 44 (pieces Commas depth text) ≡ text
unfolding pieces
join_pieces depth [] = refl
join_pieces depth (b ∷ bs) =
    let more : List (List ℕ) = pieces Commas (deeper depth b) bs in
    ⊎_elim
    (λ (h : is_cut Commas depth b ≡ true). rw h (join_cut more (some_pieces _ bs) ∙ rw (join_pieces (deeper depth b) bs) (ap (λ c. c ∷ bs) (sym (cut_is_comma depth b h)))))
    (λ (h : is_cut Commas depth b ≡ false). rw h (join_onto b more (some_pieces _ bs) ∙ ap (λ t. b ∷ t) (join_pieces (deeper depth b) bs)))
    (cases_Bool (is_cut Commas depth b))

-- the first piece begins at a depth, and the others at none
abbrev first_uncut : ℕ → List (List ℕ) → Bool
first_uncut depth [] = true
first_uncut depth (p ∷ ps) = is_uncut Commas depth p && list_all (is_uncut Commas 0) ps

abbrev first_closed : ℕ → List (List ℕ) → Bool
first_closed depth [] = true
first_closed depth (p ∷ []) = true
first_closed depth (p ∷ q ∷ ps) = after depth p == 0 && all_but_last_closed (q ∷ ps)

cut_level : (depth b : ℕ) → is_cut Commas depth b ≡ true → (depth ≡ 0) × (deeper depth b ≡ 0)
cut_level depth b here = (grind (arith, nat_tests), grind (arith, nat_tests))

all_first : (ps : List (List ℕ)) → first_uncut 0 ps ≡ true → list_all (is_uncut Commas 0) ps ≡ true
all_first [] h = refl
all_first (p ∷ ps) h = h

uncut_onto : (depth b : ℕ) (ps : List (List ℕ)) → is_cut Commas depth b ≡ false → first_uncut (deeper depth b) ps ≡ true
    → first_uncut depth (onto_first b ps) ≡ true
uncut_onto depth b [] here rest = rw here refl
uncut_onto depth b (p ∷ ps) here rest = rw here rest

pieces_uncut : (depth : ℕ) (text : List ℕ) → first_uncut depth (pieces Commas depth text) ≡ true
unfolding pieces
pieces_uncut depth [] = refl
pieces_uncut depth (b ∷ bs) =
    let more : List (List ℕ) = pieces Commas (deeper depth b) bs in
    let rest : first_uncut (deeper depth b) more ≡ true = pieces_uncut (deeper depth b) bs in
    ⊎_elim
    (λ (h : is_cut Commas depth b ≡ true). rw h (all_first more (rw (sym (cut_level depth b h).1) rest)))
    (λ (h : is_cut Commas depth b ≡ false). rw h (uncut_onto depth b more h rest))
    (cases_Bool (is_cut Commas depth b))

closed_cut : (depth : ℕ) (ps : List (List ℕ)) → depth ≡ 0 → first_closed 0 ps ≡ true → first_closed depth ([] ∷ ps) ≡ true
closed_cut depth [] level rest = refl
closed_cut depth (p ∷ []) level rest = rw level refl
closed_cut depth (p ∷ q ∷ ps) level rest = rw level rest

closed_onto : (depth b : ℕ) (ps : List (List ℕ)) → first_closed (deeper depth b) ps ≡ true → first_closed depth (onto_first b ps) ≡ true
closed_onto depth b [] rest = refl
closed_onto depth b (p ∷ []) rest = refl
closed_onto depth b (p ∷ q ∷ ps) rest = rest

pieces_closed : (depth : ℕ) (text : List ℕ) → first_closed depth (pieces Commas depth text) ≡ true
unfolding pieces
pieces_closed depth [] = refl
pieces_closed depth (b ∷ bs) =
    let more : List (List ℕ) = pieces Commas (deeper depth b) bs in
    let rest : first_closed (deeper depth b) more ≡ true = pieces_closed (deeper depth b) bs in
    ⊎_elim
    (λ (h : is_cut Commas depth b ≡ true). let level = cut_level depth b h in rw h (closed_cut depth more level.0 (rw (sym level.1) rest)))
    (λ (h : is_cut Commas depth b ≡ false). rw h (closed_onto depth b more rest))
    (cases_Bool (is_cut Commas depth b))

last_closed : (ps : List (List ℕ)) → first_closed 0 ps ≡ true → all_but_last_closed ps ≡ true
last_closed [] h = refl
last_closed (p ∷ []) h = refl
last_closed (p ∷ q ∷ ps) h = h

pub parted : (text : List ℕ) → IsPartedByCommas text (pieces Commas 0 text)
parted text = record {
  joined = join_pieces 0 text;
  uncut = all_first (pieces Commas 0 text) (pieces_uncut 0 text);
  closed = last_closed (pieces Commas 0 text) (pieces_closed 0 text);
}
