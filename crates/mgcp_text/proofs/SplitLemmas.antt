-- Lists of lines, split at their dot lines.
use Rattle.std.proofs.Common.{◌≡◌, ℕ, ◌<◌, ◌||◌, Bool, true, false, List, [], ◌∷◌, ◌++◌, length, refl, ap, ◌∙◌, arith, ⊎_elim}
use Rattle.std.specs.List.{list_any, slice_split, onto_first}
use Rattle.std.proofs.lemmas.Bool.{cases_Bool}
use Rattle.mg_bytes.specs.Lines.{is_dot_line}
use Rattle.mg_bytes.proofs.CutLemmas.{onto_front, onto_first_some}
use Rattle.mgcp_text.specs.Parts.{AreJoinedByDots}

-- the lines between dot lines
abbrev pub split : List (List ℕ) → List (List (List ℕ))
split lines = slice_split is_dot_line lines

pub split_dot : (dot : List ℕ) (lines : List (List ℕ)) → is_dot_line dot ≡ true → split (dot ∷ lines) ≡ [] ∷ split lines
split_dot dot lines is = rw is refl

pub split_other : (line : List ℕ) (lines : List (List ℕ)) → is_dot_line line ≡ false → split (line ∷ lines) ≡ onto_first line (split lines)
split_other line lines other = rw other refl

-- neither is true
pub neither : (a b : Bool) → (a || b) ≡ false → (a ≡ false) × (b ≡ false)
neither true b e = absurd cc
neither false b e = (refl, e)

pub split_some : (lines : List (List ℕ)) → 0 < length (split lines)
split_some [] = omega arith
split_some (line ∷ lines) =
    ⊎_elim
    (λ (dot : is_dot_line line ≡ true). rw (split_dot line lines dot) (omega arith))
    (λ (other : is_dot_line line ≡ false). rw (split_other line lines other) (onto_first_some line (split lines)))
    (cases_Bool (is_dot_line line))

-- lines without a dot line are one part
pub split_none : (lines : List (List ℕ)) → list_any is_dot_line lines ≡ false → split lines ≡ lines ∷ []
split_none [] none = refl
split_none (line ∷ lines) none =
    let each = neither _ _ none in
    split_other line lines each.0 ∙ ap (onto_first line) (split_none lines each.1)

-- at a dot line the parts of both sides follow one another
pub split_append : (before : List (List ℕ)) (dot : List ℕ) (after : List (List ℕ)) → is_dot_line dot ≡ true → split (before ++ dot ∷ after) ≡ split before ++ split after
split_append [] dot after is = split_dot dot after is
split_append (line ∷ lines) dot after is =
    let others = split_append lines dot after is in
    ⊎_elim
    (λ (here : is_dot_line line ≡ true). split_dot line _ here ∙ ap (λ (parts : List (List (List ℕ))). [] ∷ parts) others ∙ rw (split_dot line lines here) refl)
    (λ (other : is_dot_line line ≡ false). split_other line _ other ∙ ap (onto_first line) others ∙ onto_front line (split lines) (split after) (split_some lines) ∙ rw (split_other line lines other) refl)
    (cases_Bool (is_dot_line line))

-- no part has a dot line
any_onto : (line : List ℕ) (parts : List (List (List ℕ))) → is_dot_line line ≡ false → list_any (list_any is_dot_line) parts ≡ false → list_any (list_any is_dot_line) (onto_first line parts) ≡ false
any_onto line [] other none = rw other refl
any_onto line (part ∷ parts) other none = rw other none

pub split_apart : (lines : List (List ℕ)) → list_any (list_any is_dot_line) (split lines) ≡ false
split_apart [] = refl
split_apart (line ∷ lines) =
    ⊎_elim
    (λ (dot : is_dot_line line ≡ true). rw (split_dot line lines dot) (split_apart lines))
    (λ (other : is_dot_line line ≡ false). rw (split_other line lines other) (any_onto line (split lines) other (split_apart lines)))
    (cases_Bool (is_dot_line line))

-- the parts, joined by dot lines, are the lines
joined_more : (dot : List ℕ) (parts : List (List (List ℕ))) (lines : List (List ℕ)) → is_dot_line dot ≡ true → AreJoinedByDots parts lines → AreJoinedByDots ([] ∷ parts) (dot ∷ lines)
joined_more dot [] lines is joined = absurd joined
joined_more dot (part ∷ parts) lines is joined = (dot, lines, is, refl, joined)

joined_onto : (line : List ℕ) (parts : List (List (List ℕ))) (lines : List (List ℕ)) → AreJoinedByDots parts lines → AreJoinedByDots (onto_first line parts) (line ∷ lines)
joined_onto line [] lines joined = absurd joined
joined_onto line (part ∷ []) lines joined = ap (λ (ls : List (List ℕ)). line ∷ ls) joined
joined_onto line (part ∷ next ∷ parts) lines joined =
    (joined.0, joined.1, joined.2, ap (λ (ls : List (List ℕ)). line ∷ ls) joined.3, joined.4)

pub split_joined : (lines : List (List ℕ)) → AreJoinedByDots (split lines) lines
split_joined [] = refl
split_joined (line ∷ lines) =
    ⊎_elim
    (λ (dot : is_dot_line line ≡ true). rw (split_dot line lines dot) (joined_more line (split lines) lines dot (split_joined lines)))
    (λ (other : is_dot_line line ≡ false). rw (split_other line lines other) (joined_onto line (split lines) lines (split_joined lines)))
    (cases_Bool (is_dot_line line))

-- and only they are
pub split_only : (parts : List (List (List ℕ))) (lines : List (List ℕ)) → list_any (list_any is_dot_line) parts ≡ false → AreJoinedByDots parts lines → split lines ≡ parts
split_only [] lines apart joined = absurd joined
split_only (part ∷ []) lines apart joined = ap split joined ∙ split_none part (neither _ _ apart).0
split_only (part ∷ next ∷ parts) lines apart joined =
    let each = neither _ _ apart in
    let others : split joined.1 ≡ next ∷ parts = split_only (next ∷ parts) joined.1 each.1 joined.4 in
    ap split joined.3 ∙ split_append part joined.0 joined.1 joined.2 ∙ rw (split_none part each.0, others) refl
