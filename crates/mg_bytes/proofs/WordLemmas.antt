-- The words of a line, one after the other.
use Rattle.std.proofs.Common.{take, drop, eqb, get_or, zero, add-one, ◌<◌, ◌≡◌, ◌≢◌, ℕ, ◌+◌, suc, true, false, cond, List, [], ◌∷◌, length, refl, sym, ap, ◌∙◌, arith, ⊎_elim, Some, None, ltb, ◌≤◌, position}
use Rattle.std.proofs.lemmas.Bool.{cases_Bool, ltb-false}
use Rattle.std.proofs.lemmas.Option.{cond_some, none-some}
use Rattle.std.specs.Prelude.{filter}
use Rattle.std.specs.List.{slice_split, position_or_len}
use Rattle.mg_bytes.proofs.PieceLemmas.{false_from_not}
use Rattle.mg_bytes.specs.Blanks.{is_blank, trimmed_start}
use Rattle.mg_bytes.specs.Words.{split_once, is_word, words, leading_word, after_word}

abbrev some : List (List ℕ) → List (List ℕ)
some parts = filter is_word parts

one_more : (n : ℕ) → 1 + n ≡ suc n
one_more n = omega arith

-- the first part is the leading word, and what is after it has the other words
record Fronts (text : List ℕ) : Type 0 where
  more : List (List ℕ)
  parts : slice_split is_blank text ≡ leading_word text ∷ more
  others : some more ≡ words (after_word text)

fronts : (text : List ℕ) → Fronts text
unfolding words
fronts [] = record { more = []; parts = refl; others = refl }
fronts (b ∷ bs) =
    let rest = fronts bs in
    ⊎_elim
    (λ (h : is_blank b ≡ true). record { more = slice_split is_blank bs; parts = rw h refl; others = rw (h, h) refl })
    (λ (h : is_blank b ≡ false). record { more = rest.more; parts = rw (h, rest.parts, one_more) refl; others = rest.others ∙ rw (h, one_more) refl })
    (cases_Bool (is_blank b))

pub words-nil : words [] ≡ []
unfolding words
words-nil = refl

pub words-trimmed_start : (text : List ℕ) → words text ≡ words (trimmed_start text)
unfolding words
words-trimmed_start [] = refl
words-trimmed_start (b ∷ bs) =
    ⊎_elim (λ (h : is_blank b ≡ true). rw h (words-trimmed_start bs)) (λ (h : is_blank b ≡ false). rw (h, h) refl) (cases_Bool (is_blank b))

-- the first byte that is left is no blank
pub trimmed_start-first : (text : List ℕ) (b : ℕ) (bs : List ℕ) → trimmed_start text ≡ b ∷ bs → is_blank b ≡ false
trimmed_start-first [] b bs e = absurd cc
trimmed_start-first (a ∷ as_) b bs e =
    ⊎_elim (λ (h : is_blank a ≡ true). trimmed_start-first as_ b bs (rw h at e)) (λ (h : is_blank a ≡ false). let same : (a ∷ as_) ≡ (b ∷ bs) = (rw h at e) in let heads : a ≡ b = cc in rw (← heads) h) (cases_Bool (is_blank a))

-- a text that begins with no blank begins with a word
pub words-front : (b : ℕ) (bs : List ℕ) → is_blank b ≡ false → words (b ∷ bs) ≡ leading_word (b ∷ bs) ∷ words (after_word (b ∷ bs))
unfolding words
words-front b bs h =
    let rest = fronts bs in
    rw (h, rest.parts, one_more) (ap (λ (ws : List (List ℕ)). (b ∷ leading_word bs) ∷ ws) rest.others)

pub words-next : (text rest : List ℕ) → trimmed_start text ≡ rest → rest ≢ [] → words text ≡ leading_word rest ∷ words (after_word rest)
words-next text [] e some = absurd (some refl)
words-next text (b ∷ bs) e some = words-trimmed_start text ∙ ap words e ∙ words-front b bs (trimmed_start-first text b bs e)

pub words-end : (text rest : List ℕ) → trimmed_start text ≡ rest → rest ≡ [] → words text ≡ []
words-end text rest e none = words-trimmed_start text ∙ ap words (e ∙ none) ∙ words-nil

-- the first blank, as a length
pub position_is : (text : List ℕ) (place : ℕ) → Some place ≡ position is_blank text → place ≡ position_or_len is_blank text
position_is text place e = sym (cond_some _ _ _ (sym e)).1

pub position_none : (text : List ℕ) → None ≡ position is_blank text → length text ≤ position_or_len is_blank text
position_none text e =
    ⊎_elim (λ h. absurd (none-some _ (e ∙ ap (λ b. cond b (Some (position_or_len is_blank text)) None) h))) (λ h. ltb-false _ _ h) (cases_Bool (ltb (position_or_len is_blank text) (length text)))

-- a split at a place
split_once_at_suc : (c : ℕ) (bs : List ℕ) (i : ℕ) → i < length bs → ((k : ℕ) → k < i → eqb (get_or bs k 0) c ≡ true → ⊥) → eqb (get_or bs i 0) c ≡ true
    → split_once c bs ≡ Some (take i bs, drop (suc i) bs)
unfolding split_once
split_once_at_suc c [] i inside none here = absurd (omega arith)
split_once_at_suc c (b ∷ bs) zero inside none here = rw here refl
split_once_at_suc c (b ∷ bs) (suc i) inside none here =
    let first : eqb b c ≡ false = false_from_not _ (none 0 (omega arith)) in
    rw (first, split_once_at_suc c bs i (omega arith) (λ k lt. none (suc k) (omega arith)) here) refl

pub split_once_at : (c : ℕ) (bs : List ℕ) (i : ℕ) → i < length bs → ((k : ℕ) → k < i → eqb (get_or bs k 0) c ≡ true → ⊥) → eqb (get_or bs i 0) c ≡ true
    → split_once c bs ≡ Some (take i bs, drop (i + 1) bs)
split_once_at c bs i inside none here = rw add-one (split_once_at_suc c bs i inside none here)

pub split_once_none : (c : ℕ) (bs : List ℕ) → ((k : ℕ) → k < length bs → eqb (get_or bs k 0) c ≡ true → ⊥) → split_once c bs ≡ None
unfolding split_once
split_once_none c [] none = refl
split_once_none c (b ∷ bs) none =
    let first : eqb b c ≡ false = false_from_not _ (none 0 (omega arith)) in
    rw (first, split_once_none c bs (λ k lt. none (suc k) (omega arith))) refl
