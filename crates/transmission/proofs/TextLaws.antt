-- How many texts a datagram has.
use Rattle.std.proofs.Common.{◌≡◌, ℕ, zero, suc, ◌<◌, ◌≤◌, ◌+◌, ◌*◌, Bool, true, false, List, [], ◌∷◌, length, refl, sym, ap, ◌∙◌, arith, codes, ⊎_elim, inl, inr}
use Rattle.std.specs.Prelude.{nat_lt, if◌then◌else◌}
use Rattle.std.specs.List.{concat, onto_first}
use Rattle.std.proofs.lemmas.Bool.{cases_Bool, ltb-false, ltb-true}
use Rattle.std.proofs.lemmas.List.{length-append, length-map}
use Rattle.mg_bytes.specs.Blanks.{trimmed_end, trimmed}
use Rattle.mg_bytes.specs.Lines.{cut, is_line_feed, is_dot_line}
use Rattle.mg_bytes.proofs.PieceLemmas.{cut-nil, concat-cut}
use Rattle.mg_bytes.proofs.CutLemmas.{IsEnded, AreLines, cut_ended, lines-cut}
use Rattle.mgcp_text.specs.Parts.{parts_of}
use Rattle.mgcp_text.proofs.SplitLemmas.{split, split_dot, split_other, split_some}
use Rattle.transmission.specs.Texts.{largest_datagram, most_texts, texts_of}
use Rattle.transmission.specs.Example.{dot_lines}

-- a line that is a single dot has a byte, and one with its end has two

nothing : is_dot_line [] ≡ false
unfolding trimmed trimmed_end
nothing = refl

feed_alone : (b : ℕ) → is_line_feed b ≡ true → is_dot_line (b ∷ []) ≡ false
unfolding trimmed trimmed_end
feed_alone b feed = rw feed refl

dot_some : (line : List ℕ) → is_dot_line line ≡ true → 0 < length line
dot_some [] dot = absurd (let no : true ≡ false = sym dot ∙ nothing in cc)
dot_some (b ∷ bs) dot = omega arith

ended_some : (line : List ℕ) → IsEnded line → 0 < length line
ended_some [] ended = absurd ended
ended_some (b ∷ bs) ended = omega arith

dot_ended : (line : List ℕ) → IsEnded line → is_dot_line line ≡ true → 1 < length line
dot_ended [] ended dot = absurd ended
dot_ended (b ∷ bs) ended dot =
    ⊎_elim
    (λ (h : (is_line_feed b ≡ true) × (bs ≡ [])). absurd (let no : true ≡ false = sym (rw h.1 at dot) ∙ feed_alone b h.0 in cc))
    (λ (h : (is_line_feed b ≡ false) × IsEnded bs). omega (arith, ended_some bs h.1))
    ended

-- so parts take two bytes each, but for the first and the last

onto_some : (line : List ℕ) (parts : List (List (List ℕ))) → 0 < length parts → length (onto_first line parts) ≡ length parts
onto_some line [] some = absurd (omega arith)
onto_some line (part ∷ parts) some = refl

few_split : (lines : List (List ℕ)) → AreLines lines → 2 * length (split lines) ≤ length (concat lines) + 3
few_split [] are = omega arith
few_split (line ∷ []) are =
    ⊎_elim
    (λ (dot : is_dot_line line ≡ true). rw (split_dot line [] dot) (omega (arith, dot_some line dot, length-append line [])))
    (λ (other : is_dot_line line ≡ false). rw (split_other line [] other) (omega arith))
    (cases_Bool (is_dot_line line))
few_split (line ∷ next ∷ lines) are =
    let rest = few_split (next ∷ lines) are.1 in
    let size = length-append line (concat (next ∷ lines)) in
    ⊎_elim
    (λ (dot : is_dot_line line ≡ true). rw (split_dot line (next ∷ lines) dot) (omega (arith, dot_ended line are.0 dot, rest, size)))
    (λ (other : is_dot_line line ≡ false). rw (split_other line (next ∷ lines) other)
    (omega (arith, onto_some line (split (next ∷ lines)) (split_some (next ∷ lines)), rest, size)))
    (cases_Bool (is_dot_line line))

few_parts : (datagram : List ℕ) → 2 * length (parts_of datagram) ≤ length datagram + 3
unfolding parts_of
few_parts datagram =
    let few : 2 * length (split (cut datagram)) ≤ length datagram + 3 = rw (concat-cut datagram) at (few_split (cut datagram) (lines-cut datagram)) in
    omega (arith, length-map (split (cut datagram)) concat, few)

-- a datagram within the limit has at most so many parts, and any has at most so many texts

pub few_within : (datagram : List ℕ) → length datagram ≤ largest_datagram → length (parts_of datagram) ≤ most_texts
few_within datagram short = omega (arith, few_parts datagram, short)

pub few_texts : (datagram : List ℕ) → length (texts_of datagram) ≤ most_texts
unfolding texts_of
few_texts datagram = by_length (nat_lt largest_datagram (length datagram)) refl where
  by_length : (long : Bool) → nat_lt largest_datagram (length datagram) ≡ long → length (if long then [] else parts_of datagram) ≤ most_texts
  by_length true e = omega arith
  by_length false e = few_within datagram (ltb-false _ _ e)

-- lines of dots

pub length-dot_lines : (n : ℕ) → length (dot_lines n) ≡ 2 * n
unfolding dot_lines
length-dot_lines zero = refl
length-dot_lines (suc n) = omega (arith, length-dot_lines n)

dot_line : is_dot_line (codes ".\n") ≡ true
unfolding trimmed trimmed_end
dot_line = refl

split-dot_lines : (n : ℕ) → length (split (cut (dot_lines n))) ≡ suc n
unfolding dot_lines
split-dot_lines zero = ap (λ (lines : List (List ℕ)). length (split lines)) cut-nil
split-dot_lines (suc n) =
    ap (λ (lines : List (List ℕ)). length (split lines)) (cut_ended (codes ".\n") (dot_lines n) (inr (refl, inl (refl, refl))))
    ∙ ap length (split_dot (codes ".\n") (cut (dot_lines n)) dot_line)
    ∙ ap suc (split-dot_lines n)

-- as many as fit have a text between each two, and one at each end
pub texts-dot_lines : (n : ℕ) → 2 * n ≤ largest_datagram → length (texts_of (dot_lines n)) ≡ n + 1
unfolding texts_of parts_of
texts-dot_lines n fits = by_length (nat_lt largest_datagram (length (dot_lines n))) refl where
  by_length : (long : Bool) → nat_lt largest_datagram (length (dot_lines n)) ≡ long → length (if long then [] else parts_of (dot_lines n)) ≡ n + 1
  by_length true e = absurd (let more : largest_datagram < length (dot_lines n) = ltb-true _ _ e in omega (arith, more, fits, length-dot_lines n))
  by_length false e = omega (arith, length-map (split (cut (dot_lines n))) concat, split-dot_lines n)

pub too_many-dot_lines : (n : ℕ) → largest_datagram < 2 * n → texts_of (dot_lines n) ≡ []
unfolding texts_of
too_many-dot_lines n more = by_length (nat_lt largest_datagram (length (dot_lines n))) refl where
  by_length : (long : Bool) → nat_lt largest_datagram (length (dot_lines n)) ≡ long → ◌≡◌ {A = List (List ℕ)} (if long then [] else parts_of (dot_lines n)) []
  by_length true e = refl
  by_length false e = absurd (let few = ltb-false _ _ e in omega (arith, few, more, length-dot_lines n))
