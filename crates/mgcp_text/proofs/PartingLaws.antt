-- A datagram is parted in one way.
use Rattle.std.proofs.Common.{◌≡◌, ℕ, ◌<◌, ◌≤◌, ◌+◌, true, false, List, [], ◌∷◌, ◌++◌, length, map, All, refl, sym, ap, ◌∙◌, arith, ⊎_elim}
use Rattle.std.specs.List.{concat, list_any, onto_first}
use Rattle.std.proofs.lemmas.Bool.{cases_Bool}
use Rattle.std.proofs.lemmas.List.{append-nil, length-append, length-map}
use Rattle.std.proofs.lemmas.List.Elements.{All-nil, All-cons, All-head, All-tail, All-weaker, All-map}
use Rattle.mg_bytes.specs.Lines.{cut, is_dot_line}
use Rattle.mg_bytes.proofs.PieceLemmas.{cut-nil, concat-cut, length-cut}
use Rattle.mgcp_text.specs.Parts.{has_dot_line, IsPartedInto, parts_of}
use Rattle.mgcp_text.proofs.SplitLemmas.{split, split_dot, split_other, split_apart, split_joined, split_only, split_some, split_none, neither}
use Rattle.mg_bytes.proofs.CutLemmas.{IsEnded, AreLines, cut_ended, lines-cut}

-- a part's bytes are cut into its lines again
again_last : (line : List ℕ) → cut line ≡ line ∷ [] → map cut (map concat (onto_first line ([] ∷ []))) ≡ onto_first line ([] ∷ [])
again_last line alone = rw (append-nil, alone) refl

again_onto : (line : List ℕ) (parts : List (List (List ℕ))) → IsEnded line → 0 < length parts → map cut (map concat parts) ≡ parts → map cut (map concat (onto_first line parts)) ≡ onto_first line parts
again_onto line [] ended some again = absurd (omega arith)
again_onto line (part ∷ parts) ended some again =
    let first : cut (line ++ concat part) ≡ line ∷ cut (concat part) = cut_ended line (concat part) ended in
    cc

pub cut_again : (lines : List (List ℕ)) → AreLines lines → map cut (map concat (split lines)) ≡ split lines
cut_again [] are = ap (λ (part : List (List ℕ)). part ∷ []) cut-nil
cut_again (line ∷ []) are =
    ⊎_elim
    (λ (dot : is_dot_line line ≡ true). rw (split_dot line [] dot, cut-nil) refl)
    (λ (other : is_dot_line line ≡ false). rw (split_other line [] other) (again_last line are))
    (cases_Bool (is_dot_line line))
cut_again (line ∷ next ∷ lines) are =
    let again = cut_again (next ∷ lines) are.1 in
    ⊎_elim
    (λ (dot : is_dot_line line ≡ true). rw (split_dot line (next ∷ lines) dot, cut-nil) (ap (λ (parts : List (List (List ℕ))). [] ∷ parts) again))
    (λ (other : is_dot_line line ≡ false). rw (split_other line (next ∷ lines) other) (again_onto line (split (next ∷ lines)) are.0 (split_some (next ∷ lines)) again))
    (cases_Bool (is_dot_line line))

any_map : (texts : List (List ℕ)) → list_any has_dot_line texts ≡ list_any (list_any is_dot_line) (map cut texts)
any_map [] = refl
any_map (text ∷ texts) = rw (any_map texts) refl

pub parting_some : (datagram : List ℕ) → IsPartedInto datagram (parts_of datagram)
unfolding parts_of
parting_some datagram =
    let again : map cut (map concat (split (cut datagram))) ≡ split (cut datagram) = cut_again (cut datagram) (lines-cut datagram) in
    record {
      apart = any_map (parts_of datagram) ∙ ap (list_any (list_any is_dot_line)) again ∙ split_apart (cut datagram);
      lines = rw again (split_joined (cut datagram));
    }

concat_again : (texts : List (List ℕ)) → map concat (map cut texts) ≡ texts
concat_again [] = refl
concat_again (text ∷ texts) = rw (concat-cut text, concat_again texts) refl

pub parting_only : (datagram : List ℕ) (texts : List (List ℕ)) → IsPartedInto datagram texts → texts ≡ parts_of datagram
unfolding parts_of
parting_only datagram texts is =
    let parts : split (cut datagram) ≡ map cut texts = split_only (map cut texts) (cut datagram) (sym (any_map texts) ∙ is.apart) is.lines in
    sym (ap (map concat) parts ∙ concat_again texts)

length_onto : (line : List ℕ) (parts : List (List (List ℕ))) (n : ℕ) → length parts ≤ n + 1 → length (onto_first line parts) ≤ n + 1 + 1
length_onto line [] n few = omega arith
length_onto line (part ∷ parts) n few = omega arith

length-split : (lines : List (List ℕ)) → length (split lines) ≤ length lines + 1
length-split [] = omega arith
length-split (line ∷ lines) =
    ⊎_elim
    (λ (dot : is_dot_line line ≡ true). rw (split_dot line lines dot) (omega (arith, length-split lines)))
    (λ (other : is_dot_line line ≡ false). rw (split_other line lines other) (omega (arith, length_onto line (split lines) (length lines) (length-split lines))))
    (cases_Bool (is_dot_line line))

-- there are no more parts than bytes, and one
pub length-parts_of : (datagram : List ℕ) → length (parts_of datagram) ≤ length datagram + 1
unfolding parts_of
length-parts_of datagram = omega (arith, length-map (split (cut datagram)) concat, length-split (cut datagram), length-cut datagram)

-- no line is in two parts
short_onto : (line : List ℕ) (lines : List (List ℕ)) (parts : List (List (List ℕ))) → All (λ part. length (concat part) ≤ length (concat lines)) parts → 0 < length parts
    → All (λ part. length (concat part) ≤ length (concat (line ∷ lines))) (onto_first line parts)
short_onto line lines [] short some = absurd (omega arith)
short_onto line lines (part ∷ parts) short some =
    let IsShort : List (List ℕ) → Type 0 = λ ls. length (concat ls) ≤ length (concat lines) in
    let IsShorter : List (List ℕ) → Type 0 = λ ls. length (concat ls) ≤ length (concat (line ∷ lines)) in
    let first : length (concat part) ≤ length (concat lines) = All-head IsShort part parts short in
    All-cons IsShorter (line ∷ part) parts (omega (arith, length-append line (concat part), length-append line (concat lines)))
    (All-weaker IsShort IsShorter (λ ls h. omega (arith, length-append line (concat lines))) parts (All-tail IsShort part parts short))

short_dot : (dot : List ℕ) (lines : List (List ℕ)) (parts : List (List (List ℕ))) → All (λ part. length (concat part) ≤ length (concat lines)) parts
    → All (λ part. length (concat part) ≤ length (concat (dot ∷ lines))) ([] ∷ parts)
short_dot dot lines parts short =
    let IsShort : List (List ℕ) → Type 0 = λ ls. length (concat ls) ≤ length (concat lines) in
    let IsShorter : List (List ℕ) → Type 0 = λ ls. length (concat ls) ≤ length (concat (dot ∷ lines)) in
    All-cons IsShorter [] parts (omega arith) (All-weaker IsShort IsShorter (λ ls h. omega (arith, length-append dot (concat lines))) parts short)

short-split : (lines : List (List ℕ)) → All (λ part. length (concat part) ≤ length (concat lines)) (split lines)
short-split [] = All-cons (λ part. length (concat part) ≤ 0) [] [] (omega arith) (All-nil (λ part. length (concat part) ≤ 0))
short-split (line ∷ lines) =
    ⊎_elim
    (λ (dot : is_dot_line line ≡ true). rw (split_dot line lines dot) (short_dot line lines (split lines) (short-split lines)))
    (λ (other : is_dot_line line ≡ false). rw (split_other line lines other) (short_onto line lines (split lines) (short-split lines) (split_some lines)))
    (cases_Bool (is_dot_line line))

-- no part is longer than its datagram
pub short-parts_of : (datagram : List ℕ) → All (λ part. length part ≤ length datagram) (parts_of datagram)
unfolding parts_of
short-parts_of datagram =
    All-map (λ part. length part ≤ length datagram) concat (split (cut datagram)) (rw (concat-cut datagram) at (short-split (cut datagram)))

-- a text without a dot line is one part
pub parts-apart : (text : List ℕ) → has_dot_line text ≡ false → parts_of text ≡ text ∷ []
unfolding parts_of
parts-apart text apart = ap (map concat) (split_none (cut text) apart) ∙ ap (λ (part : List ℕ). part ∷ []) (concat-cut text)

each_apart : (texts : List (List ℕ)) → list_any has_dot_line texts ≡ false → All (λ text. parts_of text ≡ text ∷ []) texts
each_apart [] apart = All-nil (λ text. parts_of text ≡ text ∷ [])
each_apart (text ∷ texts) apart =
    let each = neither _ _ apart in
    All-cons (λ text. parts_of text ≡ text ∷ []) text texts (parts-apart text each.0) (each_apart texts each.1)

-- a part is parted into itself
pub parts-parts : (datagram : List ℕ) → All (λ part. parts_of part ≡ part ∷ []) (parts_of datagram)
parts-parts datagram = each_apart (parts_of datagram) (parting_some datagram).apart
