-- Texts whose parentheses are closed, at any depth.
use Rattle.std.proofs.Common.{◌≡◌, ℕ, suc, true, false, List, [], ◌∷◌, ◌++◌, refl, ap, ◌∙◌, append-nil, arith, Some}
use Rattle.std.specs.List.{AllByRecursion, join_with_byte}
use Rattle.std.proofs.lemmas.Bool.Decides.{nat_tests}
use Rattle.packages.specs.declared.cut.Cut.{Cut}
use Rattle.packages.specs.declared.cut.Cut.TheVariants.{Commas, Parentheses}
use Rattle.packages.specs.Cuts.{deeper, is_cut, after, is_uncut, pieces, form_of, form_from}
use Rattle.packages.proofs.JoinLemmas.{is_calm, is_flat, flat_is_calm, is_plain, IsEntry, calm_after, calm_uncut, calm_unparted, flat_uncut, uncut_append, after_append, pieces_uncut, plain_cut, plain_grouped, some_grouped, grouped}

-- inside of parentheses it is cut nowhere, and it leaves the depth
pub record IsClosed (text : List ℕ) : Type 0 where
  pub level : (d : ℕ) → after (suc d) text ≡ suc d
  pub whole : (cut : Cut) (d : ℕ) → is_uncut cut (suc d) text ≡ true

pub calm_closed : (text : List ℕ) → is_calm text ≡ true → IsClosed text
calm_closed text calm = record { level = λ d. calm_after (suc d) text calm; whole = calm_whole text calm }
  where
    calm_whole : (text : List ℕ) → is_calm text ≡ true → (cut : Cut) (d : ℕ) → is_uncut cut (suc d) text ≡ true
    calm_whole text calm Commas d = calm_uncut d text calm
    calm_whole text calm Parentheses d = calm_unparted (suc d) text calm

pub closed_append : (a b : List ℕ) → IsClosed a → IsClosed b → IsClosed (a ++ b)
closed_append a b ha hb = record {
  level = λ (d : ℕ). after_append (suc d) a b ∙ rw (ha.level d) (hb.level d);
  whole = λ (cut : Cut) (d : ℕ). uncut_append cut (suc d) a b (ha.whole cut d) (rw (ha.level d) (hb.whole cut d));
}

opens : (d : ℕ) → deeper d 40 ≡ suc d
opens d = omega arith

closes : (d : ℕ) → deeper (suc d) 41 ≡ d
closes d = omega arith

open_uncut : (cut : Cut) (d : ℕ) → is_cut cut (suc d) 40 ≡ false
open_uncut Commas d = grind (arith, nat_tests)
open_uncut Parentheses d = grind (arith, nat_tests)

close_uncut : (cut : Cut) (d : ℕ) → is_cut cut (suc (suc d)) 41 ≡ false
close_uncut Commas d = grind (arith, nat_tests)
close_uncut Parentheses d = grind (arith, nat_tests)

comma_uncut : (cut : Cut) (d : ℕ) → is_cut cut (suc d) 44 ≡ false
comma_uncut Commas d = grind (arith, nat_tests)
comma_uncut Parentheses d = grind (arith, nat_tests)

-- parentheses round it, and a name before them
pub closed_group : (head inside : List ℕ) → is_flat head ≡ true → IsClosed inside → IsClosed (grouped head inside)
closed_group head inside flat h =
    let front = calm_closed head (flat_is_calm head flat) in
    let round : IsClosed (40 ∷ (inside ++ (41 ∷ []))) = record {
      level = λ (d : ℕ).
          ap (λ x. after x (inside ++ (41 ∷ []))) (opens (suc d)) ∙ after_append (suc (suc d)) inside (41 ∷ [])
          ∙ ap (λ x. after x (41 ∷ [])) (h.level (suc d)) ∙ closes (suc d);
      whole = λ (cut : Cut) (d : ℕ).
          rw (open_uncut cut d)
          (ap (λ x. is_uncut cut x (inside ++ (41 ∷ []))) (opens (suc d))
          ∙ uncut_append cut (suc (suc d)) inside (41 ∷ []) (h.whole cut (suc d))
          (ap (λ x. is_uncut cut x (41 ∷ [])) (h.level (suc d)) ∙ rw (close_uncut cut d) refl));
    } in
    closed_append head (40 ∷ (inside ++ (41 ∷ []))) front round

pub closed_comma : (text : List ℕ) → IsClosed text → IsClosed (44 ∷ text)
closed_comma text h = record {
  level = λ (d : ℕ). h.level d;
  whole = λ (cut : Cut) (d : ℕ). rw (comma_uncut cut d) (h.whole cut d);
}

pub closed_join : (e : List ℕ) (es : List (List ℕ)) → AllByRecursion IsClosed (e ∷ es) → IsClosed (join_with_byte 44 (e ∷ es))
closed_join e [] h = h.0
closed_join e (f ∷ fs) h = closed_append e (44 ∷ join_with_byte 44 (f ∷ fs)) h.0 (closed_comma (join_with_byte 44 (f ∷ fs)) (closed_join f fs h.1))

pub closed_entry : (head inside : List ℕ) → is_flat head ≡ true → is_plain head ≡ true → IsClosed inside → is_plain inside ≡ true
    → IsEntry (grouped head inside)
closed_entry head inside flat plain h inner =
    let level : after 0 head ≡ 0 = calm_after 0 head (flat_is_calm head flat) in
    let ending : is_uncut Commas 1 (inside ++ (41 ∷ [])) ≡ true =
    uncut_append Commas 1 inside (41 ∷ []) (h.whole Commas 0) (ap (λ d. is_uncut Commas d (41 ∷ [])) (h.level 0)) in
    record {
      uncut = uncut_append Commas 0 head _ (flat_uncut 0 head flat) (rw (level, ending) refl);
      closed = after_append 0 head _ ∙ rw (level, after_append 1 inside (41 ∷ []), h.level 0) refl;
      plain = plain_grouped head inside plain inner;
      some = some_grouped head _ 40;
    }

pub closed_form : (head inside : List ℕ) → is_flat head ≡ true → is_plain head ≡ true → IsClosed inside → is_plain inside ≡ true
    → form_of (grouped head inside) ≡ Some (record { head = head; inside = inside ∷ [] })
unfolding form_of pieces
closed_form head inside flat plain h inner =
    let level : after 0 head ≡ 0 = calm_after 0 head (flat_is_calm head flat) in
    let second : pieces Parentheses 1 (inside ++ (41 ∷ [])) ≡ inside ∷ [] ∷ [] =
    pieces_uncut Parentheses 1 inside (41 ∷ []) (h.whole Parentheses 0) ∙ rw (h.level 0) (ap (λ x. x ∷ [] ∷ []) (append-nil inside)) in
    let first : pieces Parentheses 0 (grouped head inside) ≡ head ∷ inside ∷ [] ∷ [] =
    pieces_uncut Parentheses 0 head _ (calm_unparted 0 head (flat_is_calm head flat))
    ∙ rw (level, second) (ap (λ x. x ∷ inside ∷ [] ∷ []) (append-nil head)) in
    ap form_from (plain_cut Parentheses 0 (grouped head inside) (plain_grouped head inside plain inner) ∙ first)
