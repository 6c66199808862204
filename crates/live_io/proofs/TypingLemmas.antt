-- What stands behind lines of a text is an end of it.
use Rattle.std.proofs.Common.{◌≡◌, ℕ, zero, suc, ◌+◌, ◌-◌, length, take, drop, List, [], ◌∷◌, ◌++◌, Option, Some, None, refl, sym, ◌∙◌, ap, subst, arith, append_assoc}
use Rattle.std.specs.Prelude.{is_none, Bool, false}
use Rattle.std.specs.Borrow.{Bor}
use Rattle.std.specs.List.{concat}
use Rattle.std.proofs.lemmas.List.{length-append}
use Rattle.mg_bytes.specs.Lines.{cut, line_of, TakesLine}
use Rattle.mg_bytes.specs.Lists.{is_empty}
use Rattle.live_io.specs.Requests.{is_request, requests_from}
use Rattle.live_io.specs.Typing.{behind, EndsWith}

pub behind_is : (old new : List (List ℕ)) (given : Option (Bor (List ℕ))) → TakesLine old given new → new ≡ behind old
behind_is old new None t = t.1 ∙ sym (ap behind t.0)
behind_is old new (Some line) t = sym (ap behind t.1)

pub takes_first : (old new : List (List ℕ)) (given : Option (Bor (List ℕ))) → TakesLine old given new → TakesLine old given (behind old)
takes_first old new None t = (t.0, ap behind t.0)
takes_first old new (Some line) t = (t.0, t.1 ∙ ap (λ (more : List (List ℕ)). t.0 ∷ more) (sym (ap behind t.1)), t.2)

pub ends_itself : (text : List ℕ) → EndsWith text text
ends_itself text = ([], refl)

pub ends_empty : (text : List ℕ) → EndsWith text []
ends_empty text = (text, sym (append_nil text)) where
  append_nil : (xs : List ℕ) → xs ++ [] ≡ xs
  append_nil [] = refl
  append_nil (x ∷ xs) = ap (λ (l : List ℕ). x ∷ l) (append_nil xs)

pub ruleset endings = (ends_itself, ends_empty)

pub ends_on : (text middle end : List ℕ) → EndsWith text middle → EndsWith middle end → EndsWith text end
ends_on text middle end a b = (a.0 ++ b.0, a.1 ∙ ap (λ (l : List ℕ). a.0 ++ l) b.1 ∙ sym (append_assoc a.0 b.0 end))

pub ends_behind : (old new : List (List ℕ)) (given : Option (Bor (List ℕ))) → TakesLine old given new → EndsWith (concat old) (concat new)
ends_behind old new None t = ([], ap concat t.0 ∙ sym (ap concat t.1))
ends_behind old new (Some line) t = (t.0, ap concat t.1)

drop_front : (before end : List ℕ) → drop (length before) (before ++ end) ≡ end
drop_front [] end = refl
drop_front (x ∷ before) end = drop_front before end

pub place_is : (text end : List ℕ) → EndsWith text end → drop (length text - length end) text ≡ end
place_is text end e =
    let long : length text ≡ length e.0 + length end = ap length e.1 ∙ length-append e.0 end in
    let place : length text - length end ≡ length e.0 = omega (arith, long) in
    ap (λ (n : ℕ). drop n text) place ∙ ap (drop (length e.0)) e.1 ∙ drop_front e.0 end

pub left_ends : (text : List ℕ) (begin : ℕ) → EndsWith text (drop begin text)
left_ends text begin = (take begin text, front begin text) where
  front : (n : ℕ) (xs : List ℕ) → xs ≡ take n xs ++ drop n xs
  front zero xs = refl
  front (suc n) [] = refl
  front (suc n) (x ∷ xs) = ap (λ (l : List ℕ). x ∷ l) (front n xs)

pub is_left : (old new : List (List ℕ)) (given : Option (Bor (List ℕ))) → TakesLine old given new → is_empty old ≡ is_none given
is_left old new None t = ap is_empty t.0
is_left old new (Some line) t = ap is_empty t.1

-- behind a line that is passed over
pub ends_further : (text rest : List ℕ) (old new : List (List ℕ)) (given : Option (Bor (List ℕ))) → TakesLine old given new → concat old ≡ rest
    → EndsWith text rest → EndsWith text (concat new)
ends_further text rest old new given t is ends =
    ends_on text (concat old) (concat new) (subst (EndsWith text) (sym is) ends) (ends_behind old new given t)

requests_step : (piece : List ℕ) (pieces : List (List ℕ)) → is_request (line_of piece) ≡ false → requests_from (piece ∷ pieces) ≡ requests_from pieces
unfolding requests_from
requests_step piece pieces other = rw other refl

pub passes : (old new all : List (List ℕ)) (line : Bor (List ℕ)) → TakesLine old (Some line) new → is_request line.now ≡ false → requests_from old ≡ all
    → requests_from new ≡ all
passes old new all line t other is =
    sym (ap requests_from t.1 ∙ requests_step t.0 new (ap is_request (sym t.2) ∙ other)) ∙ is
