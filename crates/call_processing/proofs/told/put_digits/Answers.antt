use Rattle.std.proofs.Common.{◌≡◌, ℕ, zero, suc, ◌+◌, ◌<◌, ◌≤◌, true, List, [], ◌∷◌, ◌++◌, length, get_or, drop}
use Rattle.std.proofs.Common.{Result, Ok, Err, OnErr, refl, sym, ap, ◌∙◌, append_assoc, append-nil}
use Rattle.std.proofs.lemmas.List.{drop_more, at_drop_more, at_drop_all}
use Rattle.packages.specs.declared.observed.Observed.{Observed}
use Rattle.call_processing.specs.Numbers.{digits_told, digits_of, any_digit}
use Rattle.call_processing.proofs.told.put_digits.Goals as goal

-- the digit that one event is, is put, and those of what is behind it are left
goes_on : (observed : List Observed) (place : ℕ) (one : Observed) (out next whole : List ℕ) → place < length observed
    → next ≡ out ++ digits_told (get_or observed place one)
    → out ++ digits_of (drop place observed) ≡ whole → next ++ digits_of (drop (place + 1) observed) ≡ whole
goes_on observed place one out next whole within put so_far =
    ap (λ front. front ++ digits_of (drop (place + 1) observed)) put
    ∙ append_assoc out (digits_told (get_or observed place one)) (digits_of (drop (place + 1) observed))
    ∙ ap (λ left. out ++ digits_of left) (sym (drop_more observed place one within))
    ∙ so_far

-- none is left
is_over : (observed : List Observed) (place : ℕ) (out whole : List ℕ) → length observed ≤ place
    → out ++ digits_of (drop place observed) ≡ whole → out ≡ whole
is_over observed place out whole past so_far =
    sym (append-nil out) ∙ ap (λ left. out ++ left) (sym (at_drop_all digits_of observed place past)) ∙ so_far

-- there is a digit where there is one in a part
any_in_front : (front behind : List ℕ) → any_digit front ≡ true → any_digit (front ++ behind) ≡ true
any_in_front [] behind any = absurd cc
any_in_front (digit ∷ more) behind any = refl

any_behind : (front behind : List ℕ) → any_digit behind ≡ true → any_digit (front ++ behind) ≡ true
any_behind [] behind any = any
any_behind (digit ∷ more) behind any = refl

any_in_rest : (observed : List Observed) (place : ℕ) → any_digit (digits_of (drop place observed)) ≡ true
    → any_digit (digits_of observed) ≡ true
any_in_rest observed zero any = any
any_in_rest [] (suc place) any = any
any_in_rest (one ∷ more) (suc place) any = any_behind (digits_told one) (digits_of more) (any_in_rest more place any)

any_at : (observed : List Observed) (place : ℕ) (one : Observed) → place < length observed
    → any_digit (digits_told (get_or observed place one)) ≡ true → any_digit (digits_of observed) ≡ true
any_at observed place one within any =
    any_in_rest observed place
    (at_drop_more (λ left. any_digit (digits_of left)) observed place one within
    ∙ any_in_front (digits_told (get_or observed place one)) (digits_of (drop (place + 1) observed)) any)

pub loop-one-preserved : goal.loop-one-preserved
loop-one-preserved c =
    goes_on c.args.observed.now c.loop-one.one-index _ _ _ _ c.loop-one-test.true c.in_ok-put_digit.ensures.ok c.loop-one.invariant

pub returns-clause-ok : goal.returns-clause-ok
returns-clause-ok c = is_over c.args.observed.now c.loop-one.one-index _ _ c.loop-one-test.false c.loop-one.invariant

on_err : {A E : Type 0} {P : Type 0} (result : Result A E) → P → OnErr result P
on_err (Ok value) so = tt
on_err (Err error) so = so

pub returns-in_err-put_digit-clause-memory : goal.returns-in_err-put_digit-clause-memory
returns-in_err-put_digit-clause-memory c =
    on_err c.from_residual.result
    (any_at c.args.observed.now c.loop-one.one-index _ c.loop-one-test.true c.in_err-put_digit.ensures.memory)
