-- What is kept of texts that are offered one behind the other.
use Rattle.std.proofs.Common.{◌≡◌, ℕ, zero, suc, ◌+◌, ◌-◌, ◌≤◌, ◌&&◌, List, [], ◌∷◌, ◌++◌, length, take, drop, refl, sym, ap, ◌∙◌, arith, ⊎_elim}
use Rattle.std.specs.Prelude.{Bool, true, false, not, ◌||◌, min, nat_le, if◌then◌else◌, ◌^◌}
use Rattle.std.specs.List.{concat}
use Rattle.std.proofs.lemmas.Bool.{cases_Bool, le-leb}
use Rattle.std.proofs.lemmas.Bool.Decides.{nat_tests}
use Rattle.std.proofs.lemmas.List.{append-nil, append_assoc, length-append}
use Rattle.output_queues.specs.Backlog.{BacklogState, sum_within, lines_ended, is_kept, room_left, with_text, without_text, offered, offered_all, kept_of, lines_of_all}

-- where a text is kept
kept_step : (room : ℕ) (backlog : BacklogState) (text : List ℕ) (texts : List (List ℕ)) → is_kept room backlog text ≡ true
    → offered_all room backlog (text ∷ texts) ≡ offered_all room (with_text backlog text) texts
unfolding offered offered_all
kept_step room backlog text texts is = rw is refl

-- and where it isn't
dropped_step : (room : ℕ) (backlog : BacklogState) (text : List ℕ) (texts : List (List ℕ)) → is_kept room backlog text ≡ false
    → offered_all room backlog (text ∷ texts) ≡ offered_all room (without_text backlog text) texts
unfolding offered offered_all
dropped_step room backlog text texts is = rw is refl

-- nothing is kept where it is full
full_keeps : (room : ℕ) (backlog : BacklogState) (text : List ℕ) → backlog.is_full ≡ true → is_kept room backlog text ≡ false
full_keeps room backlog text full = rw full refl

full_waits : (room : ℕ) (backlog : BacklogState) (texts : List (List ℕ)) → backlog.is_full ≡ true
    → (offered_all room backlog texts).waiting ≡ backlog.waiting
unfolding offered_all
full_waits room backlog [] full = refl
full_waits room backlog (text ∷ texts) full =
    ap (λ (b : BacklogState). b.waiting) (dropped_step room backlog text texts (full_keeps room backlog text full))
    ∙ full_waits room (without_text backlog text) texts refl

sums : (a b c : ℕ) → sum_within (sum_within a b) c ≡ sum_within a (b + c)
sums a b c = omega arith

full_counts : (room : ℕ) (backlog : BacklogState) (texts : List (List ℕ)) → backlog.is_full ≡ true → backlog.dropped ≤ 2 ^ 64 - 1
    → (offered_all room backlog texts).dropped ≡ sum_within backlog.dropped (lines_of_all texts)
unfolding offered_all lines_of_all
full_counts room backlog [] full few = omega arith
full_counts room backlog (text ∷ texts) full few =
    ap (λ (b : BacklogState). b.dropped) (dropped_step room backlog text texts (full_keeps room backlog text full))
    ∙ full_counts room (without_text backlog text) texts refl (omega arith)
    ∙ sums backlog.dropped (lines_ended text) (lines_of_all texts)

pub kept : (room : ℕ) (backlog : BacklogState) (texts : List (List ℕ))
    → (offered_all room backlog texts).waiting ≡ backlog.waiting ++ concat (take (kept_of room backlog texts) texts)
unfolding offered_all kept_of
kept room backlog [] = sym (append-nil backlog.waiting)
kept room backlog (text ∷ texts) = ⊎_elim
    (λ (is : is_kept room backlog text ≡ true). rw is
    (ap (λ (b : BacklogState). b.waiting) (kept_step room backlog text texts is)
    ∙ kept room (with_text backlog text) texts
    ∙ append_assoc backlog.waiting text (concat (take (kept_of room (with_text backlog text) texts) texts))))
    (λ (is : is_kept room backlog text ≡ false). rw is
    (ap (λ (b : BacklogState). b.waiting) (dropped_step room backlog text texts is)
    ∙ full_waits room (without_text backlog text) texts refl
    ∙ sym (append-nil backlog.waiting)))
    (cases_Bool (is_kept room backlog text))

pub counted : (room : ℕ) (backlog : BacklogState) (texts : List (List ℕ)) → backlog.dropped ≤ 2 ^ 64 - 1
    → (offered_all room backlog texts).dropped
    ≡ sum_within backlog.dropped (lines_of_all (drop (kept_of room backlog texts) texts))
unfolding offered_all kept_of lines_of_all
counted room backlog [] few = omega arith
counted room backlog (text ∷ texts) few = ⊎_elim
    (λ (is : is_kept room backlog text ≡ true). rw is
    (ap (λ (b : BacklogState). b.dropped) (kept_step room backlog text texts is)
    ∙ counted room (with_text backlog text) texts few))
    (λ (is : is_kept room backlog text ≡ false). rw is
    (ap (λ (b : BacklogState). b.dropped) (dropped_step room backlog text texts is)
    ∙ full_counts room (without_text backlog text) texts refl (omega arith)
    ∙ sums backlog.dropped (lines_ended text) (lines_of_all texts)))
    (cases_Bool (is_kept room backlog text))

-- a text that is kept has room
has_room : (room : ℕ) (backlog : BacklogState) (text : List ℕ) → is_kept room backlog text ≡ true
    → length backlog.waiting + length text ≤ room
has_room room backlog text is = grind (arith, nat_tests)

pub few : (room : ℕ) (backlog : BacklogState) (texts : List (List ℕ)) → length backlog.waiting ≤ room
    → length (offered_all room backlog texts).waiting ≤ room
unfolding offered_all
few room backlog [] h = h
few room backlog (text ∷ texts) h = ⊎_elim
    (λ (is : is_kept room backlog text ≡ true). rw (kept_step room backlog text texts is)
    (few room (with_text backlog text) texts (rw (length-append backlog.waiting text) (has_room room backlog text is))))
    (λ (is : is_kept room backlog text ≡ false). rw (dropped_step room backlog text texts is)
    (few room (without_text backlog text) texts h))
    (cases_Bool (is_kept room backlog text))

-- what has room is kept
kept_within : (full over : Bool) (room waiting count : ℕ) → suc count ≤ (if full || over then 0 else room - waiting)
    → (not full && not over && nat_le (waiting + suc count) room) ≡ true
kept_within true over room waiting count within = let none : suc count ≤ 0 = within in absurd (omega (arith, none))
kept_within false true room waiting count within = let none : suc count ≤ 0 = within in absurd (omega (arith, none))
kept_within false false room waiting count within =
    let few : suc count ≤ room - waiting = within in
    le-leb (waiting + suc count) room (omega (arith, few))

pub room_is_kept : (room byte : ℕ) (text : List ℕ) (backlog : BacklogState) → length (byte ∷ text) ≤ room_left room backlog
    → is_kept room backlog (byte ∷ text) ≡ true
room_is_kept room byte text backlog within =
    kept_within backlog.is_full backlog.is_over room (length backlog.waiting) (length text) within
