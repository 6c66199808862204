-- What is done with the packets that wait.
use Rattle.std.proofs.Common.{◌≡◌, ℕ, ◌+◌, ◌<◌, ◌≤◌, zero, suc, true, false, Bool, List, [], ◌∷◌, ◌++◌, length, get_or, drop, Option, Some, None, refl, ap, ◌∙◌, arith}
use Rattle.std.specs.Prelude.{nat_lt, nat_le, option_to_list}
use Rattle.std.specs.List.{insert}
use Rattle.std.specs.List.Sorted.{IsPermutation}
use Rattle.std.proofs.lemmas.Bool.{lt-ltb, le-ltb, le-leb, lt-leb, ltb-true, ltb-false}
use Rattle.std.proofs.lemmas.List.{drop_more, drop_all}
use Rattle.std.proofs.lemmas.List.Sorted.{IsPermutation-insert}
use Rattle.impairment.specs.declared.packet.Packet.{Packet}
use Rattle.impairment.specs.Waiting.{place_in, put_in, first_due, taken, IsNoLater, IsInOrder}

-- ---- the place of one more

nowhere : (due : ℕ) → place_in due [] ≡ 0
unfolding place_in
nowhere due = refl

here : (due : ℕ) (q : Packet) (more : List Packet) → due < q.due → place_in due (q ∷ more) ≡ 0
unfolding place_in
here due q more less = rw (lt-ltb due q.due less) refl

there : (due : ℕ) (q : Packet) (more : List Packet) → q.due ≤ due → place_in due (q ∷ more) ≡ suc (place_in due more)
unfolding place_in
there due q more no_less = rw (le-ltb due q.due no_less) refl

-- a walk that has come to the place
pub place_found : (due i : ℕ) (items : List Packet) (d : Packet) → i < length items → due < (get_or items i d).due
    → place_in due (drop i items) ≡ 0
place_found due i items d within less =
    ap (place_in due) (drop_more items i d within) ∙ here due (get_or items i d) (drop (i + 1) items) less

-- a walk that goes on
pub place_further : (due i : ℕ) (items : List Packet) (d : Packet) → i < length items → (get_or items i d).due ≤ due
    → place_in due (drop i items) ≡ suc (place_in due (drop (i + 1) items))
place_further due i items d within no_less =
    ap (place_in due) (drop_more items i d within) ∙ there due (get_or items i d) (drop (i + 1) items) no_less

-- a walk that has come to the end
pub place_at_end : (due i : ℕ) (items : List Packet) → length items ≤ i → place_in due (drop i items) ≡ 0
place_at_end due i items past = ap (place_in due) (drop_all i items past) ∙ nowhere due

pub ruleset walking = (place_found, place_further, place_at_end)

-- ---- one more

pub put_permutes : (p : Packet) (waiting : List Packet) → IsPermutation (p ∷ waiting) (put_in p waiting)
unfolding put_in
put_permutes p waiting = IsPermutation-insert waiting (place_in p.due waiting) p

no_later_put : (f p : Packet) (n : ℕ) (waiting : List Packet) → f.due ≤ p.due → IsNoLater f waiting → IsNoLater f (insert waiting n p)
no_later_put f p zero waiting le keeps = (le, keeps)
no_later_put f p (suc n) [] le keeps = (le, tt)
no_later_put f p (suc n) (q ∷ more) le keeps = (keeps.0, no_later_put f p n more le keeps.1)

no_later_further : (p q : Packet) (waiting : List Packet) → p.due ≤ q.due → IsNoLater q waiting → IsNoLater p waiting
no_later_further p q [] le keeps = tt
no_later_further p q (r ∷ more) le keeps = (let further = keeps.0 in omega (arith, le, further), no_later_further p q more le keeps.1)

order_inserted : (p : Packet) (waiting : List Packet) → IsInOrder waiting → IsInOrder (insert waiting (place_in p.due waiting) p)
order_inserted p [] order = rw (nowhere p.due) (tt, tt)
order_inserted p (q ∷ more) order = by_test (order_inserted p more order.1) (nat_lt p.due q.due) refl where
  by_test : IsInOrder (insert more (place_in p.due more) p) → (b : Bool) → nat_lt p.due q.due ≡ b
      → IsInOrder (insert (q ∷ more) (place_in p.due (q ∷ more)) p)
  by_test behind true is =
      let less : p.due < q.due = ltb-true p.due q.due is in
      let le : p.due ≤ q.due = omega (arith, less) in
      rw (here p.due q more less) ((le, no_later_further p q more le order.0), order)
  by_test behind false is =
      let no_less : q.due ≤ p.due = ltb-false p.due q.due is in
      rw (there p.due q more no_less)
      (no_later_put q p (place_in p.due more) more no_less order.0, behind)

pub order_put : (p : Packet) (waiting : List Packet) → IsInOrder waiting → IsInOrder (put_in p waiting)
unfolding put_in
order_put p waiting order = order_inserted p waiting order

-- ---- the first is handed out

pub took : (now due : ℕ) (items rest : List Packet) (front : Option Packet) → first_due items ≡ Some due → due ≤ now
    → items ≡ option_to_list front ++ rest → rest ≡ drop 1 items → (front, rest) ≡ taken now items
took now due [] rest front first soon all behind = absurd cc
took now due (p ∷ more) rest None first soon all behind =
    absurd (let n : length (p ∷ more) ≡ length more = ap length (all ∙ behind) in omega (arith, n))
took now due (p ∷ more) rest (Some x) first soon all behind =
    let moment : p.due ≡ due = cc in
    let is : nat_le p.due now ≡ true = le-leb p.due now (omega (arith, moment, soon)) in
    let same : x ≡ p = cc in
    rw is (rw (same, behind) refl)

pub stayed : (now due : ℕ) (items : List Packet) → first_due items ≡ Some due → now < due → (None, items) ≡ taken now items
stayed now due [] first before = absurd cc
stayed now due (p ∷ more) first before =
    let moment : p.due ≡ due = cc in
    let is : nat_le p.due now ≡ false = lt-leb p.due now (omega (arith, moment, before)) in
    rw is refl

pub empty_stayed : (now : ℕ) (items : List Packet) → first_due items ≡ None → (None, items) ≡ taken now items
empty_stayed now [] first = refl
empty_stayed now (p ∷ more) first = absurd cc

-- ---- the first

pub first_some : (items : List Packet) (p : Packet) → 0 < length items → ((d : Packet) → p ≡ get_or items 0 d) → Some p.due ≡ first_due items
first_some [] p some same = absurd (omega (arith, some))
first_some (q ∷ more) p some same = let is : p ≡ q = same p in rw is refl

pub first_none : (items : List Packet) → length items ≤ 0 → None ≡ first_due items
first_none [] none = refl
first_none (q ∷ more) none = absurd (omega (arith, none))
