-- What goes over a network comes out of it once, in order and in time, or waits.
use Rattle.std.proofs.Common.{◌≡◌, ℕ, ◌+◌, ◌<◌, ◌≤◌, ◌^◌, true, false, Bool, List, [], ◌∷◌, ◌++◌, Option, Some, None, refl, sym, ap, append_assoc, subst, arith}
use Rattle.std.specs.Prelude.{nat_le, option_to_list, All}
use Rattle.std.specs.List.Sorted.{IsPermutation}
use Rattle.std.specs.declared.net.socket_addr.SocketAddrV4.{SocketAddrV4}
use Rattle.std.proofs.lemmas.Bool.{leb-true, leb-false}
use Rattle.std.proofs.lemmas.List.{append-nil}
use Rattle.std.proofs.lemmas.List.Elements.{All-nil, All-cons}
use Rattle.std.proofs.lemmas.List.Sorted.{IsPermutation-refl, IsPermutation-sym, IsPermutation-trans, IsPermutation-middle, IsPermutation-append_left, IsPermutation-append_right, IsPermutation-append_comm}
use Rattle.impairment.specs.declared.draws.Draws.{Draws}
use Rattle.impairment.specs.declared.spoiling.Impairment.{Impairment}
use Rattle.impairment.specs.declared.fate.Fate.{Fate}
use Rattle.impairment.specs.declared.fate.Fate.TheVariants.{Lost, Once, Twice}
use Rattle.impairment.specs.declared.packet.Packet.{Packet}
use Rattle.impairment.specs.declared.packet.Way.{Way}
use Rattle.impairment.specs.Fates.{is_hit, lateness, fate_of}
use Rattle.impairment.specs.Waiting.{later, packet_of, copies_of, put_in, put_all, taken, IsNoLater, IsInOrder}
use Rattle.impairment.specs.Passing.{NetworkStep, offers, takes, Passed, opening, stepped, passed}
use Rattle.impairment.proofs.WaitingLemmas.{put_permutes, order_put}

-- ---- the copies of a packet

-- a copy is the packet itself
abbrev pub IsCopyOf : Way → SocketAddrV4 → List ℕ → ℕ → Packet → Type 0
IsCopyOf way peer bytes now p = (p.way ≡ way) × (p.peer ≡ peer) × (p.bytes ≡ bytes) × (p.offered ≡ now)

pub copies_are_copies : (fate : Fate) (way : Way) (peer : SocketAddrV4) (bytes : List ℕ) (now : ℕ)
    → All (λ p. (p.way ≡ way) × (p.peer ≡ peer) × (p.bytes ≡ bytes) × (p.offered ≡ now)) (copies_of fate way peer bytes now)
copies_are_copies Lost way peer bytes now = All-nil (IsCopyOf way peer bytes now)
copies_are_copies (Once late) way peer bytes now =
    All-cons (IsCopyOf way peer bytes now) (packet_of way peer bytes now late) [] (refl, refl, refl, refl) (All-nil (IsCopyOf way peer bytes now))
copies_are_copies (Twice first second) way peer bytes now =
    All-cons (IsCopyOf way peer bytes now) (packet_of way peer bytes now first) (packet_of way peer bytes now second ∷ [])
    (refl, refl, refl, refl)
    (All-cons (IsCopyOf way peer bytes now) (packet_of way peer bytes now second) [] (refl, refl, refl, refl)
    (All-nil (IsCopyOf way peer bytes now)))

-- a copy comes neither before its packet is offered nor later than ten seconds after that
abbrev pub IsTimely : ℕ → Packet → Type 0
IsTimely now p = (now ≤ p.due) × (p.due ≤ now + 10000)

late_enough : (now late : ℕ) → now < 2 ^ 64 → late ≤ 10000 → (now ≤ later now late) × (later now late ≤ now + 10000)
late_enough now late within soon = (omega arith, omega arith)

soon : (impairment : Impairment) (draw : ℕ) → lateness impairment draw ≤ 10000
soon impairment draw = omega arith

timely_once : (way : Way) (peer : SocketAddrV4) (bytes : List ℕ) (now late : ℕ) → now < 2 ^ 64 → late ≤ 10000
    → All (IsTimely now) (packet_of way peer bytes now late ∷ [])
timely_once way peer bytes now late within soon =
    All-cons (IsTimely now) (packet_of way peer bytes now late) [] (late_enough now late within soon) (All-nil (IsTimely now))

timely_twice : (way : Way) (peer : SocketAddrV4) (bytes : List ℕ) (now first second : ℕ) → now < 2 ^ 64 → first ≤ 10000 → second ≤ 10000
    → All (IsTimely now) (packet_of way peer bytes now first ∷ packet_of way peer bytes now second ∷ [])
timely_twice way peer bytes now first second within soon next =
    All-cons (IsTimely now) (packet_of way peer bytes now first) (packet_of way peer bytes now second ∷ [])
    (late_enough now first within soon) (timely_once way peer bytes now second within next)

pub copies_are_timely : (impairment : Impairment) (draws : Draws) (way : Way) (peer : SocketAddrV4) (bytes : List ℕ) (now : ℕ) → now < 2 ^ 64
    → All (λ p. (now ≤ p.due) × (p.due ≤ now + 10000)) (copies_of (fate_of impairment draws) way peer bytes now)
copies_are_timely impairment draws way peer bytes now within = by_loss (is_hit impairment.lose draws.lost) refl where
  by_copy : (b : Bool) → is_hit impairment.lose draws.lost ≡ false → is_hit impairment.copy draws.copied ≡ b
      → All (IsTimely now) (copies_of (fate_of impairment draws) way peer bytes now)
  by_copy true lost copied =
      rw (lost, copied)
      (timely_twice way peer bytes now (lateness impairment draws.first) (lateness impairment draws.second) within (soon impairment draws.first) (soon impairment draws.second))
  by_copy false lost copied =
      rw (lost, copied) (timely_once way peer bytes now (lateness impairment draws.first) within (soon impairment draws.first))

  by_loss : (b : Bool) → is_hit impairment.lose draws.lost ≡ b
      → All (IsTimely now) (copies_of (fate_of impairment draws) way peer bytes now)
  by_loss true lost = rw lost (All-nil (IsTimely now))
  by_loss false lost = by_copy (is_hit impairment.copy draws.copied) lost refl

-- ---- what is handed out

pub none_is_before : (p : Packet) (waiting : List Packet) → IsNoLater p waiting → All (λ q. p.due ≤ q.due) waiting
none_is_before p [] keeps = All-nil (λ (q : Packet). p.due ≤ q.due)
none_is_before p (q ∷ more) keeps = All-cons (λ (q : Packet). p.due ≤ q.due) q more keeps.0 (none_is_before p more keeps.1)

-- what is handed out is due, and nothing that waits is due before it
pub handed_first : (now : ℕ) (waiting rest : List Packet) (p : Packet) → IsInOrder waiting → taken now waiting ≡ (Some p, rest)
    → (p.due ≤ now) × All (λ q. p.due ≤ q.due) rest
handed_first now [] rest p order is = absurd (let one : None ≡ Some p = ap (λ (t : Option Packet × List Packet). t.0) is in cc)
handed_first now (q ∷ more) rest p order is = by_test (nat_le q.due now) refl where
  by_test : (b : Bool) → nat_le q.due now ≡ b → (p.due ≤ now) × All (λ r. p.due ≤ r.due) rest
  by_test true test =
      let both : (Some q, more) ≡ (Some p, rest) = rw test at is in
      let one : Some q ≡ Some p = ap (λ (t : Option Packet × List Packet). t.0) both in
      let same : q ≡ p = cc in
      let behind : more ≡ rest = ap (λ (t : Option Packet × List Packet). t.1) both in
      let due : q.due ≤ now = leb-true q.due now test in
      subst (λ (r : Packet). (r.due ≤ now) × All (λ s. r.due ≤ s.due) rest) same
      (due, subst (λ (l : List Packet). All (λ s. q.due ≤ s.due) l) behind (none_is_before q more order.0))
  by_test false test =
      let both : (None, q ∷ more) ≡ (Some p, rest) = rw test at is in
      let one : None ≡ Some p = ap (λ (t : Option Packet × List Packet). t.0) both in
      absurd cc

all_later : (now : ℕ) (p : Packet) (waiting : List Packet) → now < p.due → IsNoLater p waiting → All (λ q. now < q.due) waiting
all_later now p [] before keeps = All-nil (λ (q : Packet). now < q.due)
all_later now p (q ∷ more) before keeps =
    All-cons (λ (q : Packet). now < q.due) q more (let further = keeps.0 in omega (arith, before, further)) (all_later now p more before keeps.1)

-- where nothing is handed out, nothing that waits is due
pub nothing_due : (now : ℕ) (waiting rest : List Packet) → IsInOrder waiting → taken now waiting ≡ (None, rest)
    → All (λ q. now < q.due) waiting
nothing_due now [] rest order is = All-nil (λ (q : Packet). now < q.due)
nothing_due now (q ∷ more) rest order is = by_test (nat_le q.due now) refl where
  by_test : (b : Bool) → nat_le q.due now ≡ b → All (λ r. now < r.due) (q ∷ more)
  by_test true test =
      let both : (Some q, more) ≡ (None, rest) = rw test at is in
      let one : Some q ≡ None = ap (λ (t : Option Packet × List Packet). t.0) both in
      absurd cc
  by_test false test =
      let before : now < q.due = leb-false q.due now test in
      All-cons (λ (r : Packet). now < r.due) q more before (all_later now q more before order.0)

-- ---- all that goes over it

all_permutes : (copies waiting : List Packet) → IsPermutation (copies ++ waiting) (put_all copies waiting)
all_permutes [] waiting = IsPermutation-refl waiting
all_permutes (p ∷ copies) waiting =
    IsPermutation-trans _ _ _
    (IsPermutation-sym _ _ (IsPermutation-middle copies p waiting))
    (IsPermutation-trans _ _ _
    (IsPermutation-append_right copies (p ∷ waiting) (put_in p waiting) (put_permutes p waiting))
    (all_permutes copies (put_in p waiting)))

abbrev IsAccounted : Passed → Type 0
IsAccounted p = IsPermutation p.made (p.handed ++ p.waiting)

put_accounted : (made handed waiting copies : List Packet) → IsPermutation made (handed ++ waiting)
    → IsPermutation (made ++ copies) (handed ++ put_all copies waiting)
put_accounted made handed waiting copies all =
    IsPermutation-trans _ _ _
    (IsPermutation-append_left copies made (handed ++ waiting) all)
    (subst (λ (l : List Packet). IsPermutation l (handed ++ put_all copies waiting)) (sym (append_assoc handed waiting copies))
    (IsPermutation-append_right handed (waiting ++ copies) (put_all copies waiting)
    (IsPermutation-trans _ _ _ (IsPermutation-append_comm waiting copies) (all_permutes copies waiting))))

-- of those that wait the first goes, or none
moved : (now : ℕ) (handed waiting : List Packet)
    → (handed ++ option_to_list (taken now waiting).0) ++ (taken now waiting).1 ≡ handed ++ waiting
moved now handed [] = append-nil (handed ++ [])
moved now handed (p ∷ more) = by_test (nat_le p.due now) refl where
  by_test : (b : Bool) → nat_le p.due now ≡ b
      → (handed ++ option_to_list (taken now (p ∷ more)).0) ++ (taken now (p ∷ more)).1 ≡ handed ++ p ∷ more
  by_test true test = rw test (append_assoc handed (p ∷ []) more)
  by_test false test = rw test (ap (λ (l : List Packet). l ++ p ∷ more) (append-nil handed))

step_accounted : (p : Passed) (step : NetworkStep) → IsAccounted p → IsAccounted (stepped p step)
step_accounted p (offers fate way peer bytes now) all = put_accounted p.made p.handed p.waiting (copies_of fate way peer bytes now) all
step_accounted p (takes now) all = subst (λ (l : List Packet). IsPermutation p.made l) (sym (moved now p.handed p.waiting)) all

all_accounted : (p : Passed) (steps : List NetworkStep) → IsAccounted p → IsAccounted (passed p steps)
unfolding passed
all_accounted p [] all = all
all_accounted p (step ∷ steps) all = all_accounted (stepped p step) steps (step_accounted p step all)

-- each copy that was made was handed out or waits, once
pub every_copy : (steps : List NetworkStep)
    → IsPermutation (passed opening steps).made ((passed opening steps).handed ++ (passed opening steps).waiting)
every_copy steps = all_accounted opening steps (IsPermutation-refl [])

order_all : (copies waiting : List Packet) → IsInOrder waiting → IsInOrder (put_all copies waiting)
order_all [] waiting order = order
order_all (p ∷ copies) waiting order = order_all copies (put_in p waiting) (order_put p waiting order)

order_taken : (now : ℕ) (waiting : List Packet) → IsInOrder waiting → IsInOrder (taken now waiting).1
order_taken now [] order = order
order_taken now (p ∷ more) order = by_test (nat_le p.due now) refl where
  by_test : (b : Bool) → nat_le p.due now ≡ b → IsInOrder (taken now (p ∷ more)).1
  by_test true test = rw test order.1
  by_test false test = rw test order

step_order : (p : Passed) (step : NetworkStep) → IsInOrder p.waiting → IsInOrder (stepped p step).waiting
step_order p (offers fate way peer bytes now) order = order_all (copies_of fate way peer bytes now) p.waiting order
step_order p (takes now) order = order_taken now p.waiting order

all_order : (p : Passed) (steps : List NetworkStep) → IsInOrder p.waiting → IsInOrder (passed p steps).waiting
unfolding passed
all_order p [] order = order
all_order p (step ∷ steps) order = all_order (stepped p step) steps (step_order p step order)

-- those that wait are in order
pub waiting_in_order : (steps : List NetworkStep) → IsInOrder (passed opening steps).waiting
waiting_in_order steps = all_order opening steps tt
