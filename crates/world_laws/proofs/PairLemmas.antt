-- What a line began beside what was taken of it: in pairs, each with the command that it is, but for the one in flight.
use Rattle.std.proofs.Common.{◌≡◌, ℕ, ◌≤◌, List, [], ◌∷◌, ◌++◌, length, Option, Some, None, inl, inr, refl, sym, ap, ◌∙◌, subst, arith, append-nil, append_assoc}
use Rattle.std.specs.Prelude.{◌⊎◌, flat_map}
use Rattle.packages.specs.declared.observed.Observed.{Observed}
use Rattle.retransmission.specs.Flight.{InFlight}
use Rattle.plain_machine.specs.Message.{Begun}
use Rattle.machine_laws.specs.Saying.{OneOf}
use Rattle.machine_laws.proofs.EachLemmas.{Each}
use Rattle.world_laws.specs.Reached.{Reached}
use Rattle.world_laws.proofs.ReachedLaws.{Apart}
use Rattle.world_laws.proofs.WorldLaws.{Comes}
use Rattle.world_laws.specs.Untaken.{told_as}
use Rattle.world_laws.proofs.DialledFlightLemmas.{flying}
use Rattle.world_laws.proofs.DialledTakenLemmas.{Numbered, far_apart, numbered_back, numbered_front, told_taken}
use Rattle.world_laws.proofs.ToldLemmas.{told_by}

abbrev pub Pairs : List Begun → List Reached → Type 0
Pairs [] [] = Unit {0}
Pairs [] (one ∷ taken) = ⊥
Pairs (b ∷ begun) [] = ⊥
Pairs (b ∷ begun) (one ∷ taken) = Comes one b × Pairs begun taken

-- the one in flight wasn't taken
pub record LastFlies (begun : List Begun) (taken : List Reached) (pending : Option InFlight) : Type 0 where
  pub flight : InFlight
  pub flies : pending ≡ Some flight
  pub front : List Begun
  pub is : begun ≡ front ++ flying (Some flight)
  pub pairs : Pairs front taken

abbrev pub Paired : List Begun → List Reached → Option InFlight → Type 0
Paired begun taken pending = Pairs begun taken ⊎ LastFlies begun taken pending

pair_more : (begun : List Begun) (taken : List Reached) (b : Begun) (one : Reached) → Pairs begun taken → Comes one b → Pairs (begun ++ b ∷ []) (taken ++ one ∷ [])
pair_more [] [] b one pairs comes = (comes, tt)
pair_more [] (other ∷ taken) b one pairs comes = absurd pairs
pair_more (first ∷ begun) [] b one pairs comes = absurd pairs
pair_more (first ∷ begun) (other ∷ taken) b one pairs comes = (pairs.0, pair_more begun taken b one pairs.1 comes)

-- what has one id is 30,000 ms apart
abbrev pub Spaced : List Reached → Type 0
Spaced [] = Unit {0}
Spaced (one ∷ taken) = Each (Apart one) taken × Spaced taken

each_middle : (P : Reached → Type 0) (some : List Reached) (one : Reached) (more : List Reached) → Each P (some ++ one ∷ more) → P one
each_middle P [] one more each = each.0
each_middle P (other ∷ some) one more each = each_middle P some one more each.1

spaced_back : (some more : List Reached) → Spaced (some ++ more) → Spaced more
spaced_back [] more spaced = spaced
spaced_back (one ∷ some) more spaced = spaced_back some more spaced.1

each_without : (P : Reached → Type 0) (some : List Reached) (one : Reached) (more : List Reached) → Each P (some ++ one ∷ more) → Each P (some ++ more)
each_without P [] one more each = each.1
each_without P (other ∷ some) one more each = (each.0, each_without P some one more each.1)

spaced_without : (some : List Reached) (one : Reached) (more : List Reached) → Spaced (some ++ one ∷ more) → Spaced (some ++ more)
spaced_without [] one more spaced = spaced.1
spaced_without (other ∷ some) one more spaced = (each_without (Apart other) some one more spaced.0, spaced_without some one more spaced.1)

-- two that are one command are nearer
too_near : (b : Begun) (first later : Reached) → Comes first b → Comes later b → Apart first later → ⊥
too_near b first later one two apart =
    let far = apart (sym one.id ∙ two.id) in
    let begins = one.since in
    let ends = two.within in
    omega (arith, far, begins, ends)

-- so what was taken isn't taken again
taken_already : (begun : List Begun) (taken : List Reached) (one : Reached) (more : List Reached) → Pairs begun taken → Spaced (taken ++ one ∷ more) → OneOf (Comes one) begun → ⊥
taken_already [] taken one more pairs spaced none = none
taken_already (b ∷ begun) [] one more pairs spaced comes = pairs
taken_already (b ∷ begun) (first ∷ taken) one more pairs spaced (inl comes) = too_near b first one pairs.0 comes (each_middle (Apart first) taken one more spaced.0)
taken_already (b ∷ begun) (first ∷ taken) one more pairs spaced (inr comes) = taken_already begun taken one more pairs.1 spaced.1 comes

one_of_last : (P : Begun → Type 0) (front : List Begun) (last : Begun) → OneOf P (front ++ last ∷ []) → OneOf P front ⊎ P last
one_of_last P [] last (inl is) = inr is
one_of_last P [] last (inr none) = absurd none
one_of_last P (b ∷ front) last (inl is) = inl (inl is)
one_of_last P (b ∷ front) last (inr one) = by_rest (one_of_last P front last one) where
  by_rest : OneOf P front ⊎ P last → OneOf P (b ∷ front) ⊎ P last
  by_rest (inl one) = inl (inr one)
  by_rest (inr is) = inr is

-- The agent takes more: only what is in flight can be new.
pub taken_pairs : (begun : List Begun) (taken more : List Reached) (pending : Option InFlight) → Paired begun taken pending → Spaced (taken ++ more)
    → Each (λ (one : Reached). OneOf (Comes one) begun) more → Paired begun (taken ++ more) pending
taken_pairs begun taken [] pending paired spaced each = subst (λ (x : List Reached). Paired begun x pending) (sym (append-nil taken)) paired
taken_pairs begun taken (one ∷ more) pending (inl pairs) spaced each = absurd (taken_already begun taken one more pairs spaced each.0)
taken_pairs begun taken (one ∷ more) pending (inr last) spaced each = by_one (one_of_last (Comes one) last.front b (subst (OneOf (Comes one)) last.is each.0)) where
  b : Begun
  b = record { id = last.flight.id; moment = last.flight.first; text = last.flight.text }

  two : (next : Reached) (rest : List Reached) → Comes one b → Spaced (one ∷ next ∷ rest) → OneOf (Comes next) last.front ⊎ Comes next b → (OneOf (Comes next) last.front → ⊥) → ⊥
  two next rest comes apart (inl before) never = never before
  two next rest comes apart (inr also) never = too_near b one next comes also apart.0.0

  by_more : (more : List Reached) → Spaced (taken ++ one ∷ more) → Each (λ (one : Reached). OneOf (Comes one) begun) (one ∷ more) → Comes one b → Paired begun (taken ++ one ∷ more) pending
  by_more [] apart came comes = inl (subst (λ (x : List Begun). Pairs x (taken ++ one ∷ [])) (sym last.is) (pair_more last.front taken b one last.pairs comes))
  by_more (next ∷ rest) apart came comes =
      absurd (two next rest comes (spaced_back taken (one ∷ next ∷ rest) apart) (one_of_last (Comes next) last.front b (subst (OneOf (Comes next)) last.is came.1.0))
      (λ before. taken_already last.front taken next rest last.pairs (spaced_without taken one (next ∷ rest) apart) before))

  by_one : OneOf (Comes one) last.front ⊎ Comes one b → Paired begun (taken ++ one ∷ more) pending
  by_one (inl before) = absurd (taken_already last.front taken one more last.pairs spaced before)
  by_one (inr comes) = by_more more spaced each comes

-- A line begins more: what was answered lately was taken, and no id of it comes again so soon.

-- it stands among these, and few behind it
pub record StandsLate (taken : List Reached) (id : ℕ) : Type 0 where
  pub before : List Reached
  pub one : Reached
  pub behind : List Reached
  pub is : taken ≡ before ++ one ∷ behind
  pub id_is : one.asked.id ≡ id
  pub few : length behind ≤ 8192

-- those of the commands that are in pairs with the last of them
record Behind (begun : List Begun) (id : ℕ) (count : ℕ) : Type 0 where
  before : List Begun
  b : Begun
  behind : List Begun
  is : begun ≡ before ++ b ∷ behind
  id_is : b.id ≡ id
  many : length behind ≡ count

pub pairs_many : (begun : List Begun) (taken : List Reached) → Pairs begun taken → length begun ≡ length taken
pairs_many [] [] pairs = refl
pairs_many [] (one ∷ taken) pairs = absurd pairs
pairs_many (b ∷ begun) [] pairs = absurd pairs
pairs_many (b ∷ begun) (one ∷ taken) pairs = (let rest = pairs_many begun taken pairs.1 in omega (arith, rest))

stands_begun : (begun : List Begun) (before : List Reached) (one : Reached) (behind : List Reached) → Pairs begun (before ++ one ∷ behind) → Behind begun one.asked.id (length behind)
stands_begun [] [] one behind pairs = absurd pairs
stands_begun [] (other ∷ before) one behind pairs = absurd pairs
stands_begun (b ∷ begun) [] one behind pairs = record { before = []; b = b; behind = begun; is = refl; id_is = pairs.0.id; many = pairs_many begun behind pairs.1 }
stands_begun (b ∷ begun) (other ∷ before) one behind pairs =
    let rest = stands_begun begun before one behind pairs.1 in
    record { before = b ∷ rest.before; b = rest.b; behind = rest.behind; is = ap (λ (x : List Begun). b ∷ x) rest.is; id_is = rest.id_is; many = rest.many }

-- so the next has another id
pub another : (number : ℕ) (begun : List Begun) (next : Begun) (free : ℕ) (taken : List Reached) → Numbered number (begun ++ next ∷ []) free → Pairs begun taken → StandsLate taken next.id → ⊥
another number begun next free taken numbered pairs late =
    let there = stands_begun begun late.before late.one late.behind (subst (Pairs begun) late.is pairs) in
    let order : begun ++ next ∷ [] ≡ there.before ++ (there.b ∷ there.behind ++ next ∷ []) = ap (λ (x : List Begun). x ++ next ∷ []) there.is ∙ append_assoc there.before (there.b ∷ there.behind) (next ∷ []) in
    let from = numbered_back number there.before (there.b ∷ there.behind ++ next ∷ []) free (subst (λ (x : List Begun). Numbered number x free) order numbered) in
    let far = far_apart from.0 there.b there.behind next free from.1 (there.id_is ∙ late.id_is) in
    absurd (omega (arith, far, there.many, late.few))

-- an event of the gateway: what was in flight and what began are what was answered and what is in flight
module _ (number free : ℕ) (taken : List Reached) where
  abbrev AnsweredLate : Begun → Type 0
  AnsweredLate b = StandsLate taken b.id

  first_numbered : (begun : List Begun) (b : Begun) (more : List Begun) → Numbered number (begun ++ b ∷ more) free → (last : ℕ) × Numbered number (begun ++ b ∷ []) last
  first_numbered begun b more numbered =
      numbered_front number (begun ++ b ∷ []) more free (subst (λ (x : List Begun). Numbered number x free) (sym (append_assoc begun (b ∷ []) more)) numbered)

  never_now : (begun : List Begun) (b : Begun) (more : List Begun) → Numbered number (begun ++ b ∷ more) free → Pairs begun taken → AnsweredLate b → ⊥
  never_now begun b more numbered pairs late = let first = first_numbered begun b more numbered in another number begun b first.0 taken first.1 pairs late

  -- where all that began was taken
  free_pairs : (begun new settled : List Begun) (pending : Option InFlight) → Numbered number (begun ++ new) free → new ≡ settled ++ flying pending → Each AnsweredLate settled → Pairs begun taken
      → Paired (begun ++ new) taken pending
  free_pairs begun new [] None numbered is answered pairs = inl (subst (λ (x : List Begun). Pairs x taken) (sym (ap (λ (x : List Begun). begun ++ x) is ∙ append-nil begun)) pairs)
  free_pairs begun new [] (Some flight) numbered is answered pairs = inr (record { flight = flight; flies = refl; front = begun; is = ap (λ (x : List Begun). begun ++ x) is; pairs = pairs })
  free_pairs begun new (b ∷ settled) pending numbered is answered pairs =
      absurd (never_now begun b (settled ++ flying pending) (subst (λ (x : List Begun). Numbered number (begun ++ x) free) is numbered) pairs answered.0)

  -- where something was in flight
  flying_pairs : (begun new settled : List Begun) (flight : InFlight) (pending : Option InFlight) → Numbered number (begun ++ new) free → flying (Some flight) ++ new ≡ settled ++ flying pending
      → Each AnsweredLate settled → (front : List Begun) → begun ≡ front ++ flying (Some flight) → Paired begun taken (Some flight) → Paired (begun ++ new) taken pending
  flying_pairs begun new [] flight None numbered is answered front ends paired = absurd cc
  flying_pairs begun new [] flight (Some other) numbered is answered front ends paired =
      let none : new ≡ [] = cc in
      let same : flying (Some flight) ≡ flying (Some other) = cc in
      subst (λ (x : List Begun). Paired x taken (Some other)) (sym (ap (λ (x : List Begun). begun ++ x) none ∙ append-nil begun)) (by_pair same paired) where
        by_pair : flying (Some flight) ≡ flying (Some other) → Paired begun taken (Some flight) → Paired begun taken (Some other)
        by_pair same (inl pairs) = inl pairs
        by_pair same (inr last) = inr (record {
          flight = other;
          flies = refl;
          front = last.front;
          is = last.is ∙ ap (λ (x : Option InFlight). last.front ++ flying x) (sym last.flies) ∙ ap (λ (x : List Begun). last.front ++ x) same;
          pairs = last.pairs;
        })
  flying_pairs begun new (b ∷ settled) flight pending numbered is answered front ends paired = by_pair paired where
    first : record { id = flight.id; moment = flight.first; text = flight.text } ≡ b
    first = cc

    rest : new ≡ settled ++ flying pending
    rest = cc

    by_pair : Paired begun taken (Some flight) → Paired (begun ++ new) taken pending
    by_pair (inl pairs) = free_pairs begun new settled pending numbered rest answered.1 pairs
    by_pair (inr last) =
        absurd (never_now last.front b new
        (subst (λ (x : List Begun). Numbered number x free)
        (ap (λ (x : List Begun). x ++ new) (last.is ∙ ap (λ (x : Option InFlight). last.front ++ flying x) (sym last.flies)) ∙ append_assoc last.front (flying (Some flight)) new
        ∙ ap (λ (x : Begun). last.front ++ x ∷ new) first) numbered) last.pairs answered.0)

  -- either
  pub begun_pairs : (before new settled : List Begun) (was pending : Option InFlight) → Numbered number ((before ++ flying was) ++ new) free → flying was ++ new ≡ settled ++ flying pending
      → Each AnsweredLate settled → Paired (before ++ flying was) taken was → Paired ((before ++ flying was) ++ new) taken pending
  begun_pairs before new settled None pending numbered is answered (inl pairs) = free_pairs (before ++ []) new settled pending numbered is answered pairs
  begun_pairs before new settled None pending numbered is answered (inr last) = absurd (let flies : None ≡ Some last.flight = last.flies in cc)
  begun_pairs before new settled (Some flight) pending numbered is answered paired = flying_pairs (before ++ flying (Some flight)) new settled flight pending numbered is answered before refl paired

-- What they tell

told_pair : (one : Reached) (b : Begun) → Comes one b → told_by b ≡ told_taken one
told_pair one b comes = ap told_as (sym comes.read)

pub pairs_tell : (begun : List Begun) (taken : List Reached) → Pairs begun taken → flat_map told_by begun ≡ flat_map told_taken taken
pairs_tell [] [] pairs = refl
pairs_tell [] (one ∷ taken) pairs = absurd pairs
pairs_tell (b ∷ begun) [] pairs = absurd pairs
pairs_tell (b ∷ begun) (one ∷ taken) pairs = ap (λ (x : List Observed). x ++ flat_map told_by begun) (told_pair one b pairs.0) ∙ ap (λ (x : List Observed). told_taken one ++ x) (pairs_tell begun taken pairs.1)
