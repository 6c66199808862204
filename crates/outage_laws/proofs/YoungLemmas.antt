-- Firsts that grow old are young no longer, and make room.
use Rattle.std.proofs.Common.{◌≡◌, ℕ, suc, ◌+◌, ◌-◌, ◌<◌, ◌≤◌, Bool, true, false, if◌then◌else◌, List, [], ◌∷◌, length, inl, inr, refl, subst, ap, sym, ◌∙◌, arith}
use Rattle.std.specs.Prelude.{◌⊎◌, All, Any, nat_le, nat_lt}
use Rattle.std.proofs.lemmas.Bool.{leb-false, leb-true, ltb-true, ltb-false}
use Rattle.transmission.specs.Arrival.{Arrival}
use Rattle.transmission.specs.Firsts.{young_of}
use Rattle.transmission.specs.Memory.{is_young, memory_time, most_firsts}
use Rattle.machine_laws.specs.Saying.{OneOf}
use Rattle.machine_laws.proofs.EachLemmas.{Each, each_from_all, one_from_any}
use Rattle.world_laws.specs.Copies.{HasRoom}
use Rattle.outage_laws.specs.AfterOutage.{grown_old}

-- what is old isn't young
old_test : (moment later : ℕ) → moment + memory_time ≤ later → is_young later moment ≡ false
old_test moment later old = by_test (is_young later moment) refl where
  by_test : (b : Bool) → nat_lt (later - moment) memory_time ≡ b → b ≡ false
  by_test true young = absurd (let few : later - moment < memory_time = ltb-true (later - moment) memory_time young in omega (arith, old, few))
  by_test false young = refl

-- what is young later was young before
young_before : (moment now later : ℕ) → now ≤ later → is_young now moment ≡ false → is_young later moment ≡ false
young_before moment now later past old = by_test (is_young later moment) refl where
  by_test : (b : Bool) → nat_lt (later - moment) memory_time ≡ b → b ≡ false
  by_test true young =
      absurd (
      let few : later - moment < memory_time = ltb-true (later - moment) memory_time young in
      let many : memory_time ≤ now - moment = ltb-false (now - moment) memory_time old in
      omega (arith, past, few, many))
  by_test false young = refl

-- so no more of them are
no_more : (firsts : List Arrival) (now later : ℕ) → now ≤ later → length (young_of later firsts) ≤ length (young_of now firsts)
no_more [] now later past = omega arith
no_more (first ∷ firsts) now later past = by_tests (is_young now first.moment) (is_young later first.moment) refl refl (no_more firsts now later past) where
  by_tests : (a b : Bool) → is_young now first.moment ≡ a → is_young later first.moment ≡ b → length (young_of later firsts) ≤ length (young_of now firsts)
      → length (if b then first ∷ young_of later firsts else young_of later firsts) ≤ length (if a then first ∷ young_of now firsts else young_of now firsts)
  by_tests true true one two less = omega (arith, less)
  by_tests true false one two less = omega (arith, less)
  by_tests false true one two less = absurd (let clash : true ≡ false = sym two ∙ young_before first.moment now later past one in cc)
  by_tests false false one two less = less

-- one less at least for each that is old
one_less : (firsts : List Arrival) (now later : ℕ) (first : Arrival) → now ≤ later → OneOf (λ (one : Arrival). one ≡ first) (young_of now firsts) → first.moment + memory_time ≤ later
    → length (young_of later firsts) < length (young_of now firsts)
one_less [] now later first past one old = absurd one
one_less (x ∷ firsts) now later first past one old =
    by_tests (is_young now x.moment) (is_young later x.moment) refl refl one (no_more firsts now later past) (λ there. one_less firsts now later first past there old) where
      by_here : (b : Bool) → is_young later x.moment ≡ b → (x ≡ first) ⊎ OneOf (λ (one : Arrival). one ≡ first) (young_of now firsts) → length (young_of later firsts) ≤ length (young_of now firsts)
          → (OneOf (λ (one : Arrival). one ≡ first) (young_of now firsts) → length (young_of later firsts) < length (young_of now firsts))
          → length (if b then x ∷ young_of later firsts else young_of later firsts) < suc (length (young_of now firsts))
      by_here true young (inl same) less on =
          absurd (
          let aged : is_young later x.moment ≡ false = old_test x.moment later (subst (λ (a : Arrival). a.moment + memory_time ≤ later) (sym same) old) in
          let clash : true ≡ false = sym young ∙ aged in cc)
      by_here true young (inr there) less on = let fewer = on there in omega (arith, fewer)
      by_here false young (inl same) less on = omega (arith, less)
      by_here false young (inr there) less on = let fewer = on there in omega (arith, fewer)

      by_tests : (a b : Bool) → is_young now x.moment ≡ a → is_young later x.moment ≡ b
          → OneOf (λ (one : Arrival). one ≡ first) (if a then x ∷ young_of now firsts else young_of now firsts) → length (young_of later firsts) ≤ length (young_of now firsts)
          → (OneOf (λ (one : Arrival). one ≡ first) (young_of now firsts) → length (young_of later firsts) < length (young_of now firsts))
          → length (if b then x ∷ young_of later firsts else young_of later firsts) < length (if a then x ∷ young_of now firsts else young_of now firsts)
      by_tests true b one two among less on = by_here b two among less on
      by_tests false true one two among less on = absurd (let clash : true ≡ false = sym two ∙ young_before x.moment now later past one in cc)
      by_tests false false one two among less on = on among

pub each_makes_room : (firsts : List Arrival) (now later : ℕ) (first : Arrival) → now ≤ later → Any (λ (one : Arrival). one ≡ first) (young_of now firsts) → first.moment + memory_time ≤ later
    → length (young_of later firsts) < length (young_of now firsts)
each_makes_room firsts now later first past among old = one_less firsts now later first past (one_from_any (λ (one : Arrival). one ≡ first) (young_of now firsts) among) old

none_young : (firsts : List Arrival) (now later : ℕ) → now + memory_time ≤ later → Each (λ (first : Arrival). first.moment ≤ now) firsts → young_of later firsts ≡ []
none_young [] now later old all = refl
none_young (first ∷ firsts) now later old all =
    ap (λ (b : Bool). if b then first ∷ young_of later firsts else young_of later firsts)
    (old_test first.moment later (let past : first.moment ≤ now = all.0 in omega (arith, past, old)))
    ∙ none_young firsts now later old all.1

pub all_make_room : (firsts : List Arrival) (now later : ℕ) → All (λ (first : Arrival). first.moment ≤ now) firsts → now + memory_time ≤ later → young_of later firsts ≡ []
all_make_room firsts now later all old = none_young firsts now later old (each_from_all (λ (first : Arrival). first.moment ≤ now) firsts all)

pub has_room : (firsts : List Arrival) (now later : ℕ) → All (λ (first : Arrival). first.moment ≤ now) firsts → now + memory_time ≤ later → HasRoom later firsts
has_room firsts now later all old =
    subst (λ (young : List Arrival). length young < most_firsts) (sym (all_make_room firsts now later all old)) (omega arith)

-- As many fewer of them are young as grew old

-- what isn't so old yet is young
pub young_test : (moment later : ℕ) → later < moment + memory_time → is_young later moment ≡ true
young_test moment later soon = by_test (is_young later moment) refl where
  by_test : (b : Bool) → nat_lt (later - moment) memory_time ≡ b → b ≡ true
  by_test true young = refl
  by_test false old = absurd (let many : memory_time ≤ later - moment = ltb-false (later - moment) memory_time old in omega (arith, soon, many))

-- one more, and it grew old, or not
abbrev with_one : Bool → Arrival → List Arrival → List Arrival
with_one old first firsts = if old then first ∷ firsts else firsts

still : (now later old all : ℕ) → now ≡ later + old → all ≡ old → suc now ≡ suc later + all
still now later old all same is = omega (arith, same, is)

gone : (now later old all : ℕ) → now ≡ later + old → all ≡ suc old → suc now ≡ later + all
gone now later old all same is = omega (arith, same, is)

pub fewer_by : (firsts : List Arrival) (now later : ℕ) → now ≤ later → length (young_of now firsts) ≡ length (young_of later firsts) + length (grown_old later (young_of now firsts))
fewer_by [] now later past = refl
fewer_by (first ∷ firsts) now later past =
    by_tests (is_young now first.moment) (is_young later first.moment) (nat_le (first.moment + memory_time) later) refl refl refl (fewer_by firsts now later past) where
      one_more : (c : Bool) → nat_le (first.moment + memory_time) later ≡ c
          → length (grown_old later (first ∷ young_of now firsts)) ≡ length (with_one c first (grown_old later (young_of now firsts)))
      one_more c is = ap (λ (t : Bool). length (with_one t first (grown_old later (young_of now firsts)))) is

      clash : (b : Bool) → b ≡ true → b ≡ false → ⊥
      clash true young old = cc
      clash false young old = cc

      by_tests : (a b c : Bool) → is_young now first.moment ≡ a → is_young later first.moment ≡ b → nat_le (first.moment + memory_time) later ≡ c
          → length (young_of now firsts) ≡ length (young_of later firsts) + length (grown_old later (young_of now firsts))
          → length (if a then first ∷ young_of now firsts else young_of now firsts)
          ≡ length (if b then first ∷ young_of later firsts else young_of later firsts)
          + length (grown_old later (if a then first ∷ young_of now firsts else young_of now firsts))
      by_tests false true c was is grew rest = absurd (clash (is_young later first.moment) is (young_before first.moment now later past was))
      by_tests false false c was is grew rest = rest
      by_tests true true true was is grew rest =
          absurd (clash (is_young later first.moment) is (old_test first.moment later (leb-true (first.moment + memory_time) later grew)))
      by_tests true true false was is grew rest =
          still (length (young_of now firsts)) (length (young_of later firsts)) (length (grown_old later (young_of now firsts))) _ rest (one_more false grew)
      by_tests true false true was is grew rest =
          gone (length (young_of now firsts)) (length (young_of later firsts)) (length (grown_old later (young_of now firsts))) _ rest (one_more true grew)
      by_tests true false false was is grew rest =
          absurd (clash (is_young later first.moment) (young_test first.moment later (leb-false (first.moment + memory_time) later grew)) is)
