-- In each world what a line began that gave nothing up stands in pairs with what the agent took of it, but for the one in flight; and no
-- numbers of its commands need be left for that.
use Rattle.std.proofs.Common.{◌+◌, ◌<◌, ◌≤◌, ◌==◌, Bool, true, false, if◌then◌else◌, ℕ, List, length, sym, subst, arith, ◌≡◌, ◌*◌, ◌&&◌, [], ◌∷◌, ◌++◌, map, Option, Some, None, refl, ap, ◌∙◌, ◌||◌, zero, suc, inl, inr, append-nil, append_assoc}
use Rattle.std.proofs.lemmas.List.Sums.{length-filter, count_by-le-length}
use Rattle.plain_machine.specs.Posting.{line_of_id}
use Rattle.plain_machine.specs.Message.{Begun, Said, Sent, answer, again, command, resent, acknowledgement}
use Rattle.machine_laws.specs.Saying.{count_of, HasNumbersLeft, OneOf, begun_at, begun_by, begun_in}
use Rattle.std.specs.Prelude.{fold, filter, nat_le, nat_lt, ◌⊎◌, AllPairs, not}
use Rattle.std.proofs.lemmas.Bool.{and_from, and_parts, le-leb, leb-true, lt-ltb, ltb-true, ltb-false, eq-eqb, eqb-true}
use Rattle.std.proofs.lemmas.List.{length-append}
use Rattle.std.proofs.lemmas.List.Elements.{filter-append}
use Rattle.transmission.specs.Memory.{is_young, memory_time, most_firsts}
use Rattle.transmission.specs.Firsts.{Copied, Kind, a_first, a_repeat, lost, kind_by, kind_of, copied_by, young_of}
use Rattle.machine_laws.proofs.EachLemmas.{Each}
use Rattle.world_laws.specs.Reached.{Reached, added_by, as_arrival, executed_with}
use Rattle.std.specs.List.{list_any, slice_index_or}
use Rattle.mgcp_text.specs.declared.message.Message.TheVariants as messages
use Rattle.retransmission.specs.Restarting.{is_serving}
use Rattle.plain_machine.specs.declared.post.Post.{Post}
use Rattle.world_laws.proofs.LinkLaws.{Rises}
use Rattle.world_laws.proofs.ReachedLaws.{Apart}
use Rattle.world_laws.proofs.WorldLaws.{Came, Comes}
use Rattle.world_laws.specs.GivenUp.{announces, has_given_up}
use Rattle.world_laws.proofs.PairLemmas.{Spaced, StandsLate}
use Rattle.world_laws.proofs.DialledTakenLemmas.{is_of_line}
use Rattle.world_laws.proofs.ToldLemmas.{is_mine}

-- A few commands use up no line's numbers.

-- a line has at most all of them
of_all : (line : ℕ) (begun : List Begun) → count_of line begun ≤ length begun
of_all line begun =
    subst (λ (n : ℕ). n ≤ length begun) (sym (length-filter (λ (one : Begun). line_of_id one.id == line) begun))
    (count_by-le-length (λ (one : Begun). line_of_id one.id == line) begun)

below : (first : Bool) (count most : ℕ) → count ≤ most → most < 9999999 → (if first then 1 else 0) + count < 10000000
below true count most less few = omega (arith, less, few)
below false count most less few = omega (arith, less, few)

pub few_are_begun : (begun : List Begun) → length begun < 9999999 → HasNumbersLeft begun
few_are_begun begun few = λ line. below (line == 0) (count_of line begun) (length begun) (of_all line begun) few

-- An agent takes few commands in a short time: no more than so many in 30,000 ms, whatever arrives.

-- it was taken in the 30,000 ms from this moment on
abbrev pub is_within : ℕ → Reached → Bool
is_within since one = nat_le since one.asked.moment && nat_lt one.asked.moment (since + memory_time)

abbrev pub those_within : ℕ → List Reached → List Reached
those_within since taken = filter (is_within since) taken

-- which then are all young in that time
within_young : (since now : ℕ) (taken : List Reached) → now < since + memory_time → length (those_within since taken) ≤ length (young_of now (map as_arrival taken))
within_young since now [] soon = omega arith
within_young since now (one ∷ taken) soon = by_test (is_within since one) (is_young now one.asked.moment) refl refl (within_young since now taken soon) where
  by_test : (inside young : Bool) → is_within since one ≡ inside → is_young now one.asked.moment ≡ young → length (those_within since taken) ≤ length (young_of now (map as_arrival taken))
      → length (if inside then one ∷ those_within since taken else those_within since taken)
      ≤ length (if young then as_arrival one ∷ young_of now (map as_arrival taken) else young_of now (map as_arrival taken))
  by_test true true is fresh rest = omega (arith, rest)
  by_test true false is old rest =
      absurd (let low : since ≤ one.asked.moment = leb-true _ _ (and_parts (nat_le since one.asked.moment) (nat_lt one.asked.moment (since + memory_time)) is).0 in
      let far = ltb-false _ _ old in
      omega (arith, low, far, soon))
  by_test false true is fresh rest = omega (arith, rest)
  by_test false false is old rest = rest

-- a first found room
had_room : (found : Option Copied) (room : Bool) → kind_by found room ≡ a_first → room ≡ true
had_room (Some copied) room is = absurd cc
had_room None true is = refl
had_room None false is = absurd cc

module _ (since : ℕ) where
  few_added : (firsts : List Reached) (one : Reached) → length (those_within since firsts) ≤ most_firsts → (kind : Kind)
      → kind_of most_firsts (map as_arrival firsts) (as_arrival one) ≡ kind → length (those_within since (added_by kind firsts one)) ≤ most_firsts
  unfolding kind_of
  few_added firsts one few (a_repeat copied) is = few
  few_added firsts one few lost is = few
  few_added firsts one few a_first is = by_test (is_within since one) refl where
    room : length (young_of one.asked.moment (map as_arrival firsts)) < most_firsts
    room = ltb-true _ _ (had_room (copied_by (map as_arrival firsts) (as_arrival one)) (nat_lt (length (young_of one.asked.moment (map as_arrival firsts))) most_firsts) is)

    sum : length (those_within since (firsts ++ one ∷ [])) ≡ length (those_within since firsts) + length (those_within since (one ∷ []))
    sum = ap (λ (x : List Reached). length x) (filter-append (is_within since) firsts (one ∷ [])) ∙ length-append (those_within since firsts) (those_within since (one ∷ []))

    last : (b : Bool) → is_within since one ≡ b → length (those_within since (one ∷ [])) ≡ (if b then 1 else 0)
    last b is = ap (λ (x : Bool). length (if x then one ∷ none else none)) is ∙ by_bool b where
      none : List Reached
      none = []

      by_bool : (b : Bool) → length (if b then one ∷ none else none) ≡ (if b then 1 else 0)
      by_bool true = refl
      by_bool false = refl

    by_test : (b : Bool) → is_within since one ≡ b → length (those_within since (firsts ++ one ∷ [])) ≤ most_firsts
    by_test true inside =
        let high : one.asked.moment < since + memory_time = ltb-true _ _ (and_parts (nat_le since one.asked.moment) (nat_lt one.asked.moment (since + memory_time)) inside).1 in
        let young = within_young since one.asked.moment firsts high in
        let one_more = last true inside in
        omega (arith, sum, one_more, young, room)
    by_test false out = let none = last false out in omega (arith, sum, none, few)

  few_from : (arrived firsts : List Reached) → length (those_within since firsts) ≤ most_firsts → length (those_within since (fold executed_with firsts arrived)) ≤ most_firsts
  unfolding executed_with
  few_from [] firsts few = few
  few_from (one ∷ arrived) firsts few =
      few_from arrived (executed_with firsts one) (few_added firsts one few (kind_of most_firsts (map as_arrival firsts) (as_arrival one)) refl)

  pub few_within : (arrived : List Reached) → length (those_within since (fold executed_with [] arrived)) ≤ most_firsts
  few_within arrived = few_from arrived [] (omega arith)

-- taken in the 40,000 ms from this moment on
abbrev pub Lately : ℕ → Reached → Type 0
Lately since one = (since ≤ one.asked.moment) × (one.asked.moment < since + 40000)

within_is : (since : ℕ) (one : Reached) → since ≤ one.asked.moment → one.asked.moment < since + memory_time → is_within since one ≡ true
within_is since one low high = and_from (nat_le since one.asked.moment) (nat_lt one.asked.moment (since + memory_time)) (le-leb since one.asked.moment low) (lt-ltb one.asked.moment (since + memory_time) high)

in_two : (since : ℕ) (taken : List Reached) → Each (Lately since) taken → length taken ≤ length (those_within since taken) + length (those_within (since + memory_time) taken)
in_two since [] each = omega arith
in_two since (one ∷ taken) each = by_test (is_within since one) (is_within (since + memory_time) one) refl refl (in_two since taken each.1) where
  neither : since ≤ one.asked.moment → one.asked.moment < since + 40000 → is_within since one ≡ false → is_within (since + memory_time) one ≡ false → (b : Bool)
      → nat_lt one.asked.moment (since + memory_time) ≡ b → ⊥
  neither low high first second true soon = absurd (let clash : true ≡ false = sym (within_is since one low (ltb-true _ _ soon)) ∙ first in cc)
  neither low high first second false late =
      absurd (let far : since + memory_time ≤ one.asked.moment = ltb-false _ _ late in
      let clash : true ≡ false = sym (within_is (since + memory_time) one far (omega (arith, high))) ∙ second in cc)

  by_test : (a b : Bool) → is_within since one ≡ a → is_within (since + memory_time) one ≡ b
      → length taken ≤ length (those_within since taken) + length (those_within (since + memory_time) taken)
      → length (one ∷ taken)
      ≤ length (if a then one ∷ those_within since taken else those_within since taken) + length (if b then one ∷ those_within (since + memory_time) taken else those_within (since + memory_time) taken)
  by_test true true first second rest = omega (arith, rest)
  by_test true false first second rest = omega (arith, rest)
  by_test false true first second rest = omega (arith, rest)
  by_test false false first second rest = absurd (neither each.0.0 each.0.1 first second (nat_lt one.asked.moment (since + memory_time)) refl)

-- so few stand behind one that was taken lately
pub few_behind : (arrived before behind : List Reached) (since : ℕ) → fold executed_with [] arrived ≡ before ++ behind → Each (Lately since) behind → length behind ≤ 2 * most_firsts
few_behind arrived before behind since is lately = omega (arith, in_two since behind lately, most since, most (since + memory_time)) where
  most : (from : ℕ) → length (those_within from behind) ≤ most_firsts
  most from =
      let few = few_within from arrived in
      let sum : length (those_within from (fold executed_with [] arrived)) ≡ length (those_within from before) + length (those_within from behind) =
      ap (λ (x : List Reached). length x) (ap (those_within from) is ∙ filter-append (is_within from) before behind) ∙ length-append (those_within from before) (those_within from behind) in
      omega (arith, few, sum)

-- Of a line, by its ids

came_mine : (line : ℕ) (one : Reached) (begun : List Begun) → line_of_id one.asked.id ≡ line → OneOf (Comes one) begun → OneOf (Comes one) (filter (is_mine line) begun)
came_mine line one [] is none = none
came_mine line one (b ∷ begun) is found = by_test (is_mine line b) refl found (came_mine line one begun is) where
  by_test : (t : Bool) → is_mine line b ≡ t → OneOf (Comes one) (b ∷ begun) → (OneOf (Comes one) begun → OneOf (Comes one) (filter (is_mine line) begun))
      → OneOf (Comes one) (if t then b ∷ filter (is_mine line) begun else filter (is_mine line) begun)
  by_test true e (inl here) rest = inl here
  by_test true e (inr behind) rest = inr (rest behind)
  by_test false e (inl here) rest = absurd (let same : (line_of_id b.id == line) ≡ true = eq-eqb (line_of_id b.id) line (ap (λ (id : ℕ). line_of_id id) here.id ∙ is) in cc)
  by_test false e (inr behind) rest = rest behind

pub came_each : (line : ℕ) (own : List Begun) (taken : List Reached) → Each (Came own) taken → Each (Came (filter (is_mine line) own)) (filter (is_of_line line) taken)
came_each line own [] each = tt
came_each line own (one ∷ taken) each = by_test (is_of_line line one) refl (came_each line own taken each.1) where
  by_test : (t : Bool) → is_of_line line one ≡ t → Each (Came (filter (is_mine line) own)) (filter (is_of_line line) taken)
      → Each (Came (filter (is_mine line) own)) (if t then one ∷ filter (is_of_line line) taken else filter (is_of_line line) taken)
  by_test true is rest = (came_mine line one own (eqb-true (line_of_id one.asked.id) line is) each.0, rest)
  by_test false is rest = rest

each_filtered : (P : Reached → Type 0) (p : Reached → Bool) (taken : List Reached) → Each P taken → Each P (filter p taken)
each_filtered P p [] each = tt
each_filtered P p (one ∷ taken) each = by_test (p one) (each_filtered P p taken each.1) where
  by_test : (b : Bool) → Each P (filter p taken) → Each P (if b then one ∷ filter p taken else filter p taken)
  by_test true rest = (each.0, rest)
  by_test false rest = rest

-- Firsts with one id are spaced

heads_spaced : (one : Reached) (taken : List Reached) → ((j : ℕ) (d : Reached) → j < length taken → Apart one (slice_index_or taken j d)) → Each (Apart one) taken
heads_spaced one [] apart = tt
heads_spaced one (x ∷ taken) apart = (apart zero x (omega arith), heads_spaced one taken (λ j d less. apart (suc j) d (omega (arith, less))))

spaced_from : (taken : List Reached) → AllPairs Apart taken → Spaced taken
spaced_from [] pairs = tt
spaced_from (one ∷ taken) pairs = (
  heads_spaced one taken (λ j d less. pairs zero (suc j) d (omega arith) (omega (arith, less))),
  spaced_from taken (λ i j d less within. pairs (suc i) (suc j) d (omega (arith, less)) (omega (arith, within))),
)

spaced_filtered : (p : Reached → Bool) (taken : List Reached) → Spaced taken → Spaced (filter p taken)
spaced_filtered p [] spaced = tt
spaced_filtered p (one ∷ taken) spaced = by_test (p one) (spaced_filtered p taken spaced.1) where
  by_test : (b : Bool) → Spaced (filter p taken) → Spaced (if b then one ∷ filter p taken else filter p taken)
  by_test true rest = (each_filtered (Apart one) p taken spaced.0, rest)
  by_test false rest = rest

pub line_spaced : (line : ℕ) (taken : List Reached) → AllPairs Apart taken → Spaced (filter (is_of_line line) taken)
line_spaced line taken pairs = spaced_filtered (is_of_line line) taken (spaced_from taken pairs)

-- Firsts rise as what arrives

each_left_out : (P : Reached → Type 0) (some : List Reached) (one : Reached) (more : List Reached) → Each P (some ++ one ∷ more) → Each P (some ++ more)
each_left_out P [] one more each = each.1
each_left_out P (other ∷ some) one more each = (each.0, each_left_out P some one more each.1)

rises_left_out : (now : ℕ) (some : List Reached) (one : Reached) (more : List Reached) → Rises now (some ++ one ∷ more) → Rises now (some ++ more)
rises_left_out now [] one more rises = rises.1.1
rises_left_out now (other ∷ some) one more rises =
    (rises.0, (each_left_out (λ (later : Reached). other.asked.moment ≤ later.asked.moment) some one more rises.1.0, rises_left_out now some one more rises.1.1))

added_rises : (now : ℕ) (kind : Kind) (firsts : List Reached) (one : Reached) (more : List Reached) → Rises now (firsts ++ one ∷ more) → Rises now (added_by kind firsts one ++ more)
added_rises now a_first firsts one more rises = subst (Rises now) (sym (append_assoc firsts (one ∷ []) more)) rises
added_rises now (a_repeat copied) firsts one more rises = rises_left_out now firsts one more rises
added_rises now lost firsts one more rises = rises_left_out now firsts one more rises

executed_rises : (now : ℕ) (arrived firsts : List Reached) → Rises now (firsts ++ arrived) → Rises now (fold executed_with firsts arrived)
unfolding executed_with
executed_rises now [] firsts rises = subst (Rises now) (append-nil firsts) rises
executed_rises now (one ∷ arrived) firsts rises =
    executed_rises now arrived (executed_with firsts one) (added_rises now (kind_of most_firsts (map as_arrival firsts) (as_arrival one)) firsts one arrived rises)

-- Few stand behind one that was taken lately

record Found (taken : List Reached) (id now : ℕ) : Type 0 where
  before : List Reached
  one : Reached
  behind : List Reached
  is : taken ≡ before ++ one ∷ behind
  id_is : one.asked.id ≡ id
  late : now < one.asked.moment + 40000

found_late : (taken : List Reached) (id now : ℕ) → OneOf (λ (one : Reached). (one.asked.id ≡ id) × (now < one.asked.moment + 40000)) taken → Found taken id now
found_late [] id now none = absurd none
found_late (one ∷ taken) id now (inl is) = record { before = []; one = one; behind = taken; is = refl; id_is = is.0; late = is.1 }
found_late (one ∷ taken) id now (inr there) =
    let rest = found_late taken id now there in
    record { before = one ∷ rest.before; one = rest.one; behind = rest.behind; is = ap (λ (x : List Reached). one ∷ x) rest.is; id_is = rest.id_is; late = rest.late }

rises_back : (now : ℕ) (some more : List Reached) → Rises now (some ++ more) → Rises now more
rises_back now [] more rises = rises
rises_back now (one ∷ some) more rises = rises_back now some more rises.1.1

all_lately : (since now : ℕ) (behind : List Reached) → now < since + 40000 → Each (λ (later : Reached). since ≤ later.asked.moment) behind → Rises now behind → Each (Lately since) behind
all_lately since now [] late each rises = tt
all_lately since now (one ∷ behind) late each rises = (
  (each.0, (let low : one.asked.moment ≤ now = rises.0 in omega (arith, low, late))),
  all_lately since now behind late each.1 rises.1.1,
)

fewer : (line : ℕ) (taken : List Reached) → length (filter (is_of_line line) taken) ≤ length taken
fewer line taken = subst (λ (n : ℕ). n ≤ length taken) (sym (length-filter (is_of_line line) taken)) (count_by-le-length (is_of_line line) taken)

pub stands_late : (line now id : ℕ) (arrived : List Reached) → Rises now arrived → line_of_id id ≡ line
    → OneOf (λ (one : Reached). (one.asked.id ≡ id) × (now < one.asked.moment + 40000)) (fold executed_with [] arrived) → StandsLate (filter (is_of_line line) (fold executed_with [] arrived)) id
stands_late line now id arrived rises mine one = record {
  before = filter (is_of_line line) f.before;
  one = f.one;
  behind = filter (is_of_line line) f.behind;
  is = ap (filter (is_of_line line)) f.is ∙ filter-append (is_of_line line) f.before (f.one ∷ f.behind)
      ∙ ap (λ (b : Bool). filter (is_of_line line) f.before ++ (if b then f.one ∷ filter (is_of_line line) f.behind else filter (is_of_line line) f.behind)) of_it;
  id_is = f.id_is;
  few = (let less = fewer line f.behind in let all = few in omega (arith, less, all));
} where
  f : Found (fold executed_with [] arrived) id now
  f = found_late (fold executed_with [] arrived) id now one

  of_it : is_of_line line f.one ≡ true
  of_it = eq-eqb (line_of_id f.one.asked.id) line (ap (λ (x : ℕ). line_of_id x) f.id_is ∙ mine)

  rest : Rises now (f.one ∷ f.behind)
  rest = rises_back now f.before (f.one ∷ f.behind) (subst (Rises now) f.is (executed_rises now arrived [] rises))

  few : length (f.one ∷ f.behind) ≤ 2 * most_firsts
  few = few_behind arrived f.before (f.one ∷ f.behind) f.one.asked.moment f.is ((omega arith, omega arith), all_lately f.one.asked.moment now f.behind f.late rest.1.0 rest.1.1)

-- What was sent, parted where its commands are

one_begun : (moment : ℕ) (said : Said) → (begun_by moment said ≡ []) ⊎ ((b : Begun) × (begun_by moment said ≡ b ∷ []))
one_begun moment (command (messages.Command verb id name params body)) = inr (_, refl)
one_begun moment (command (messages.Response code id params body)) = inl refl
one_begun moment (answer response) = inl refl
one_begun moment (again id text) = inl refl
one_begun moment (resent message) = inl refl
one_begun moment (acknowledgement response) = inl refl

pub record Cut (sent : List Sent) (some more : List Begun) : Type 0 where
  pub front : List Sent
  pub back : List Sent
  pub is : sent ≡ front ++ back
  pub behind : begun_in back ≡ more

pub cut : (sent : List Sent) (some more : List Begun) → begun_in sent ≡ some ++ more → Cut sent some more
cut sent [] more is = record { front = []; back = sent; is = refl; behind = is }
cut [] (b ∷ some) more is = absurd cc
cut (one ∷ sent) (b ∷ some) more is = by_begun (one_begun one.moment one.said) (cut sent (b ∷ some) more) (cut sent some more) where
  onto : (xs : List Begun) → Cut sent xs more → Cut (one ∷ sent) (b ∷ some) more
  onto xs c = record { front = one ∷ c.front; back = c.back; is = ap (λ (x : List Sent). one ∷ x) c.is; behind = c.behind }

  by_begun : (begun_at one ≡ []) ⊎ ((x : Begun) × (begun_at one ≡ x ∷ [])) → (begun_in sent ≡ b ∷ some ++ more → Cut sent (b ∷ some) more) → (begun_in sent ≡ some ++ more → Cut sent some more)
      → Cut (one ∷ sent) (b ∷ some) more
  by_begun (inl none) same next = onto (b ∷ some) (same (ap (λ (x : List Begun). x ++ begun_in sent) (sym none) ∙ is))
  by_begun (inr (x, begins)) same next =
      onto some (next (let whole : x ∷ begun_in sent ≡ b ∷ some ++ more = ap (λ (y : List Begun). y ++ begun_in sent) (sym begins) ∙ is in (let tail : begun_in sent ≡ some ++ more = cc in tail)))

pub given_back : (front back : List Sent) (post : Post) → has_given_up (front ++ back) post ≡ false → has_given_up back post ≡ false
given_back [] back post none = none
given_back (one ∷ front) back post none = given_back front back post (by_test (announces one.said) none) where
  by_test : (b : Bool) → ((b || list_any (λ (x : Sent). announces x.said) (front ++ back)) || not (is_serving post.restart)) ≡ false
      → (list_any (λ (x : Sent). announces x.said) (front ++ back) || not (is_serving post.restart)) ≡ false
  by_test true e = absurd (let clash : true ≡ false = e in cc)
  by_test false e = e
