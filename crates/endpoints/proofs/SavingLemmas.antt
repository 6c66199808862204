-- Endpoints that are saved and put back, and the marks that say which are saved.
use Rattle.std.proofs.Common.{◌≡◌, ℕ, zero, suc, ◌+◌, ◌-◌, ◌<◌, ◌≤◌, ◌≢◌, ◌==◌, ◌||◌, Bool, true, false, List, [], ◌∷◌, ◌++◌, length, get_or, set, take, replicate, Option, Some, None, option_to_list, refl, sym, ap, ◌∙◌, append-nil, arith, get_or-set_other}
use Rattle.std.specs.Prelude.{MatchOption, Result, Ok, Err, OnErr, slice_get}
use Rattle.std.proofs.lemmas.Grind.{common_steps}
use Rattle.std.proofs.lemmas.List.{set-set, set-get_or, set_comm, set_past, length-set, length_push, take_all, take_more, take_more_set, take-set}
use Rattle.std.proofs.lemmas.Bool.Decides.{nat_tests}
use Rattle.std.proofs.Math.ListN.{get_or-eq_default}
use Rattle.plain_machine.specs.declared.endpoint.Endpoint.{Endpoint}
use Rattle.endpoints.specs.declared.saves.Saved.{Saved}
use Rattle.endpoints.specs.Saving.{restored, is_saved, IsMarked, IsSavedToo, HasRoom, idle, SavesState, saved_at, Popped, Fills, LeavesFilled}

same_of : (i j : ℕ) → (i == j) ≡ true → i ≡ j
same_of i j e = grind (arith, nat_tests, e)

other_of : (i j : ℕ) → (i == j) ≡ false → i ≢ j
other_of i j e same = absurd (grind (arith, nat_tests, e, same))

is_itself : (i : ℕ) → (i == i) ≡ true
is_itself i = grind (arith, nat_tests)

-- Saving

restored_snoc : (log : List Saved) (saved : Saved) (es : List Endpoint) → restored (log ++ saved ∷ []) es ≡ restored log (set es saved.place saved.endpoint)
unfolding restored
restored_snoc [] saved es = refl
restored_snoc (first ∷ log) saved es = ap (λ r. set r first.place first.endpoint) (restored_snoc log saved es)

pub restored_none : (log : List Saved) (es : List Endpoint) → log ≡ [] → restored log es ≡ es
unfolding restored
restored_none log es none = rw none refl

pub restored_less : (log log' : List Saved) (saved : Saved) (es : List Endpoint) → log ≡ log' ++ saved ∷ [] → restored log' (set es saved.place saved.endpoint) ≡ restored log es
restored_less log log' saved es popped = sym (restored_snoc log' saved es) ∙ ap (λ x. restored x es) (sym popped)

-- an endpoint is saved as it is
pub restored_more : (log log' : List Saved) (saved : Saved) (es : List Endpoint) → log' ≡ log ++ saved ∷ [] → saved.endpoint ≡ get_or es saved.place saved.endpoint → restored log' es ≡ restored log es
restored_more log log' saved es grown is =
    ap (λ x. restored x es) grown ∙ restored_snoc log saved es
    ∙ ap (λ e. restored log (set es saved.place e)) is ∙ ap (restored log) (set-get_or es saved.place saved.endpoint)

restored_twice : (log : List Saved) (es : List Endpoint) (k : ℕ) (x e : Endpoint) → set (restored log (set es k x)) k e ≡ set (restored log es) k e
unfolding restored
restored_twice [] es k x e = set-set es k x e
restored_twice (t ∷ log) es k x e = by (t.place == k) refl (restored_twice log es k x e) where
  by : (b : Bool) → (t.place == k) ≡ b → set (restored log (set es k x)) k e ≡ set (restored log es) k e → set (set (restored log (set es k x)) t.place t.endpoint) k e ≡ set (set (restored log es) t.place t.endpoint) k e
  by true same rest =
      ap (λ n. set (set (restored log (set es k x)) n t.endpoint) k e) (same_of t.place k same)
      ∙ set-set (restored log (set es k x)) k t.endpoint e ∙ rest ∙ sym (set-set (restored log es) k t.endpoint e)
      ∙ ap (λ n. set (set (restored log es) n t.endpoint) k e) (sym (same_of t.place k same))
  by false other rest =
      set_comm (restored log (set es k x)) t.place k t.endpoint e (other_of t.place k other)
      ∙ ap (λ r. set r t.place t.endpoint) rest
      ∙ sym (set_comm (restored log es) t.place k t.endpoint e (other_of t.place k other))

-- a saved endpoint may change
pub restored_over : (log : List Saved) (es : List Endpoint) (k : ℕ) (x : Endpoint) → is_saved k log ≡ true → restored log (set es k x) ≡ restored log es
unfolding restored is_saved
restored_over [] es k x saved = absurd cc
restored_over (t ∷ log) es k x saved = by (t.place == k) refl saved (restored_over log es k x) where
  by : (b : Bool) → (t.place == k) ≡ b → (b || is_saved k log) ≡ true → (is_saved k log ≡ true → restored log (set es k x) ≡ restored log es) → set (restored log (set es k x)) t.place t.endpoint ≡ set (restored log es) t.place t.endpoint
  by true same saved rest =
      ap (λ n. set (restored log (set es k x)) n t.endpoint) (same_of t.place k same) ∙ restored_twice log es k x t.endpoint
      ∙ ap (λ n. set (restored log es) n t.endpoint) (sym (same_of t.place k same))
  by false other saved rest = ap (λ r. set r t.place t.endpoint) (rest saved)

-- what isn't saved is found as it is

or_none : (a b : Bool) → (a || b) ≡ false → (a ≡ false) × (b ≡ false)
or_none true b none = absurd cc
or_none false b none = (refl, none)

pub restored_apart : (log : List Saved) (es : List Endpoint) (k : ℕ) (x : Endpoint) → is_saved k log ≡ false → restored log (set es k x) ≡ set (restored log es) k x
unfolding restored is_saved
restored_apart [] es k x none = refl
restored_apart (t ∷ log) es k x none =
    let apart = or_none (t.place == k) (is_saved k log) none in
    ap (λ r. set r t.place t.endpoint) (restored_apart log es k x apart.1)
    ∙ set_comm (restored log es) k t.place x t.endpoint (λ same. other_of t.place k apart.0 (sym same))

pub restored_elsewhere : (log : List Saved) (es : List Endpoint) (k : ℕ) (d : Endpoint) → is_saved k log ≡ false → get_or (restored log es) k d ≡ get_or es k d
unfolding restored is_saved
restored_elsewhere [] es k d none = refl
restored_elsewhere (t ∷ log) es k d none =
    let apart = or_none (t.place == k) (is_saved k log) none in
    get_or-set_other (restored log es) t.place k t.endpoint d (λ same. other_of t.place k apart.0 (sym same))
    ∙ restored_elsewhere log es k d apart.1

apart_from : (es : List Endpoint) (k j : ℕ) (x : Endpoint) → j ≢ k → slice_get (set es k x) j ≡ slice_get es j
apart_from [] k j x other = refl
apart_from (e ∷ es) zero zero x other = absurd (other refl)
apart_from (e ∷ es) zero (suc j) x other = refl
apart_from (e ∷ es) (suc k) zero x other = refl
apart_from (e ∷ es) (suc k) (suc j) x other = apart_from es k j x (λ same. other (ap (λ (n : ℕ). suc n) same))

-- so it is of what is at a place, if anything is
pub restored_there : (log : List Saved) (es : List Endpoint) (k : ℕ) → is_saved k log ≡ false → slice_get (restored log es) k ≡ slice_get es k
unfolding restored is_saved
restored_there [] es k none = refl
restored_there (t ∷ log) es k none =
    let apart = or_none (t.place == k) (is_saved k log) none in
    apart_from (restored log es) t.place k t.endpoint (λ same. other_of t.place k apart.0 (sym same))
    ∙ restored_there log es k apart.1

pub restored_length : (log : List Saved) (es : List Endpoint) → length (restored log es) ≡ length es
unfolding restored
restored_length [] es = refl
restored_length (t ∷ log) es = length-set (restored log es) t.place t.endpoint ∙ restored_length log es

-- The marks

saved_snoc : (log : List Saved) (saved : Saved) (k : ℕ) → is_saved k (log ++ saved ∷ []) ≡ (is_saved k log || (saved.place == k))
unfolding is_saved
saved_snoc [] saved k = or_false (saved.place == k) where
  or_false : (b : Bool) → (b || false) ≡ b
  or_false true = refl
  or_false false = refl
saved_snoc (t ∷ log) saved k = ap (λ b. (t.place == k) || b) (saved_snoc log saved k) ∙ assoc (t.place == k) (is_saved k log) (saved.place == k) where
  assoc : (a b d : Bool) → (a || (b || d)) ≡ ((a || b) || d)
  assoc true b d = refl
  assoc false b d = refl

pub marked_less : (touched : List Bool) (log log' : List Saved) (saved : Saved) → IsMarked touched log → log ≡ log' ++ saved ∷ [] → IsMarked (set touched saved.place false) log'
marked_less touched log log' saved marked popped k on = by (saved.place == k) refl where
  never : (b : Bool) → b ≡ false → b ≡ true → is_saved k log' ≡ true
  never b p q = absurd cc

  off : length touched ≤ k → get_or (set touched k false) k false ≡ false
  off past = ap (λ t. get_or t k false) (set_past touched k false past) ∙ get_or-eq_default touched false past

  cleared : (b : Bool) → get_or (set touched k false) k false ≡ false
  cleared b = grind (arith, common_steps, off)

  last : (a b : Bool) → (a || b) ≡ true → b ≡ false → a ≡ true
  last true b p q = refl
  last false b p q = absurd cc

  by : (b : Bool) → (saved.place == k) ≡ b → is_saved k log' ≡ true
  by true same = never (get_or (set touched saved.place false) k false) (ap (λ n. get_or (set touched n false) k false) (same_of saved.place k same) ∙ cleared true) on
  by false other =
      let ne : k ≢ saved.place = λ e. other_of saved.place k other (sym e) in
      let was : is_saved k log ≡ true = marked k (sym (get_or-set_other touched saved.place k false false ne) ∙ on) in
      last (is_saved k log') (saved.place == k) (sym (saved_snoc log' saved k) ∙ ap (is_saved k) (sym popped) ∙ was) other

pub marked_more : (touched : List Bool) (log log' : List Saved) (saved : Saved) → IsMarked touched log → log' ≡ log ++ saved ∷ [] → IsMarked (set touched saved.place true) log'
marked_more touched log log' saved marked grown k on = ap (is_saved k) grown ∙ saved_snoc log saved k ∙ by (saved.place == k) refl where
  or_true : (a b : Bool) → b ≡ true → (a || b) ≡ true
  or_true true b e = refl
  or_true false b e = e

  or_left : (a b : Bool) → a ≡ true → (a || b) ≡ true
  or_left true b e = refl
  or_left false b e = absurd cc

  by : (b : Bool) → (saved.place == k) ≡ b → (is_saved k log || (saved.place == k)) ≡ true
  by true same = or_true (is_saved k log) (saved.place == k) same
  by false other =
      let ne : k ≢ saved.place = λ e. other_of saved.place k other (sym e) in
      or_left (is_saved k log) (saved.place == k) (marked k (sym (get_or-set_other touched saved.place k true false ne) ∙ on))

pub marked_none : (n : ℕ) (touched : List Bool) (log : List Saved) → touched ≡ replicate n false → IsMarked touched log
marked_none n touched log is k on = absurd (by n k (ap (λ t. get_or t k false) (sym is) ∙ on)) where
  by : (n k : ℕ) → get_or (replicate n false) k false ≡ true → ⊥
  by zero k e = absurd cc
  by (suc n) zero e = absurd cc
  by (suc n) (suc k) e = by n k e

-- What is marked elsewhere

-- what isn't marked isn't saved
abbrev pub AllMarked : List Bool → List Saved → Type 0
AllMarked marks log = (k : ℕ) → get_or marks k true ≡ false → is_saved k log ≡ false

pub all_marked_none : (marks : List Bool) (slots : List Saved) → AllMarked marks (take 0 slots)
unfolding is_saved
all_marked_none marks slots k off = refl

set_is_on : (marks : List Bool) (k : ℕ) → get_or (set marks k true) k true ≡ true
set_is_on [] k = refl
set_is_on (b ∷ marks) zero = refl
set_is_on (b ∷ marks) (suc k) = set_is_on marks k

pub all_marked_next : (marks marks' : List Bool) (slots : List Saved) (index place : ℕ) (saved : Saved) → index < length slots
    → saved ≡ get_or slots index saved → place ≡ saved.place → marks' ≡ set marks place true → AllMarked marks (take index slots)
    → AllMarked marks' (take (index + 1) slots)
all_marked_next marks marks' slots index place saved inside there at is marked k off =
    ap (is_saved k) (take_more slots index saved inside ∙ ap (λ (s : Saved). take index slots ++ s ∷ []) (sym there))
    ∙ saved_snoc (take index slots) saved k ∙ by (saved.place == k) refl where
      off_here : get_or (set marks saved.place true) k true ≡ false
      off_here = ap (λ (n : ℕ). get_or (set marks n true) k true) (sym at) ∙ ap (λ (m : List Bool). get_or m k true) (sym is) ∙ off

      never : (b : Bool) → b ≡ true → b ≡ false → ⊥
      never b p q = absurd cc

      neither : (a b : Bool) → a ≡ false → b ≡ false → (a || b) ≡ false
      neither a b p q = rw (p, q) refl

      by : (b : Bool) → (saved.place == k) ≡ b → (is_saved k (take index slots) || (saved.place == k)) ≡ false
      by true same = absurd (never (get_or (set marks saved.place true) k true)
          (ap (λ (n : ℕ). get_or (set marks n true) k true) (same_of saved.place k same) ∙ set_is_on marks k) off_here)
      by false other =
          let ne : k ≢ saved.place = λ e. other_of saved.place k other (sym e) in
          neither (is_saved k (take index slots)) (saved.place == k)
          (marked k (sym (get_or-set_other marks saved.place k true true ne) ∙ off_here)) other

-- What is taken back

pub put_back : (log log' : List Saved) (saved : Saved) (es found : List Endpoint) → log ≡ log' ++ saved ∷ [] → restored log es ≡ found
    → restored log' (set es saved.place saved.endpoint) ≡ found
put_back log log' saved es found popped was = restored_less log log' saved es popped ∙ was

pub unmarked_by : (touched touched' : List Bool) (log log' : List Saved) (saved : Saved) → IsMarked touched log → log ≡ log' ++ saved ∷ [] → touched' ≡ set touched saved.place false → IsMarked touched' log'
unmarked_by touched touched' log log' saved marked popped is k on = marked_less touched log log' saved marked popped k (ap (λ t. get_or t k false) (sym is) ∙ on)

pub none_of : (log : List Saved) → length log ≡ 0 → log ≡ []
none_of [] none = refl
none_of (x ∷ log) none = absurd (omega arith)

-- it is saved
pub saved_now : (place : ℕ) (endpoint copy : Endpoint) (touched : List Bool) (log log' : List Saved) → IsMarked touched log → copy ≡ endpoint
    → log' ≡ log ++ (record { place = place; endpoint = copy }) ∷ [] → IsSavedToo place endpoint touched (set touched place true) log log'
saved_now place endpoint copy touched log log' marked is grown =
    let saved : Saved = record { place = place; endpoint = copy } in
    record {
      flags = length-set touched place true;
      marked = marked_more touched log log' saved marked grown;
      this = ap (is_saved place) grown ∙ saved_snoc log saved place ∙ or_true (is_saved place log) (place == place) (is_itself place);
      same = λ es there. restored_more log log' saved es grown (is ∙ there ∙ ap (get_or es place) (sym is));
    } where
      or_true : (a b : Bool) → b ≡ true → (a || b) ≡ true
      or_true true b e = refl
      or_true false b e = e

-- The room

idle_marked : (touched : List Bool) (k : ℕ) → k < length touched → get_or touched k false ≡ false → idle touched ≡ suc (idle (set touched k true))
idle_marked [] k within off = absurd (omega arith)
idle_marked (true ∷ touched) zero within off = absurd cc
idle_marked (false ∷ touched) zero within off = refl
idle_marked (true ∷ touched) (suc k) within off = idle_marked touched k (omega arith) off
idle_marked (false ∷ touched) (suc k) within off = ap (λ n. suc n) (idle_marked touched k (omega arith) off)

pub idle_unmarked : (touched : List Bool) (k : ℕ) → idle (set touched k false) ≤ suc (idle touched)
idle_unmarked [] k = omega arith
idle_unmarked (true ∷ touched) zero = omega arith
idle_unmarked (false ∷ touched) zero = omega arith
idle_unmarked (true ∷ touched) (suc k) = idle_unmarked touched k
idle_unmarked (false ∷ touched) (suc k) = omega (arith, idle_unmarked touched k)

pub idle_none : (n : ℕ) (touched : List Bool) → touched ≡ replicate n false → idle touched ≡ n
idle_none n touched is = ap idle is ∙ by n where
  by : (n : ℕ) → idle (replicate n false) ≡ n
  by zero = refl
  by (suc n) = ap (λ m. suc m) (by n)

pub room_for : (touched : List Bool) (place saved capacity : ℕ) → HasRoom saved touched capacity → place < length touched → get_or touched place false ≡ false → saved < capacity
room_for touched place saved capacity room within off = omega (arith, room, idle_marked touched place within off)

pub room_after : (touched : List Bool) (place saved saved' capacity : ℕ) → HasRoom saved touched capacity → place < length touched → get_or touched place false ≡ false → saved' ≡ saved + 1
    → HasRoom saved' (set touched place true) capacity
room_after touched place saved saved' capacity room within off more = omega (arith, room, idle_marked touched place within off, more)

pub room_back : (touched touched' : List Bool) (place saved saved' capacity capacity' : ℕ) → HasRoom saved touched capacity → touched' ≡ set touched place false → saved' + 1 ≡ saved → capacity' ≡ capacity
    → HasRoom saved' touched' capacity'
room_back touched touched' place saved saved' capacity capacity' room is less same = omega (arith, room, idle_unmarked touched place, ap idle is, less, same)

pub off_of : (touched : List Bool) (place : ℕ) (x : Bool) → x ≡ get_or touched place x → x ≡ false → get_or touched place false ≡ false
off_of touched place true is test = absurd cc
off_of touched place false is test = sym is

pub room_first : (n saved : ℕ) (flags : List Bool) (capacity : ℕ) → flags ≡ replicate n false → saved ≡ 0 → n ≤ capacity → HasRoom saved flags capacity
room_first n saved flags capacity is none room = omega (arith, idle_none n flags is, none, room)

-- an endpoint that is saved changes in place
pub changed_found : (place : ℕ) (was becomes : Endpoint) (touched touched' : List Bool) (log log' : List Saved) (es : List Endpoint) → was ≡ get_or es place was
    → IsSavedToo place was touched touched' log log' → restored log' (set es place becomes) ≡ restored log es
changed_found place was becomes touched touched' log log' es here saved = restored_over log' es place becomes saved.this ∙ saved.same es here

-- The slots

-- what holds may be said where something is refused
pub on_err : {A E : Type 0} {P : Type 0} (result : Result A E) → P → OnErr result P
on_err (Ok value) holds = tt
on_err (Err fault) holds = holds

pub one_longer : (log log' : List Saved) (saved : Saved) → log' ≡ log ++ saved ∷ [] → length log' ≡ length log + 1
one_longer log log' saved grown = ap length grown ∙ length_push log saved

pub shorter : (log log' : List Saved) (saved : Saved) → log ≡ log' ++ saved ∷ [] → length log' < length log
shorter log log' saved popped = omega (arith, one_longer log' log saved popped)

abbrev saves_of : List Saved → ℕ → SavesState
saves_of list room = record { list = list; room = room }

pub saves_is : (log log' : List Saved) (room room' : ℕ) → log ≡ log' → room ≡ room' → saves_of log room ≡ saves_of log' room'
saves_is log log' room room' same kept = λ i. record { list = same i; room = kept i }

-- a slot is filled anew
pub refilled : (slots slots' : List Saved) (count place : ℕ) (endpoint : Endpoint) (slot : Saved) → count < length slots → slot ≡ saved_at place endpoint
    → slots' ≡ set slots count slot → Fills (saved_at place endpoint) count slots slots'
refilled slots slots' count place endpoint slot inside is set_is = record {
  filled = ap (take (count + 1)) set_is ∙ take_more_set slots count slot inside ∙ ap (λ (s : Saved). take count slots ++ s ∷ []) is;
  within = omega (arith, inside, ap length set_is, length-set slots count slot);
}

-- the slots before it stay
pub still_filled : (slots slots' : List Saved) (count : ℕ) (slot : Saved) → count < length slots → slots' ≡ set slots count slot → LeavesFilled count slots slots'
still_filled slots slots' count slot inside set_is = record {
  filled = ap (take count) set_is ∙ take-set slots count slot;
  within = omega (arith, inside, ap length set_is, length-set slots count slot);
}

-- one more slot is filled behind all
pub filled_behind : (slots slots' : List Saved) (count place : ℕ) (endpoint copy : Endpoint) → count ≡ length slots → copy ≡ endpoint
    → slots' ≡ slots ++ saved_at place copy ∷ [] → Fills (saved_at place endpoint) count slots slots'
filled_behind slots slots' count place endpoint copy all is grown =
    let longer : length slots' ≡ length slots + 1 = one_longer slots slots' (saved_at place copy) grown in
    record {
      filled = take_all (count + 1) slots' (omega (arith, all, longer))
          ∙ grown
          ∙ ap (λ (s : Endpoint). slots ++ saved_at place s ∷ []) is
          ∙ ap (λ (x : List Saved). x ++ saved_at place endpoint ∷ []) (sym (take_all count slots (omega (arith, all))));
      within = omega (arith, all, longer);
    }

-- the last slot that is filled
pub last_filled : (slots : List Saved) (count : ℕ) (slot : Saved) → 1 ≤ count → count ≤ length slots → slot ≡ get_or slots (count - 1) slot
    → take count slots ≡ take (count - 1) slots ++ slot ∷ []
last_filled slots count slot some within is =
    let next : count ≡ count - 1 + 1 = omega (arith, some) in
    let inside : count - 1 < length slots = omega (arith, some, within) in
    ap (λ (n : ℕ). take n slots) next
    ∙ take_more slots (count - 1) slot inside
    ∙ ap (λ (s : Saved). take (count - 1) slots ++ s ∷ []) (sym is)

-- what is left where the last is taken out of slots that are all filled
pub popped_last : (last : Option Saved) (were mid are : List Saved) (count size size' : ℕ) → mid ≡ were → mid ≡ are ++ option_to_list last
    → MatchOption last ((size ≡ 0) × (size' ≡ 0)) (λ _. size' + 1 ≡ size) → size' ≡ length are → count ≡ length are → Popped last were (take count are)
popped_last None were mid are count size size' same popped cases long all =
    let none : are ≡ [] = none_of are (omega (arith, cases.1, long)) in
    (sym same ∙ popped ∙ append-nil are ∙ none, take_all count are (omega (arith, all)) ∙ none)
popped_last (Some last) were mid are count size size' same popped cases long all =
    sym same ∙ popped ∙ ap (λ (x : List Saved). x ++ last ∷ []) (sym (take_all count are (omega (arith, all))))
